-- The test is that of the definition.
use Rattle.words.proofs.RefusalLaws.{single-by}
use Rattle.script.proofs.Scan.ended.Goals as goal

pub returns : goal.returns
returns c = single-by 14 _ c.finished.ensures c.single.ensures
