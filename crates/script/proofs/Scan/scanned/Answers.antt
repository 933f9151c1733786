-- Each field is that of the definition.
use Rattle.script.proofs.ScanLaws.{scanned-by}
use Rattle.script.proofs.Scan.scanned.Goals as goal

pub returns : goal.returns
returns c = scanned-by _ _ _ c.is_play-play.ensures c.due_after.ensures c.pick.ensures
