-- A refused script is named, an accepted one is played from its beginning.
use Rattle.backplane.proofs.RunPartLaws.{started-accepts, started-run, started-refused}
use Rattle.bench.proofs.play.Goals as goal

pub write_rounds-requires : goal.write_rounds-requires
write_rounds-requires c =
    (started-accepts _ c.start.ensures c.in-Ok.is, started-run _ c.start.ensures c.in-Ok.is)

pub write_refusal-requires : goal.write_refusal-requires
write_refusal-requires c = started-refused _ c.start.ensures c.in-Err.is
