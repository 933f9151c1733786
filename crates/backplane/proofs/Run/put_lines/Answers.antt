-- The views are read off the states, and the lines written.
use native.Mathlib.Omega.{arith}
use Rattle.backplane.proofs.RunPartLaws.{wrote-printed}
use Rattle.backplane.proofs.Run.put_lines.Goals as goal

pub returns : goal.returns
returns c =
    let p = c.put_lines.ensures in
    (wrote-printed c.args.self.backplane c.requires.0 c.views-view.ensures p.0, omega (arith, p.1, c.requires.0))
