-- Nothing is written where the script is over, else the lines of the round.
use mathlib.Core.Path.{sym, ◌∙◌}
use native.Mathlib.Omega.{arith}
use Rattle.backplane.proofs.OutputLaws.{wrote-over, wrote-round}
use Rattle.backplane.proofs.rounds.put_round.Goals as goal

pub returns-then-over : goal.returns-then-over
returns-then-over c =
    (wrote-over c.args.run (omega (arith, c.requires.1)) (sym c.over.ensures ∙ c.if-over.true), omega arith)

pub returns : goal.returns
returns c =
    let p = c.put_lines.ensures in
    (wrote-round _ (sym c.over.ensures ∙ c.if-over.false) p.0, p.1)
