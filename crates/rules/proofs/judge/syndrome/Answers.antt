-- Who is heard, and has a row that differs nowhere.
use Rattle.std.proofs.Common.{◌∙◌, rules}
use Rattle.rules.proofs.SyndromeLaws.{syndrome-by}
use Rattle.rules.proofs.judge.syndrome.Goals as goal

pub returns : goal.returns
returns c =
    let a = c.args in
    c.from_fn.ensures _ (λ j b l p. search rules) ∙ syndrome-by a.n a.voters a.heard a.rows.now a.health c.requires
