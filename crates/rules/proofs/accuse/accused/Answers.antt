-- A clean row is not accused; of any other the number is searched.
use Rattle.std.proofs.Common.{◌∙◌, sym, arith}
use Rattle.words.proofs.LowestLaws.{found-le}
use Rattle.rules.specs.Accusation.{differs_at}
use Rattle.rules.proofs.AccusationLaws.{clean-unaccused, unclean-accused}
use Rattle.rules.proofs.accuse.accused.Goals as goal

pub returns-then-clean : goal.returns-then-clean
returns-then-clean c =
    let a = c.args in
    sym (clean-unaccused a.n a.voters a.row a.health a.j (sym c.clean.ensures ∙ c.if-clean.true))

pub overflow_cast-result : goal.overflow_cast-result
overflow_cast-result c =
    let a = c.args in
    omega (arith, found-le a.n (differs_at a.row a.health a.j) c.in-Some.ensures)

pub overflow_add-result : goal.overflow_add-result
overflow_add-result c =
    let a = c.args in
    omega (arith, found-le a.n (differs_at a.row a.health a.j) c.in-Some.ensures)

pub returns-in-Some : goal.returns-in-Some
returns-in-Some c =
    let a = c.args in
    c.in-Some.ensures ∙ sym (unclean-accused a.n a.voters a.row a.health a.j (sym c.clean.ensures ∙ c.if-clean.false))

pub returns-in-None : goal.returns-in-None
returns-in-None c =
    let a = c.args in
    c.in-None.ensures ∙ sym (unclean-accused a.n a.voters a.row a.health a.j (sym c.clean.ensures ∙ c.if-clean.false))
