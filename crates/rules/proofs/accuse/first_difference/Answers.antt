-- The first number that passes the test of `differs_at`.
use Rattle.std.proofs.Common.{◌≡◌, ℕ, Bool, true, false, rules, tests}
use Rattle.std.proofs.lemmas.Iterator.{first_from_Range}
use Rattle.words.proofs.LowestLaws.{found-lowest}
use Rattle.rules.specs.Accusation.{differs_at}
use Rattle.rules.proofs.accuse.first_difference.Goals as goal

pub returns : goal.returns
returns c =
    let a = c.args in
    let p : ℕ → Bool = differs_at a.row a.health a.j in
    found-lowest a.n p _
    (first_from_Range _ _ _ _ (λ i. p i ≡ true) (λ i. p i ≡ false) c.find.ensures.ran
    (λ x q k. search (rules, tests))
    (λ x q k. (search rules, search (rules, tests))))
