-- The words of each module are compared.
use Rattle.std.proofs.Common.{◌≡◌, ℕ, ◌+◌, ◌/◌, Bool, true, false, eqb, refl, arith, rules, tests}
use Rattle.std.proofs.lemmas.Iterator.{YieldsList-from_range, cases_from_all}
use Rattle.words.specs.Word.{word_at}
use Rattle.setup.specs.Setup.{place_unit}
use Rattle.calls.proofs.FrameWordLaws.{all-told}
use Rattle.calls.proofs.change.same_modules.Goals as goal

pub returns : goal.returns
returns c =
    let a = c.args in
    let p : ℕ → Bool = λ j. eqb (word_at a.image.now (3 + j) / place_unit) (word_at a.bytes.now (3 + j) / place_unit) in
    all-told a.n p _
    (cases_from_all _ _ _ (λ i. p i ≡ true) (λ i. p i ≡ false) c.all.ensures.ran (YieldsList-from_range 0 a.n a.n refl (omega arith))
    (λ x q k. (search rules, search (rules, tests)))
    (λ x q k. search (rules, tests)))
