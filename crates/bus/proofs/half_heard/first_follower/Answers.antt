-- The first number that is none of the cast.
use Rattle.std.proofs.Common.{◌≡◌, ℕ, ◌-◌, Option, Some, None, unwrap_or, Bool, true, false, sym, ap, ◌∙◌, arith, rules, tests}
use Rattle.std.proofs.lemmas.Iterator.{first_from_Range}
use Rattle.words.specs.Count.{lowest, found_of}
use Rattle.words.proofs.LowestLaws.{found-lowest}
use Rattle.agreement.specs.Fault.{follows_in, first_follower}
use Rattle.bus.proofs.half_heard.first_follower.Goals as goal

first : (l : ℕ) (r : Option ℕ) → found_of r ≡ l → unwrap_or r 0 ≡ l - 1
first l None e = omega arith
first l (Some i) e = omega arith

pub returns : goal.returns
returns c =
    let p : ℕ → Bool = follows_in c.args.cast in
    c.unwrap_or.ensures ∙ first _ c.find.result (found-lowest c.args.n p _
    (first_from_Range _ _ _ _ (λ i. p i ≡ true) (λ i. p i ≡ false) c.find.ensures.ran
    (λ x q k. search (rules, tests))
    (λ x q k. (search rules, search (rules, tests)))))
