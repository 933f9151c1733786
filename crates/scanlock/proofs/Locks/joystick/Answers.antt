-- Every axis is asked, in their order.
use Rattle.std.proofs.Common.{◌≡◌, ℕ, zero, suc, Bool, ◌&&◌, List, [], ◌∷◌, length, get_or, sym, refl, ap, ◌∙◌, rules, tests}
use Rattle.std.proofs.lemmas.Iterator.{YieldsList-from_slice}
use Rattle.std.proofs.lemmas.Iterator.Search.{all_from_yields_List}
use Rattle.std.specs.List.{list_all}
use Rattle.words.specs.Count.{all}
use Rattle.words.proofs.VerdictLaws.{and-end, and_assoc}
use Rattle.scanlock.specs.Axis.{free, idle_axis}
use Rattle.scanlock.specs.Locks.{joystick_of}
use Rattle.scanlock.proofs.Locks.joystick.Goals as goal

-- `all` of the definition goes from the last axis down, the iterator from the first up
all-front : (n : ℕ) (q : ℕ → Bool) → all (suc n) q ≡ q 0 && all n (λ i. q (suc i))
unfolding all
all-front zero q = sym (and-end (q 0))
all-front (suc n) q = ap (λ (b : Bool). b && q (suc n)) (all-front n q) ∙ and_assoc (q 0) (all n (λ i. q (suc i))) (q (suc n))

all-list : {X : Type 0} (p : X → Bool) (d : X) (l : List X) → list_all p l ≡ all (length l) (λ i. p (get_or l i d))
unfolding all
all-list p d [] = refl
all-list p d (x ∷ xs) = ap (λ (b : Bool). p x && b) (all-list p d xs) ∙ sym (all-front (length xs) (λ i. p (get_or (x ∷ xs) i d)))

pub returns : goal.returns
unfolding joystick_of
returns c =
    let n : length c.args.self.axes ≡ 8 = search rules in
    all_from_yields_List idle_axis _ _ _ c.all.ensures.ran (YieldsList-from_slice c.args.self.axes cc) (λ x b q k. search (rules, tests))
    ∙ all-list idle_axis free c.args.self.axes ∙ ap (λ (m : ℕ). all m (λ i. idle_axis (get_or c.args.self.axes i free))) n
