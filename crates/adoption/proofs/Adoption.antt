-- Two sets of more than half of all N share a sender: nothing else is used, not the fault limit.
use Prim.Native.Nat.{ℕ, zero, suc, ◌+◌, ◌-◌, ◌*◌, ◌^◌, ◌≤◌, ◌<◌}
use mathlib.Core.Path.{◌≡◌, refl, sym, ap, ◌∙◌, subst}
use mathlib.Core.Bool.{Bool, true, false, ◌&&◌, beq}
use mathlib.Core.Logic.{⊎_elim, ◌≢◌}
use native.Mathlib.Omega.{arith}
use native.Mathlib.Nat.{zero-lt-suc}
use lib.Dec.{eqb}
use borrow.Author.Tests.{eqb-true, eqb-false}
use Rattle.words.specs.Bits.{bit, full}
use Rattle.words.specs.Count.{count}
use Rattle.words.proofs.Truth.{which, clash, and_l, and_r, and-true, beq-eq, cond-true}
use Rattle.words.proofs.BitLaws.{bit-ext}
use Rattle.words.proofs.CountLaws.{count-mono, count-ext}
use Rattle.views.specs.ViewWord.{view_word}
use Rattle.views.specs.Adoption.{carriers, adoptable, adopted_from}
use Rattle.views.specs.Views.{full_views, views_after}
use Rattle.views.specs.AdoptionMeans.{Carried}
use Rattle.views.specs.declared.Views.{Views}
use Rattle.views.proofs.MajorityLaws.{common, carried, adopted as decided, adopted-lt}
use Rattle.views.proofs.ViewsLaws.{out_stays, undecided-stays, in-adopts, adopts-in}
use Rattle.agreement.specs.Session.{Session, Accepted, Partitionable, size, u, follows, RuleFollower, view_word_in, hears_view, state, view_word_sent, BoundViews, view_of}
use Rattle.agreement.proofs.Steps.{setup-fits, seen}
use Rattle.agreement.proofs.Aligned.{view-sent-is}
use Rattle.agreement.proofs.VotedViews.{opened-views, voted, views_after_lem, voted-says}
use Rattle.adoption.specs.Adopts.{is_out, adopted_view, carriers_heard, Adopts, OneFaced, NoneInCommon, TornInto}
use Rattle.adoption.specs.Adoption.{Adoption}

-- ---- one module

module _ (S : Session) (ok : Accepted S) (set : Partitionable S) (i : ℕ) (below : i < size S) where
  abbrev n : ℕ
  n = size S

  abbrev before : ℕ → Views
  before k = (state S i k).views

  -- the views after step k + 1
  abbrev after : ℕ → Views
  after k = views_after n (before k) (voted S ok set i below k) (seen S i (suc k)) (view_of S i k)

  opened : (is_out S i 0 ≡ false) × (adopted_view S i 0 ≡ full n)
  unfolding full_views
  opened =
      let e = opened-views S ok set i below in
      (ap (λ (v : Views). v.out) e, ap (λ (v : Views). v.adopted) e)

  out-is : (k : ℕ) (b : Bool) → is_out S i (suc k) ≡ b → (after k).out ≡ b
  out-is k b e = ap (λ (v : Views). v.out) (sym (views_after_lem S ok set i below k)) ∙ e

  is-out : (k : ℕ) (b : Bool) → (after k).out ≡ b → is_out S i (suc k) ≡ b
  is-out k b e = ap (λ (v : Views). v.out) (views_after_lem S ok set i below k) ∙ e

  adopted-is : (k : ℕ) → adopted_view S i (suc k) ≡ (after k).adopted
  adopted-is k = ap (λ (v : Views). v.adopted) (views_after_lem S ok set i below k)

  -- who carries a value in the view words voted on is who carries it in the round adopted from, of those heard
  carriers-are : (k j : ℕ) (value : Bool) → carriers n (voted S ok set i below k) j value ≡ carriers_heard S (suc k - u S) i j value
  unfolding carriers
  carriers-are k j value = count-ext n _ _ (λ l h. voted-says S ok set i below k l (λ w. beq (bit w j) value) h)

  carried-is : (k v : ℕ) → Carried n (voted S ok set i below k) v → (j : ℕ) → j < n → n < 2 * carriers_heard S (suc k - u S) i j (bit v j)
  carried-is k v c j h = subst (λ (m : ℕ). n < 2 * m) (carriers-are k j (bit v j)) (c j h)

  is_carried : (k v : ℕ) → ((j : ℕ) → j < n → n < 2 * carriers_heard S (suc k - u S) i j (bit v j)) → Carried n (voted S ok set i below k) v
  is_carried k v c j h = subst (λ (m : ℕ). n < 2 * m) (sym (carriers-are k j (bit v j))) (c j h)

  adopts : (k : ℕ) → is_out S i (suc k) ≡ false → Adopts S i (suc k) (adopted_view S i (suc k))
  adopts k f =
      let (a, d, w) = in-adopts n (before k) (voted S ok set i below k) (seen S i (suc k)) (view_of S i k) (out-is k false f) in
      let v : adopted_view S i (suc k) ≡ adopted_from n (voted S ok set i below k) = adopted-is k ∙ w in
      let e : suc k - 1 ≡ k = omega arith in
      record {
        in-before = ap (λ (m : ℕ). is_out S i m) e ∙ a;
        view = subst (λ (x : ℕ). x < 2 ^ n) (sym v) (adopted-lt n (voted S ok set i below k));
        carried = carried-is k (adopted_view S i (suc k))
            (subst (Carried n (voted S ok set i below k)) (sym v) (carried n (voted S ok set i below k) d));
      }

  adopted : (k v : ℕ) → Adopts S i (suc k) v → (is_out S i (suc k) ≡ false) × (adopted_view S i (suc k) ≡ v)
  adopted k v a =
      let e : k ≡ suc k - 1 = omega arith in
      let (d, w) = decided n (voted S ok set i below k) v a.view (is_carried k v a.carried) in
      let (o, x) = adopts-in n (before k) (voted S ok set i below k) (seen S i (suc k)) (view_of S i k)
      (ap (λ (m : ℕ). is_out S i m) e ∙ a.in-before) d in
      (is-out k false o, adopted-is k ∙ x ∙ w)

  -- out before a step, or without a majority in it
  stays-one : (k : ℕ) → is_out S i k ≡ true → (is_out S i (suc k) ≡ true) × (adopted_view S i (suc k) ≡ adopted_view S i k)
  stays-one k t =
      let (o, x) = out_stays n (before k) (voted S ok set i below k) (seen S i (suc k)) (view_of S i k) t in
      (is-out k true o, adopted-is k ∙ x)

  leaves-one : (k : ℕ) → is_out S i (suc k) ≡ true → adopted_view S i (suc k) ≡ adopted_view S i k
  leaves-one k t =
      ⊎_elim (λ (o : is_out S i k ≡ true). (stays-one k o).1)
      (λ (f : is_out S i k ≡ false).
      ⊎_elim
      (λ (d : adoptable n (voted S ok set i below k) ≡ true).
      clash (after k).out (out-is k true t) (adopts-in n (before k) (voted S ok set i below k) (seen S i (suc k)) (view_of S i k) f d).0)
      (λ (d : adoptable n (voted S ok set i below k) ≡ false).
      adopted-is k ∙ (undecided-stays n (before k) (voted S ok set i below k) (seen S i (suc k)) (view_of S i k) d).1)
      (which (adoptable n (voted S ok set i below k))))
      (which (is_out S i k))

  stays_on : (k d : ℕ) → is_out S i k ≡ true → (is_out S i (k + d) ≡ true) × (adopted_view S i (k + d) ≡ adopted_view S i k)
  stays_on k zero t = let e : k + 0 ≡ k = omega arith in (ap (is_out S i) e ∙ t, ap (adopted_view S i) e)
  stays_on k (suc d) t =
      let e : k + suc d ≡ suc (k + d) = omega arith in
      let (o, x) = stays_on k d t in
      let (o', x') = stays-one (k + d) o in
      (ap (is_out S i) e ∙ o', ap (adopted_view S i) e ∙ x' ∙ x)

  stays : (k m : ℕ) → is_out S i k ≡ true → k ≤ m → (is_out S i m ≡ true) × (adopted_view S i m ≡ adopted_view S i (k - 1))
  stays zero m t h = clash (is_out S i 0) t opened.0
  stays (suc k) m t h =
      let e : m ≡ suc k + (m - suc k) = omega arith in
      let q : k ≡ suc k - 1 = omega arith in
      let (o, x) = stays_on (suc k) (m - suc k) t in
      (ap (is_out S i) e ∙ o, ap (adopted_view S i) e ∙ x ∙ leaves-one k t ∙ ap (adopted_view S i) q)

  -- not out later, not out before
  in-sooner : (k m : ℕ) → k ≤ m → is_out S i m ≡ false → is_out S i k ≡ false
  in-sooner k m h f = ⊎_elim (λ (t : is_out S i k ≡ true). clash (is_out S i m) (stays k m t h).0 f) (λ (g : is_out S i k ≡ false). g) (which (is_out S i k))

  sends : (k : ℕ) → view_word_sent S i (suc k) ≡ view_word (view_of S i k)
  sends k = view-sent-is S ok i below k ∙ cond-true _ 0 set

  too_few : (k : ℕ) → 2 * count n (hears_view S (suc k - u S) i) ≤ n → is_out S i (suc k) ≡ true
  too_few k few =
      ⊎_elim (λ (t : is_out S i (suc k) ≡ true). t)
      (λ (f : is_out S i (suc k) ≡ false).
      let least = (setup-fits S ok).least in
      let c = (adopts k f).carried 0 (omega arith) in
      let le : carriers_heard S (suc k - u S) i 0 (bit (adopted_view S i (suc k)) 0) ≤ count n (hears_view S (suc k - u S) i) =
      count-mono n _ _ (λ l h t. and_l (hears_view S (suc k - u S) i l) _ t)
      in
      absurd (omega arith))
      (which (is_out S i (suc k)))

-- ---- two rule-followers

module _ (S : Session) (ok : Accepted S) (k i i' v v' : ℕ) (a : Adopts S i k v) (a' : Adopts S i' k v') where
  abbrev ρ : ℕ
  ρ = k - u S

  abbrev carries : ℕ → ℕ → ℕ → ℕ → Bool
  carries m w j l = hears_view S ρ m l && beq (bit (view_word_in S ρ m l) j) (bit w j)

  -- of each module, a sender whose view word both hear, and which carries the value of each
  shared : (j : ℕ) → j < size S → (l : ℕ) × (l < size S) × (carries i v j l && carries i' v' j l ≡ true)
  shared j h = common (size S) (carries i v j) (carries i' v' j) (a.carried j h) (a'.carried j h)

  one-view : RuleFollower S i → RuleFollower S i' → OneFaced S ρ → v ≡ v'
  one-view fi fi' one =
      bit-ext (size S) v v' a.view a'.view
      (λ j h. let (l, hl, t) = shared j h in
      let x = and_l (carries i v j l) _ t in
      let y = and_r (carries i v j l) _ t in
      sym (beq-eq _ _ (and_r (hears_view S ρ i l) _ x))
      ∙ ap (λ (w : ℕ). bit w j) (one i i' l fi fi' hl (and_l (hears_view S ρ i l) _ x) (and_l (hears_view S ρ i' l) _ y))
      ∙ beq-eq _ _ (and_r (hears_view S ρ i' l) _ y))

  apart : NoneInCommon S ρ i i' → ⊥
  apart none =
      let least = (setup-fits S ok).least in
      let (l, hl, t) = shared 0 (omega arith) in
      let x = and_l (carries i v 0 l) _ t in
      let y = and_r (carries i v 0 l) _ t in
      clash (hears_view S ρ i l && hears_view S ρ i' l) (and-true _ _ (and_l (hears_view S ρ i l) _ x) (and_l (hears_view S ρ i' l) _ y)) (none l hl)

  one-part : (part : ℕ → ℕ) → TornInto S part ρ → RuleFollower S i → RuleFollower S i' → part i ≡ part i'
  one-part part torn fi fi' =
      ⊎_elim (λ (t : eqb (part i) (part i') ≡ true). eqb-true (part i) (part i') t)
      (λ (f : eqb (part i) (part i') ≡ false). absurd (apart (torn i i' fi fi' (eqb-false (part i) (part i') f))))
      (which (eqb (part i) (part i')))

module _ (S : Session) (ok : Accepted S) (set : Partitionable S) where
  others-out : (part : ℕ → ℕ) (k i i' m : ℕ) → TornInto S part (suc k - u S) → RuleFollower S i → RuleFollower S i' → part i ≢ part i'
      → is_out S i (suc k) ≡ false → suc k ≤ m → (is_out S i' m ≡ true) × (adopted_view S i' m ≡ adopted_view S i' k)
  others-out part k i i' m torn fi fi' other f h =
      let e : suc k - 1 ≡ k = omega arith in
      ⊎_elim
      (λ (t : is_out S i' (suc k) ≡ true).
      let (o, x) = stays S ok set i' fi'.below (suc k) m t h in
      (o, x ∙ ap (adopted_view S i') e))
      (λ (g : is_out S i' (suc k) ≡ false).
      absurd (other (one-part S ok (suc k) i i' _ _ (adopts S ok set i fi.below k f) (adopts S ok set i' fi'.below k g) part torn fi fi')))
      (which (is_out S i' (suc k)))

  same-views : (last i i' : ℕ) → ((k : ℕ) → 0 < k → k ≤ last → OneFaced S (k - u S)) → RuleFollower S i → RuleFollower S i'
      → is_out S i last ≡ false → is_out S i' last ≡ false → (k : ℕ) → k ≤ last → adopted_view S i k ≡ adopted_view S i' k
  same-views last i i' one fi fi' f f' zero h = (opened S ok set i fi.below).1 ∙ sym (opened S ok set i' fi'.below).1
  same-views last i i' one fi fi' f f' (suc k) h =
      one-view S ok (suc k) i i' _ _ (adopts S ok set i fi.below k (in-sooner S ok set i fi.below (suc k) last h f))
      (adopts S ok set i' fi'.below k (in-sooner S ok set i' fi'.below (suc k) last h f')) fi fi' (one (suc k) (zero-lt-suc k) h)

cast-alone : (S : Session) → Partitionable S → (last ρ : ℕ) → BoundViews S last → ρ ≤ last
    → ((i i' j : ℕ) → RuleFollower S i → RuleFollower S i' → follows S j ≡ false → hears_view S ρ i j ≡ true → hears_view S ρ i' j ≡ true
    → view_word_in S ρ i j ≡ view_word_in S ρ i' j)
    → OneFaced S ρ
unfolding view_word_in
cast-alone S set last zero bound le cast i i' j fi fi' hj h h' = refl
cast-alone S set last (suc ρ) bound le cast i i' j fi fi' hj h h' =
    ⊎_elim
    (λ (t : follows S j ≡ true).
    let fj : RuleFollower S j = record { below = hj; true-to = t } in
    bound set (suc ρ) i j (zero-lt-suc ρ) le fi fj h ∙ sym (bound set (suc ρ) i' j (zero-lt-suc ρ) le fi' fj h'))
    (λ (f : follows S j ≡ false). cast i i' j fi fi' f h h') (which (follows S j))

pub adoption : Adoption
adoption = record {
  opened = opened;
  adopts = λ S ok set i k h. adopts S ok set i h k;
  adopted = λ S ok set i k v h. adopted S ok set i h k v;
  stays = λ S ok set i k m h. stays S ok set i h k m;
  sends = λ S ok set i k h. sends S ok set i h k;
  one-view = λ S ok set k i i' v v' one fi fi' a a'. one-view S ok k i i' v v' a a' fi fi' one;
  apart = λ S ok set k i i' v v' fi fi' none a a'. apart S ok k i i' v v' a a' none;
  one-part = λ S ok set part k i i' v v' torn fi fi' a a'. one-part S ok k i i' v v' a a' part torn fi fi';
  others-out = others-out;
  too_few = λ S ok set i k h. too_few S ok set i h k;
  same-views = same-views;
  cast-alone = cast-alone;
}
