-- What one pass over an image finds: whether every word is right, and what the counters are read with.
use Rattle.std.proofs.Common.{◌≡◌, ℕ, ◌+◌, ◌<◌, ◌≤◌, Bool, true, false, ◌&&◌, List, ◌++◌, Result, get_or, sym, refl, ap, ◌∙◌}
use Rattle.std.specs.Result.{is_ok}
use Rattle.words.specs.Word.{word_at}
use Rattle.words.specs.Bits.{bit}
use Rattle.words.specs.Array.{array}
use Rattle.words.specs.Count.{all}
use Rattle.words.specs.Verdict.{is_accepted, first_refusal, all_right}
use Rattle.words.specs.Refusal.{told}
use Rattle.words.specs.declared.Refusal.{Refusal}
use Rattle.words.proofs.ArrayLaws.{array_at}
use Rattle.words.proofs.VerdictLaws.{numbered, tests-accept, right-join}
use Rattle.setup.specs.Layout.{head_at, penalty_limit_at, reward_limit_at, front_words}
use Rattle.setup.specs.Limits.{most_penalty_limit, most_reward_limit}
use Rattle.setup.specs.Setup.{return_limit_in, partitionable_in, limit_in, criticality_in, fades_in, limits_in}
use Rattle.setup.specs.Check.{limit_tests, word_tests}
use Rattle.setup.specs.Modules.{module_right}
use Rattle.setup.proofs.BoundLaws.{limits-read}
use Rattle.setup.proofs.SetupReadLaws.{words-good}
use Rattle.changes.specs.Words.{change_tests}
use Rattle.views.specs.Section.{view_tests}
use Rattle.image.specs.Layout.{own_at, latest_at, earlier_at, accounts_at, left_at, views_at}
use Rattle.image.specs.Words.{view_in, own_number_ok, own_ok, syndrome_ok}
use Rattle.image.specs.Rows.{row_test}
use Rattle.image.specs.CounterSection.{counter_in, basis_in}
use Rattle.image.specs.Counters.{counter_tests}
use Rattle.image.specs.Check.{words_right, tail_tests, image_tests}
use Rattle.image.proofs.SectionLaws.{accepts}

-- ---- the tests, in the order of the pass

join : (a b c d x y : Bool) → ((a && b) && (c && d)) && (x && y) ≡ a && (b && (x && (c && (d && y))))
join false b c d x y = refl
join true false c d x y = refl
join true true false d false y = refl
join true true false d true y = refl
join true true true false false y = refl
join true true true false true y = refl
join true true true true x y = refl

-- what the parts have found, joined, of a setup that fades or counts and has so many words before those of its modules
module _ {fades : Bool} {front : ℕ} (s : List ℕ) (n : ℕ) (form : fades ≡ fades_in (word_at s)) (at : front ≡ front_words fades) where
  pub loaded-good : {first alone rows counters change views : Bool} → first ≡ all_right (word_tests s n) → alone ≡ words_right (word_at s) front n
      → rows ≡ all n (row_test (word_at s) front n) → counters ≡ all_right (counter_tests fades (word_at s) n)
      → change ≡ all_right (change_tests fades (word_at s) n (left_at front n))
      → views ≡ all_right (view_tests (partitionable_in (word_at s head_at)) (word_at s) n (view_in (word_at s (own_at front n))) (views_at front n (word_at s (left_at front n))))
      → first && (alone && (rows && (counters && (change && views)))) ≡ all_right (image_tests s n)
  unfolding all_right all
  loaded-good e₀ e₁ e₂ e₃ e₄ e₅ =
      let w = word_at s in
      let f = front_words fades in
      let change = change_tests fades w n (left_at f n) in
      let views = view_tests (partitionable_in (w head_at)) w n (view_in (w (own_at f n))) (views_at f n (w (left_at f n))) in
      let tail : all_right (tail_tests fades w n) ≡ all_right (tail_tests (fades_in w) w n) = ap (λ (b : Bool). all_right (tail_tests b w n)) form in
      rw (e₀, e₁, e₂, e₃, e₄, e₅, at, ← right-join change views, ← right-join (counter_tests fades w n) (change ++ views))
      (ap (λ (b : Bool). all_right (word_tests s n) && b)
      (join (own_number_ok n (w (own_at f n))) (own_ok n (w (own_at f n))) (syndrome_ok n (w (latest_at f n))) (syndrome_ok n (w (earlier_at f n))) (all n (row_test w f n))
      (all_right (counter_tests fades w n ++ (change ++ views)))
      ∙ tail)
      ∙ sym (right-join (word_tests s n) (tail_tests (fades_in w) w n)))

  -- the same where the limits are found first
  pub limits-wrong : {limits : Bool} → limits ≡ all_right (limit_tests fades (word_at s)) → limits ≡ false → false ≡ all_right (image_tests s n)
  limits-wrong e f =
      loaded-good {first = false} (ap (λ (x : Bool). x && all n (λ j. module_right n j (word_at s (front + j)))) (sym f) ∙ words-good s form at n e refl) refl refl refl refl refl

  pub limits-fine : {limits modules alone rows counters change views : Bool} → limits ≡ all_right (limit_tests fades (word_at s)) → limits ≡ true
      → modules ≡ all n (λ j. module_right n j (word_at s (front + j))) → alone ≡ words_right (word_at s) front n → rows ≡ all n (row_test (word_at s) front n)
      → counters ≡ all_right (counter_tests fades (word_at s) n) → change ≡ all_right (change_tests fades (word_at s) n (left_at front n))
      → views ≡ all_right (view_tests (partitionable_in (word_at s head_at)) (word_at s) n (view_in (word_at s (own_at front n))) (views_at front n (word_at s (left_at front n))))
      → modules && (alone && (rows && (counters && (change && views)))) ≡ all_right (image_tests s n)
  limits-fine {modules = modules} e t m a r c d v =
      loaded-good (ap (λ (x : Bool). x && modules) (sym t) ∙ words-good s form at n e m) a r c d v

-- whether the check of a pending change accepts, as a test
pub change-good : {b : Bool} {at : ℕ} (r : Result (Unit {0}) Refusal) (fades : Bool) (w : ℕ → ℕ) (front n : ℕ) → at ≡ left_at front n
    → b ≡ is_ok r → told r ≡ first_refusal (change_tests fades w n at) → b ≡ all_right (change_tests fades w n (left_at front n))
unfolding numbered
change-good r fades w front n e o h =
    o ∙ accepts r ∙ ap is_accepted (h ∙ ap (λ (x : ℕ). first_refusal (change_tests fades w n x)) e) ∙ tests-accept (change_tests fades w n (left_at front n)) refl

-- and the tests of the views, by the head bit, the view and the rounds left as they were found
pub views-good : {r b : Bool} {view at left : ℕ} (w : ℕ → ℕ) (front n : ℕ) → b ≡ partitionable_in (w head_at) → view ≡ view_in (w (own_at front n))
    → at ≡ left_at front n → left ≡ w at → r ≡ all_right (view_tests b w n view (views_at front n left))
    → r ≡ all_right (view_tests (partitionable_in (w head_at)) w n (view_in (w (own_at front n))) (views_at front n (w (left_at front n))))
views-good w front n t v a l e = e ∙ (λ i. all_right (view_tests (t i) w n (v i) (views_at front n ((l ∙ ap w a) i))))

-- limits whose words are right are within theirs
pub limits-within : (w : ℕ → ℕ) → all_right (limit_tests false w) ≡ true → (limit_in (w penalty_limit_at) ≤ most_penalty_limit) × (limit_in (w reward_limit_at) ≤ most_reward_limit)
unfolding limits_in
limits-within w e =
    let f = limits-read false w e in
    (f.p-most, f.r-most)

-- ---- what the accounts are read with

pub array-read : {a : List ℕ} (n : ℕ) (f : ℕ → ℕ) → a ≡ array n f → (j : ℕ) → j < n → n ≤ 16 → get_or a j 0 ≡ f j
array-read n f e j h l = ap (λ (x : List ℕ). get_or x j 0) e ∙ array_at n f j h l

-- a word at a place that has a name
pub word-by : {at place w : ℕ} (s : List ℕ) (j : ℕ) → at ≡ place → w ≡ word_at s (at + j) → w ≡ word_at s (place + j)
word-by s j a e = e ∙ ap (λ (x : ℕ). word_at s (x + j)) a

-- what the counters of a module are tested by, field by field
pub basis-by : {p r q k x : ℕ} {b : Bool} (w : ℕ → ℕ) (front n j : ℕ) → p ≡ limit_in (w penalty_limit_at) → r ≡ limit_in (w reward_limit_at)
    → q ≡ return_limit_in (w head_at) → k ≡ criticality_in (w (front + j)) → b ≡ bit (view_in (w (own_at front n))) j
    → x ≡ counter_in (w (accounts_at front n + j)) → record { p = p; r = r; q = q; criticality = k; present = b; penalty = x } ≡ basis_in w front n j
basis-by w front n j p r q k b x = λ i. record { p = p i; r = r i; q = q i; criticality = k i; present = b i; penalty = x i }
