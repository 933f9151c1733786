-- The state that one pass over an image finds, part by part.
use Rattle.std.specs.Prelude.{Option, Some, None, if◌then◌else◌}
use Rattle.std.specs.Bool.{then_some}
use mathlib.Core.Path.{◌≡◌, refl, ap, ◌∙◌, sym}
use mathlib.Core.Bool.{Bool, true, false, ◌&&◌}
use mathlib.Core.List.{List}
use Prim.Native.Nat.{ℕ, ◌+◌, ◌≤◌}
use native.Mathlib.Omega.{arith}
use lib.ListN.{length}
use Rattle.words.specs.Word.{word_at}
use Rattle.words.specs.Array.{array}
use Rattle.words.specs.Count.{all}
use Rattle.words.specs.Verdict.{all_right}
use Rattle.words.proofs.Truth.{and_l}
use Rattle.words.proofs.VerdictLaws.{right-join}
use Rattle.setup.specs.Limits.{most_return_limit}
use Rattle.setup.specs.Setup.{size_in, return_limit_in, partitionable_in, criticality_in, fades_in, limits_in, setup_of}
use Rattle.setup.specs.Layout.{head_at, front_words}
use Rattle.setup.specs.Check.{limit_tests, word_tests}
use Rattle.setup.specs.declared.Setup.{Setup}
use Rattle.accounts.specs.declared.Counters.{Counters}
use Rattle.rules.specs.declared.Reading.{Reading}
use Rattle.setup.proofs.SetupCheckLaws.{both_tests}
use Rattle.changes.specs.Words.{change_tests, pending_in}
use Rattle.changes.specs.declared.Pending.{Pending}
use Rattle.views.specs.Section.{view_tests, views_in}
use Rattle.views.specs.declared.Views.{Views}
use Rattle.image.specs.Layout.{own_at, latest_at, earlier_at, left_at, views_at, before_left, image_length}
use Rattle.image.specs.Words.{own_in, view_in, syndrome_in}
use Rattle.image.specs.Rows.{row_test, reading_in}
use Rattle.image.specs.Counters.{counter_tests, counters_in}
use Rattle.image.specs.Check.{words_right, image_tests}
use Rattle.image.proofs.ReadLaws.{loaded-good}
use Rattle.image.proofs.ReturnLaws.{return-limit}
use Rattle.image.proofs.LentLaws.{Asked, asked_by}
use Rattle.presence.specs.Image.{state_of}
use Rattle.presence.specs.declared.State.{State}

pub state-by : (s : List ℕ) {n : ℕ} → n ≡ size_in (word_at s 0)
    → {setup : Setup} {own latest earlier : ℕ} {counters : Counters} {previous : Reading} {pending : Pending} {views : Views} {b : Bool} → b ≡ fades_in (word_at s)
    → setup ≡ setup_of s → own ≡ own_in (word_at s (own_at (front_words b) n)) → counters ≡ counters_in b s n → previous ≡ reading_in s (front_words b) n
    → latest ≡ syndrome_in (word_at s (latest_at (front_words b) n)) → earlier ≡ syndrome_in (word_at s (earlier_at (front_words b) n))
    → pending ≡ pending_in s n (left_at (front_words b) n)
    → views ≡ views_in (partitionable_in (word_at s 0)) s n (views_at (front_words b) n (word_at s (left_at (front_words b) n)))
    → ◌≡◌ {A = State}
    (record { setup = setup; own = own; counters = counters; previous = previous; latest = latest; earlier = earlier; pending = pending; views = views }) (state_of s)
unfolding state_of
state-by s {n} e f e₀ e₁ e₂ e₃ e₄ e₅ e₆ e₇ =
    rw (← e, ← f) (λ i. record { setup = e₀ i; own = e₁ i; counters = e₂ i; previous = e₃ i; latest = e₄ i; earlier = e₅ i; pending = e₆ i; views = e₇ i })

-- ---- the views, by the setup, the view and the rounds left that were read

module _ {setup : Setup} (s : List ℕ) (e : setup ≡ setup_of s) where
  parted : setup.partitionable ≡ partitionable_in (word_at s 0)
  unfolding setup_of
  parted = ap (λ (x : Setup). x.partitionable) e

  module _ (front : ℕ) {at left : ℕ} (n : ℕ) (a : at ≡ left_at front n) (l : left ≡ word_at s at) where
    left_there : left ≡ word_at s (left_at front n)
    left_there = l ∙ ap (word_at s) a

    pub views-asked : (b : Bool) {k : ℕ} → front ≡ front_words b
        → k ≡ image_length (front_words b) n (word_at s (left_at (front_words b) n)) (partitionable_in (word_at s 0)) → k ≡ image_length front n left setup.partitionable
    views-asked b f h =
        let x = sym (left_there ∙ ap (λ (i : ℕ). word_at s (left_at i n)) f) in
        h ∙ (λ i. image_length (sym f i) n (x i) (sym parted i))

    pub views-agree : {view : ℕ} {good : Bool} → view ≡ view_in (word_at s (own_at front n))
        → good ≡ all_right (view_tests setup.partitionable (word_at s) n view (views_at front n left))
        → good ≡ all_right (view_tests (partitionable_in (word_at s head_at)) (word_at s) n (view_in (word_at s (own_at front n))) (views_at front n (word_at s (left_at front n))))
    views-agree v g = g ∙ (λ i. all_right (view_tests (parted i) (word_at s) n (v i) (views_at front n (left_there i))))

    pub views-read : (b : Bool) {views : Views} → front ≡ front_words b → views ≡ views_in setup.partitionable s n (views_at front n left)
        → views ≡ views_in (partitionable_in (word_at s 0)) s n (views_at (front_words b) n (word_at s (left_at (front_words b) n)))
    views-read b f g =
        let x = left_there ∙ ap (λ (i : ℕ). word_at s (left_at i n)) f in
        g ∙ (λ i. views_in (parted i) s n (views_at (f i) n (x i)))

-- ---- whether all words are right, where those of the setup are found first

module _ {fades : Bool} {front : ℕ} (s : List ℕ) (n : ℕ) (form : fades ≡ fades_in (word_at s)) (at : front ≡ front_words fades) where
  pub setup-wrong : {first : Bool} → first ≡ all_right (word_tests s n) → first ≡ false → false ≡ all_right (image_tests s n)
  setup-wrong e f = loaded-good s n form at {first = false} (sym f ∙ e) refl refl refl refl refl

  pub setup-right : {first alone rows counters change views : Bool} → first ≡ all_right (word_tests s n) → first ≡ true
      → alone ≡ words_right (word_at s) front n → rows ≡ all n (row_test (word_at s) front n) → counters ≡ all_right (counter_tests fades (word_at s) n)
      → change ≡ all_right (change_tests fades (word_at s) n (left_at front n))
      → views ≡ all_right (view_tests (partitionable_in (word_at s head_at)) (word_at s) n (view_in (word_at s (own_at front n))) (views_at front n (word_at s (left_at front n))))
      → alone && (rows && (counters && (change && views))) ≡ all_right (image_tests s n)
  setup-right e f a r c d g = loaded-good s n form at {first = true} (sym f ∙ e) a r c d g

pub reading-read : {heard : ℕ} {rows : List ℕ} (s : List ℕ) (front n : ℕ) → heard ≡ (reading_in s front n).heard → rows ≡ (reading_in s front n).rows
    → record { heard = heard; rows = rows } ≡ reading_in s front n
reading-read s front n h r = λ i. record { heard = h i; rows = r i }

-- ---- what the accounts are read with, of a setup that was read

module _ {setup : Setup} {fades : Bool} {n : ℕ} (s : List ℕ) (e : setup ≡ setup_of s) (form : fades ≡ fades_in (word_at s)) (size : n ≡ size_in (word_at s 0)) where
  pub limits_of : setup.limits ≡ limits_in fades (word_at s)
  unfolding setup_of
  limits_of = rw form (ap (λ (x : Setup). x.limits) e)

  criticality-of : {front : ℕ} → front ≡ front_words fades → setup.criticality ≡ array n (λ j. criticality_in (word_at s (front + j)))
  unfolding setup_of
  criticality-of at = rw (at, form, size) (ap (λ (x : Setup). x.criticality) e)

  limits-hold : {first : Bool} → first ≡ all_right (word_tests s n) → first ≡ true → all_right (limit_tests fades (word_at s)) ≡ true
  limits-hold g t =
      let ts = limit_tests (fades_in (word_at s)) (word_at s) in
      ap (λ (b : Bool). all_right (limit_tests b (word_at s))) form ∙ and_l (all_right ts) _ (sym (right-join ts (both_tests s n)) ∙ sym g ∙ t)

  pub accounts-asked : {first : Bool} {front view : ℕ} → first ≡ all_right (word_tests s n) → first ≡ true → front ≡ front_words fades → n ≤ 16
      → before_left (front_words fades) n ≤ length s → return_limit_in (word_at s 0) ≤ most_return_limit → view ≡ view_in (word_at s (own_at front n))
      → Asked s n setup.q setup.criticality view setup.limits
  accounts-asked g t at few long most view =
      let q = return-limit s e in
      asked_by s n fades limits_of at few long (limits-hold g t) q (omega (arith, q, most)) (criticality-of at) view

-- ---- the answer: the state where all words are right

module _ {A : Type 0} {good all : Bool} {x y : A} where
  pub loaded-by : {r : Option A} → good ≡ all → (good ≡ true → x ≡ y) → r ≡ then_some good x → r ≡ (if all then Some y else None)
  loaded-by e f h = h ∙ handed good f ∙ ap (λ (b : Bool). if b then Some y else None) e
    where
      handed : (b : Bool) → (b ≡ true → x ≡ y) → then_some b x ≡ (if b then Some y else None)
      handed true f = ap Some (f refl)
      handed false f = refl

pub none-loaded : {A : Type 0} {all : Bool} (y : A) → false ≡ all → None ≡ (if all then Some y else None)
none-loaded y e = ap (λ (b : Bool). if b then Some y else None) e

-- the same by another truth
pub loaded-as : {A : Type 0} {good all : Bool} {r : Option A} (y : A) → good ≡ all → r ≡ (if good then Some y else None) → r ≡ (if all then Some y else None)
loaded-as y e h = h ∙ ap (λ (b : Bool). if b then Some y else None) e

-- what the answer says
some-of : {A : Type 0} {x : A} (b : Bool) (y : A) → Some x ≡ (if b then Some y else None) → (x ≡ y) × (b ≡ true)
some-of true y e = (cc, refl)
some-of false y e = cc

none-of : {A : Type 0} (b : Bool) (y : A) → None ≡ (if b then Some y else None) → b ≡ false
none-of true y e = cc
none-of false y e = refl

module _ {A : Type 0} {b : Bool} {r : Option A} (y : A) (h : r ≡ (if b then Some y else None)) where
  pub loaded-some : {x : A} → r ≡ Some x → (x ≡ y) × (b ≡ true)
  loaded-some i = some-of b y (sym i ∙ h)

  pub loaded-none : r ≡ None → b ≡ false
  loaded-none i = none-of b y (sym i ∙ h)
