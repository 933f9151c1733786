-- The answers of the sections, each after those before it, and the sections as they are written.
use Rattle.std.proofs.Common.{◌≡◌, ℕ, ◌+◌, ◌/◌, ◌%◌, Bool, true, false, cond, eqb, ne_eqb, List, [], ◌∷◌, ◌++◌, Result, Ok, Err, get_or, sym, refl, ap, ap₂, ◌∙◌, subst, arith}
use Rattle.std.specs.Result.{is_ok}
use Rattle.words.specs.Bits.{bit}
use Rattle.words.specs.Verdict.{accepted, is_accepted, Test, single, each, outcome, then_tests, first_refusal}
use Rattle.words.specs.Verdict.{Verdict}
use Rattle.words.specs.Runs.{one, put_run, put_runs}
use Rattle.words.specs.Refusal.{code, refusal_told, told}
use Rattle.words.specs.declared.Refusal.{Refusal}
use Rattle.words.proofs.VerdictLaws.{then-join}
use Rattle.words.proofs.SearchLaws.{refused-stays}
use Rattle.words.proofs.RefusalLaws.{code-positive, told-ok, told-err, told-on, first-stops, first-goes, first-last}
use Rattle.setup.specs.Layout.{head_at, front_words}
use Rattle.setup.specs.Setup.{partitionable_in}
use Rattle.rules.specs.declared.Reading.{Reading}
use Rattle.changes.specs.Words.{change_tests}
use Rattle.views.specs.Section.{view_tests}
use Rattle.image.specs.Layout.{own_at, rows_at, latest_at, earlier_at, accounts_at, rewards_at, returns_at, left_at, views_at}
use Rattle.image.specs.Words.{own_word, view_in, syndrome_word, own_number_ok, own_ok, syndrome_ok}
use Rattle.image.specs.Rows.{row_word, row_tests, row_run}
use Rattle.image.specs.CounterSection.{counter_word}
use Rattle.image.specs.Counters.{counter_tests}
use Rattle.image.specs.Part.{CountersSmall, lent_runs}
use Rattle.image.specs.Check.{before_accounts, check_tail}

-- ---- lists of tests that are joined: r is the answer of the first of them

module _ {A : Type 0} {r : Result A Refusal} (ts us : List Test) (h : told r ≡ first_refusal ts) where
  pub join-ends : {e : Refusal} → r ≡ Err e → refusal_told e ≡ first_refusal (ts ++ us)
  join-ends i = told-on i ∙ sym (refused-stays (told r) us (told-err i)) ∙ ap (λ (v : Verdict). then_tests v us) h ∙ sym (then-join accepted ts us)

  pub join-next : {x : A} {v : Verdict} → r ≡ Ok x → v ≡ first_refusal us → v ≡ first_refusal (ts ++ us)
  join-next i k = k ∙ ap (λ (v : Verdict). then_tests v us) (sym (told-ok i) ∙ h) ∙ sym (then-join accepted ts us)

-- whether they were accepted
pub accepts : {A : Type 0} (r : Result A Refusal) → is_ok r ≡ is_accepted (told r)
accepts (Ok x) = refl
accepts (Err e) = sym (ne_eqb (code e.number) 0 (λ (z : code e.number ≡ 0). omega (arith, code-positive e.number)))

-- one word, whose test and place have names
pub word-tested : {v : Verdict} {b ok : Bool} {a place : ℕ} (number : ℕ) → b ≡ ok → a ≡ place → v ≡ outcome (single b number a) → v ≡ outcome (single ok number place)
word-tested number e p h = h ∙ ap₂ (λ (x : Bool) (y : ℕ). outcome (single x number y)) e p

-- a word for each of n, from a place that has a name
pub each-by : {v : Verdict} {a place : ℕ} (n : ℕ) (ok : ℕ → Bool) → a ≡ place → v ≡ outcome (each n ok 8 a) → v ≡ outcome (each n ok 8 place)
each-by n ok p e = e ∙ ap (λ (x : ℕ). outcome (each n ok 8 x)) p

-- ---- the tests of the words after the setup's, which stand after the first `front`; `own`, `sections` and so on are what their checks have answered

module _ (w : ℕ → ℕ) (front n : ℕ) where
  abbrev own_tests : List Test
  own_tests = single (own_number_ok n (w (own_at front n))) 7 (own_at front n) ∷ single (own_ok n (w (own_at front n))) 8 (own_at front n) ∷ []

  abbrev syndrome_test : ℕ → Test
  syndrome_test at = single (syndrome_ok n (w at)) 8 at

  abbrev syndrome_tests : List Test
  syndrome_tests = syndrome_test (latest_at front n) ∷ syndrome_test (earlier_at front n) ∷ []

  syndrome-by : {v : Verdict} {a k : ℕ} → a ≡ k → v ≡ outcome (syndrome_test a) → v ≡ outcome (syndrome_test k)
  syndrome-by p e = e ∙ ap (λ (x : ℕ). outcome (syndrome_test x)) p

  module _ {own : Result (Unit {0}) Refusal} (e₀ : told own ≡ first_refusal own_tests) where
    pub sections-own : {e : Refusal} → own ≡ Err e → refusal_told e ≡ first_refusal (before_accounts w front n)
    sections-own i = join-ends own_tests (row_tests w front n ∷ syndrome_tests) e₀ i

    module _ {x₀ : Unit {0}} (i₀ : own ≡ Ok x₀) where
      module _ {rows : Result (Unit {0}) Refusal} (e₁ : told rows ≡ outcome (row_tests w front n)) where
        pub sections-rows : {e : Refusal} → rows ≡ Err e → refusal_told e ≡ first_refusal (before_accounts w front n)
        sections-rows i = join-next own_tests (row_tests w front n ∷ syndrome_tests) e₀ i₀ (first-stops (row_tests w front n) syndrome_tests e₁ i)

        module _ {x₁ : Unit {0}} (i₁ : rows ≡ Ok x₁) where
          after-rows : {v : Verdict} → v ≡ first_refusal syndrome_tests → v ≡ first_refusal (before_accounts w front n)
          after-rows k = join-next own_tests (row_tests w front n ∷ syndrome_tests) e₀ i₀ (first-goes (row_tests w front n) syndrome_tests e₁ i₁ k)

          module _ {latest : Result (Unit {0}) Refusal} {a : ℕ} (p : a ≡ latest_at front n) (e₂ : told latest ≡ outcome (syndrome_test a)) where
            pub sections-latest : {e : Refusal} → latest ≡ Err e → refusal_told e ≡ first_refusal (before_accounts w front n)
            sections-latest i = after-rows (first-stops (syndrome_test (latest_at front n)) (syndrome_test (earlier_at front n) ∷ []) (syndrome-by p e₂) i)

            pub sections-earlier : {x : Unit {0}} {v : Verdict} {b : ℕ} → latest ≡ Ok x → b ≡ earlier_at front n → v ≡ outcome (syndrome_test b)
                → v ≡ first_refusal (before_accounts w front n)
            sections-earlier i q e =
                after-rows
                (first-goes (syndrome_test (latest_at front n)) (syndrome_test (earlier_at front n) ∷ []) (syndrome-by p e₂) i
                (first-last (syndrome_test (earlier_at front n)) (syndrome-by q e)))

module _ {front : ℕ} (fades : Bool) (w : ℕ → ℕ) (n : ℕ) (f : front ≡ front_words fades) where
  abbrev change_at : List Test
  change_at = change_tests fades w n (left_at front n)

  abbrev views_left : List Test
  views_left = view_tests (partitionable_in (w head_at)) w n (view_in (w (own_at front n))) (views_at front n (w (left_at front n)))

  whole : {v : Verdict} → v ≡ first_refusal (before_accounts w front n ++ (counter_tests fades w n ++ (change_at ++ views_left))) → v ≡ check_tail fades w n
  unfolding check_tail
  whole e = rw f at e

  change-by : {v : Verdict} {a : ℕ} → a ≡ left_at front n → v ≡ first_refusal (change_tests fades w n a) → v ≡ first_refusal change_at
  change-by p e = e ∙ ap (λ (x : ℕ). first_refusal (change_tests fades w n x)) p

  module _ {sections : Result (Unit {0}) Refusal} (e₀ : told sections ≡ first_refusal (before_accounts w front n)) where
    pub tail-sections : {e : Refusal} → sections ≡ Err e → refusal_told e ≡ check_tail fades w n
    tail-sections i = whole (join-ends (before_accounts w front n) (counter_tests fades w n ++ (change_at ++ views_left)) e₀ i)

    module _ {x₀ : Unit {0}} (i₀ : sections ≡ Ok x₀) where
      after-sections : {v : Verdict} → v ≡ first_refusal (counter_tests fades w n ++ (change_at ++ views_left)) → v ≡ check_tail fades w n
      after-sections k = whole (join-next (before_accounts w front n) (counter_tests fades w n ++ (change_at ++ views_left)) e₀ i₀ k)

      module _ {accounts : Result (Unit {0}) Refusal} (e₁ : told accounts ≡ first_refusal (counter_tests fades w n)) where
        pub tail-accounts : {e : Refusal} → accounts ≡ Err e → refusal_told e ≡ check_tail fades w n
        tail-accounts i = after-sections (join-ends (counter_tests fades w n) (change_at ++ views_left) e₁ i)

        module _ {x₁ : Unit {0}} (i₁ : accounts ≡ Ok x₁) where
          after-accounts : {v : Verdict} → v ≡ first_refusal (change_at ++ views_left) → v ≡ check_tail fades w n
          after-accounts k = after-sections (join-next (counter_tests fades w n) (change_at ++ views_left) e₁ i₁ k)

          module _ {change : Result (Unit {0}) Refusal} {a : ℕ} (l : a ≡ left_at front n) (e₂ : told change ≡ first_refusal (change_tests fades w n a)) where
            pub tail-change : {e : Refusal} → change ≡ Err e → refusal_told e ≡ check_tail fades w n
            tail-change i = after-accounts (join-ends change_at views_left (change-by l e₂) i)

            pub tail-views : {x : Unit {0}} {v : Verdict} → change ≡ Ok x → v ≡ first_refusal views_left → v ≡ check_tail fades w n
            tail-views i k = after-accounts (join-next change_at views_left (change-by l e₂) i k)

-- ---- the sections of a state, written one after the other

-- which counters have room, where the form is known
pub small_by : {fades b : Bool} (n : ℕ) (x y z : List ℕ) → fades ≡ b → CountersSmall fades n x y z → CountersSmall b n x y z
small_by n x y z f h = subst (λ (a : Bool). CountersSmall a n x y z) f h

-- the accounts, by scores or by counts
module _ {fades : Bool} {o₁ : List ℕ} (n : ℕ) (x y z o : List ℕ) where
  pub scores-written : fades ≡ true
      → o₁ ≡ put_run (put_run o (accounts_at (front_words true) n) (n + n) (λ i. cond (eqb (i % 2) 0) (get_or x (i / 2) 0) (get_or y (i / 2) 0)))
      (returns_at (front_words true) n) n (λ j. counter_word 15 j (get_or z j 0))
      → o₁ ≡ put_runs o (accounts_at (front_words fades) n) (lent_runs fades n x y z)
  unfolding put_runs
  scores-written f e =
      let a : accounts_at (front_words true) n + (n + n) ≡ returns_at (front_words true) n = omega arith in
      rw (f, a) e

  pub counts-written : fades ≡ false
      → o₁ ≡ put_run (put_run (put_run o (accounts_at (front_words false) n) n (λ j. counter_word 13 j (get_or x j 0)))
      (rewards_at (front_words false) n) n (λ j. counter_word 14 j (get_or y j 0))) (returns_at (front_words false) n) n (λ j. counter_word 15 j (get_or z j 0))
      → o₁ ≡ put_runs o (accounts_at (front_words fades) n) (lent_runs fades n x y z)
  unfolding put_runs
  counts-written f e = rw f e

pub sections-written : {front : ℕ} (fades : Bool) (n own view : ℕ) (r : Reading) (latest earlier : ℕ) (o : List ℕ) {o₁ o₂ o₃ o₄ : List ℕ} {i₁ i₂ i₃ i₄ w l e : ℕ}
    → front ≡ front_words fades
    → i₁ ≡ own_at front n → w ≡ own_word own view → o₁ ≡ put_run o i₁ 1 (λ _. w)
    → i₂ ≡ rows_at front n → o₂ ≡ put_run o₁ i₂ n (λ j. row_word j (bit r.heard j) (get_or r.rows j 0))
    → i₃ ≡ latest_at front n → l ≡ syndrome_word latest → o₃ ≡ put_run o₂ i₃ 1 (λ _. l)
    → i₄ ≡ earlier_at front n → e ≡ syndrome_word earlier → o₄ ≡ put_run o₃ i₄ 1 (λ _. e)
    → o₄ ≡ put_runs o (own_at (front_words fades) n) (one (own_word own view) ∷ row_run n r ∷ one (syndrome_word latest) ∷ one (syndrome_word earlier) ∷ [])
unfolding put_runs
sections-written fades n own view r latest earlier o f a₁ w₁ e₁ a₂ e₂ a₃ w₃ e₃ a₄ w₄ e₄ =
    rw (e₄, e₃, e₂, e₁, a₁, a₂, a₃, a₄, w₁, w₃, w₄, f)

-- then the accounts
pub accounts-written : (fades : Bool) (n own view : ℕ) (r : Reading) (latest earlier : ℕ) (x y z o : List ℕ) {o₁ o₂ : List ℕ}
    → o₁ ≡ put_runs o (own_at (front_words fades) n) (one (own_word own view) ∷ row_run n r ∷ one (syndrome_word latest) ∷ one (syndrome_word earlier) ∷ [])
    → o₂ ≡ put_runs o₁ (accounts_at (front_words fades) n) (lent_runs fades n x y z)
    → o₂ ≡ put_runs o (own_at (front_words fades) n) (one (own_word own view) ∷ row_run n r ∷ one (syndrome_word latest) ∷ one (syndrome_word earlier) ∷ lent_runs fades n x y z)
unfolding put_runs
accounts-written fades n own view r latest earlier x y z o e₁ e₂ = rw (e₂, e₁)
