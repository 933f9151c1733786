-- A result is accepted exactly where it is `Ok`: no number of a refusal is 0.
use Rattle.std.proofs.Common.{◌≡◌, ℕ, ◌<◌, Bool, true, ap₂, false, List, [], ◌∷◌, Result, Ok, Err, sym, ◌∙◌, ap, arith, refl}
use Rattle.std.specs.Result.{is_err}
use Rattle.words.specs.Verdict.{Verdict, accepted, Test, single, and_then, outcome, then_tests, first_refusal}
use Rattle.words.specs.Refusal.{code, refusal_told, told}
use Rattle.words.specs.declared.Number.{Number}
use Rattle.words.specs.declared.Number.TheVariants.{Bytes, Head, Length, Limit, Module, Mark, Own, Image, Lent, Controller, Script, Follower, Unplayed, Rounds, Long, Offset, Register, Absent, Barred, Depth, Fading, Frame, Pending}
use Rattle.words.specs.declared.Refusal.{Refusal}
use Rattle.words.proofs.VerdictLaws.{and-then-next, and-then-stays, and-then-stops, and-then-goes, accepted-then, single-ok, single-pass}
use Rattle.words.proofs.SearchLaws.{refused-stays}

pub code-positive : (n : Number) → 0 < code n
code-positive Bytes = omega arith
code-positive Head = omega arith
code-positive Length = omega arith
code-positive Limit = omega arith
code-positive Module = omega arith
code-positive Mark = omega arith
code-positive Own = omega arith
code-positive Image = omega arith
code-positive Lent = omega arith
code-positive Controller = omega arith
code-positive Script = omega arith
code-positive Follower = omega arith
code-positive Unplayed = omega arith
code-positive Rounds = omega arith
code-positive Long = omega arith
code-positive Offset = omega arith
code-positive Register = omega arith
code-positive Absent = omega arith
code-positive Barred = omega arith
code-positive Depth = omega arith
code-positive Fading = omega arith
code-positive Frame = omega arith
code-positive Pending = omega arith

pub told-ok : {A : Type 0} {r : Result A Refusal} {a : A} → r ≡ Ok a → told r ≡ accepted
told-ok e = ap told e

pub told-none : {A : Type 0} {r : Result A Refusal} {a : A} → r ≡ Ok a → (told r).number ≡ 0
told-none e = ap (λ r. (told r).number) e

pub told-err : {A : Type 0} {r : Result A Refusal} {e : Refusal} → r ≡ Err e → (told r).number ≡ 0 → ⊥
told-err {e = e} h z =
    let k : code e.number ≡ 0 = sym (ap (λ r. (told r).number) h) ∙ z in
    let p = code-positive e.number in
    omega arith

-- and it says which number, and of which word
pub told-number : (A : Type 0) (e : Refusal) → (told {A = A} (Err e)).number ≡ code e.number
told-number A e = refl

pub told-index : (A : Type 0) (e : Refusal) → (told {A = A} (Err e)).index ≡ e.index
told-index A e = refl

-- a refusal that is handed on is the answer of what refused
pub told-on : {A : Type 0} {r : Result A Refusal} {e : Refusal} → r ≡ Err e → refusal_told e ≡ told r
told-on h = sym (ap told h)

-- ---- one check after another: r is the answer of the first, and what comes after it is asked where it accepts

module _ {A : Type 0} {r : Result A Refusal} {a : Verdict} (next : Verdict) (h : told r ≡ a) where
  pub then-stops : {e : Refusal} → r ≡ Err e → refusal_told e ≡ and_then a next
  then-stops {e} i = told-on i ∙ and-then-stops next h (told-err i)

  pub then-goes : {x : A} {v : Verdict} → r ≡ Ok x → v ≡ next → v ≡ and_then a next
  then-goes i k = and-then-goes next h (told-none i) k

-- tests, of which r is the answer of the first
from : (t : Test) (ts : List Test) {v : Verdict} → v ≡ outcome t → then_tests v ts ≡ first_refusal (t ∷ ts)
unfolding then_tests
from t ts h = ap (λ (v : Verdict). then_tests v ts) (h ∙ sym (accepted-then (outcome t)))

module _ {A : Type 0} {r : Result A Refusal} (t : Test) (ts : List Test) (h : told r ≡ outcome t) where
  pub first-stops : {e : Refusal} → r ≡ Err e → refusal_told e ≡ first_refusal (t ∷ ts)
  first-stops i = told-on i ∙ sym (refused-stays (told r) ts (told-err i)) ∙ from t ts h

  pub first-goes : {x : A} {v : Verdict} → r ≡ Ok x → v ≡ first_refusal ts → v ≡ first_refusal (t ∷ ts)
  first-goes i k = k ∙ ap (λ (v : Verdict). then_tests v ts) (sym (told-ok i)) ∙ from t ts h

pub first-last : (t : Test) {v : Verdict} → v ≡ outcome t → v ≡ first_refusal (t ∷ [])
unfolding then_tests
first-last t h = h ∙ sym (accepted-then (outcome t))

-- code has asked b of a word, where the test asks ok
pub single-by : {b ok : Bool} (number place : ℕ) {v : Verdict} → b ≡ ok → v ≡ outcome (single b number place) → v ≡ outcome (single ok number place)
single-by number place e h = h ∙ ap (λ (b : Bool). outcome (single b number place)) e

-- a word that was accepted is right
pub single-right : {A : Type 0} {r : Result A Refusal} {x : A} {ok : Bool} (number place : ℕ) → 0 < number → told r ≡ outcome (single ok number place) → r ≡ Ok x → ok ≡ true
single-right number place p h i = single-pass _ number place p (ap (λ (v : Verdict). v.number) (sym h) ∙ told-none i)

-- a test that holds after another changes nothing
told-then : {A : Type 0} (r : Result A Refusal) → and_then (told r) accepted ≡ told r
told-then (Ok x) = and-then-next accepted accepted refl
told-then (Err e) = and-then-stays (refusal_told e) accepted (λ (z : code e.number ≡ 0). omega (arith, code-positive e.number))

pub first-held : {A : Type 0} (r : Result A Refusal) (t : Test) (number place : ℕ) → told r ≡ outcome t → told r ≡ first_refusal (t ∷ single true number place ∷ [])
unfolding then_tests
first-held r t number place h =
    sym (told-then r) ∙ ap₂ and_then (h ∙ sym (accepted-then (outcome t))) (sym (single-ok true number place refl))

-- code asks whether a result is a refusal
was-err-as : {A : Type 0} (r : Result A Refusal) → is_err r ≡ true → (told r).number ≡ 0 → ⊥
was-err-as (Ok x) e = cc
was-err-as (Err e) i = λ (z : code e.number ≡ 0). omega (arith, code-positive e.number)

was-ok-as : {A : Type 0} (r : Result A Refusal) → is_err r ≡ false → (told r).number ≡ 0
was-ok-as (Ok x) i = refl
was-ok-as (Err e) i = cc

pub was-err : {A : Type 0} (r : Result A Refusal) {b : Bool} → b ≡ is_err r → b ≡ true → (told r).number ≡ 0 → ⊥
was-err r e i = was-err-as r (sym e ∙ i)

pub was-ok : {A : Type 0} (r : Result A Refusal) {b : Bool} → b ≡ is_err r → b ≡ false → (told r).number ≡ 0
was-ok r e i = was-ok-as r (sym e ∙ i)
