-- Verdicts that are joined, and tests in their order, which accept exactly where every word is right.
use Rattle.std.proofs.Common.{◌≡◌, ℕ, ◌+◌, ◌-◌, ◌<◌, ◌≤◌, Bool, true, false, cond, not, ◌&&◌, eqb, leb, List, [], ◌∷◌, ◌++◌, sym, refl, ap, ◌∙◌, arith, eq-eqb, ne_eqb, eqb-true, le-leb, leb-true}
use borrow.Author.Tests.{not-false}
use Rattle.words.specs.Count.{lowest, all}
use Rattle.words.specs.Verdict.{Verdict, verdict, accepted, is_accepted, between, Test, single, each, and_then, outcome, then_tests, first_refusal, all_right}
use Rattle.words.proofs.Truth.{cond-true, cond-false, iff-eq, and_l, and_r, and-true, not-both}
use Rattle.words.proofs.CountLaws.{all-at, all-intro}
use Rattle.words.proofs.LowestLaws.{lowest-zero, lowest-empty, lowest-found}

-- every word is right, word by word
unfoldable pub Passed : List Test → Type 0
Passed [] = Unit {0}
Passed (t ∷ ts) = ((j : ℕ) → j < t.count → t.ok j ≡ true) × Passed ts

-- no test refuses by number 0
unfoldable pub numbered : List Test → Bool
numbered [] = true
numbered (t ∷ ts) = not (eqb t.number 0) && numbered ts

-- ---- a range

pub between_is : (low high v : ℕ) → between low high v ≡ true → (low ≤ v) × (v ≤ high)
between_is low high v e = (leb-true low v (and_l (leb low v) _ e), leb-true v high (and_r (leb low v) _ e))

pub between-of : (low high v : ℕ) → low ≤ v → v ≤ high → between low high v ≡ true
between-of low high v h l = and-true (leb low v) (leb v high) (le-leb low v h) (le-leb v high l)

-- ---- two verdicts

pub and-then-next : (a b : Verdict) → a.number ≡ 0 → and_then a b ≡ b
unfolding and_then
and-then-next a b e = cond-true b a (eq-eqb a.number 0 e)

pub and-then-stays : (a b : Verdict) → (a.number ≡ 0 → ⊥) → and_then a b ≡ a
unfolding and_then
and-then-stays a b f = cond-false b a (ne_eqb a.number 0 f)

pub and-then-assoc : (a b c : Verdict) → and_then (and_then a b) c ≡ and_then a (and_then b c)
unfolding and_then
and-then-assoc a b c = go (is_accepted a) refl
  where
    go : (t : Bool) → is_accepted a ≡ t → cond (is_accepted (cond t b a)) c (cond t b a) ≡ cond t (cond (is_accepted b) c b) a
    go true e = refl
    go false e = cond-false c a e

pub and-then-accepts : (a b : Verdict) → is_accepted (and_then a b) ≡ is_accepted a && is_accepted b
unfolding and_then
and-then-accepts a b = go (is_accepted a) refl
  where
    go : (t : Bool) → is_accepted a ≡ t → is_accepted (cond t b a) ≡ t && is_accepted b
    go true e = refl
    go false e = e

pub and-then-pass : (a b : Verdict) → (and_then a b).number ≡ 0 → (a.number ≡ 0) × (b.number ≡ 0)
and-then-pass a b e =
    let t : is_accepted a && is_accepted b ≡ true = sym (and-then-accepts a b) ∙ eq-eqb (and_then a b).number 0 e in
    (eqb-true a.number 0 (and_l (is_accepted a) _ t), eqb-true b.number 0 (and_r (is_accepted a) _ t))

-- v answers the first of two checks: it is the answer of both where it refuses, else the second's answer r is
module _ {v a : Verdict} (next : Verdict) (e : v ≡ a) where
  pub and-then-stops : (v.number ≡ 0 → ⊥) → v ≡ and_then a next
  and-then-stops f = sym (ap (λ (x : Verdict). and_then x next) (sym e) ∙ and-then-stays v next f)

  pub and-then-goes : {r : Verdict} → v.number ≡ 0 → r ≡ next → r ≡ and_then a next
  and-then-goes z h = h ∙ sym (ap (λ (x : Verdict). and_then x next) (sym e) ∙ and-then-next v next z)

-- ---- tests

pub and-end : (a : Bool) → a && true ≡ a
and-end true = refl
and-end false = refl

pub and_assoc : (a b c : Bool) → (a && b) && c ≡ a && (b && c)
and_assoc true b c = refl
and_assoc false b c = refl

right_of : (n : ℕ) (ok : ℕ → Bool) → eqb (lowest n (λ j. not (ok j))) 0 ≡ all n ok
right_of n ok =
    iff-eq _ _ (λ t. all-intro n ok (λ j l. not-false (ok j) (lowest-zero (λ j. not (ok j)) n (eqb-true _ 0 t) j l)))
    (λ t. eq-eqb _ 0 (lowest-empty (λ j. not (ok j)) n (λ j l. ap not (all-at n ok t j l))))

outcome-accepts : (t : Test) → not (eqb t.number 0) ≡ true → is_accepted (outcome t) ≡ all t.count t.ok
unfolding outcome
outcome-accepts t h = go _ ∙ right_of t.count t.ok
  where
    go : (b : Bool) → is_accepted (cond b accepted (verdict t.number (t.place + lowest t.count (λ j. not (t.ok j)) - 1))) ≡ b
    go true = refl
    go false = not-both _ h

then-accepts : (v : Verdict) (ts : List Test) → numbered ts ≡ true → is_accepted (then_tests v ts) ≡ is_accepted v && all_right ts
unfolding then_tests all_right numbered
then-accepts v [] h = sym (and-end (is_accepted v))
then-accepts v (t ∷ ts) h =
    then-accepts (and_then v (outcome t)) ts (and_r (not (eqb t.number 0)) _ h)
    ∙ ap (λ (a : Bool). a && all_right ts) (and-then-accepts v (outcome t))
    ∙ and_assoc (is_accepted v) (is_accepted (outcome t)) (all_right ts)
    ∙ ap (λ (a : Bool). is_accepted v && (a && all_right ts)) (outcome-accepts t (and_l (not (eqb t.number 0)) _ h))

-- one word
pub single-pass : (ok : Bool) (number place : ℕ) → 0 < number → (outcome (single ok number place)).number ≡ 0 → ok ≡ true
unfolding outcome lowest
single-pass true number place h e = refl
single-pass false number place h e = absurd (omega arith)

pub single-ok : (ok : Bool) (number place : ℕ) → ok ≡ true → outcome (single ok number place) ≡ accepted
unfolding outcome lowest
single-ok ok number place t = rw t

pub single-refused : (ok : Bool) (number place : ℕ) → ok ≡ false → outcome (single ok number place) ≡ verdict number place
unfolding outcome lowest
single-refused ok number place f =
    let k : place + 1 - 1 ≡ place = omega arith in
    rw (f, k)

-- a word for each of n
pub each-right : (n : ℕ) (ok : ℕ → Bool) (number place : ℕ) → ((j : ℕ) → j < n → ok j ≡ true) → outcome (each n ok number place) ≡ accepted
unfolding outcome
each-right n ok number place h = cond-true _ _ (eq-eqb _ 0 (lowest-empty (λ j. not (ok j)) n (λ j l. ap not (h j l))))

pub each-wrong : (n : ℕ) (ok : ℕ → Bool) (number place j : ℕ) → j < n → ((k : ℕ) → k < j → ok k ≡ true) → ok j ≡ false
    → outcome (each n ok number place) ≡ verdict number (place + j)
unfolding outcome
each-wrong n ok number place j l h f =
    let e : j + 1 ≡ lowest n (λ k. not (ok k)) = lowest-found (λ k. not (ok k)) j n (lowest-empty (λ k. not (ok k)) j (λ k m. ap not (h k m))) (ap not f) l in
    cond-false _ _ (ne_eqb _ 0 (λ (z : lowest n (λ k. not (ok k)) ≡ 0). omega (arith, e)))
    ∙ ap (λ (x : ℕ). verdict number (place + x - 1)) (sym e)
    ∙ ap (verdict number) (omega arith)

-- tests accept where all words are right
pub tests-accept : (ts : List Test) → numbered ts ≡ true → is_accepted (first_refusal ts) ≡ all_right ts
tests-accept ts h = then-accepts accepted ts h

pub all-passed : (ts : List Test) → all_right ts ≡ true → Passed ts
unfolding all_right Passed
all-passed [] e = tt
all-passed (t ∷ ts) e =
    (all-at t.count t.ok (and_l (all t.count t.ok) _ e), all-passed ts (and_r (all t.count t.ok) _ e))

pub passed-all : (ts : List Test) → Passed ts → all_right ts ≡ true
unfolding all_right Passed
passed-all [] p = refl
passed-all (t ∷ ts) (p, q) = and-true (all t.count t.ok) _ (all-intro t.count t.ok p) (passed-all ts q)

-- number 0 means that every word is right
pub tests-pass : (ts : List Test) → numbered ts ≡ true → (first_refusal ts).number ≡ 0 → Passed ts
tests-pass ts h e = all-passed ts (sym (tests-accept ts h) ∙ eq-eqb (first_refusal ts).number 0 e)

-- and where every word is right nothing is refused
pub tests-ok : (ts : List Test) → Passed ts → first_refusal ts ≡ accepted
unfolding then_tests Passed outcome and_then
tests-ok [] p = refl
tests-ok (t ∷ ts) (p, q) =
    let z : lowest t.count (λ j. not (t.ok j)) ≡ 0 = lowest-empty (λ j. not (t.ok j)) t.count (λ j l. ap not (p j l)) in
    rw z (tests-ok ts q)

-- ---- tests after an answer, and after tests

pub accepted-then : (v : Verdict) → and_then accepted v ≡ v
unfolding and_then
accepted-then v = refl

pub then-tests : (v : Verdict) (t : Test) (ts : List Test) → then_tests v (t ∷ ts) ≡ and_then v (first_refusal (t ∷ ts))
unfolding then_tests
then-tests v t [] = ap (and_then v) (sym (accepted-then (outcome t)))
then-tests v t (u ∷ ts) =
    then-tests (and_then v (outcome t)) u ts
    ∙ and-then-assoc v (outcome t) (first_refusal (u ∷ ts))
    ∙ ap (and_then v)
    (sym (ap (λ (x : Verdict). then_tests x (u ∷ ts)) (accepted-then (outcome t)) ∙ then-tests (outcome t) u ts))

pub then-join : (v : Verdict) (ts us : List Test) → then_tests v (ts ++ us) ≡ then_tests (then_tests v ts) us
unfolding then_tests
then-join v [] us = refl
then-join v (t ∷ ts) us = then-join (and_then v (outcome t)) ts us

pub tests-join : (ts : List Test) (u : Test) (us : List Test) → first_refusal (ts ++ (u ∷ us)) ≡ and_then (first_refusal ts) (first_refusal (u ∷ us))
tests-join ts u us = then-join accepted ts (u ∷ us) ∙ then-tests (first_refusal ts) u us

-- v answers the first tests: it is the answer of all where it refuses, else that of the others is
module _ {v : Verdict} (ts : List Test) (u : Test) (us : List Test) (e : v ≡ first_refusal ts) where
  pub join-stops : (v.number ≡ 0 → ⊥) → v ≡ first_refusal (ts ++ (u ∷ us))
  join-stops f = and-then-stops (first_refusal (u ∷ us)) e f ∙ sym (tests-join ts u us)

  pub join_goes : {r : Verdict} → v.number ≡ 0 → r ≡ first_refusal (u ∷ us) → r ≡ first_refusal (ts ++ (u ∷ us))
  join_goes z h = and-then-goes (first_refusal (u ∷ us)) e z h ∙ sym (tests-join ts u us)

-- what holds of tests and then of others
pub right-join : (ts us : List Test) → all_right (ts ++ us) ≡ all_right ts && all_right us
unfolding all_right
right-join [] us = refl
right-join (t ∷ ts) us =
    ap (λ (b : Bool). all t.count t.ok && b) (right-join ts us) ∙ sym (and_assoc (all t.count t.ok) (all_right ts) (all_right us))

pub numbers-join : (ts us : List Test) → numbered ts ≡ true → numbered us ≡ true → numbered (ts ++ us) ≡ true
unfolding numbered
numbers-join [] us p q = q
numbers-join (t ∷ ts) us p q =
    and-true (not (eqb t.number 0)) _ (and_l (not (eqb t.number 0)) _ p) (numbers-join ts us (and_r (not (eqb t.number 0)) _ p) q)

-- tests that passed, and others after them
pub passed-join : (ts us : List Test) → Passed ts → Passed us → Passed (ts ++ us)
unfolding Passed
passed-join [] us p q = q
passed-join (t ∷ ts) us (p, ps) q = (p, passed-join ts us ps q)

pub passed-split : (ts us : List Test) → Passed (ts ++ us) → Passed ts × Passed us
unfolding Passed
passed-split [] us q = (tt, q)
passed-split (t ∷ ts) us (p, ps) = let (a, b) = passed-split ts us ps in ((p, a), b)
