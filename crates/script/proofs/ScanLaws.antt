-- One word of the scan after another: refused, or taken and the scan goes on behind it.
use Rattle.std.proofs.Common.{◌≡◌, refl, ap, ap₂, ◌∙◌, sym, Bool, true, false, cond, not, ◌&&◌, ◌||◌, ⊎_elim, Result, Ok, Err, List, length, ℕ, suc, ◌+◌, ◌-◌, ◌/◌, ◌≤◌, ◌<◌, arith, eqb, leb, ltb, eqb-true, eq-eqb, leb-true}
use Rattle.std.proofs.lemmas.Bool.{eqb-false, lt-leb}
use borrow.Author.Tests.{not-false}
use Rattle.words.specs.Word.{word_at}
use Rattle.words.specs.Bits.{bit}
use Rattle.words.specs.Verdict.{Verdict, verdict, between, single, and_then, outcome}
use Rattle.words.specs.Refusal.{code}
use Rattle.words.specs.declared.Number.{Number}
use Rattle.words.proofs.Truth.{which, and_l, and_r, or_l, or_r, or_cases, iff-eq, cond-true, cond-false}
use Rattle.words.proofs.VerdictLaws.{between_is, between-of, and-then-next, and-then-stays, and-then-stops, single-refused}
use Rattle.words.proofs.RefusalLaws.{code-positive}
use Rattle.script.specs.declared.Scan.{Scan}
use Rattle.script.specs.Words.{cast_at, events_at, is_partitionable, most_bytes, most_of_play, most_rounds, kind_of, cast_in, cast_ok, sender_in, receivers_in, rounds_in, event_ok, play_ok, due_after, is_play}
use Rattle.script.specs.Check.{play_refusal, event_refusal, word_refusal, number_told, scanned, finished, scan, unscanned, check_script}

-- ---- what a test that passed says

pub play-rounds : (w : ℕ) → play_ok w ≡ true → (1 ≤ rounds_in w) × (rounds_in w ≤ most_of_play)
unfolding play_ok
play-rounds w t = between_is 1 most_of_play (rounds_in w) (and_r (eqb (kind_of w) 9) _ t)

pub event-sender : (n w : ℕ) → event_ok n w ≡ true → (1 ≤ sender_in w) × (sender_in w ≤ n)
unfolding event_ok
event-sender n w t = between_is 1 n (sender_in w) (and_l (between 1 n (sender_in w)) _ (and_l (between 1 n (sender_in w) && ltb 0 (receivers_in w)) _ t))

-- ---- a loss or a lie w; `loss` and `lie` are what the code asks of its kind, `ok` is the answer to its fields

either : (k : ℕ) → eqb k 7 || eqb k 8 ≡ between 7 8 k
either k = iff-eq (eqb k 7 || eqb k 8) (between 7 8 k) within kinds
  where
    within : eqb k 7 || eqb k 8 ≡ true → between 7 8 k ≡ true
    within t =
        ⊎_elim (λ (e : eqb k 7 ≡ true). let q = eqb-true k 7 e in between-of 7 8 k (omega arith) (omega arith))
        (λ (e : eqb k 8 ≡ true). let q = eqb-true k 8 e in between-of 7 8 k (omega arith) (omega arith)) (or_cases (eqb k 7) (eqb k 8) t)

    kinds : between 7 8 k ≡ true → eqb k 7 || eqb k 8 ≡ true
    kinds t =
        let h = between_is 7 8 k t in
        ⊎_elim (λ (e : eqb k 7 ≡ true). or_l (eqb k 7) (eqb k 8) e)
        (λ (e : eqb k 7 ≡ false). let q = eqb-false k 7 e in or_r (eqb k 7) (eqb k 8) (eq-eqb k 8 (omega arith))) (which (eqb k 7))

module _ {loss lie ok : Bool} (n cast w : ℕ) (l : loss ≡ eqb (kind_of w) 7) (m : lie ≡ eqb (kind_of w) 8) (e : ok ≡ event_ok n w) where
  same_test : (loss || lie) && ok ≡ between 7 8 (kind_of w) && event_ok n w
  same_test = ap₂ ◌&&◌ (ap₂ ◌||◌ l m ∙ either (kind_of w)) e

  pub event-wrong : (loss || lie) && ok ≡ false → 12 ≡ event_refusal n cast w
  unfolding event_refusal
  event-wrong f = sym (cond-false _ 12 (sym same_test ∙ f))

  pub event-known : (loss || lie) && ok ≡ true → (1 ≤ sender_in w) × (sender_in w ≤ n)
  event-known f = event-sender n w (and_r (between 7 8 (kind_of w)) _ (sym same_test ∙ f))

  module _ {sender : ℕ} {inside : Bool} (f : (loss || lie) && ok ≡ true) (h : sender ≡ sender_in w) (i : inside ≡ bit cast (sender - 1)) where
    same_sender : loss || inside ≡ eqb (kind_of w) 7 || bit cast (sender_in w - 1)
    same_sender = ap₂ ◌||◌ l (i ∙ ap (λ (x : ℕ). bit cast (x - 1)) h)

    pub event-outside : loss || inside ≡ false → 13 ≡ event_refusal n cast w
    unfolding event_refusal
    event-outside g = sym (cond-true _ 12 (sym same_test ∙ f) ∙ cond-false 0 13 (sym same_sender ∙ g))

    pub event-right : loss || inside ≡ true → 0 ≡ event_refusal n cast w
    unfolding event_refusal
    event-right g = sym (cond-true _ 12 (sym same_test ∙ f) ∙ cond-true 0 13 (sym same_sender ∙ g))

-- both in one answer r
module _ {ok : Bool} (n cast w : ℕ) (e : ok ≡ event_ok n w) where
  pub event-answer : {sender r : ℕ} {inside : Bool} → not (between 7 8 (kind_of w) && ok) ≡ false → sender ≡ sender_in w → inside ≡ bit cast (sender - 1)
      → r ≡ cond (eqb (kind_of w) 7 || inside) 0 13 → r ≡ event_refusal n cast w
  unfolding event_refusal
  event-answer f h i q =
      q ∙ ap (λ (b : Bool). cond (eqb (kind_of w) 7 || b) 0 13) (i ∙ ap (λ (x : ℕ). bit cast (x - 1)) h)
      ∙ sym (cond-true _ 12 (sym (ap (λ (b : Bool). between 7 8 (kind_of w) && b) e) ∙ not-false _ f))

-- ---- the rounds so far

play-sum : (rounds w : ℕ) → play_refusal rounds w ≡ 0 → rounds + rounds_in w ≤ most_rounds
unfolding play_refusal
play-sum rounds w e = go (play_ok w) (leb (rounds + rounds_in w) most_rounds) refl e
  where
    go : (p b : Bool) → leb (rounds + rounds_in w) most_rounds ≡ b → ◌≡◌ {A = ℕ} (cond p (cond b 0 15) 12) 0 → rounds + rounds_in w ≤ most_rounds
    go true true t q = leb-true _ most_rounds t
    go true false t q = absurd (omega arith)
    go false b t q = absurd (omega arith)

-- a word that is taken keeps the rounds within their limit
pub taken-rounds : (pairs : Bool) (n cast : ℕ) (sc : Scan) (w : ℕ) → word_refusal n cast sc w ≡ 0 → sc.rounds ≤ most_rounds
    → (scanned pairs sc w).rounds ≤ most_rounds
unfolding word_refusal scanned is_play
taken-rounds pairs n cast sc w e h = go (eqb sc.due 0) (eqb (kind_of w) 9) e
  where
    go : (d p : Bool) → cond d (cond p (play_refusal sc.rounds w) (event_refusal n cast w)) 0 ≡ 0
        → cond (d && p) (sc.rounds + rounds_in w) sc.rounds ≤ most_rounds
    go true true q = play-sum sc.rounds w q
    go true false q = h
    go false p q = h

-- what the code knows after a word
pub scanned-by : {play : Bool} {due rounds : ℕ} (pairs : Bool) (sc : Scan) (w : ℕ) → play ≡ is_play sc.due w → due ≡ due_after pairs sc.due w
    → rounds ≡ cond play (sc.rounds + rounds_in w) sc.rounds → record { due = due; pending = not play; rounds = rounds } ≡ scanned pairs sc w
unfolding scanned
scanned-by pairs sc w p d r = rw (r, d, p)

-- ---- a turn of the scan

module _ (s : List ℕ) (n cast : ℕ) where
  pub scan-ends : {v : Verdict} (count at : ℕ) (sc : Scan) → count ≤ at → at ≤ count → v ≡ outcome (single (finished sc) 14 count)
      → v ≡ scan s n cast (count - at) at sc
  unfolding scan
  scan-ends count at sc h l e =
      let z : count - at ≡ 0 = omega arith in
      let q : at ≡ count = omega arith in
      rw (z, q) e

  pub scan_step : (count at : ℕ) (sc : Scan) → at < count → scan s n cast (count - at) at sc
      ≡ and_then (verdict (word_refusal n cast sc (word_at s at)) at) (scan s n cast (count - (at + 1)) (at + 1) (scanned (is_partitionable s) sc (word_at s at)))
  unfolding scan
  scan_step count at sc h =
      let z : count - at ≡ suc (count - (at + 1)) = omega arith in
      rw z

  -- `w` is the word at `at`, `r` the answer to it
  module _ {w : ℕ} {r : Result (Unit {0}) Number} (count at : ℕ) (sc : Scan) (h : at < count) (e : w ≡ word_at s at) (q : number_told r ≡ word_refusal n cast sc w) where
    pub scan-refused : {number : Number} → r ≡ Err number → verdict (code number) at ≡ scan s n cast (count - at) at sc
    scan-refused {number} i =
        let k : code number ≡ word_refusal n cast sc (word_at s at) = ap number_told (sym i) ∙ q ∙ ap (word_refusal n cast sc) e in
        let p = code-positive number in
        ap (λ (x : ℕ). verdict x at) k ∙ sym (scan_step count at sc h ∙ and-then-stays (verdict _ at) _ (λ z. absurd (omega (arith, k, z))))

    module _ {x : Unit {0}} (i : r ≡ Ok x) where
      pub scan-next : {pairs : Bool} {next : Scan} → pairs ≡ is_partitionable s → next ≡ scanned pairs sc w
          → scan s n cast (count - (at + 1)) (at + 1) next ≡ scan s n cast (count - at) at sc
      scan-next p k =
          ap (scan s n cast (count - (at + 1)) (at + 1)) (k ∙ ap₂ (λ (b : Bool) (x : ℕ). scanned b sc x) p e)
          ∙ sym (scan_step count at sc h ∙ and-then-next (verdict _ at) _ (sym (ap (word_refusal n cast sc) e) ∙ sym q ∙ ap number_told i))

      pub rounds-next : {next : Scan} (pairs : Bool) → next ≡ scanned pairs sc w → sc.rounds ≤ most_rounds → next.rounds ≤ most_rounds
      rounds-next pairs k l = rw k (taken-rounds pairs n cast sc w (sym q ∙ ap number_told i) l)

-- ---- the cast, which the code has found at its place

module _ {at : ℕ} (s : List ℕ) (n : ℕ) (a : at ≡ cast_at s) where
  -- there is a word at it
  pub cast-there : ltb at (length s / 4) ≡ ltb (cast_at s) (length s / 4)
  cast-there = ap (λ (x : ℕ). ltb x (length s / 4)) a

  -- it is the cast
  pub cast-asked : {w : ℕ} {b : Bool} {v : Verdict} → w ≡ word_at s at → b ≡ cast_ok n w → v ≡ outcome (single b 12 at)
      → v ≡ outcome (single (cast_ok n (word_at s (cast_at s))) 12 (cast_at s))
  cast-asked e o q = rw (o, e, a) at q

  -- the words after it
  pub cast-then : {w : ℕ} {v : Verdict} → w ≡ word_at s at → v ≡ scan s n (cast_in w) (length s / 4 - (at + 1)) (at + 1) unscanned
      → v ≡ scan s n (cast_in (word_at s (cast_at s))) (length s / 4 - events_at s) (events_at s) unscanned
  cast-then e q = rw (e, a) at q

-- ---- a script that is too long

pub script-long : {v : Verdict} (s : List ℕ) → most_bytes < length s → v ≡ verdict 16 0 → v ≡ check_script s
unfolding check_script
script-long s h a =
    a ∙ and-then-stops _ (sym (single-refused (leb (length s) most_bytes) 16 0 (lt-leb (length s) most_bytes h))) (λ y. sixteen y)
  where
    sixteen : ◌≡◌ {A = ℕ} 16 0 → ⊥
    sixteen y = omega arith
