-- What is answered of a setup, by what the checks inside have answered.
use Rattle.std.proofs.Common.{◌≡◌, Result, Ok, Err, [], ◌∷◌, ℕ, Bool, true, eqb, List, length, take, sym, refl, ap, ◌∙◌, ap₂, eq-eqb, ne_eqb}
use Rattle.words.specs.Word.{word_at}
use Rattle.words.specs.Verdict.{accepted, is_accepted, single, and_then, outcome, then_tests, first_refusal}
use Rattle.words.specs.Verdict.{Verdict}
use Rattle.words.proofs.Truth.{cond-true, cond-false}
use Rattle.words.proofs.VerdictLaws.{and-then-next, and-then-assoc, and-then-stops, and-then-goes, single-ok, tests-join}
use Rattle.words.proofs.SearchLaws.{two-after}
use Rattle.words.specs.Refusal.{refusal_told, told}
use Rattle.words.specs.declared.Refusal.{Refusal}
use Rattle.words.proofs.RefusalLaws.{told-ok, told-none, told-err, told-on, then-stops, then-goes, first-stops, first-goes, first-last}
use Rattle.setup.specs.Layout.{front_words, setup_length}
use Rattle.setup.specs.Limits.{fades}
use Rattle.setup.specs.Setup.{size_in, fades_in, front_in, front_of, setup_of, setup_bytes, blank_setup}
use Rattle.setup.specs.Check.{whole, head_ok, limit_tests, module_tests, length_in, check_head, check_words, check_setup, check_front, setup_part, room_verdict, setup_verdict, read_setup, read_told, write_verdict, written_setup}
use Rattle.setup.specs.declared.Setup.{Setup}
use Rattle.setup.proofs.SetupCheckLaws.{HeadFits, BytesFit, FrontFits, head-pass, setup-pass, front-pass}
use Rattle.setup.proofs.SetupWords.{Room, room-pass}
use Rattle.setup.proofs.SetupLaws.{SetupFits, verdict-fits}

-- ---- numbers 1 and 2, and 3 after them

head-then : (s : List ℕ) (fits : Bool) → check_head s fits ≡ and_then (check_head s true) (outcome (single fits 3 0))
unfolding check_head then_tests
head-then s fits =
    let v = and_then (and_then accepted (outcome (single (whole s) 1 0))) (outcome (single (head_ok (word_at s 0)) 2 0)) in
    let t = outcome (single fits 3 0) in
    sym
    (ap (λ (x : Verdict). and_then (and_then v x) t) (single-ok true 3 0 refl)
    ∙ and-then-assoc v accepted t
    ∙ ap (and_then v) (and-then-next accepted t refl))

-- v is the answer of 1 and 2
module _ {v : Verdict} (s : List ℕ) (e : v ≡ check_head s true) where
  pub head-fits : v.number ≡ 0 → HeadFits s
  head-fits z = (head-pass s true (ap (λ (x : Verdict). x.number) (sym e) ∙ z)).0

  pub head-stays : (fits : Bool) (next : Verdict) → (v.number ≡ 0 → ⊥) → v ≡ and_then (check_head s fits) next
  head-stays fits next f = and-then-stops next (and-then-stops _ e f ∙ sym (head-then s fits)) f

  -- t is the answer of 3
  pub head-length : (fits : Bool) {t : Verdict} → v.number ≡ 0 → t ≡ outcome (single fits 3 0) → t ≡ check_head s fits
  head-length fits z h = and-then-goes _ e z h ∙ sym (head-then s fits)

-- ---- by whether the setup fades, and by the number of words that follows from it

module _ {fading : Bool} {front : ℕ} (s : List ℕ) (form : fading ≡ fades_in (word_at s)) (at : front ≡ front_words fading) where
  pub length-by : {n k : ℕ} → n ≡ size_in (word_at s 0) → k ≡ setup_length front n → k ≡ length_in s
  length-by h k = k ∙ ap₂ setup_length (at ∙ ap front_words form) h

  limits-by : {v : Verdict} → v ≡ first_refusal (limit_tests fading (word_at s)) → v ≡ first_refusal (limit_tests (fades_in (word_at s)) (word_at s))
  limits-by h = h ∙ ap (λ (x : Bool). first_refusal (limit_tests x (word_at s))) form

  modules-by : {v : Verdict} (n number : ℕ) → v ≡ outcome (module_tests (word_at s) front n number) → v ≡ outcome (module_tests (word_at s) (front_in (word_at s)) n number)
  modules-by n number h = h ∙ ap (λ (k : ℕ). outcome (module_tests (word_at s) k n number)) (at ∙ ap front_words form)

  -- the answers one after the other, each given the one before it
  pub words-by : {v₀ v₁ v₂ : Verdict} (n : ℕ) → v₀ ≡ first_refusal (limit_tests fading (word_at s))
      → v₁ ≡ and_then v₀ (outcome (module_tests (word_at s) front n 5)) → v₂ ≡ and_then v₁ (outcome (module_tests (word_at s) front n 6)) → v₂ ≡ check_words s n
  unfolding check_words
  words-by {v₀} {v₁} n a b c =
      let f : front ≡ front_in (word_at s) = at ∙ ap front_words form in
      two-after (limit_tests (fades_in (word_at s)) (word_at s)) _ _ (limits-by a)
      (b ∙ ap (λ (k : ℕ). and_then v₀ (outcome (module_tests (word_at s) k n 5))) f) (c ∙ ap (λ (k : ℕ). and_then v₁ (outcome (module_tests (word_at s) k n 6))) f)

  words-split : (n : ℕ)
      → check_words s n
      ≡ and_then (first_refusal (limit_tests (fades_in (word_at s)) (word_at s)))
      (first_refusal (module_tests (word_at s) (front_in (word_at s)) n 5 ∷ module_tests (word_at s) (front_in (word_at s)) n 6 ∷ []))
  unfolding check_words
  words-split n = tests-join (limit_tests (fades_in (word_at s)) (word_at s)) _ _

  -- l, m and k are the answers of the limits, of number 5 and of number 6
  module _ {l : Result (Unit {0}) Refusal} (n : ℕ) (hl : told l ≡ first_refusal (limit_tests fading (word_at s))) where
    pub words-limits : {e : Refusal} → l ≡ Err e → refusal_told e ≡ check_words s n
    words-limits i = then-stops _ (limits-by hl) i ∙ sym (words-split n)

    module _ {m : Result (Unit {0}) Refusal} {x : Unit {0}} (i : l ≡ Ok x) (hm : told m ≡ outcome (module_tests (word_at s) front n 5)) where
      pub words-modules : {e : Refusal} → m ≡ Err e → refusal_told e ≡ check_words s n
      words-modules j = then-goes _ (limits-by hl) i (first-stops _ _ (modules-by n 5 hm) j) ∙ sym (words-split n)

      pub words-marks : {y : Unit {0}} {k : Verdict} → m ≡ Ok y → k ≡ outcome (module_tests (word_at s) front n 6) → k ≡ check_words s n
      words-marks j hk = then-goes _ (limits-by hl) i (first-goes _ _ (modules-by n 5 hm) j (first-last _ (modules-by n 6 hk))) ∙ sym (words-split n)

pub struct-length : {fading : Bool} {front k : ℕ} (s : Setup) → fading ≡ fades s.limits → front ≡ front_words fading → k ≡ setup_length front s.n
    → k ≡ setup_length (front_of s) s.n
struct-length s form at k = k ∙ ap (λ (x : ℕ). setup_length x s.n) (at ∙ ap front_words form)

-- ---- v is the answer of the whole check, setup what is read

pub bytes_fit : {v : Verdict} (s : List ℕ) → v ≡ check_setup s → v.number ≡ 0 → BytesFit s
bytes_fit s e z = setup-pass s (ap (λ (x : Verdict). x.number) (sym e) ∙ z)

module _ {A : Type 0} {r : Result A Refusal} (s : List ℕ) (h : told r ≡ check_setup s) where
  pub read-refused : {e : Refusal} → r ≡ Err e → read_told (Err e) ≡ read_setup s
  unfolding read_setup
  read-refused {e} i =
      let t : refusal_told e ≡ check_setup s = told-on i ∙ h in
      ap₂ (λ (x : Verdict) (y : Setup). record { number = x.number; index = x.index; setup = y }) t
      (sym (cond-false (setup_of s) blank_setup (ap is_accepted (sym h) ∙ ne_eqb (told r).number 0 (told-err i))))

  pub read-accepted : {x : A} {setup : Setup} → r ≡ Ok x → setup ≡ setup_of s → read_told (Ok setup) ≡ read_setup s
  unfolding read_setup
  read-accepted i e =
      ap₂ (λ (x : Verdict) (y : Setup). record { number = x.number; index = x.index; setup = y }) (sym (told-ok i) ∙ h)
      (e ∙ sym (cond-true (setup_of s) blank_setup (ap is_accepted (sym h) ∙ eq-eqb (told r).number 0 (told-none i))))

-- ---- v is the answer of the check at the front of a script

module _ {v : Verdict} (s : List ℕ) (e : v ≡ check_front s) where
  pub front_fits : v.number ≡ 0 → FrontFits s
  front_fits z = front-pass s (ap (λ (x : Verdict). x.number) (sym e) ∙ z)

  pub part-refused : (v.number ≡ 0 → ⊥) → take 0 s ≡ setup_part s
  unfolding setup_part
  part-refused f =
      ap (λ (k : ℕ). take k s) (sym (cond-false (length_in s) 0 (ap is_accepted (sym e) ∙ ne_eqb v.number 0 f)))

  pub part-accepted : {k : ℕ} → k ≡ length_in s → v.number ≡ 0 → take k s ≡ setup_part s
  unfolding setup_part
  part-accepted h z =
      ap (λ (x : ℕ). take x s) (h ∙ sym (cond-true (length_in s) 0 (ap is_accepted (sym e) ∙ eq-eqb v.number 0 z)))

-- ---- v says whether the words of a struct have room for it

module _ {v : Verdict} (s : Setup) (e : v ≡ room_verdict s) where
  pub room-none : v.number ≡ 0 → (room_verdict s).number ≡ 0
  room-none z = ap (λ (x : Verdict). x.number) (sym e) ∙ z

  pub room-is : v.number ≡ 0 → Room s
  room-is z = room-pass s (room-none z)

  pub room-stays : (v.number ≡ 0 → ⊥) → v ≡ setup_verdict s
  unfolding setup_verdict
  room-stays f = and-then-stops _ e f

  pub words-answer : {r : Verdict} → v.number ≡ 0 → r ≡ check_words (setup_bytes s) s.n → r ≡ setup_verdict s
  unfolding setup_verdict
  words-answer z h = and-then-goes _ e z h

-- ---- v is the answer for the struct

pub struct-verdict : {v : Verdict} (s : Setup) → v ≡ setup_verdict s → v.number ≡ 0 → (setup_verdict s).number ≡ 0
struct-verdict s e z = ap (λ (x : Verdict). x.number) (sym e) ∙ z

pub struct-fits : {v : Verdict} (s : Setup) → v ≡ setup_verdict s → v.number ≡ 0 → SetupFits s
struct-fits s e z = verdict-fits s (struct-verdict s e z)

module _ {v : Verdict} (s : Setup) (out : List ℕ) (e : v ≡ setup_verdict s) where
  stays : {r : Verdict} → r ≡ write_verdict s out → (r.number ≡ 0 → ⊥) → out ≡ written_setup s out
  unfolding written_setup
  stays {r} h f = sym (cond-false (setup_bytes s) out (ap is_accepted (sym h) ∙ ne_eqb r.number 0 f))

  pub write-refused : (v.number ≡ 0 → ⊥) → (v ≡ write_verdict s out) × (out ≡ written_setup s out)
  unfolding write_verdict
  write-refused f =
      let h : v ≡ write_verdict s out = and-then-stops _ e f in
      (h, stays h f)

  -- r is the answer of 9
  pub write-short : {r : Verdict} → r ≡ outcome (single (eqb (length out) (setup_length (front_of s) s.n)) 9 0) → v.number ≡ 0 → (r.number ≡ 0 → ⊥)
      → (r ≡ write_verdict s out) × (out ≡ written_setup s out)
  unfolding write_verdict
  write-short {r} q z f =
      let h : r ≡ write_verdict s out = and-then-goes _ e z q in
      (h, stays h f)

  pub write_done : {r : Verdict} {o : List ℕ} → r ≡ accepted → o ≡ setup_bytes s → v.number ≡ 0 → length out ≡ setup_length (front_of s) s.n
      → (r ≡ write_verdict s out) × (o ≡ written_setup s out)
  unfolding write_verdict written_setup
  write_done {r} {o} q b z l =
      let h : r ≡ write_verdict s out =
      and-then-goes _ e z (q ∙ sym (single-ok (eqb (length out) (setup_length (front_of s) s.n)) 9 0 (eq-eqb _ _ l)))
      in
      (h, b ∙ sym (cond-true (setup_bytes s) out (ap is_accepted (sym h ∙ q))))
