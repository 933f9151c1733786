-- The front of an accepted run script: its setup and its cast.
use Prim.Native.Nat.{ℕ, ◌+◌, ◌*◌, ◌%◌, ◌≤◌}
use Rattle.std.proofs.Common.{Result, Ok, Err}
use mathlib.Core.Path.{◌≡◌, refl, sym, ap, ◌∙◌}
use mathlib.Core.List.{List}
use native.Mathlib.Omega.{arith}
use lib.ListN.{length, take}
use borrow.Author.Tests.{eq-eqb, le-leb}
use Rattle.words.specs.Word.{word_at}
use Rattle.words.proofs.Truth.{cond-true}
use Rattle.words.specs.Verdict.{accepted, is_accepted, and_then}
use Rattle.words.proofs.VerdictLaws.{and-then-next}
use Rattle.setup.specs.Setup.{size_in, setup_of}
use Rattle.setup.specs.Check.{SetupRead, length_in, check_front, check_words, setup_part, read_setup, read_told, setup_verdict}
use Rattle.setup.specs.declared.Setup.{Setup}
use Rattle.words.specs.Verdict.{Verdict}
use Rattle.words.specs.declared.Refusal.{Refusal}
use Rattle.words.proofs.RefusalLaws.{code-positive}
use Rattle.setup.proofs.SetupCheckLaws.{FrontFits, head_ok_lem, words-ok}
use Rattle.setup.proofs.SetupLaws.{SetupFits, fits-verdict}
use Rattle.setup.proofs.FrontLaws.{setup-fits, front-accepted, front-setup}
use Rattle.script.specs.Words.{cast_at}
use Rattle.script.specs.Check.{check_script}
use Rattle.script.proofs.CastLaws.{script-pass}

module _ (s : List ℕ) (e : (check_script s).number ≡ 0) where
  pub front : FrontFits s
  front = (script-pass s e).front

  pub script-fits : SetupFits (setup_of s)
  script-fits = setup-fits s front.front front.words front.room

  pub accepts : (setup_verdict (setup_of s)).number ≡ 0
  accepts = ap (λ (v : Verdict). v.number) (fits-verdict (setup_of s) script-fits)

  front-ok : check_front s ≡ accepted
  unfolding check_front
  front-ok =
      ap (λ (v : Verdict). and_then v (check_words s (size_in (word_at s 0)))) (head_ok_lem s _ front.front (le-leb _ _ front.room))
      ∙ and-then-next accepted _ refl
      ∙ words-ok s (size_in (word_at s 0)) front.words

  part-is : setup_part s ≡ take (length_in s) s
  unfolding setup_part
  part-is = ap (λ (k : ℕ). take k s) (cond-true _ _ (ap is_accepted front-ok))

  pub setup-read : (read_setup (setup_part s)).setup ≡ setup_of s
  unfolding read_setup
  setup-read =
      ap (λ (x : List ℕ). (read_setup x).setup) part-is
      ∙ cond-true _ _ (eq-eqb _ 0 (front-accepted s front.front front.words front.room))
      ∙ front-setup s front.front front.words front.room

  read-number : (read_setup (setup_part s)).number ≡ 0
  unfolding read_setup
  read-number =
      ap (λ (x : List ℕ). (read_setup x).number) part-is ∙ front-accepted s front.front front.words front.room

  -- reading it refuses nothing, and gives the setup
  module _ {r : Result Setup Refusal} (h : read_told r ≡ read_setup (setup_part s)) where
    pub read-goes : {e : Refusal} → r ≡ Err e → ⊥
    read-goes {e} i =
        let z = sym (ap (λ (x : Result Setup Refusal). (read_told x).number) i) ∙ ap (λ (x : SetupRead). x.number) h ∙ read-number in
        let p = code-positive e.number in
        omega (arith, p, z)

    pub read-gives : {x : Setup} → r ≡ Ok x → x ≡ (read_setup (setup_part s)).setup
    read-gives i = sym (ap (λ (x : Result Setup Refusal). (read_told x).setup) i) ∙ ap (λ (x : SetupRead). x.setup) h

  -- it is whole words, N is at most 16, and the cast is there
  pub whole_words : (length s % 4 ≡ 0) × (4 ≤ length s)
  whole_words = (front.front.whole, front.front.room)

  few : size_in (word_at s 0) ≤ 16
  few = front.front.most

  pub cast-there : cast_at s * 4 + 4 ≤ length s
  cast-there = omega (arith, (script-pass s e).cast)

  pub few-read : (read_setup (setup_part s)).setup.n ≤ 16
  unfolding setup_of
  few-read = rw (ap (λ (x : Setup). x.n) setup-read) few
