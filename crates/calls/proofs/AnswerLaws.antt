-- What C is answered where a call is refused: the number and the index are those of the check inside that has refused.
use Rattle.std.proofs.Common.{◌≡◌, ℕ, Bool, true, false, Result, Err, refl, ap, ◌∙◌}
use Rattle.words.specs.Verdict.{Verdict, verdict, single, outcome}
use Rattle.words.specs.Refusal.{refusal_told, told}
use Rattle.words.specs.declared.Refusal.{Refusal}
use Rattle.words.proofs.VerdictLaws.{single-ok, single-refused}
use Rattle.words.proofs.RefusalLaws.{told-err, told-on}
use Rattle.rules.specs.Hearing.{Reception}
use Rattle.calls.specs.Answers.{answer_of, answer_told, word_of, word_told, unread, cause_told}

-- a word that is refused is not right, and the refusal is by its number, at its place
pub wrong : {A : Type 0} {r : Result A Refusal} {e : Refusal} {ok : Bool} (number place : ℕ) → told r ≡ outcome (single ok number place) → r ≡ Err e
    → (ok ≡ false) × (refusal_told e ≡ verdict number place)
wrong {ok = true} number place h i = absurd (told-err i (ap (λ (v : Verdict). v.number) (h ∙ single-ok true number place refl)))
wrong {ok = false} number place h i = (refl, told-on i ∙ h ∙ single-refused false number place refl)

-- a refusal that is handed on
module _ {e : Refusal} {v : Verdict} (h : refusal_told e ≡ v) where
  pub done-by : {A : Type 0} {x : Result A Refusal} → x ≡ Err e → answer_of (told x) ≡ answer_of v
  done-by q = ap (λ x. answer_of (told x)) q ∙ ap answer_of h

  pub answer-by : {x : Result ℕ Refusal} → x ≡ Err e → answer_told x ≡ answer_of v
  answer-by q = ap answer_told q ∙ ap answer_of h

  pub word-by : {x : Result ℕ Refusal} → x ≡ Err e → word_told x ≡ word_of v
  word-by q = ap word_told q ∙ ap word_of h

  pub cause-by : {x : Result Reception Refusal} → x ≡ Err e → cause_told x ≡ unread v
  cause-by q = ap cause_told q ∙ ap unread h
