-- What a call answers as C has it, by what it gives in code: the value of an accepted call, or a refusal.
use Rattle.std.specs.Prelude.{ℕ, Result, Ok, Err}
use Rattle.words.specs.Verdict.{Verdict}
use Rattle.words.specs.Refusal.{refusal_told}
use Rattle.words.specs.declared.Refusal.{Refusal}
use Rattle.rules.specs.Hearing.{Reception, cause_in, heard_row}
use Rattle.calls.specs.declared.Answer.{Answer}
use Rattle.calls.specs.declared.WordAnswer.{WordAnswer}
use Rattle.calls.specs.declared.CauseAnswer.{CauseAnswer}

-- a verdict, with health 0
abbrev pub answer_of : Verdict → Answer
answer_of v = record { number = v.number; index = v.index; health = 0 }

-- the health vector of an accepted step
abbrev pub answer_told : Result ℕ Refusal → Answer
answer_told (Ok health) = record { number = 0; index = 0; health = health }
answer_told (Err e) = answer_of (refusal_told e)

-- a verdict, with word 0
abbrev pub word_of : Verdict → WordAnswer
word_of v = record { number = v.number; index = v.index; word = 0 }

-- a word
abbrev pub word_told : Result ℕ Refusal → WordAnswer
word_told (Ok word) = record { number = 0; index = 0; word = word }
word_told (Err e) = word_of (refusal_told e)

-- a verdict, with cause and row 0
abbrev pub unread : Verdict → CauseAnswer
unread v = record { number = v.number; index = v.index; cause = 0; row = 0 }

-- what reading one word has answered
abbrev pub cause_told : Result Reception Refusal → CauseAnswer
cause_told (Ok r) = record { number = 0; index = 0; cause = cause_in r; row = heard_row r }
cause_told (Err e) = unread (refusal_told e)
