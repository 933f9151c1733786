-- What a check answers as code has it, a result, and as the tests have it, a verdict.
use Rattle.std.specs.Prelude.{ℕ, Result, Ok, Err}
use Rattle.words.specs.Verdict.{Verdict, verdict, accepted}
use Rattle.words.specs.declared.Number.{Number}
use Rattle.words.specs.declared.Number.TheVariants.{Bytes, Head, Length, Limit, Module, Mark, Own, Image, Lent, Controller, Script, Follower, Unplayed, Rounds, Long, Offset, Register, Absent, Barred, Depth, Fading, Frame, Pending}
use Rattle.words.specs.declared.Refusal.{Refusal}

-- the number itself
abbrev pub code : Number → ℕ
code Bytes = 1
code Head = 2
code Length = 3
code Limit = 4
code Module = 5
code Mark = 6
code Own = 7
code Image = 8
code Lent = 9
code Controller = 10
code Script = 12
code Follower = 13
code Unplayed = 14
code Rounds = 15
code Long = 16
code Offset = 17
code Register = 18
code Absent = 19
code Barred = 20
code Depth = 21
code Fading = 22
code Frame = 23
code Pending = 24

-- a refusal by a number, at the word of an index
abbrev pub refused : Number → ℕ → Refusal
refused number index = record { number = number; index = index }

-- a refusal as a verdict
abbrev pub refusal_told : Refusal → Verdict
refusal_told e = verdict (code e.number) e.index

-- nothing is refused, or the refusal
abbrev pub told : {A : Type 0} → Result A Refusal → Verdict
told (Ok _) = accepted
told (Err e) = refusal_told e
