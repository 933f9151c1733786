-- All that the bench writes: the line of a refusal, or the lines of every round; the parts in which it is written, and how much is read.
-- (document 01, "What runs" and "Bench sheet") That the parts make up the whole, and that enough is read, is proved in proofs/OutputLaws.antt.
use Rattle.std.specs.Prelude.{ℕ, zero, suc, ◌+◌, ◌*◌, ◌/◌, ◌≡◌, cond, List, [], ◌++◌, take}
use Rattle.words.specs.Verdict.{is_accepted}
use Rattle.script.specs.Check.{check_script}
use Rattle.script.specs.Rounds.{rounds_of}
use Rattle.text.specs.Lines.{refused_line}
use Rattle.backplane.specs.Run.{later, run_at, printed}
use Rattle.backplane.specs.declared.Run.{Run}

-- the lines of rounds 1 to k
unfoldable pub lines_to : List ℕ → ℕ → List ℕ
lines_to s zero = []
lines_to s (suc k) = lines_to s k ++ printed (run_at s (suc k)).backplane

-- of an accepted script the lines of all its rounds, of a refused one the line of the refusal
unfoldable pub output_of : List ℕ → List ℕ
output_of s =
    let v = check_script s in
    cond (is_accepted v) (lines_to s (rounds_of s)) (refused_line v.number v.index)

-- ---- in parts of 64 rounds

-- the lines of the round that a run has come to; a script that is over has none
unfoldable pub round_lines : Run → List ℕ
round_lines r = cond r.cursor.over [] (printed r.backplane)

-- the lines of the next m rounds of a run
unfoldable pub next_lines : List ℕ → Run → ℕ → List ℕ
next_lines s r zero = []
next_lines s r (suc m) = next_lines s r m ++ round_lines (later s r (suc m))

-- part k, from 0 on: the lines of rounds 64k + 1 to 64k + 64, as far as the script has them; of a refused script the line of the refusal
unfoldable pub part_of : List ℕ → ℕ → List ℕ
part_of s k =
    let v = check_script s in
    cond (is_accepted v) (next_lines s (run_at s (k * 64)) 64) (refused_line v.number v.index)

-- how many parts there are; the last is empty where 64 divides the rounds
unfoldable pub parts_of : List ℕ → ℕ
parts_of s = cond (is_accepted (check_script s)) (rounds_of s / 64 + 1) 1

-- the first k parts one after the other
unfoldable pub parts_to : List ℕ → ℕ → List ℕ
parts_to s zero = []
parts_to s (suc k) = parts_to s k ++ part_of s k

-- all parts one after the other are the whole
abbrev pub PartsWhole : Type 0
PartsWhole = (s : List ℕ) → parts_to s (parts_of s) ≡ output_of s

-- ---- how much is read

-- how many bytes of its input the bench reads at most: one more than a script may have
abbrev pub read_most : ℕ
read_most = 65537

-- what comes after them changes nothing: a longer input is refused as it is, by 16
abbrev pub ReadEnough : Type 0
ReadEnough = (s : List ℕ) → output_of (take read_most s) ≡ output_of s
