-- Which view is adopted from the view words of one round: "For each module a value carried by more than half of all N is adopted; if any module has
-- none, the receiver takes itself out". (document 02, E11)
use Rattle.std.specs.Prelude.{ℕ, ◌*◌, Bool, true, false, not, ◌&&◌, ◌||◌, List, get_or, eqb, ltb}
use Rattle.std.specs.Bool.{beq}
use Rattle.words.specs.Bits.{bit, pack}
use Rattle.words.specs.Count.{count, all}

-- the view word of a sender is there; a missing one is 0
abbrev pub is_there : ℕ → Bool
is_there w = not (eqb w 0)

-- how many senders carry this value of module j + 1; one whose view word is missing carries neither
unfoldable pub carriers : ℕ → List ℕ → ℕ → Bool → ℕ
carriers n views j value = count n (λ l. is_there (get_or views l 0) && beq (bit (get_or views l 0) j) value)

-- "more than half of all N": of all n, heard or not, in the view or not ("E4 does not reduce this N")
abbrev pub most_of : ℕ → ℕ → Bool
most_of n votes = ltb n (2 * votes)

-- every module has a value that is adopted
unfoldable pub adoptable : ℕ → List ℕ → Bool
adoptable n views = all n (λ j. most_of n (carriers n views j true) || most_of n (carriers n views j false))

-- the view of these values
unfoldable pub adopted_from : ℕ → List ℕ → ℕ
adopted_from n views = pack n (λ j. most_of n (carriers n views j true))
