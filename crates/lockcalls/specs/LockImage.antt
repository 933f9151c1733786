-- A saved scan lock: 9 big-endian words, a head and one word for each axis. Document 02 leaves its form open; docs/DECISIONS.md says
-- why this one.
--   word 0      bits 20..16 N, 15..0 the view
--   word a      axis a, 1..8: bits 12..8 the holder (0 for none), 7..4 the depth, 1 a move is unfinished, 0 stopping
-- Unnamed bits are 0.
use Rattle.std.specs.Prelude.{ℕ, Result, Ok, Err, ◌+◌, ◌-◌, ◌*◌, ◌/◌, ◌%◌, ◌^◌, Bool, cond, ◌&&◌, List, [], ◌∷◌, eqb, leb, ltb, get_or, length, replicate}
use Rattle.words.specs.Word.{word_at, bytes_of}
use Rattle.words.specs.Bits.{b2n}
use Rattle.words.specs.Table.{updated}
use Rattle.words.specs.Verdict.{Verdict, is_accepted, Test, single, each, first_refusal}
use Rattle.words.specs.Refusal.{code}
use Rattle.words.specs.declared.Refusal.{Refusal}
use Rattle.setup.specs.Check.{whole}
use Rattle.scanlock.specs.Axis.{axis, free}
use Rattle.scanlock.specs.Locks.{locks, blank_locks}
use Rattle.scanlock.specs.SoundLocks.{axis_fits}
use Rattle.scanlock.specs.declared.Axis.{Axis}
use Rattle.scanlock.specs.declared.Locks.{Locks}

-- ---- words

-- the unit of N in word 0: the view stands below it
abbrev pub view_unit : ℕ
view_unit = 2 ^ 16

-- word 0
unfoldable pub lock_head : ℕ → ℕ → ℕ
lock_head n view = n % view_unit * view_unit + view % view_unit

-- the word of an axis
unfoldable pub axis_word : Axis → ℕ
axis_word x = x.holder % 32 * 256 + x.depth % 16 * 16 + b2n x.moving * 2 + b2n x.stopping

-- the axis of a word, whatever its unnamed bits are
unfoldable pub axis_in : ℕ → Axis
axis_in w = axis (w / 256 % 32) (w / 16 % 16) (eqb (w / 2 % 2) 1) (eqb (w % 2) 1)

-- ---- written and read

-- word i of the image, 0..8
unfoldable pub lock_word : Locks → ℕ → ℕ
lock_word st i = cond (eqb i 0) (lock_head st.n st.view) (axis_word (get_or st.axes (i - 1) free))

-- the image: 36 bytes
unfoldable pub lock_image : Locks → List ℕ
lock_image st = bytes_of 9 (lock_word st)

-- the eight axes of an image
unfoldable pub axes_in : List ℕ → List Axis
axes_in s = updated 8 (λ i. axis_in (word_at s (i + 1))) (replicate 8 free)

-- the locks that the words of s hold; whether they are right is checked apart (`check_lock_image`)
unfoldable pub locks_of : List ℕ → Locks
locks_of s = locks (word_at s 0 / view_unit) (word_at s 0 % view_unit) (axes_in s)

-- ---- which images are accepted: those of locks that a history can leave, in their one form

-- N is 2..16, and the view has no bit at N or above
unfoldable pub lock_head_ok : ℕ → Bool
lock_head_ok w = leb 2 (w / view_unit) && leb (w / view_unit) 16 && ltb (w % view_unit) (2 ^ (w / view_unit))

-- a word that is an axis's in its one form, and fits the view
unfoldable pub axis_ok : ℕ → ℕ → Bool
axis_ok view w = eqb (axis_word (axis_in w)) w && axis_fits view (axis_in w)

-- ---- the check

-- 1 empty or not whole words, 2 the head, 3 not 9 words, 8 a word of an axis, each at its word
abbrev pub lock_tests : List ℕ → List Test
lock_tests s =
    single (whole s) 1 0
    ∷ single (lock_head_ok (word_at s 0)) 2 0
    ∷ single (eqb (length s) 36) 3 0
    ∷ each 8 (λ i. axis_ok (word_at s 0 % view_unit) (word_at s (i + 1))) 8 1
    ∷ []

-- the first refusal
unfoldable pub check_lock_image : List ℕ → Verdict
check_lock_image s = first_refusal (lock_tests s)

-- what reading a scan lock answers; where it is refused the locks are blank
pub record LocksRead : Type 0 where
  pub number : ℕ
  pub index : ℕ
  pub locks : Locks

-- what code answers, a result, as such an answer
abbrev pub locks_told : Result Locks Refusal → LocksRead
locks_told (Ok st) = record { number = 0; index = 0; locks = st }
locks_told (Err e) = record { number = code e.number; index = e.index; locks = blank_locks }

-- reading: what is held where an image is refused is blank
unfoldable pub read_locks : List ℕ → LocksRead
read_locks s =
    let v = check_lock_image s in
    record { number = v.number; index = v.index; locks = cond (is_accepted v) (locks_of s) blank_locks }
