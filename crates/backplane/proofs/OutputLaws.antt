-- The parts in which the bench writes make up the whole, a part is over when the script is, and the bench reads enough.
use Prim.Native.Nat.{ℕ, zero, suc, ◌+◌, ◌-◌, ◌*◌, ◌/◌, ◌≤◌, ◌<◌}
use mathlib.Core.Path.{◌≡◌, refl, sym, ap, ap₂, ◌∙◌, subst}
use mathlib.Core.Bool.{true, false}
use mathlib.Core.Logic.{⊎_elim}
use mathlib.Core.List.{List, [], ◌++◌, append-nil, append_assoc}
use native.Mathlib.Omega.{arith}
use native.Mathlib.Nat.{le_refl}
use native.Mathlib.Numerals.{add-one}
use lib.Dec.{leb, ltb}
use lib.ListN.{length, take}
use lib.Seq.{take_all, length-take-le}
use borrow.Author.Tests.{eqb-true, eq-eqb, leb-true, leb-false, ltb-true, ltb-false, lt-ltb, le-ltb}
use Rattle.words.proofs.Truth.{which, cond-true, cond-false}
use Rattle.words.specs.Verdict.{verdict, is_accepted}
use Rattle.script.proofs.ScanLaws.{script-long}
use Rattle.script.specs.Check.{check_script}
use Rattle.script.specs.Rounds.{rounds_of}
use Rattle.script.specs.declared.Cursor.{Cursor}
use Rattle.script.proofs.CastLaws.{plays-all}
use Rattle.text.specs.Lines.{refused_line}
use Rattle.text.specs.Wrote.{Wrote}
use Rattle.text.proofs.WroteLaws.{wrote_none, wrote-front, wrote_then}
use Rattle.backplane.specs.Play.{Sound}
use Rattle.backplane.specs.Run.{begun, next_of, later, run_at, printed}
use Rattle.backplane.specs.Output.{lines_to, output_of, round_lines, next_lines, part_of, parts_of, parts_to, PartsWhole, read_most, ReadEnough}
use Rattle.backplane.specs.declared.Run.{Run}
use Rattle.backplane.proofs.SoundRunLaws.{begun-sound, next-sound}
use Rattle.backplane.proofs.Session.{run-cursor}

-- ---- a run m rounds later

later-add : (s : List ℕ) (r : Run) (a b : ℕ) → later s (later s r a) b ≡ later s r (a + b)
unfolding later
later-add s r a zero =
    let e : a ≡ a + 0 = omega arith in
    ap (later s r) e
later-add s r a (suc b) =
    let e : suc (a + b) ≡ a + suc b = omega arith in
    ap (next_of s) (later-add s r a b) ∙ ap (later s r) e

pub later-sound : (s : List ℕ) (r : Run) (m : ℕ) → Sound r.backplane → Sound (later s r m).backplane
unfolding later
later-sound s r zero h = h
later-sound s r (suc m) h = next-sound s (later s r m) (later-sound s r m h)

-- one round more
pub lines_more : (s : List ℕ) (r : Run) (m : ℕ) → next_lines s r (m + 1) ≡ next_lines s r m ++ round_lines (later s r (m + 1))
unfolding next_lines
lines_more s r m = ap (next_lines s r) (add-one m) ∙ ap (λ (x : ℕ). next_lines s r m ++ round_lines (later s r x)) (sym (add-one m))

pub later_more : (s : List ℕ) (r : Run) (m : ℕ) → next_of s (later s r m) ≡ later s r (m + 1)
unfolding later
later_more s r m = ap (later s r) (sym (add-one m))

-- ---- the lines of a round, written after those before it

pub wrote-over : {o : List ℕ} {p : ℕ} (r : Run) → p ≤ length o → r.cursor.over ≡ true → Wrote o p (round_lines r) o p
unfolding round_lines
wrote-over {o} {p} r h t = subst (λ (x : List ℕ). Wrote o p x o p) (sym (cond-true [] (printed r.backplane) t)) (wrote_none o p h)

pub wrote-round : {o b : List ℕ} {p q : ℕ} (r : Run) → r.cursor.over ≡ false → Wrote o p (printed r.backplane) b q → Wrote o p (round_lines r) b q
unfolding round_lines
wrote-round {o} {b} {p} {q} r f = subst (λ (x : List ℕ). Wrote o p x b q) (sym (cond-false [] (printed r.backplane) f))

pub wrote-more : {o a b : List ℕ} {p q : ℕ} (s : List ℕ) (r : Run) (m : ℕ) {r' : Run} → r' ≡ later s r (m + 1)
    → Wrote o 0 (next_lines s r m) a p → Wrote a p (round_lines r') b q → Wrote o 0 (next_lines s r (m + 1)) b q
wrote-more {o} {a} {b} {p} {q} s r m {r'} e w v =
    subst (λ (x : List ℕ). Wrote o 0 x b q) (ap (λ (x : Run). next_lines s r m ++ round_lines x) e ∙ sym (lines_more s r m)) (wrote_then w v)

-- ---- the parts

lines-add : (s : List ℕ) (r : Run) (a b : ℕ) → next_lines s r (a + b) ≡ next_lines s r a ++ next_lines s (later s r a) b
unfolding next_lines
lines-add s r a zero =
    let e : a + 0 ≡ a = omega arith in
    ap (next_lines s r) e ∙ sym (append-nil (next_lines s r a))
lines-add s r a (suc b) =
    let e : a + suc b ≡ suc (a + b) = omega arith in
    let f : suc (a + b) ≡ a + suc b = omega arith in
    ap (next_lines s r) e
    ∙ ap₂ (λ (x y : List ℕ). x ++ y) (lines-add s r a b) (ap round_lines (ap (later s r) f ∙ sym (later-add s r a (suc b))))
    ∙ append_assoc (next_lines s r a) (next_lines s (later s r a) b) (round_lines (later s (later s r a) (suc b)))

-- ---- an accepted script

module _ (s : List ℕ) (e : (check_script s).number ≡ 0) where
  accepts : is_accepted (check_script s) ≡ true
  accepts = eq-eqb (check_script s).number 0 e

  abbrev rounds : ℕ
  rounds = rounds_of s

  -- the script is over exactly after its rounds
  pub over-is : (k : ℕ) → (run_at s k).cursor.over ≡ ltb rounds k
  over-is k =
      ap (λ (c : Cursor). c.over) (run-cursor s k)
      ∙ ⊎_elim
      (λ (t : ltb rounds k ≡ true). (plays-all s e).over k (ltb-true rounds k t) ∙ sym t)
      (λ (f : ltb rounds k ≡ false). (plays-all s e).playing k (ltb-false rounds k f) ∙ sym f)
      (which (ltb rounds k))

  -- the lines of the rounds that the script has, and none after them
  lines-to : (k : ℕ) → k ≤ rounds → next_lines s (begun s) k ≡ lines_to s k
  unfolding next_lines lines_to round_lines
  lines-to zero h = refl
  lines-to (suc k) h =
      ap₂ (λ (x y : List ℕ). x ++ y) (lines-to k (omega arith)) (cond-false [] (printed (run_at s (suc k)).backplane) (over-is (suc k) ∙ le-ltb rounds (suc k) h))

  lines-past : (d : ℕ) → next_lines s (begun s) (rounds + d) ≡ next_lines s (begun s) rounds
  unfolding next_lines round_lines
  lines-past zero =
      let q : rounds + 0 ≡ rounds = omega arith in
      ap (next_lines s (begun s)) q
  lines-past (suc d) =
      let q : rounds + suc d ≡ suc (rounds + d) = omega arith in
      ap (next_lines s (begun s)) q
      ∙ ap₂ (λ (x y : List ℕ). x ++ y) (lines-past d) (cond-true [] (printed (run_at s (suc (rounds + d))).backplane) (over-is (suc (rounds + d)) ∙ lt-ltb rounds (suc (rounds + d)) (omega arith)))
      ∙ append-nil (next_lines s (begun s) rounds)

  part-is : (k : ℕ) → part_of s k ≡ next_lines s (run_at s (k * 64)) 64
  unfolding part_of
  part-is k = cond-true _ _ accepts

  parts-lines : (k : ℕ) → parts_to s k ≡ next_lines s (begun s) (k * 64)
  unfolding parts_to next_lines
  parts-lines zero = refl
  parts-lines (suc k) =
      let q : k * 64 + 64 ≡ suc k * 64 = omega arith in
      ap₂ (λ (x y : List ℕ). x ++ y) (parts-lines k) (part-is k)
      ∙ sym (lines-add s (begun s) (k * 64) 64)
      ∙ ap (next_lines s (begun s)) q

  parts_are : parts_of s ≡ rounds / 64 + 1
  unfolding parts_of
  parts_are = cond-true _ _ accepts

  -- the first part at which the script is over is the one after the last
  pub parts-end : (k : ℕ) → rounds < k * 64 → k * 64 ≤ rounds + 64 → k ≡ parts_of s
  parts-end k l m = let q : k ≡ rounds / 64 + 1 = omega arith in q ∙ sym parts_are

  -- what a turn writes, and the run after it
  pub part-wrote : (k : ℕ) {o b : List ℕ} {q : ℕ} {r : Run} → r ≡ run_at s (k * 64) → Wrote o 0 (next_lines s r 64) b q → take q b ≡ part_of s k
  part-wrote k f w = wrote-front w ∙ ap (λ (x : Run). next_lines s x 64) f ∙ sym (part-is k)

  pub part-next : (k : ℕ) {r r' : Run} → r ≡ run_at s (k * 64) → r' ≡ later s r 64 → r' ≡ run_at s ((k + 1) * 64)
  part-next k f g =
      let q : k * 64 + 64 ≡ (k + 1) * 64 = omega arith in
      g ∙ ap (λ (x : Run). later s x 64) f ∙ later-add s (begun s) (k * 64) 64 ∙ ap (run_at s) q

  pub run_sound : (k : ℕ) → Sound (run_at s k).backplane
  run_sound k = later-sound s (begun s) k (begun-sound s e)

  pub rounds-most : rounds ≤ 100000
  rounds-most = (plays-all s e).most

  whole-accepted : parts_to s (parts_of s) ≡ output_of s
  unfolding output_of
  whole-accepted =
      let q : (rounds / 64 + 1) * 64 ≡ rounds + ((rounds / 64 + 1) * 64 - rounds) = omega arith in
      ap (parts_to s) parts_are
      ∙ parts-lines (rounds / 64 + 1)
      ∙ ap (next_lines s (begun s)) q
      ∙ lines-past ((rounds / 64 + 1) * 64 - rounds)
      ∙ lines-to rounds (le_refl rounds)
      ∙ sym (cond-true (lines_to s rounds) (refused_line (check_script s).number (check_script s).index) accepts)

-- ---- a refused script

module _ (s : List ℕ) (f : is_accepted (check_script s) ≡ false) where
  abbrev line : List ℕ
  line = refused_line (check_script s).number (check_script s).index

  pub part-refused : part_of s 0 ≡ line
  unfolding part_of
  part-refused = cond-false _ line f

  pub parts-one : parts_of s ≡ 1
  unfolding parts_of
  parts-one = cond-false (rounds_of s / 64 + 1) 1 f

  whole-refused : parts_to s (parts_of s) ≡ output_of s
  unfolding output_of parts_to
  whole-refused = ap (parts_to s) parts-one ∙ part-refused ∙ sym (cond-false (lines_to s (rounds_of s)) line f)

pub parts_whole : PartsWhole
parts_whole s =
    ⊎_elim
    (λ (t : is_accepted (check_script s) ≡ true). whole-accepted s (eqb-true (check_script s).number 0 t))
    (λ (f : is_accepted (check_script s) ≡ false). whole-refused s f)
    (which (is_accepted (check_script s)))

-- ---- a script that is too long

long-refused : (s : List ℕ) → 65536 < length s → check_script s ≡ verdict 16 0
long-refused s h = sym (script-long s h refl)

long-output : (s : List ℕ) → 65536 < length s → output_of s ≡ refused_line 16 0
unfolding output_of
long-output s h = rw (long-refused s h)

pub read-enough : ReadEnough
read-enough s =
    ⊎_elim
    (λ (t : leb (length s) read_most ≡ true). ap output_of (take_all read_most s (leb-true (length s) read_most t)))
    (λ (f : leb (length s) read_most ≡ false).
    let h : read_most < length s = leb-false (length s) read_most f in
    let l : length (take read_most s) ≡ read_most = length-take-le read_most s (omega arith) in
    long-output (take read_most s) (omega (arith, l)) ∙ sym (long-output s (omega arith)))
    (which (leb (length s) read_most))
