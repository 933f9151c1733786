-- The parts give the state and the tests of their words; joined, the tests are those of the whole check.
use native.Mathlib.Omega.{arith}
use mathlib.Core.List.{List}
use mathlib.Core.Path.{◌≡◌, refl, ap, ◌∙◌}
use mathlib.Core.Bool.{Bool}
use Prim.Native.Nat.{ℕ, ◌+◌, ◌*◌, ◌≤◌}
use borrow.Author.Tests.{not-true, not-false}
use Rattle.words.proofs.Truth.{and_l, and_r}
use Rattle.words.proofs.ArrayLaws.{array-none}
use Rattle.setup.specs.Layout.{front_words}
use Rattle.setup.specs.Setup.{partitionable_in}
use Rattle.image.specs.Layout.{left_at, before_left, image_length}
use Rattle.words.specs.Word.{word_at}
use Rattle.changes.specs.Words.{new_count, pending_in}
use Rattle.image.proofs.ReadLaws.{change-good}
use Rattle.image.proofs.LentLaws.{given_by, lent-read}
use Rattle.presence.proofs.LoadLaws.{state-by, setup-wrong, setup-right, reading-read, limits_of, accounts-asked, views-asked, views-agree, views-read, loaded-by, none-loaded}
use Rattle.presence.proofs.load.load.Goals as goal

-- the length, by the number of words before those of the modules
by_front : {front k : ℕ} (b : Bool) (n : ℕ) (s : List ℕ) → front ≡ front_words b → k ≡ image_length (front_words b) n (word_at s (left_at (front_words b) n)) (partitionable_in (word_at s 0))
    → before_left front n ≤ k
by_front b n s e h = omega (arith, e)

change-room : {front at k : ℕ} (b : Bool) (n : ℕ) (w : ℕ → ℕ) → front ≡ front_words b → at ≡ left_at front n
    → k ≡ image_length (front_words b) n (w (left_at (front_words b) n)) (partitionable_in (w 0)) → (at + 1 + new_count n (w at)) * 4 ≤ k
change-room b n w e a h = rw (a, e) (omega (arith, h))

pub returns-then-not-first : goal.returns-then-not-first
returns-then-not-first c =
    let f = not-true _ c.if-not-first.true in
    let a = c.requires in
    none-loaded _ (setup-wrong _ _ a.3 refl c.load_setup-first.ensures.0 f)

pub load_rows-read-requires : goal.load_rows-read-requires
load_rows-read-requires c =
    let f = c.front_words-front.ensures in
    (f.2, c.requires.0, by_front c.args.fades c.args.n c.args.s.now f.0 c.requires.1, array-none _)

pub load_accounts-right-requires : goal.load_accounts-right-requires
load_accounts-right-requires c =
    let g = c.load_setup-first.ensures in
    let a = c.requires in
    record { n_bound = accounts-asked _ g.1 a.3 a.2 g.0 (not-false _ c.if-not-first.false) c.front_words-front.ensures.0 a.0 (by_front c.args.fades c.args.n c.args.s.now refl a.1) a.4 c.load_words-alone.ensures.2; first_value = (array-none _, array-none _, array-none _) }

pub left_at-at-requires : goal.left_at-at-requires
left_at-at-requires c =
    (c.front_words-front.ensures.2, c.requires.0)

pub check_change-change-requires : goal.check_change-change-requires
check_change-change-requires c =
    let f = c.front_words-front.ensures in
    let e = c.left_at-at.ensures in
    (c.requires.0, omega (arith, f.2, c.requires.0, e), change-room c.args.fades c.args.n (word_at c.args.s.now) f.0 e c.requires.1)

pub load_change-requires : goal.load_change-requires
load_change-requires c =
    let f = c.front_words-front.ensures in
    let e = c.left_at-at.ensures in
    (c.requires.0, omega (arith, f.2, c.requires.0, e), change-room c.args.fades c.args.n (word_at c.args.s.now) f.0 e c.requires.1)

pub word_at-left-requires : goal.word_at-left-requires
word_at-left-requires c =
    let f = c.front_words-front.ensures in
    let e = c.left_at-at.ensures in
    omega (arith, f.2, c.requires.0, e, change-room c.args.fades c.args.n (word_at c.args.s.now) f.0 e c.requires.1)

pub views_good-agreed-requires : goal.views_good-agreed-requires
views_good-agreed-requires c =
    let f = c.front_words-front.ensures in
    let g = c.load_setup-first.ensures in
    (f.2, c.requires.0, views-asked _ g.1 _ c.args.n c.left_at-at.ensures c.word_at-left.ensures c.args.fades f.0 c.requires.1)

pub views_of-requires : goal.views_of-requires
views_of-requires c =
    let f = c.front_words-front.ensures in
    let g = c.load_setup-first.ensures in
    (f.2, c.requires.0, views-asked _ g.1 _ c.args.n c.left_at-at.ensures c.word_at-left.ensures c.args.fades f.0 c.requires.1)

pub returns : goal.returns
returns c =
    let counted = c.load_accounts-right in
    let read = c.load_rows-read in
    let alone = c.load_words-alone in
    let at : c.front_words-front.result ≡ front_words c.args.fades = c.front_words-front.ensures.0 in
    let g = c.load_setup-first.ensures in
    let a = c.requires in
    let x = given_by _ _ _ (limits_of _ g.1 a.3 a.2) counted.ensures in
    let good = setup-right _ _ a.3 at g.0 (not-false _ c.if-not-first.false) alone.ensures.0 read.ensures.0 x.0
    (change-good _ c.args.fades (word_at c.args.s.now) _ c.args.n c.left_at-at.ensures c.is_ok.ensures.value c.check_change-change.ensures)
    (views-agree _ g.1 _ c.args.n c.left_at-at.ensures c.word_at-left.ensures alone.ensures.2 c.views_good-agreed.ensures)
    in
    loaded-by good
    (λ t.
    let arrays = x.1 (and_l counted.result _ (and_r read.result.good _ (and_r alone.result.good _ t))) in
    let counters = c.lent_counters.ensures ∙ lent-read _ _ _ a.0 (rw at at alone.ensures.2) arrays.0 arrays.1 arrays.2 in
    let previous = reading-read _ _ _ read.ensures.1 read.ensures.2 in
    let pending = c.load_change.ensures ∙ ap (pending_in c.args.s.now c.args.n) (c.left_at-at.ensures ∙ ap (λ (k : ℕ). left_at k c.args.n) at) in
    state-by _ a.2 a.3 g.1 (rw at at alone.ensures.1) counters (rw at at previous) (rw at at alone.ensures.3) (rw at at alone.ensures.4) pending
    (views-read _ g.1 _ c.args.n c.left_at-at.ensures c.word_at-left.ensures c.args.fades at c.views_of.ensures))
    c.then_some.ensures
