-- The parts give what the words hold and the tests of them; joined, the tests are those of the whole check.
use Rattle.std.proofs.Common.{◌≡◌, ℕ, ◌+◌, ◌*◌, ◌≤◌, Bool, List, sym, refl, ap, ◌∙◌, true≢false, arith}
use Rattle.words.specs.Word.{word_at}
use Rattle.words.proofs.Truth.{and_l, and_r}
use Rattle.setup.specs.Layout.{front_words}
use Rattle.setup.specs.Setup.{return_limit_in, partitionable_in}
use Rattle.changes.specs.Words.{new_count}
use Rattle.image.specs.Layout.{left_at, before_left, image_length}
use Rattle.image.proofs.ReadLaws.{limits-wrong, limits-fine, change-good, views-good}
use Rattle.image.proofs.LentLaws.{asked_by, given_by}
use Rattle.image.proofs.TornLaws.{length_found}
use Rattle.image.proofs.load.load_image.Goals as goal

-- the length, by the number of words before those of the modules
by_front : {front k : ℕ} (b : Bool) (n : ℕ) (s : List ℕ) → front ≡ front_words b → k ≡ image_length (front_words b) n (word_at s (left_at (front_words b) n)) (partitionable_in (word_at s 0))
    → before_left front n ≤ k
by_front b n s e h = omega (arith, e)

change-room : {front at k : ℕ} (b : Bool) (n : ℕ) (w : ℕ → ℕ) → front ≡ front_words b → at ≡ left_at front n
    → k ≡ image_length (front_words b) n (w (left_at (front_words b) n)) (partitionable_in (w 0)) → (at + 1 + new_count n (w at)) * 4 ≤ k
change-room b n w e a h = rw (a, e) (omega (arith, h))

pub check_change-requires : goal.check_change-requires
check_change-requires c =
    let f = c.front_words-front.ensures in
    let e = c.left_at-at.ensures in
    (c.requires.n_bound.0, omega (arith, f.2, c.requires.n_bound.0), change-room c.args.fades c.args.n (word_at c.args.s.now) f.0 e c.requires.n_bound.1)

pub views_good-views-requires : goal.views_good-views-requires
views_good-views-requires c =
    let f = c.front_words-front.ensures in
    let head = c.word_at-head.ensures in (
      f.2,
      c.requires.n_bound.0,
      length_found c.args.fades c.args.n (word_at c.args.s.now) f.0 c.left_at-at.ensures c.word_at-left.ensures
          (c.bit_at.ensures ∙ ap partitionable_in head) c.requires.n_bound.1,
    )

pub load_rows-read-requires : goal.load_rows-read-requires
load_rows-read-requires c =
    let f = c.front_words-front.ensures in
    (f.2, c.requires.n_bound.0, by_front c.args.fades c.args.n c.args.s.now f.0 c.requires.n_bound.1, c.requires.criticality_value.1)

pub limits_right-requires : goal.limits_right-requires
limits_right-requires c =
    omega (arith, c.requires.n_bound.1)

pub returns-then-not-limits_right : goal.returns-then-not-limits_right
returns-then-not-limits_right c =
    let f = c.no_part.ensures in
    let a = c.requires.n_bound in
    (f ∙ limits-wrong _ _ a.3 refl c.limits_right.ensures c.if-not-limits_right.true, λ t. absurd (true≢false (sym t ∙ f)))

pub limits_at-limits-requires : goal.limits_at-limits-requires
limits_at-limits-requires c =
    omega (arith, c.requires.n_bound.1)

pub load_accounts-right-requires : goal.load_accounts-right-requires
load_accounts-right-requires c =
    let q = c.field-q.ensures ∙ ap return_limit_in c.word_at-head.ensures in
    let a = c.requires.n_bound in
    record {
      n_bound = asked_by _ _ c.args.fades c.limits_at-limits.ensures c.front_words-front.ensures.0 a.0 (omega (arith, a.1)) (sym c.limits_right.ensures ∙ c.if-not-limits_right.false) q
          (omega (arith, q, a.4)) c.load_modules-modules.ensures.1 c.load_words-alone.ensures.2;
      first_value = (c.requires.criticality_value.2, c.requires.criticality_value.3, c.requires.criticality_value.4);
    }

pub returns : goal.returns
returns c =
    let counted = c.load_accounts-right in
    let limits = c.limits_at-limits.ensures in
    let read = c.load_rows-read in
    let views = c.views_good-views in
    let bit = c.bit_at.ensures in
    let change = c.check_change in
    let left = c.word_at-left.ensures in
    let at = c.left_at-at.ensures in
    let alone = c.load_words-alone in
    let modules = c.load_modules-modules in
    let front = c.front_words-front in
    let head = c.word_at-head.ensures in
    let q = c.field-q.ensures ∙ ap return_limit_in head in
    let w = word_at c.args.s.now in
    let a = c.requires.n_bound in
    let x = given_by _ _ c.args.fades limits counted.ensures in (
      limits-fine _ _ a.3 front.ensures.0 c.limits_right.ensures c.if-not-limits_right.false modules.ensures.0 alone.ensures.0 read.ensures.0 x.0
          (change-good _ c.args.fades w _ c.args.n at c.is_ok-change.ensures.value change.ensures)
          (views-good w _ c.args.n (bit ∙ ap partitionable_in head) alone.ensures.2 at left views.ensures),
      λ t.
          let others = and_r modules.result.good _ t in
          let arrays = x.1 (and_l counted.result _ (and_r read.result.good _ (and_r alone.result.good _ others))) in
          let place : front.result ≡ front_words c.args.fades = front.ensures.0 in
          record {
            skew = rw place at (modules.ensures.2 (and_l modules.result.good _ t));
            q = q;
            limits = limits;
            own = rw place at alone.ensures.1;
            view = rw place at alone.ensures.2;
            heard = rw place at read.ensures.1;
            latest = rw place at alone.ensures.3;
            earlier = rw place at alone.ensures.4;
            criticality = rw place at modules.ensures.1;
            rows = rw place at read.ensures.2;
            first = arrays.0;
            second = arrays.1;
            returns = arrays.2;
            left = left ∙ ap w (at ∙ ap (λ (x : ℕ). left_at x c.args.n) place);
          },
    )
