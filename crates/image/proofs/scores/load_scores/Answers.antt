use Rattle.std.proofs.Common.{◌≡◌, ℕ, ◌+◌, ◌*◌, true, ◌&&◌, sym, refl, ap, ◌∙◌, ap₂, arith}
use Rattle.words.specs.Word.{word_at, gap_of}
use Rattle.words.specs.Array.{array}
use Rattle.words.specs.Count.{all}
use Rattle.words.proofs.ArrayLaws.{array-step, array-end}
use Rattle.words.proofs.CountLaws.{all-step, all_end}
use Rattle.doubles.specs.Double.{of_words}
use Rattle.setup.specs.Layout.{front_words}
use Rattle.image.specs.Returns.{return_counts}
use Rattle.image.proofs.ReadLaws.{word-by}
use Rattle.image.proofs.GapLaws.{return-by, gap-values}
use Rattle.image.proofs.HalfLaws.{score-by, scores-right, scored-returns}
use Rattle.image.proofs.scores.load_scores.Goals as goal

pub loop-j-init : goal.loop-j-init
unfolding all array
loop-j-init c =
    let z = c.requires.high_value in
    (omega arith, refl, z.0, z.1, z.2)

pub word_at-x-requires : goal.word_at-x-requires
word_at-x-requires c = omega (arith, c.accounts_at-i.ensures)

pub word_at-y-requires : goal.word_at-y-requires
word_at-y-requires c = omega (arith, c.accounts_at-i.ensures)

pub word_at-requires : goal.word_at-requires
word_at-requires c = omega (arith, c.returns_at-l.ensures)

pub loop-j-preserved : goal.loop-j-preserved
loop-j-preserved c =
    let l = c.loop-j in
    let at = c.returns_at-l.ensures in
    let i = c.accounts_at-i.ensures in
    let r = c.requires.limit_value in
    let w = word_at c.args.s.now in
    let n = c.args.n in
    let h = c.loop-j-test.true in
    let x = c.word_at-x.ensures in
    let y = c.word_at-y.ensures in
    let z = c.word_at.ensures in
    let present = c.bit_at-present.ensures in (
      omega (arith, h),
      all-step _ _ l.invariant.1
          (ap₂ ◌&&◌ (score-by w (front_words true) n l.j r.0 r.1 present i (ap₂ of_words x y) c.words_fit-a.ensures)
          (return-by w (front_words true) n l.j (omega arith) r.3 r.2 r.1 present at z (omega arith) c.gap-z.ensures c.return_fits-b.ensures)),
      array-step _ _ l.invariant.2 (x ∙ ap (λ (a : ℕ). w (a + 2 * l.j)) i),
      array-step _ _ l.invariant.3 (y ∙ ap (λ (a : ℕ). w (a + 2 * l.j + 1)) i),
      array-step _ _ l.invariant.4 (c.gap-z.ensures ∙ ap (gap_of 15 l.j) (word-by _ l.j at z)),
    )

pub returns : goal.returns
returns c =
    let l = c.loop-j in
    let w = word_at c.args.s.now in
    let e : l.j ≡ c.args.n = omega arith in
    let g = all_end _ e l.invariant.1 in (
      g ∙ scores-right w _,
      λ t. (
        array-end _ e l.invariant.2,
        array-end _ e l.invariant.3,
        gap-values c.args.s.now _ _ return_counts (omega arith) c.requires.n_bound.0 (scored-returns w _ (sym g ∙ t)) (array-end _ e l.invariant.4),
      ),
    )
