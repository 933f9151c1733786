use Rattle.std.proofs.Common.{◌≡◌, ℕ, false, sym, refl, ap, ◌∙◌, arith}
use Rattle.words.specs.Word.{word_at, gap_of}
use Rattle.words.specs.Bits.{bit}
use Rattle.words.specs.Array.{array}
use Rattle.words.specs.Count.{all}
use Rattle.words.proofs.ArrayLaws.{array-step, array-end}
use Rattle.words.proofs.CountLaws.{all-step, all_end}
use Rattle.setup.specs.Layout.{front_words}
use Rattle.image.specs.CounterSection.{counter_in}
use Rattle.image.specs.Returns.{return_counts}
use Rattle.image.specs.Counters.{penalties, rewards}
use Rattle.image.proofs.CounterSectionLaws.{first, later, counters-right}
use Rattle.image.proofs.ReadLaws.{array-read, word-by, basis-by}
use Rattle.image.proofs.GapLaws.{gaps-test, count-values}
use Rattle.image.proofs.counters.load_counters.Goals as goal

pub loop-j-init : goal.loop-j-init
unfolding all array
loop-j-init c =
    let z = c.requires.penalty_value in
    (omega arith, refl, z.0, z.1, z.2)

pub word_at-requires : goal.word_at-requires
word_at-requires c = omega (arith, c.accounts_at-i.ensures)

pub word_at-requires-in-loop-j : goal.word_at-requires-in-loop-j
word_at-requires-in-loop-j c = omega (arith, c.rewards_at-k.ensures)

pub word_at-requires-in-loop-j-2 : goal.word_at-requires-in-loop-j-2
word_at-requires-in-loop-j-2 c = omega (arith, c.returns_at-l.ensures)

pub penalty_fits-a-requires : goal.penalty_fits-a-requires
penalty_fits-a-requires c =
    let l = c.loop-j in
    let k = array-read _ _ c.requires.p_value.3 l.j (omega arith) c.requires.n_bound.0 in
    let p = c.requires.p_value.0 in
    (omega arith, omega arith)

pub loop-j-preserved : goal.loop-j-preserved
loop-j-preserved c =
    let l = c.loop-j in
    let f = c.requires in
    let r = f.p_value in
    let h = c.loop-j-test.true in
    let w = word_at c.args.s.now in
    let n = c.args.n in
    let k = array-read _ _ r.3 l.j h f.n_bound.0 in
    let e = word-by _ l.j c.accounts_at-i.ensures c.word_at.ensures in
    let g = word-by _ l.j c.rewards_at-k.ensures c.word_at-in-loop-j.ensures in
    let t = word-by _ l.j c.returns_at-l.ensures c.word_at-in-loop-j-2.ensures in
    let basis = basis-by w (front_words false) n l.j r.0 r.1 r.4 k (c.bit_at-present.ensures ∙ ap (λ (v : ℕ). bit v l.j) r.2) (ap counter_in e) in (
      omega (arith, h),
      all-step _ _ l.invariant.1
          (gaps-test w n l.j (omega arith) basis (omega arith) f.p_le_most_penalty_limit.0 f.p_le_most_penalty_limit.1 f.p_le_most_penalty_limit.2 e g t (omega arith) (omega arith) (omega arith)
          c.gap-x.ensures c.gap-y.ensures c.gap-z.ensures c.penalty_fits-a.ensures c.reward_fits-b.ensures c.return_fits-c.ensures),
      array-step _ _ l.invariant.2 (c.gap-x.ensures ∙ ap (gap_of 13 l.j) e),
      array-step _ _ l.invariant.3 (c.gap-y.ensures ∙ ap (gap_of 14 l.j) g),
      array-step _ _ l.invariant.4 (c.gap-z.ensures ∙ ap (gap_of 15 l.j) t),
    )

pub returns : goal.returns
returns c =
    let i = c.loop-j.invariant in
    let e : c.loop-j.j ≡ c.args.n = omega arith in
    let g = all_end _ e i.1 in (
      g ∙ counters-right (word_at c.args.s.now) _,
      λ t. (
        count-values _ _ penalties first (omega arith) c.requires.n_bound.0 (sym g ∙ t) (array-end _ e i.2),
        count-values _ _ rewards (later first) (omega arith) c.requires.n_bound.0 (sym g ∙ t) (array-end _ e i.3),
        count-values _ _ return_counts (later (later first)) (omega arith) c.requires.n_bound.0 (sym g ∙ t) (array-end _ e i.4),
      ),
    )
