use Rattle.std.proofs.Common.{◌≡◌, refl, ap, ◌∙◌, arith}
use Rattle.words.specs.Bits.{pack}
use Rattle.words.specs.Array.{array}
use Rattle.words.specs.Count.{all}
use Rattle.words.proofs.BitLaws.{pack-step, packed_lt, pack-end}
use Rattle.words.proofs.ArrayLaws.{array-step, array-end}
use Rattle.words.proofs.CountLaws.{all-step, all_end}
use Rattle.image.specs.Rows.{heard_in, row_in, reading_in, row_ok}
use Rattle.image.proofs.ReadLaws.{word-by}
use Rattle.image.proofs.rows.load_rows.Goals as goal

pub loop-j-init : goal.loop-j-init
unfolding all pack array
loop-j-init c = (omega arith, refl, refl, c.requires.3)

pub word_at-w-requires : goal.word_at-w-requires
word_at-w-requires c =
    let e = c.rows_at-i.ensures in
    omega arith

pub with_bit-heard-requires : goal.with_bit-heard-requires
with_bit-heard-requires c = (packed_lt _ _ c.loop-j.invariant.2, omega arith)

pub loop-j-preserved : goal.loop-j-preserved
loop-j-preserved c =
    let l = c.loop-j in
    let e = word-by _ l.j c.rows_at-i.ensures c.word_at-w.ensures in (
      omega arith,
      all-step _ _ l.invariant.1 (c.row_ok-good.ensures ∙ ap (row_ok _ _) e),
      pack-step _ _ l.invariant.2 (c.bit_at.ensures ∙ ap heard_in e) c.with_bit-heard.ensures,
      array-step _ _ l.invariant.3 (ap row_in e),
    )

pub returns : goal.returns
unfolding reading_in
returns c =
    let i = c.loop-j.invariant in
    let e : c.loop-j.j ≡ c.args.n = omega arith in
    (all_end _ e i.1, pack-end _ e i.2, array-end _ e i.3)
