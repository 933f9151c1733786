use mathlib.Core.Path.{◌≡◌, refl}
use native.Mathlib.Omega.{arith}
use lib.Dec.{ltb}
use Rattle.words.specs.Bits.{pack}
use Rattle.words.specs.Array.{array, replaced}
use Rattle.words.proofs.BitLaws.{pack-step, packed_lt}
use Rattle.words.proofs.ArrayLaws.{array-step, replaced-step}
use Rattle.rules.proofs.ReceptionLaws.{heard-by, rows-by, rows-aligned, kept_row, heard-of, row_of}
use Rattle.rules.proofs.splice.read_aligned.Goals as goal

pub loop-j-init : goal.loop-j-init
unfolding pack array replaced
loop-j-init c = (omega arith, refl, c.requires.3, refl)

pub with_bit-heard-requires : goal.with_bit-heard-requires
with_bit-heard-requires c = (packed_lt _ _ c.loop-j.invariant.1, omega arith)

pub loop-j-preserved : goal.loop-j-preserved
loop-j-preserved c =
    let l = c.loop-j in
    let a = c.args in
    let q = c.received-r.ensures in
    let row = row_of a.n _ _ q c.unwrap_or-row.ensures in (
      omega arith,
      pack-step _ _ l.invariant.1 (heard-of a.n _ _ q c.is_ok.ensures.value) c.with_bit-heard.ensures,
      array-step _ _ l.invariant.2 row,
      replaced-step _ _ _ l.invariant.3 (kept_row (ltb l.j a.split) a.rows.now l.j _ _ l.invariant.3 row c.pick.ensures),
    )

pub returns : goal.returns
returns c =
    let a = c.args in
    let i = c.loop-j.invariant in
    let e : c.loop-j.j ≡ a.n = omega arith in
    (heard-by _ _ _ _ e i.1, rows-by _ _ _ _ e i.2, rows-aligned _ _ _ _ e _ a.rows.now c.requires.0 c.requires.2 i.3)
