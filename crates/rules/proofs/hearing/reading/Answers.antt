use mathlib.Core.Path.{refl}
use native.Mathlib.Omega.{arith}
use Rattle.words.specs.Bits.{pack}
use Rattle.words.specs.Array.{array}
use Rattle.words.proofs.BitLaws.{pack-step, packed_lt}
use Rattle.words.proofs.ArrayLaws.{array-step}
use Rattle.rules.proofs.ReceptionLaws.{reading-by, heard-of, row_of}
use Rattle.rules.proofs.hearing.reading.Goals as goal

pub loop-j-init : goal.loop-j-init
unfolding pack array
loop-j-init c = (omega arith, refl, refl)

pub with_bit-heard-requires : goal.with_bit-heard-requires
with_bit-heard-requires c = (packed_lt _ _ c.loop-j.invariant.1, omega arith)

pub loop-j-preserved : goal.loop-j-preserved
loop-j-preserved c =
    let i = c.loop-j.invariant in (
      omega arith,
      pack-step _ _ i.1 (heard-of _ _ _ c.received-r.ensures c.is_ok.ensures.value) c.with_bit-heard.ensures,
      array-step _ _ i.2 (row_of _ _ _ c.received-r.ensures c.unwrap_or.ensures),
    )

pub returns : goal.returns
returns c = reading-by _ _ _ _ (omega arith) c.loop-j.invariant.1 c.loop-j.invariant.2
