-- Six texts, one after the other.
use Prim.Native.Nat.{◌+◌}
use mathlib.Core.List.{◌∷◌}
use native.Mathlib.Omega.{arith}
use Rattle.text.specs.Text.{decimal}
use Rattle.text.specs.Lines.{line_with}
use Rattle.text.proofs.LineLaws.{added_then}
use Rattle.text.proofs.line.put_line.Goals as goal

pub returns : goal.returns
unfolding line_with
returns g c =
    let a = added_then _ c.args.round.now (32 ∷ decimal (c.args.i + 1)) c.put_text.ensures.0 c.put_module.ensures.0 in (
      added_then _ _ _
          (added_then _ _ _ (added_then _ _ _ (added_then _ _ _ a c.put_bits.ensures.0) c.put_bits-2.ensures.0) c.put_limit.ensures.0)
          c.push.ensures.items,
      omega (
        arith,
        c.requires.2,
        c.put_text.ensures.1,
        c.put_module.ensures.1,
        c.put_bits.ensures.1,
        c.put_bits-2.ensures.1,
        c.put_limit.ensures.1,
        c.push.ensures.len,
      ),
    )
