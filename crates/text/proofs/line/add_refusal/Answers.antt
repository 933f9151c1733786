-- Five texts, one after the other: of 8, at most 10, 4, at most 10 bytes, and 1.
use mathlib.Core.List.{[], ◌∷◌, ◌++◌}
use native.Mathlib.Omega.{arith}
use lib.Chars.{codes}
use Rattle.text.specs.Text.{decimal}
use Rattle.text.specs.Lines.{refused_line}
use Rattle.text.proofs.NumberLaws.{decimal_ten}
use Rattle.text.proofs.LineLaws.{added_then}
use Rattle.text.proofs.line.add_refusal.Goals as goal

pub returns : goal.returns
unfolding refused_line
returns g c =
    let n = c.args.number in
    let k = c.args.index in
    let a = added_then _ (codes "refused ") (decimal n) c.put_text.ensures.0 c.put_number.ensures.0 in
    let b = added_then _ (codes " at ") (decimal k) c.put_text-2.ensures.0 c.put_number-2.ensures.0 in (
      added_then _ _ (10 ∷ []) (added_then _ (codes "refused " ++ decimal n) (codes " at " ++ decimal k) a b) c.put_text-3.ensures.0,
      omega (
        arith,
        decimal_ten n (omega arith),
        decimal_ten k (omega arith),
        c.put_text.ensures.1,
        c.put_number.ensures.1,
        c.put_text-2.ensures.1,
        c.put_number-2.ensures.1,
        c.put_text-3.ensures.1,
      ),
    )
