-- The digits are those of the library, as long as the room that is asked for.
use Rattle.std.proofs.Common.{rules}
use mathlib.Core.Path.{◌∙◌, sym, ap}
use lib.ListN.{length}
use Rattle.std.specs.Fmt.{decimal as printed}
use native.Mathlib.Omega.{arith}
use Rattle.text.proofs.NumberLaws.{decimal-printed}
use Rattle.text.proofs.number.put_number.Goals as goal

pub put_text-requires : goal.put_text-requires
put_text-requires g c =
    let e = c.as_bytes.ensures.value ∙ c.format.ensures.text ∙ ap printed (omega arith) ∙ sym (decimal-printed c.args.v (omega arith)) in
    let l = ap length e in
    (search rules, omega (arith, l, c.requires))

pub returns : goal.returns
returns g c =
    let e = c.as_bytes.ensures.value ∙ c.format.ensures.text ∙ ap printed (omega arith) ∙ sym (decimal-printed c.args.v (omega arith)) in
    rw (← e) c.put_text.ensures
