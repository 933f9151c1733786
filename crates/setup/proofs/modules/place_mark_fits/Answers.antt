-- The difference from 32 wraps, so one comparison is the test of both bounds.
use Rattle.std.proofs.Common.{Bool, ◌&&◌, ◌||◌, ltb, leb, ap, arith}
use Rattle.setup.specs.Modules.{place_mark_fits}
use Rattle.setup.proofs.ModuleLaws.{less-thirty-two}
use Rattle.setup.proofs.modules.place_mark_fits.Goals as goal

pub returns : goal.returns
unfolding place_mark_fits
returns c =
    let a = c.args in
    ap (λ (b : Bool). leb a.place a.n || (ltb 0 a.j && b))
    (less-thirty-two a.j a.place (omega arith) (omega arith) (omega arith) c.wrapping_sub_u32.ensures.value)
