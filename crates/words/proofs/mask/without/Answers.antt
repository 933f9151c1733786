-- The mask has every bit but bit j.
use Rattle.std.proofs.Common.{ℕ, ◌-◌, ◌^◌, ap, ◌∙◌}
use lib.Bits.{bit_and}
use Rattle.words.proofs.BitLaws.{one_shifted}
use Rattle.words.proofs.MaskLaws.{masked}
use Rattle.words.proofs.mask.without.Goals as goal

pub returns : goal.returns
returns c =
    ap (λ (x : ℕ). bit_and c.args.v (2 ^ 32 - 1 - x)) (one_shifted c.args.j c.requires)
    ∙ masked c.args.v c.args.j c.requires
