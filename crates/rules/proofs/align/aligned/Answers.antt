-- Both fields are aligned by one number, the read place or 0.
use Prim.Native.Nat.{◌<◌}
use native.Mathlib.Omega.{arith}
use Rattle.words.proofs.Truth.{cond_both}
use Rattle.rules.proofs.AlignmentLaws.{aligned-by}
use Rattle.rules.proofs.align.aligned.Goals as goal

pub aligned_heard-requires : goal.aligned_heard-requires
aligned_heard-requires c = (
  c.requires.0,
  rw c.pick-split.ensures (cond_both (λ x. x < 31) c.args.skew _ _ c.requires.1 (omega arith)),
)

pub returns : goal.returns
returns c =
    let a = c.args in
    aligned-by a.n a.skew a.place a.previous a.this c.pick-split.ensures
    c.aligned_heard.ensures c.aligned_entries.ensures
