-- Read, aligned and judged one after the other.
use Prim.Native.Nat.{◌<◌}
use native.Mathlib.Omega.{arith}
use Rattle.words.proofs.Truth.{cond_both}
use Rattle.words.proofs.BitLaws.{packed_lt}
use Rattle.rules.proofs.SyndromeLaws.{judged-by}
use Rattle.rules.proofs.judge.judged_read.Goals as goal

pub aligned_heard-aligned-requires : goal.aligned_heard-aligned-requires
aligned_heard-aligned-requires c =
    (c.requires.0, rw c.pick-split.ensures (cond_both (λ x. x < 31) c.args.skew _ _ c.requires.2 (omega arith)))

pub health-health-requires : goal.health-health-requires
health-health-requires c =
    (c.requires.0, packed_lt _ _ c.voters-voters.ensures)

pub returns : goal.returns
returns c =
    let r = c.read_aligned-heard.ensures in
    let j = judged-by c.args.n c.args.view c.args.skew c.args.place _ _ c.args.own r.0 c.pick-split.ensures c.aligned_heard-aligned.ensures r.2 c.voters-voters.ensures c.health-health.ensures c.syndrome-syndrome.ensures in
    (r.0, r.1, j.0, j.1)
