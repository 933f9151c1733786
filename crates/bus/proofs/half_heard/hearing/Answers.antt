-- Words are compared with those of the first rule-follower.
use Prim.Native.Nat.{ℕ}
use mathlib.Core.Path.{ap₂}
use native.Mathlib.Omega.{arith}
use Rattle.bus.specs.Senders.{hearing_of}
use Rattle.bus.proofs.HalfHeardLaws.{first_small, half-made, heard-made}
use Rattle.bus.proofs.half_heard.hearing.Goals as goal

pub half_heard-requires : goal.half_heard-requires
half_heard-requires c =
    let f = first_small c.args.n c.args.cast c.requires in
    (c.requires, omega (arith, f, c.first_follower-i.ensures))

pub returns : goal.returns
unfolding hearing_of
returns c =
    let a = c.args in
    let h = c.requires in
    ap₂ (λ (x y : ℕ). record { half = x; heard = y })
    (half-made a.n a.cast a.bus h c.heard_words-heard.ensures c.first_follower-i.ensures c.half_heard.ensures)
    (heard-made a.n a.cast a.bus h c.heard_words-heard.ensures c.heard_senders.ensures)
