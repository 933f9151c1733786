use mathlib.Core.Path.{◌≡◌, refl}
use native.Mathlib.Omega.{arith}
use Rattle.words.specs.Bits.{bit}
use Rattle.words.specs.Count.{count}
use Rattle.words.proofs.CountLaws.{count-step}
use Rattle.agreement.specs.Fault.{follows_in}
use Rattle.bus.specs.Senders.{senders_in}
use Rattle.bus.proofs.LimitLaws.{half-turn, breaker-turn, unheard-turn, kept-end}
use Rattle.bus.proofs.limit.kept_over.Goals as goal

pub loop-j-init : goal.loop-j-init
unfolding count
loop-j-init c = (omega arith, omega arith, omega arith, omega arith, omega arith, refl, refl, refl, refl)

pub loop-j-preserved : goal.loop-j-preserved
loop-j-preserved c =
    let a = c.args in
    let l = c.loop-j in
    let v = c.bit_at-counts.ensures in
    let h = c.bit_at-here.ensures in
    let t = c.bit_at-there.ensures in
    let p = c.bit_at.ensures in
    let q = c.bit_at-in-loop-j.ensures in
    let k = c.bit_at-in-loop-j-2.ensures in (
      omega arith,
      omega arith,
      omega arith,
      omega arith,
      omega arith,
      count-step l.j _ l.invariant.5 v c.flag-m.ensures.0,
      count-step l.j _ l.invariant.6 (half-turn a.cast a.view (senders_in a.now) (senders_in a.then) l.j v h t p q k) c.flag-a.ensures.0,
      count-step l.j _ l.invariant.7 (breaker-turn a.cast a.view (senders_in a.now) (senders_in a.then) l.j v h t p q k) c.flag-s.ensures.0,
      count-step l.j _ l.invariant.8 (unheard-turn a.cast a.view (senders_in a.now) (senders_in a.then) l.j v h t p q k) c.flag-b.ensures.0,
    )

pub returns : goal.returns
returns c =
    let l = c.loop-j in
    let a = c.args in
    let e : l.j ≡ a.n = omega arith in
    kept-end (follows_in a.cast) (bit a.view) (senders_in a.now) (senders_in a.then) e l.invariant.5 l.invariant.6 l.invariant.7 l.invariant.8
