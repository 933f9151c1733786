-- The lowest rule-follower is one of the sixteen entries.
use Rattle.std.proofs.Common.{ℕ, ap, ◌∙◌, arith, ◌<◌, length}
use lib.ListN.{get_or}
use Rattle.words.proofs.TableLaws.{get_or-there}
use Rattle.presence.specs.Opening.{blank}
use Rattle.presence.specs.declared.State.{State}
use Rattle.backplane.specs.Play.{followers_view}
use Rattle.bus.proofs.HalfHeardLaws.{first_small}
use Rattle.backplane.proofs.play.followers_view.Goals as goal

pub offset_bounds-states-first_follower : goal.offset_bounds-states-first_follower
offset_bounds-states-first_follower c = omega (arith, c.first_follower.ensures, first_small c.args.n c.args.cast c.requires)

pub bounds-states-first_follower : goal.bounds-states-first_follower
bounds-states-first_follower c = omega (arith, c.first_follower.ensures, first_small c.args.n c.args.cast c.requires)

pub returns : goal.returns
unfolding followers_view
returns c =
    let a = c.args in
    let f = c.first_follower in
    let small = first_small a.n a.cast c.requires in
    let h : f.result < length a.states.now = omega (arith, f.ensures, small) in
    c.view.ensures ∙ ap (λ (s : State). s.counters.view) (get_or-there a.states.now f.result _ blank h)
    ∙ ap (λ (k : ℕ). (get_or a.states.now k blank).counters.view) f.ensures
