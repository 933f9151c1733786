-- Entry i is made of the state of module i + 1, which is there.
use Rattle.std.proofs.Common.{◌≡◌, ap, arith, rules, tests}
use lib.ListN.{get_or}
use Rattle.words.proofs.TableLaws.{get_or-there}
use Rattle.presence.specs.Opening.{blank}
use Rattle.presence.specs.Shown.{shown_view}
use Rattle.presence.specs.declared.State.{State}
use Rattle.backplane.specs.Play.{state_at}
use Rattle.backplane.proofs.rounds.views.Goals as goal

pub returns : goal.returns
returns c =
    let states = c.args.states.now in
    c.from_fn.ensures (λ i. shown_view (state_at states i))
    (λ i w l p.
    let there : (d : State) → shown_view (get_or states i d) ≡ shown_view (get_or states i blank) =
    λ d. ap shown_view (get_or-there states i d blank (omega arith)) in
    search (rules, tests, there))
