-- Entry j is made of the state of module j + 1, which is there.
use Rattle.std.proofs.Common.{◌≡◌, ◌%◌, ◌^◌, ap, arith, rules, tests}
use lib.ListN.{get_or}
use Rattle.words.proofs.TableLaws.{get_or-there}
use Rattle.views.specs.ViewWord.{view_word}
use Rattle.presence.specs.Opening.{blank}
use Rattle.presence.specs.declared.State.{State}
use Rattle.backplane.specs.Play.{state_at, sent_views}
use Rattle.backplane.proofs.play.sent_views.Goals as goal

pub returns : goal.returns
unfolding sent_views
returns c =
    let states = c.args.states.now in
    c.from_fn.ensures (λ j. view_word ((state_at states j).counters.view % 2 ^ 28))
    (λ j w l p.
    let there : (d : State) → (get_or states j d).counters.view ≡ (get_or states j blank).counters.view =
    λ d. ap (λ (s : State). s.counters.view) (get_or-there states j d blank (omega arith)) in
    search (rules, tests, there))
