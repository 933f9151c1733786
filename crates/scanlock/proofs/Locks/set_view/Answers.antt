-- By whether the view names a module above N.
use mathlib.Core.Path.{refl, sym, ap, ◌∙◌}
use mathlib.Core.List.{List}
use Rattle.scanlock.specs.Locks.{locks, event_answer, set_view_of}
use Rattle.scanlock.specs.declared.Axis.{Axis}
use Rattle.scanlock.proofs.LockEventLaws.{yes, no}
use Rattle.scanlock.proofs.Locks.set_view.Goals as goal

pub returns-then-view_fits : goal.returns-then-view_fits
unfolding set_view_of
returns-then-view_fits c =
    let a = c.args in
    yes _ (sym c.view_fits.ensures ∙ c.if-view_fits.true)
    (ap (λ (x : List Axis). event_answer 0 (locks a.self.n a.view x)) c.seen_axes.ensures)

pub returns : goal.returns
unfolding set_view_of
returns c = no _ (sym c.view_fits.ensures ∙ c.if-view_fits.false) refl
