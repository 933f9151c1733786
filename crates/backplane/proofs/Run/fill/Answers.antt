use Prim.Native.Nat.{ℕ, ◌+◌}
use mathlib.Core.Path.{◌≡◌, refl, sym, ap, ◌∙◌, subst}
use mathlib.Core.List.{List}
use native.Mathlib.Omega.{arith}
use Rattle.text.proofs.WroteLaws.{wrote_none, wrote-length}
use Rattle.backplane.specs.Play.{Sound}
use Rattle.backplane.specs.Run.{next_of, later}
use Rattle.backplane.specs.Output.{next_lines}
use Rattle.backplane.specs.declared.Run.{Run}
use Rattle.backplane.proofs.OutputLaws.{later-sound, later_more, wrote-more}
use Rattle.backplane.proofs.Run.fill.Goals as goal

-- the states are within the limits after every turn
sound-at : (s : List ℕ) (r₀ : Run) {r : Run} (m : ℕ) → r ≡ later s r₀ m → Sound r₀.backplane → Sound r.backplane
sound-at s r₀ m e h = subst (λ (x : Run). Sound x.backplane) (sym e) (later-sound s r₀ m h)

turn : (s : List ℕ) (r₀ : Run) {r r' : Run} (m : ℕ) → r ≡ later s r₀ m → r' ≡ next_of s r → r' ≡ later s r₀ (m + 1)
turn s r₀ m e f = f ∙ ap (next_of s) e ∙ later_more s r₀ m

pub loop-init : goal.loop-init
unfolding later next_lines
loop-init c = (refl, omega arith, omega arith, wrote_none _ _ (omega arith))

pub next-run-requires : goal.next-run-requires
next-run-requires c =
    let l = c.loop in
    sound-at _ _ _ l.invariant.0 c.requires.0

pub put_round-at-requires : goal.put_round-at-requires
put_round-at-requires c =
    let l = c.loop in
    let q = turn _ _ _ l.invariant.0 c.next-run.ensures in
    ((sound-at _ _ _ q c.requires.0).few, omega (arith, wrote-length l.invariant.3))

pub loop-preserved : goal.loop-preserved
loop-preserved c =
    let l = c.loop in
    let q = turn _ _ _ l.invariant.0 c.next-run.ensures in
    let p = c.put_round-at.ensures in
    (q, omega arith, omega (arith, p.1), wrote-more _ _ _ q l.invariant.3 p.0)

pub returns : goal.returns
returns c =
    let l = c.loop in
    let e : l.counter ≡ 64 = omega arith in
    (rw e at l.invariant.0, rw e at l.invariant.3)
