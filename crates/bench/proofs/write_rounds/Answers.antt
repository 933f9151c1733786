use Prim.Native.Nat.{ℕ, ◌*◌, ◌≤◌, ◌<◌}
use mathlib.Core.Path.{◌≡◌, refl, sym, ap, ◌∙◌, subst}
use mathlib.Core.Bool.{Bool, true, false}
use mathlib.Core.List.{List}
use native.Mathlib.Omega.{arith}
use borrow.Author.Tests.{ltb-true, ltb-false}
use Rattle.script.specs.Check.{check_script}
use Rattle.script.specs.Rounds.{rounds_of}
use Rattle.backplane.specs.Play.{Sound}
use Rattle.backplane.specs.Run.{later, run_at}
use Rattle.backplane.specs.declared.Run.{Run}
use Rattle.backplane.proofs.OutputLaws.{over-is, part-wrote, part-next, parts-end, run_sound, rounds-most}
use Rattle.text.proofs.WroteLaws.{wrote-length}
use Rattle.bench.proofs.write_rounds.Goals as goal

sound-at : (s : List ℕ) (e : (check_script s).number ≡ 0) (k : ℕ) {r : Run} → r ≡ run_at s k → Sound r.backplane
sound-at s e k f = subst (λ (x : Run). Sound x.backplane) (sym f) (run_sound s e k)

-- a turn is made while the script has rounds for it, and none after that
playing : (s : List ℕ) (e : (check_script s).number ≡ 0) (k : ℕ) {r : Run} {b : Bool} → r ≡ run_at s k → b ≡ r.cursor.over → b ≡ false → k ≤ rounds_of s
playing s e k f o t = ltb-false (rounds_of s) k (sym (o ∙ ap (λ (x : Run). x.cursor.over) f ∙ over-is s e k) ∙ t)

ended : (s : List ℕ) (e : (check_script s).number ≡ 0) (k : ℕ) {r : Run} {b : Bool} → r ≡ run_at s k → b ≡ r.cursor.over → b ≡ true → rounds_of s < k
ended s e k f o t = ltb-true (rounds_of s) k (sym (o ∙ ap (λ (x : Run). x.cursor.over) f ∙ over-is s e k) ∙ t)

pub loop-out-init : goal.loop-out-init
unfolding later
loop-out-init c =
    let z = c.nothing-written.ensures.0 in
    (c.requires.1 ∙ ap (λ (k : ℕ). run_at c.args.script.now (k * 64)) (sym z), omega (arith, z), refl)

pub fill-filled-requires : goal.fill-filled-requires
fill-filled-requires c =
    let l = c.loop-out in
    (sound-at _ c.requires.0 _ l.invariant.0, omega (arith, l.invariant.2))

pub with_part-written-requires : goal.with_part-written-requires
with_part-written-requires c =
    let l = c.loop-out in
    let s = c.args.script.now in
    let e = c.requires.0 in
    let h = playing s e (l.written.parts * 64) l.invariant.0 c.over.ensures c.loop-out-test.true in
    (omega (arith, h, rounds-most s e), part-wrote _ e l.written.parts l.invariant.0 c.fill-filled.ensures.1)

pub loop-out-smaller : goal.loop-out-smaller
loop-out-smaller c =
    let l = c.loop-out in
    let h = playing c.args.script.now c.requires.0 (l.written.parts * 64) l.invariant.0 c.over.ensures c.loop-out-test.true in
    omega (arith, h, c.with_part-written.ensures.0)

pub loop-out-preserved : goal.loop-out-preserved
loop-out-preserved c =
    let l = c.loop-out in
    let s = c.args.script.now in
    let e = c.requires.0 in
    let k = c.with_part-written.ensures.0 in
    let h = playing s e (l.written.parts * 64) l.invariant.0 c.over.ensures c.loop-out-test.true in
    let r = part-next _ e l.written.parts l.invariant.0 c.fill-filled.ensures.0 in
    (r ∙ ap (λ (x : ℕ). run_at s (x * 64)) (sym k), omega (arith, h, k), wrote-length c.fill-filled.ensures.1 ∙ l.invariant.2)

pub returns : goal.returns
returns c =
    let l = c.loop-out in
    parts-end _ c.requires.0 l.written.parts
    (ended c.args.script.now c.requires.0 (l.written.parts * 64) l.invariant.0 c.over.ensures c.loop-out-test.false)
    l.invariant.1
