-- The read is written into a buffer of its own, and the module makes its step on it.
use Prim.Native.Nat.{◌*◌, ℕ}
use mathlib.Core.Path.{refl, sym, ap, ap₂, ◌∙◌}
use mathlib.Core.List.{◌++◌}
use native.Mathlib.Omega.{arith}
use lib.ListN.{replicate, drop}
use lib.Seq.{length-take-le}
use Rattle.presence.specs.Step.{step_of}
use Rattle.presence.proofs.StateRoundLaws.{step-of}
use Rattle.backplane.proofs.PlayLaws.{read-most, front_fits, front-taken}
use Rattle.backplane.proofs.play.step_one.Goals as goal

pub overflow_mul-k : goal.overflow_mul-k
overflow_mul-k c =
    omega (arith, c.read_words-k.ensures, read-most c.args.setup.now.partitionable c.args.setup.now.n c.requires.0)

pub slice_bounds-read-end : goal.slice_bounds-read-end
slice_bounds-read-end c =
    omega (arith, c.read_words-k.ensures, read-most c.args.setup.now.partitionable c.args.setup.now.n c.requires.0)

pub slice_bounds-put_read-end : goal.slice_bounds-put_read-end
slice_bounds-put_read-end c =
    sym (length-take-le _ _ (omega (arith, c.read_words-k.ensures, read-most c.args.setup.now.partitionable c.args.setup.now.n c.requires.0)))

pub put_read-requires : goal.put_read-requires
put_read-requires c =
    let e = c.read_words-k.ensures in
    let m = read-most c.args.setup.now.partitionable c.args.setup.now.n c.requires.0 in
    let k = c.read_words-k.result * 4 in
    (c.requires.0, c.requires.1, length-take-le k (replicate 128 0) (omega (arith, e, m)) ∙ ap (λ (x : ℕ). x * 4) e)

pub slice_bounds-read-end-2 : goal.slice_bounds-read-end-2
slice_bounds-read-end-2 c =
    let w = c.read_words-k in
    let m = read-most c.args.setup.now.partitionable c.args.setup.now.n c.requires.0 in
    let k = w.result * 4 in
    let p = c.put_read in
    front_fits p.new.out (drop k (replicate 128 0)) (p.auto.out ∙ length-take-le k (replicate 128 0) (omega (arith, w.ensures, m)))

pub slice_bounds-stepped-end : goal.slice_bounds-stepped-end
slice_bounds-stepped-end c =
    let w = c.read_words-k in
    let m = read-most c.args.setup.now.partitionable c.args.setup.now.n c.requires.0 in
    let k = w.result * 4 in
    let p = c.put_read in
    let e = p.auto.out ∙ length-take-le k (replicate 128 0) (omega (arith, w.ensures, m)) in
    let l = p.new.out in
    sym (length-take-le k (l ++ drop k (replicate 128 0)) (front_fits l (drop k (replicate 128 0)) e))

pub stepped-requires : goal.stepped-requires
stepped-requires c = c.requires.2

pub returns : goal.returns
returns c =
    let w = c.read_words-k in
    let m = read-most c.args.setup.now.partitionable c.args.setup.now.n c.requires.0 in
    let k = w.result * 4 in
    let p = c.put_read in
    let e = p.auto.out ∙ length-take-le k (replicate 128 0) (omega (arith, w.ensures, m)) in
    step-of c.args.state _ _ refl c.requires.2 c.stepped.ensures
    ∙ ap₂ (step_of c.args.state) (front-taken p.new.out (drop k (replicate 128 0)) e ∙ p.ensures) c.read_bits.ensures
