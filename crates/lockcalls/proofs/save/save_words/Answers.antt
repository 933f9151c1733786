use Prim.Native.Nat.{ℕ, ◌+◌, ◌*◌, ◌≤◌}
use mathlib.Core.Path.{◌≡◌, refl, ap, ◌∙◌}
use mathlib.Core.List.{List}
use native.Mathlib.Omega.{arith}
use lib.ListN.{length}
use Rattle.words.specs.Word.{put_word, bytes_of}
use Rattle.words.proofs.ByteLaws.{bytes-step, bytes-all}
use Rattle.lockcalls.specs.LockImage.{lock_image}
use Rattle.lockcalls.proofs.save.save_words.Goals as goal

pub loop-i-init : goal.loop-i-init
unfolding bytes_of
loop-i-init c = (omega arith, c.requires, c.requires, refl)

pub loop-i-preserved : goal.loop-i-preserved
loop-i-preserved c =
    let l = c.loop-i in
    let a = c.args in
    let h : l.i * 4 + 4 ≤ length a.out.now = omega arith in
    let w = c.lock_word-w in
    let p = c.put_word in (
      omega arith,
      p.auto.s ∙ l.invariant.1,
      l.invariant.2,
      p.ensures ∙ ap (λ (x : List ℕ). put_word x l.i w.result) l.invariant.3 ∙ bytes-step a.out.now l.i _ _ h w.ensures,
    )

pub returns : goal.returns
unfolding lock_image
returns c =
    let a = c.args in
    let e : c.loop-i.i ≡ 9 = omega arith in
    (rw e at c.loop-i.invariant.3) ∙ bytes-all a.out.now 9 _ c.loop-i.invariant.2
