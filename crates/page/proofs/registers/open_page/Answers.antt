use native.Mathlib.Omega.{arith}
use Prim.Native.Nat.{ℕ, ◌+◌, ◌*◌, ◌≤◌}
use mathlib.Core.Path.{◌≡◌, refl, ap, ◌∙◌}
use mathlib.Core.List.{List}
use lib.ListN.{length}
use Rattle.words.specs.Word.{put_word, bytes_of}
use Rattle.words.proofs.ByteLaws.{bytes-step, bytes-all}
use Rattle.page.specs.Page.{page_opened}
use Rattle.page.proofs.registers.open_page.Goals as goal

pub loop-i-init : goal.loop-i-init
unfolding bytes_of
loop-i-init c = (omega arith, refl, refl)

pub loop-i-preserved : goal.loop-i-preserved
loop-i-preserved c =
    let l = c.loop-i in
    let a = c.args in
    let h : l.i * 4 + 4 ≤ length a.page.now = omega arith in (
      omega arith,
      c.put_word.auto.s ∙ l.invariant.1,
      c.put_word.ensures ∙ ap (λ (x : List ℕ). put_word x l.i c.opened_word-w.result) l.invariant.2
          ∙ bytes-step a.page.now l.i _ _ h c.opened_word-w.ensures,
    )

pub returns : goal.returns
unfolding page_opened
returns c =
    let a = c.args in
    let e : c.loop-i.i ≡ 16 = omega arith in
    (rw e at c.loop-i.invariant.2) ∙ bytes-all a.page.now 16 _ c.requires.1
