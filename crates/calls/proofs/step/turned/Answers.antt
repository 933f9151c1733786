-- A change that is due is made from the words of the image; else what is lent stays.
use native.Mathlib.Omega.{arith}
use mathlib.Core.Path.{ap, ap₂, ◌∙◌}
use Rattle.setup.specs.Layout.{front_words}
use Rattle.image.specs.Layout.{left_at}
use Rattle.calls.proofs.ImageTurnLaws.{sizes, new-room, lent-stays, turned-lent}
use Rattle.calls.proofs.step.turned.Goals as goal

pub left_at-requires : goal.left_at-requires
left_at-requires c =
    let a = c.requires.image_value in
    sizes _ a.0 a.1 (c.front_words.ensures.0 ∙ ap front_words a.2)

pub turn-requires : goal.turn-requires
turn-requires c =
    let a = c.requires.image_value in
    let f = c.front_words.ensures.0 ∙ ap front_words a.2 in
    let k = sizes _ a.0 a.1 f in
    let e = c.left_at.ensures in
    let due = c.if-left-eq1.true in
    let room = new-room _ a.0 a.1 f a.3 e (λ z. omega arith) in
    (k.1, omega arith, omega arith, c.requires.filled.0, c.requires.filled.1, c.requires.filled.2)

pub returns-then-left-eq1 : goal.returns-then-left-eq1
returns-then-left-eq1 c =
    let a = c.requires.image_value in
    let f = c.front_words.ensures.0 ∙ ap front_words a.2 in
    let e = c.left_at.ensures ∙ ap₂ left_at f a.1 in
    let t = c.turn.ensures in
    λ q z h. turned-lent _ a.0 a.1 a.3 a.4 c.if-left-eq1.true e h t.0 t.1 t.2 t.3

pub returns : goal.returns
returns c = λ q z h. lent-stays _ (λ e. c.if-left-eq1.false (c.requires.image_value.3 ∙ e)) h
