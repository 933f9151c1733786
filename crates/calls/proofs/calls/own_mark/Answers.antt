-- The word of the module itself, by its own number.
use native.Mathlib.Omega.{arith}
use Rattle.words.specs.Word.{word_at}
use Rattle.setup.specs.Setup.{fades_in}
use Rattle.setup.proofs.BoundLaws.{front-most}
use Rattle.image.proofs.TailLaws.{image-pass}
use Rattle.calls.proofs.ModuleCallLaws.{section-asked, own-in-range, mark_made}
use Rattle.calls.proofs.calls.own_mark.Goals as goal

pub own_in-own-requires : goal.own_in-own-requires
own_in-own-requires c =
    let a = c.requires in
    section-asked _ (image-pass _ a.0) a.1 (omega (arith, a.1, front-most (fades_in (word_at c.args.image.now)))) a.2

pub overflow_add-front : goal.overflow_add-front
overflow_add-front c =
    let a = c.requires in
    let f = image-pass _ a.0 in
    omega (arith, a.1, a.2, front-most (fades_in (word_at c.args.image.now)), (own-in-range _ f a.2 a.1 c.own_in-own.ensures).1, f.front.most)

pub word_at-requires : goal.word_at-requires
word_at-requires c =
    let a = c.requires in
    let f = image-pass _ a.0 in
    let r = own-in-range _ f a.2 a.1 c.own_in-own.ensures in
    omega (arith, f.size, r.0, r.1, a.1, a.2)

pub returns : goal.returns
returns c =
    let a = c.requires in
    mark_made _ (image-pass _ a.0) a.2 a.1 c.own_in-own.ensures c.word_at.ensures c.bit_at.ensures
