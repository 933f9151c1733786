-- Which form, then the heads, then the words of the modules.
use native.Mathlib.Omega.{arith}
use Rattle.calls.proofs.FrameWordLaws.{held, asked, frame-fades, frame-heads, frame-words, frame-room}
use Rattle.calls.proofs.change.same_frame.Goals as goal

pub fades_at-requires : goal.fades_at-requires
fades_at-requires c =
    let a = c.requires in
    (held _ _ a.0 a.1).front.whole

pub fades_at-requires-2 : goal.fades_at-requires-2
fades_at-requires-2 c =
    let a = c.requires in
    (asked _ _ a.0 a.1).front.whole

pub returns-then-fades_at : goal.returns-then-fades_at
returns-then-fades_at c =
    let a = c.requires in
    frame-fades _ _ a.0 a.1 c.fades_at.ensures c.fades_at-2.ensures c.if-fades_at.true

pub word_at-requires : goal.word_at-requires
word_at-requires c =
    let a = c.requires in
    let r = (held _ _ a.0 a.1).front.room in
    omega arith

pub word_at-requires-2 : goal.word_at-requires-2
word_at-requires-2 c =
    let a = c.requires in
    let r = (asked _ _ a.0 a.1).front.room in
    omega arith

pub returns-then-word_at : goal.returns-then-word_at
returns-then-word_at c =
    let a = c.requires in
    frame-heads _ _ a.0 a.1 c.word_at.ensures c.word_at-2.ensures c.if-word_at.true

pub size_at-requires : goal.size_at-requires
size_at-requires c =
    let a = c.requires in
    (held _ _ a.0 a.1).front.room

pub same_modules-requires : goal.same_modules-requires
same_modules-requires c =
    let a = c.requires in
    frame-room _ _ a.0 a.1 c.fades_at.ensures c.fades_at-2.ensures c.if-fades_at.false c.word_at.ensures c.word_at-2.ensures c.if-word_at.false c.size_at.ensures

pub returns : goal.returns
returns c =
    let a = c.requires in
    frame-words _ _ a.0 a.1 c.fades_at.ensures c.fades_at-2.ensures c.if-fades_at.false c.word_at.ensures c.word_at-2.ensures c.if-word_at.false c.size_at.ensures c.same_modules.ensures
