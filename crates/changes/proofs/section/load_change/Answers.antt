-- No change, or the change that the new words hold.
use Rattle.words.specs.Word.{word_at}
use Rattle.changes.proofs.AdjustedArrays.{zeros-filled}
use Rattle.changes.proofs.SectionTests.{room-new}
use Rattle.changes.proofs.NewWords.{load-none, load-some}
use Rattle.changes.proofs.section.load_change.Goals as goal

pub returns-then-left-eq0 : goal.returns-then-left-eq0
returns-then-left-eq0 c = load-none _ _ _ c.word_at-left.ensures c.if-left-eq0.true c.nothing.ensures

pub load_criticality-requires : goal.load_criticality-requires
load_criticality-requires c =
    let room = room-new (word_at c.args.s.now) c.args.at c.args.n c.word_at-left.ensures c.if-left-eq0.false c.requires.2 in
    (c.requires.0, c.requires.1, room, zeros-filled _ c.requires.0)

pub returns : goal.returns
returns c =
    load-some _ _ _ c.word_at-left.ensures c.if-left-eq0.false c.word_at.ensures
    c.word_at-2.ensures c.load_criticality.ensures
