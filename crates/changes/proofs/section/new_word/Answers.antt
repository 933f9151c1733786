-- P, R, or the word of a module.
use Rattle.changes.proofs.NewWords.{first_word, second_word_lem, later-word}
use Rattle.changes.proofs.section.new_word.Goals as goal

pub returns-then-i-eq0 : goal.returns-then-i-eq0
returns-then-i-eq0 c = first_word _ _ _ c.if-i-eq0.true

pub returns-then-i-eq1 : goal.returns-then-i-eq1
returns-then-i-eq1 c = second_word_lem _ _ _ c.if-i-eq1.true

pub returns : goal.returns
returns c =
    let a = c.args in
    later-word a.setup a.pending a.i c.if-i-eq0.false c.if-i-eq1.false
    c.bit_at.ensures c.module_word.ensures
