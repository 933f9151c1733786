-- The kind is added to a number below it.
use borrow.Author.Rules.{rules}
use Rattle.rules.specs.Hearing.{bus_word}
use Rattle.rules.proofs.hearing.bus_word.Goals as goal

pub returns : goal.returns
unfolding bus_word
returns c = search rules
