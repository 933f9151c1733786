-- The table of the source is the one that the rule of the vote makes: one test of all entries, computed.
use mathlib.Core.Path.{refl}
use Rattle.words.specs.Table.{table, updated}
use Rattle.vote.specs.VoteTable.{table_entry, vote_table}
use Rattle.vote.proofs.health.health.Goals as goal

pub health_by-requires : goal.health_by-requires
unfolding vote_table table updated table_entry
health_by-requires c = (refl, c.requires.0, c.requires.1)
