-- What stands in the table for the votes and ones is their decision.
use mathlib.Core.Path.{ap, ◌∙◌}
use Prim.Native.Nat.{ℕ, ◌+◌, ◌*◌}
use mathlib.Core.List.{List}
use native.Mathlib.Omega.{arith}
use lib.ListN.{length, get_or}
use Rattle.vote.proofs.VoteTableLaws.{vote-table-length, said-by-tests, decided}
use Rattle.vote.proofs.vote_table.decide.Goals as goal

pub bounds-table-votes : goal.bounds-table-votes
bounds-table-votes c = omega (arith, ap (λ (l : List ℕ). length l) c.requires.0 ∙ vote-table-length)

pub returns : goal.returns
returns c =
    let a = c.args in
    said-by-tests (get_or a.table.now (a.votes * 16 + a.ones) 0) a.own ∙ decided _ _ _ c.requires.0 c.requires.1 c.requires.2
