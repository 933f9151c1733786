-- The row of j is taken off the rows present, where it is one of them.
use Rattle.std.proofs.Common.{◌≡◌, ℕ, ◌-◌, ◌%◌, sym, ap, ap₂, ◌∙◌, arith}
use lib.ListN.{get_or}
use Rattle.words.specs.Bits.{bit, b2n}
use Rattle.vote.specs.Vote.{decision}
use Rattle.vote.specs.Lanes.{column_in, column_of, votes_but, decided_by}
use Rattle.vote.proofs.four.vote_on.Goals as goal

pub decide-requires : goal.decide-requires
unfolding column_of
decide-requires c =
    let a = c.args in
    let v = c.flag.ensures.0 ∙ ap b2n c.bit_at.ensures in
    let m : a.j % 4 ≡ a.j = omega arith in
    let o : c.column.result ≡ column_of a.lanes.now a.j = c.column.ensures ∙ ap (λ (k : ℕ). column_in (get_or a.lanes.now k 0) a.j) (sym m) in
    (c.requires.0, rw v c.requires.2.1, rw (v, o) c.requires.2.2)

pub returns : goal.returns
unfolding decided_by column_of
returns c =
    let a = c.args in
    let v = c.flag.ensures.0 ∙ ap b2n c.bit_at.ensures in
    let m : a.j % 4 ≡ a.j = omega arith in
    let o : c.column.result ≡ column_of a.lanes.now a.j = c.column.ensures ∙ ap (λ (k : ℕ). column_in (get_or a.lanes.now k 0) a.j) (sym m) in
    c.decide.ensures
    ∙ ap₂ (λ x b. decision (a.present - x) c.column.result b) v c.bit_at-2.ensures
    ∙ ap (λ (x : ℕ). decision (votes_but a.present a.voters a.j) x (bit a.own a.j)) o
