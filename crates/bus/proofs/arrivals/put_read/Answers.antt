-- The words, and behind them the view words where the setup is partitionable.
use native.Mathlib.Omega.{arith}
use Rattle.bus.specs.Bus.{entry_read, words_read}
use Rattle.bus.proofs.ArrivalLaws.{read-room, read_twice, put_alone, put_both}
use Rattle.bus.proofs.arrivals.put_read.Goals as goal

pub put_words-requires : goal.put_words-requires
put_words-requires c =
    let h = read-room c.args.partitionable c.args.n in
    (c.requires.0, c.requires.1, omega arith, omega (arith, c.requires.2))

pub put_words-requires-then-partitionable : goal.put_words-requires-then-partitionable
put_words-requires-then-partitionable c =
    let h = read_twice c.args.partitionable c.args.n c.if-partitionable.true in
    (c.requires.0, c.requires.1, omega (arith, c.requires.0), omega (arith, c.requires.2, c.put_words.auto.out))

pub returns-then-partitionable : goal.returns-then-partitionable
unfolding words_read
returns-then-partitionable c =
    let a = c.args in
    put_both a.partitionable a.out.now a.n (entry_read a.place a.i a.this.now a.before.now)
    (entry_read a.place a.i a.this_views.now a.before_views.now) c.requires.2 c.put_words.ensures c.if-partitionable.true c.put_words-then-partitionable.ensures

pub returns-else-partitionable : goal.returns-else-partitionable
unfolding words_read
returns-else-partitionable c =
    let a = c.args in
    put_alone a.partitionable a.out.now a.n (entry_read a.place a.i a.this.now a.before.now)
    (entry_read a.place a.i a.this_views.now a.before_views.now) c.requires.2 c.put_words.ensures c.if-partitionable.false
