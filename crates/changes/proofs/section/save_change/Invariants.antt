-- The rounds left are written, and the new words below i.
use Rattle.std.proofs.Common.{◌≡◌, ◌+◌}
use Rattle.words.specs.Runs.{put_run}
use Rattle.changes.specs.Words.{new_word}
use Rattle.changes.proofs.section.save_change.Given as goal

abbrev pub invariant-loop-i : goal.invariant-loop-i
invariant-loop-i l = l.out ≡ put_run l.initial.out (l.at + 1) l.i (new_word l.setup l.pending)
