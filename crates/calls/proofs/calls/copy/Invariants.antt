use Rattle.std.proofs.Common.{◌≡◌, length, ◌≤◌, take}
use Rattle.calls.proofs.calls.copy.Given as goal

-- What is done is copied.
abbrev pub invariant-loop-j : goal.invariant-loop-j
invariant-loop-j l = (l.j ≤ length l.from) × (length l.to ≡ length l.initial.to) × (take l.j l.to ≡ take l.j l.from)
