-- `fill`: so many spaces stand behind the first columns as the loop has gone on.
use Rattle.std.proofs.Common.{◌≡◌, ◌+◌, ◌≤◌, max}
use Rattle.printing.proofs.fill.Given as goal

abbrev pub invariant-loop : goal.invariant-loop
invariant-loop l = (l.from + l.columns ≡ l.counter) × (l.counter ≤ max l.from l.to)
