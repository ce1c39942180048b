-- `start_of`: the records of the keys below `low` end at the cursor.
use Rattle.std.proofs.Common.{◌-◌, ◌≤◌}
use Rattle.snapshot.specs.Steps.{EndsBelow}
use Rattle.snapshot.proofs.records.start_of.Given as goal

abbrev pub invariant-loop-k : goal.invariant-loop-k
invariant-loop-k l = record { below : l.low ≤ l.key; ends : EndsBelow l.s l.at l.low }

abbrev pub decreases-loop-k : goal.decreases-loop-k
decreases-loop-k l = l.key - l.low
