-- The records of the keys below `key` are measured.
use Rattle.std.proofs.Common.{◌≤◌, ◌-◌}
use Rattle.snapshot.specs.Keys.{keys}
use Rattle.encoding.proofs.Laws.Encoding.{Measured}
use Rattle.encoding.proofs.measure.Given as goal

abbrev pub invariant-loop-key : goal.invariant-loop-key
invariant-loop-key l = (l.key ≤ keys) × Measured l.s l.n l.key

abbrev pub decreases-loop-key : goal.decreases-loop-key
decreases-loop-key l = keys - l.key
