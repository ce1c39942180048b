-- The records of the keys below `key` are written.
use Rattle.std.proofs.Common.{◌≤◌, ◌-◌}
use Rattle.snapshot.specs.Keys.{keys}
use Rattle.encoding.proofs.Laws.Encoding.{Progress}
use Rattle.encoding.proofs.write.Given as goal

abbrev pub invariant-loop-key : goal.invariant-loop-key
invariant-loop-key l = (l.key ≤ keys) × Progress l.s l.fn.out l.out l.at l.key

abbrev pub decreases-loop-key : goal.decreases-loop-key
decreases-loop-key l = keys - l.key
