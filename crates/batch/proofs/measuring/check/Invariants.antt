-- What the loop of `check` keeps true, and what falls.
use Rattle.std.proofs.Common.{◌-◌, length}
use Rattle.batch.proofs.Laws.Walking.{Measured}
use Rattle.batch.proofs.measuring.check.Given as goal

abbrev pub invariant-loop-at : goal.invariant-loop-at
invariant-loop-at l = Measured l.p l.packed l.room l.needed l.at

abbrev pub decreases-loop-at : goal.decreases-loop-at
decreases-loop-at l = length l.packed - l.at
