-- No fault was met so far; and the steps still to go are fewer.
use Rattle.descriptors.specs.Scan.{Going, togo}
use Rattle.descriptors.proofs.properties.property.Given as goal

abbrev pub invariant-loop-c : goal.invariant-loop-c
invariant-loop-c l = Going l.set l.k l.c

abbrev pub decreases-loop-c : goal.decreases-loop-c
decreases-loop-c l = togo l.set l.c
