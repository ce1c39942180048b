-- `walk`: what is left to walk comes to what the whole comes to, and no more items are passed than bytes.
use Rattle.std.proofs.Common.{length, ◌-◌, ◌≤◌}
use Rattle.frame.specs.Steps.{told_found}
use Rattle.frame.proofs.Laws.Walk.{Left}
use Rattle.frame.proofs.blocks.walk.Given as goal

abbrev pub invariant-loop-at : goal.invariant-loop-at
invariant-loop-at l = record {
  inside : l.at ≤ length l.block;
  few : l.n ≤ l.at;
  left : Left l.k l.at l.n (told_found l.found) l.block;
}

abbrev pub decreases-loop-at : goal.decreases-loop-at
decreases-loop-at l = length l.block - l.at
