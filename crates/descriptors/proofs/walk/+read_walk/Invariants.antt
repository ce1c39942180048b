-- The bytes left fall: `walk` at a stretch calls `read` at the same or a shorter one, and `read` calls `walk` at the inside of a subset,
-- which is shorter by its header. So `walk`'s measure is one more than twice the bytes left, and `read`'s twice. The loop: the fault of
-- the stretch is that of what is left, and nothing was written to `fault` yet.
use Rattle.std.proofs.Common.{◌≡◌, ◌+◌, ◌-◌, ◌*◌, ◌≤◌}
use Rattle.descriptors.specs.Set.{contents_of, fault_of}
use Rattle.descriptors.proofs.walk.+read_walk.Given as goal

abbrev pub decreases-read : goal.decreases-read
decreases-read l = 2 * (l.end - l.at)

abbrev pub decreases-walk : goal.decreases-walk
decreases-walk l = 2 * (l.end - l.from) + 1

abbrev pub invariant-walk-loop-at : goal.invariant-walk-loop-at
invariant-walk-loop-at l =
    (l.from ≤ l.at) × (l.at ≤ l.end) × (fault_of (contents_of l.s l.p l.at l.end) ≡ fault_of (contents_of l.s l.p l.from l.end))
    × (l.fault ≡ l.fn.fault)

abbrev pub decreases-walk-loop-at : goal.decreases-walk-loop-at
decreases-walk-loop-at l = l.end - l.at
