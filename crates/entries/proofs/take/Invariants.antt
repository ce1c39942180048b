-- What `take`'s loop keeps: the entries before i are taken, their places marked and their settings laid.
use Rattle.std.proofs.Common.{◌-◌, ◌≡◌, ◌≤◌, length}
use Rattle.wire.specs.Endpoints.{places, endpoint_limit}
use Rattle.entries.proofs.Laws.Entries.{Walked}
use Rattle.entries.proofs.take.Given as goal

abbrev pub invariant-loop-i : goal.invariant-loop-i
invariant-loop-i l =
    (l.i ≤ l.i-end) × (length l.seen ≡ endpoint_limit) × (length l.next ≡ places) × Walked l.l l.fn.held l.payload l.i l.seen l.next

abbrev pub decreases-loop-i : goal.decreases-loop-i
decreases-loop-i l = l.i-end - l.i
