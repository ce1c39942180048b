-- What `offers_by_place`'s loop keeps: each place has what the endpoints listed from i on offer there.
use Rattle.std.proofs.Common.{ℕ, ◌-◌, ◌+◌, ◌≡◌, ◌<◌, ◌≤◌, length, get_or}
use Rattle.wire.specs.Endpoints.{first_address, places, endpoint_limit}
use Rattle.face.specs.Limits.{offers_from}
use Rattle.entries.proofs.offers_by_place.Given as goal

abbrev pub invariant-loop-i : goal.invariant-loop-i
invariant-loop-i l =
    (l.i ≤ l.initial.i) × (l.initial.i ≤ endpoint_limit) × (length l.table ≡ places)
    × ((k : ℕ) → k < places → get_or l.table k 0 ≡ offers_from l.l (first_address + k) (l.initial.i - l.i) l.i)

abbrev pub decreases-loop-i : goal.decreases-loop-i
decreases-loop-i l = l.i
