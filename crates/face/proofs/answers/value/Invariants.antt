-- What `value`'s loop keeps: the count and the entries of the places before i are written.
use Rattle.std.proofs.Common.{◌-◌, ◌≡◌, ◌≤◌, ◌∷◌}
use Rattle.wire.specs.Writes.{overlay}
use Rattle.request.proofs.Laws.Packed.{blank}
use Rattle.face.specs.Answers.{entries_of}
use Rattle.face.proofs.answers.value.Given as goal

abbrev pub invariant-loop-i : goal.invariant-loop-i
invariant-loop-i l = (l.i ≤ l.n) × (l.bytes ≡ overlay blank 0 (l.n ∷ entries_of l.l l.held l.code l.i))

abbrev pub decreases-loop-i : goal.decreases-loop-i
decreases-loop-i l = l.n - l.i
