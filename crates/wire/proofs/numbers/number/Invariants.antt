-- The bytes from j to k are read.
use Rattle.std.proofs.Common.{◌≡◌, ◌-◌}
use Rattle.wire.specs.Numbers.{le_at}
use Rattle.wire.proofs.numbers.number.Given as goal

abbrev pub invariant-loop-j : goal.invariant-loop-j
invariant-loop-j l = l.n ≡ le_at (l.k - l.j) l.p l.j
