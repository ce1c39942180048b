-- The first bytes are those of n, and what is left is n without them.
use Rattle.std.proofs.Common.{◌≡◌, ◌/◌, ◌^◌, length, take}
use Rattle.wire.specs.Numbers.{bytes_of}
use Rattle.wire.proofs.numbers.bytes.Given as goal

abbrev pub invariant-loop-byte : goal.invariant-loop-byte
invariant-loop-byte g l =
    (length l.byte-items ≡ g.row.N) × (take l.byte-index l.byte-items ≡ bytes_of l.byte-index l.n) × (l.rest ≡ l.n / 256 ^ l.byte-index)
