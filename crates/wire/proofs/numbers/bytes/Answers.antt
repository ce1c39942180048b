-- `bytes` writes a byte more at each turn.
use Rattle.std.proofs.Common.{arith}
use Rattle.wire.proofs.Laws.Bytes.{one_written}
use Rattle.wire.proofs.numbers.bytes.Goals as goal

pub loop-byte-preserved : goal.loop-byte-preserved
loop-byte-preserved g c =
    let b = c.loop-byte in
    let i = b.invariant in
    one_written _ c.args.n b.byte-index b.rest b.byte-items i.0 i.1 (omega arith) i.2
