-- Each round takes eight bytes of setup at least.
use Rattle.std.proofs.Common.{length}
use Rattle.bench.proofs.batches.exchanges.Given as goal

abbrev pub decreases-loop-requests : goal.decreases-loop-requests
decreases-loop-requests l = length l.requests
