-- `bytes`: so many columns as the bytes so far take.
use Rattle.std.proofs.Common.{◌≡◌, length}
use Rattle.printing.specs.Printing.{bytes_columns}
use Rattle.printing.proofs.bytes.Given as goal

abbrev pub invariant-loop-i : goal.invariant-loop-i
invariant-loop-i l = l.columns ≡ bytes_columns l.i (length l.between)
