-- What is proved of every record that a program holds, with nothing asked of it but that it is not refused 0x21: the types' facts are the
-- checker's and not a reader's.
use mathlib.Core.{Path.{◌≡◌}, Bool.{true}}
use Rattle.peripheral.specs.{declared.record.Peripheral.{Peripheral}, Record.{record_well_formed}}
use Rattle.units.specs.Lists.{Typed, LeftByCalls}

pub record OfProgram (p : Peripheral) : Type 0 where
  pub typed : Typed p
  pub reached : record_well_formed p ≡ true → LeftByCalls p
