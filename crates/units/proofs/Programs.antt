-- What is proved of every record that a program holds. Assumes nothing.
use Rattle.peripheral.specs.declared.record.Peripheral.{Peripheral}
use Rattle.units.specs.{Lists.{Typed}, Programs.{OfProgram}}
use Rattle.units.proofs.Lists.{all_left_by_calls}

pub of_program : (p : Peripheral) → Typed p → OfProgram p
of_program p t = record { typed = t; reached = all_left_by_calls p t }
