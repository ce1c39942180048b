-- What the types say of the record, as the three calls hand it on.
use Rattle.units.proofs.Programs.{of_program}
use Rattle.units.proofs.program.of_program.Goals as goal

pub returns : goal.returns
returns c =
    of_program c.args.peripheral
    (record { unit = c.byte_typed.ensures; interface = c.byte_typed-2.ensures; mode = c.mode_typed.ensures })
