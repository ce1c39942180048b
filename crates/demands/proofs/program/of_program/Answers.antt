-- What the types say of a camera's settings is what its theorems ask for. Assumes nothing.
use Rattle.demands.proofs.{Laws.Typed.{held_typed}, Programs.{of_program}}
use Rattle.demands.proofs.program.of_program.Goals as goal

pub returns : goal.returns
returns c =
    of_program c.args.camera (record {
      flags = held_typed c.args.camera.settings c.ev_typed.ensures c.face_typed.ensures;
      maximum = c.maximum_typed.ensures;
    }) c.places_typed.ensures
