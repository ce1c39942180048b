-- What a call of the camera answers, in document 01's numbers, and what the code's results come to.
use Rattle.std.specs.Prelude.{ℕ, ℤ, pos, Result, Ok, Err}
use Rattle.wire.specs.{declared.refusal.Refusal.{Refusal}, Refusals.{code_of}}
use Rattle.request.specs.declared.reply.Done.{Done}
use Rattle.camera.specs.declared.record.Camera.{Camera}

-- document 01's number, how many bytes were written, and the next record
pub record Outcome : Type 0 where
  pub code : ℕ
  pub count : ℕ
  pub camera : Camera

-- the number that the sensor is handed, in its units
pub record Sensed : Type 0 where
  pub code : ℕ
  pub value : ℤ
  pub camera : Camera

-- what a call on the camera c comes to by its result: a refusal has a count of 0 and the record as it came in. A request's, a load's or a
-- notice's, a writing's, and the sensor's
abbrev pub of_request : Camera → Result (Done Camera) Refusal → Outcome
of_request c (Ok d) = record { code = 0; count = d.count; camera = d.next }
of_request c (Err e) = record { code = code_of e; count = 0; camera = c }

abbrev pub of_change : Camera → Result Camera Refusal → Outcome
of_change c (Ok next) = record { code = 0; count = 0; camera = next }
of_change c (Err e) = record { code = code_of e; count = 0; camera = c }

abbrev pub of_writing : Camera → Result ℕ Refusal → Outcome
of_writing c (Ok n) = record { code = 0; count = n; camera = c }
of_writing c (Err e) = record { code = code_of e; count = 0; camera = c }

abbrev pub of_sensing : Camera → Result ℤ Refusal → Sensed
of_sensing c (Ok v) = record { code = 0; value = v; camera = c }
of_sensing c (Err e) = record { code = code_of e; value = pos 0; camera = c }
