-- The calls that take the camera record, all at once: what each answers, reports, leaves of the record and writes to what it is lent.
use Rattle.std.specs.Prelude.{ℕ}
use mathlib.Core.{List.{List, []}, Bool.{Bool}}
use Rattle.std.specs.Prelude.{length}
use Rattle.camera.specs.declared.record.Camera.{Camera}
use Rattle.camera.specs.Outcomes.{Outcome}
use Rattle.camera.specs.Requests.{requested, requested_reply}
use Rattle.camera.specs.Loading.{loaded}
use Rattle.camera.specs.{Writing.{written, written_out}, Calls.{streamed, sensed}}
use Rattle.batch.specs.Batch.{batched, batched_out}

-- A call with all its bytes: a request's setup, payload and lent reply; a streaming notice; a snapshot to load; a lent buffer to write one
-- to; asking for the sensor's number; and, of #102, packed requests with a lent buffer for their answers.
pub data Call : Type 0 where
  request : List ℕ → List ℕ → List ℕ → Call
  stream : Bool → Call
  load : List ℕ → Call
  write : List ℕ → Call
  sense : Call
  batch : List ℕ → List ℕ → Call

-- its outcome; asking for the sensor's number reports no count
abbrev pub outcome : Camera → Call → Outcome
outcome c (request setup payload reply) = requested c setup payload (length reply)
outcome c (stream on) = streamed c on
outcome c (load s) = loaded c s
outcome c (write out) = written c (length out)
outcome c sense = record { code = (sensed c).code; count = 0; camera = (sensed c).camera }
outcome c (batch packed out) = batched c packed (length out)

-- the bytes lent to be written to, as the call begins
abbrev pub lent : Call → List ℕ
lent (request setup payload reply) = reply
lent (stream on) = []
lent (load s) = []
lent (write out) = out
lent sense = []
lent (batch packed out) = out

-- and as it ends
abbrev pub left : Camera → Call → List ℕ
left c (request setup payload reply) = requested_reply c setup payload reply
left c (stream on) = []
left c (load s) = []
left c (write out) = written_out c out
left c sense = []
left c (batch packed out) = batched_out c packed out

-- the record after a call
abbrev pub next : Camera → Call → Camera
next c call = (outcome c call).camera
