-- The answers of a batch: as if its requests were sent one by one, each with ample room for its reply.
use Rattle.std.specs.Prelude.{ℕ, ◌+◌}
use mathlib.Core.{List.{List, [], ◌∷◌, ◌++◌}, Bool.{true}}
use Rattle.std.specs.Prelude.{take, replicate}
use Rattle.wire.specs.Numbers.{bytes_of}
use Rattle.request.specs.Answers.{longest_answer}
use Rattle.profile.specs.declared.Profile.{Profile}
use Rattle.camera.specs.declared.record.Camera.{Camera}
use Rattle.camera.specs.Outcomes.{Outcome}
use Rattle.camera.specs.Record.{fresh}
use Rattle.camera.specs.Requests.{requested, requested_reply}
use Rattle.batch.specs.Packing.{Request}

-- an answer: the number, the count in two bytes, and as many bytes of the reply buffer
unfoldable pub answer_bytes : Outcome → List ℕ → List ℕ
answer_bytes o reply = o.code ∷ bytes_of 2 o.count ++ take o.count reply

-- as much room as the longest answer takes
abbrev pub ample_room : ℕ
ample_room = longest_answer

-- a request sent by itself: what `Camera::request` promises of it, and its answer
abbrev pub sent : Camera → Request → Outcome
sent c r = requested c r.setup r.payload ample_room

abbrev pub sent_reply : Camera → Request → List ℕ
sent_reply c r = requested_reply c r.setup r.payload (replicate ample_room 0)

abbrev pub answer_to : Camera → Request → List ℕ
answer_to c r = answer_bytes (sent c r) (sent_reply c r)

-- requests one after another, each on the record that the one before left: their answers, and the record that the last leaves
abbrev pub answers_to : Camera → List Request → List ℕ
answers_to c [] = []
answers_to c (r ∷ rs) = answer_to c r ++ answers_to (sent c r).camera rs

abbrev pub camera_after : Camera → List Request → Camera
camera_after c [] = c
camera_after c (r ∷ rs) = camera_after (sent c r).camera rs

-- How long the answers are, by the profile alone: three bytes each, and as many of reply as a fresh camera sends. `length_by_profile`
-- says so of every camera of the profile that is not refused 0x21, whatever its settings and its flag.
abbrev pub reply_length : Profile → Request → ℕ
reply_length p r = (sent (fresh p true) r).count

abbrev pub answers_length : Profile → List Request → ℕ
answers_length p [] = 0
answers_length p (r ∷ rs) = 3 + reply_length p r + answers_length p rs
