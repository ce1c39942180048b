-- What a batch comes to: it is refused whole, or all its requests are answered.
use Rattle.std.specs.Prelude.{ℕ}
use mathlib.Core.{List.{List, [], ◌∷◌, ◌++◌}, Bool.{cond, not}}
use lib.{Dec.{ltb, eqb}, ListN.{length, drop}}
use Rattle.wire.specs.{Rows.{Row, ◌⇒◌, first_of}, Uvc.{malformed_record, no_room}}
use Rattle.profile.specs.declared.Profile.{Profile}
use Rattle.camera.specs.declared.record.Camera.{Camera}
use Rattle.camera.specs.Outcomes.{Outcome}
use Rattle.camera.specs.Record.{record_well_formed}
use Rattle.camera.specs.Requests.{outcome_by}
use Rattle.batch.specs.{Refusals.{cut_batch}, Packing.{requests_of, is_whole}, Answers.{answers_to, camera_after, answers_length}}

-- the answers to a batch, and the record that they leave
abbrev pub batch_answers : Camera → List ℕ → List ℕ
batch_answers c s = answers_to c (requests_of s)

-- the record, then a batch that stops inside a request, then room for all the answers
unfoldable pub batch_code : Camera → List ℕ → ℕ → ℕ
batch_code c s room =
    first_of
    ((not (record_well_formed c) ⇒ malformed_record)
    ∷ (not (is_whole s) ⇒ cut_batch)
    ∷ (ltb room (length (batch_answers c s)) ⇒ no_room)
    ∷ [])

unfoldable pub batched : Camera → List ℕ → ℕ → Outcome
batched c s room =
    outcome_by (batch_code c s room) c
    (record { code = 0; count = length (batch_answers c s); camera = camera_after c (requests_of s) })

-- the answer buffer afterwards
unfoldable pub batched_out : Camera → List ℕ → List ℕ → List ℕ
batched_out c s out = cond (eqb (batch_code c s (length out)) 0) (batch_answers c s ++ drop (length (batch_answers c s)) out) out

-- the last two tests by profile, bytes and room alone
unfoldable pub batch_tests : Profile → List ℕ → ℕ → List Row
batch_tests p s room =
    (not (is_whole s) ⇒ cut_batch)
    ∷ (ltb room (answers_length p (requests_of s)) ⇒ no_room)
    ∷ []
