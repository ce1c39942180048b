-- What holds of batches. proofs/Theorems proves each.
use Rattle.std.specs.Prelude.{ℕ, ◌+◌, ◌*◌, ◌≤◌, ◌<◌}
use mathlib.Core.{Path.{◌≡◌}, List.{List, [], ◌∷◌, ◌++◌, map}, Option.{some}, Bool.{true, false}}
use Rattle.std.specs.Prelude.{length, take, drop}
use Rattle.request.specs.Tests.{test_number}
use Rattle.camera.specs.declared.record.Camera.{Camera}
use Rattle.camera.specs.Outcomes.{Outcome}
use Rattle.camera.specs.Record.{record_well_formed}
use Rattle.camera.specs.Requests.{table, requested, requested_reply}
use Rattle.batch.specs.Packing.{Request, EachWhole, batch_of, requests_of}
use Rattle.batch.specs.{Splitting.{StopsInside}, Answers.{answer_bytes, ample_room, sent, sent_reply, answers_to, answers_length}}
use Rattle.batch.specs.Batch.{batched, batched_out}

-- Ample room is ample: with as many bytes or more test 9 refuses no request, and the number, the count, the next record and the bytes sent
-- are those with just so many.
pub record Ample (c : Camera) (r : Request) (reply : List ℕ) : Type 0 where
  pub not_ninth : test_number (table c) r.setup r.payload (length reply) ≡ some 9 → ⊥
  pub outcome : requested c r.setup r.payload (length reply) ≡ sent c r
  pub bytes : take (sent c r).count (requested_reply c r.setup r.payload reply) ≡ take (sent c r).count (sent_reply c r)

abbrev pub AllAmple : Type 0
AllAmple = (c : Camera) → record_well_formed c ≡ true → (r : Request) (reply : List ℕ) → ample_room ≤ length reply → Ample c r reply

-- Requests sent one by one, each with the reply buffer that it is lent: their answers, and the record that they leave.
abbrev pub one_by_one : Camera → List (Request × List ℕ) → List ℕ
one_by_one c [] = []
one_by_one c (x ∷ l) =
    let done = requested c x.0.setup x.0.payload (length x.1) in
    answer_bytes done (requested_reply c x.0.setup x.0.payload x.1) ++ one_by_one done.camera l

abbrev pub left_by : Camera → List (Request × List ℕ) → Camera
left_by c [] = c
left_by c (x ∷ l) = left_by (requested c x.0.setup x.0.payload (length x.1)).camera l

abbrev pub EachAmple : List (Request × List ℕ) → Type 0
EachAmple [] = Unit {0}
EachAmple (x ∷ l) = (ample_room ≤ length x.1) × EachAmple l

-- A batch that is accepted is its requests sent so, whatever buffers with ample room they are lent.
pub record OneByOne (c : Camera) (s out : List ℕ) (l : List (Request × List ℕ)) : Type 0 where
  pub outcome : batched c s (length out) ≡ record { code = 0; count = length (one_by_one c l); camera = left_by c l }
  pub buffer : batched_out c s out ≡ one_by_one c l ++ drop (length (one_by_one c l)) out

abbrev pub AllOneByOne : Type 0
AllOneByOne =
    (c : Camera) (s out : List ℕ) → (batched c s (length out)).code ≡ 0
    → (l : List (Request × List ℕ)) → map (λ x. x.0) l ≡ requests_of s → EachAmple l → OneByOne c s out l

-- The length of all answers goes by the profile and the requests, not by settings or flag.
abbrev pub LengthByProfile : Type 0
LengthByProfile = (c : Camera) → record_well_formed c ≡ true → (rs : List Request) → length (answers_to c rs) ≡ answers_length c.profile rs

-- Which number a batch is refused with, or that it is not, in terms of bytes, profile and room.
pub record Numbered (c : Camera) (room : ℕ) : Type 0 where
  pub malformed : record_well_formed c ≡ false → (s : List ℕ) → (batched c s room).code ≡ 0x21
  pub cut : record_well_formed c ≡ true → (s : List ℕ) → StopsInside s → (batched c s room).code ≡ 0x48
  pub no_room : record_well_formed c ≡ true → (rs : List Request) → EachWhole rs → room < answers_length c.profile rs
      → (batched c (batch_of rs) room).code ≡ 0x20
  pub accepted : record_well_formed c ≡ true → (rs : List Request) → EachWhole rs → answers_length c.profile rs ≤ room
      → (batched c (batch_of rs) room).code ≡ 0

abbrev pub AllNumbered : Type 0
AllNumbered = (c : Camera) (room : ℕ) → Numbered c room

-- So of two records of one profile that are not refused 0x21, a batch is refused whole by both or by neither, and reports as much.
abbrev pub AlikeByProfile : Type 0
AlikeByProfile =
    (c d : Camera) → record_well_formed c ≡ true → record_well_formed d ≡ true → c.profile ≡ d.profile → (s : List ℕ) (room : ℕ)
    → ((batched c s room).code ≡ (batched d s room).code) × ((batched c s room).count ≡ (batched d s room).count)

-- 124 bytes for each request always suffice: three, and the longest reply.
abbrev pub BatchSuffices : Type 0
BatchSuffices =
    (c : Camera) → record_well_formed c ≡ true → (rs : List Request) → EachWhole rs → (room : ℕ) → 124 * length rs ≤ room
    → (batched c (batch_of rs) room).code ≡ 0

-- what a batch hands over: as much of the buffer as it reports
abbrev pub handed_answers : Camera → List ℕ → List ℕ → List ℕ
handed_answers c s out = take (batched c s (length out)).count (batched_out c s out)

-- Two batches that are accepted, the second on the record that the first left. The two joined, with room for both, give the answers of the
-- first and then those of the second, and leave the record that the second left.
pub record Joined (c : Camera) (a b out : List ℕ) (first second : Outcome) (answers_a answers_b : List ℕ) : Type 0 where
  pub outcome : batched c (a ++ b) (length out)
      ≡ record { code = 0; count = first.count + second.count; camera = second.camera }
  pub buffer : batched_out c (a ++ b) out ≡ answers_a ++ answers_b ++ drop (first.count + second.count) out

abbrev pub AllJoined : Type 0
AllJoined =
    (c : Camera) (a b out_a out_b out : List ℕ)
    → let first = batched c a (length out_a) in
    let second = batched first.camera b (length out_b) in
    first.code ≡ 0 → second.code ≡ 0 → first.count + second.count ≤ length out
    → Joined c a b out first second (handed_answers c a out_a) (handed_answers first.camera b out_b)
