-- Why a batch is refused, the number of each, and what the code's result comes to.
use Rattle.std.specs.Prelude.{◌≡◌, ℕ, Result, Ok, Err, eqb, false, refl}
use Rattle.wire.specs.{Uvc.{no_room, malformed_record}, Refusals.{number_by}}
use Rattle.request.specs.declared.reply.Done.{Done}
use Rattle.camera.specs.{declared.record.Camera.{Camera}, Outcomes.{Outcome}}
use Rattle.batch.specs.declared.refusal.Refusal.{Refusal}
use Rattle.batch.specs.declared.refusal.Refusal.TheVariants as R

-- a batch that stops inside a request
abbrev pub cut_batch : ℕ
cut_batch = 0x48

abbrev pub code_of : Refusal → ℕ
code_of R.NoRoom = no_room
code_of R.MalformedRecord = malformed_record
code_of R.Cut = cut_batch

-- none is acceptance
pub is_refused : (e : Refusal) → eqb (code_of e) 0 ≡ false
is_refused R.NoRoom = refl
is_refused R.MalformedRecord = refl
is_refused R.Cut = refl

-- the number that a result stands for: 0 where it is not refused
abbrev pub batch_verdict : {A : Type 0} → Result A Refusal → ℕ
batch_verdict = number_by code_of

-- what a batch to the camera c comes to: a refusal has a count of 0 and the record as it came in
abbrev pub of_batch : Camera → Result (Done Camera) Refusal → Outcome
of_batch c (Ok d) = record { code = 0; count = d.count; camera = d.next }
of_batch c (Err e) = record { code = code_of e; count = 0; camera = c }
