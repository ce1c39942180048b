-- The owner's demand 1 on the calls that take the record, all at once. Assumes nothing.
use mathlib.Core.{Path.{◌≡◌, refl, ap, sym, ◌∙◌}, List.{List}, Bool.{Bool, true, false, cond}}
use Prim.Native.Nat.{ℕ}
use lib.{Dec.{eqb}, IntN.{pos}, ListN.{length}}
use borrow.Author.Tests.{ne_eqb}
use Rattle.wire.specs.{Uvc.{malformed_record}, declared.refusal.Refusal.{Refusal}, Refusals.{code_of}}
use Rattle.wire.specs.declared.refusal.Refusal.TheVariants as R
use Rattle.batch.specs.declared.refusal.Refusal as Batch
use Rattle.batch.specs.declared.refusal.Refusal.TheVariants as B
use Rattle.batch.specs.Refusals as batch-refusals
use Rattle.request.specs.Setup.{setup_selector}
use Rattle.request.proofs.Laws.Tests.{at_unformed}
use Rattle.request.proofs.Laws.Requests as laws
use Rattle.request.proofs.Theorems as requests
use Rattle.exposure.specs.Exposure.{sensor_value}
use Rattle.settings.specs.Items.{set_gives}
use Rattle.camera.specs.declared.record.Camera.{Camera}
use Rattle.camera.specs.Outcomes.{Outcome}
use Rattle.camera.specs.Record.{puts, record_well_formed}
use Rattle.camera.specs.Requests.{table, requested_code, outcome_of, refused, outcome_by, request_done, requested}
use Rattle.camera.specs.{Loading.{load_code, load_code_under, loaded_under}, Writing.{write_code, written, written_out}}
use Rattle.camera.specs.Calls.{record_code, streamed, sensed}
use Rattle.batch.specs.Batch.{batch_code, batched, batched_out}
use Rattle.demands.specs.Calls.{Call, request, stream, load, write, sense, batch, outcome}
use Rattle.demands.specs.Refusals.{Unchanged, ToldApart}

-- a call by its number: where that is not 0, it is refused
pub by_number : (code : ℕ) (c : Camera) (done : Outcome) → done.code ≡ 0 → ((outcome_by code c done).code ≡ 0 → ⊥)
    → (code ≡ 0 → ⊥) × (outcome_by code c done ≡ refused code c)
by_number = laws.result_refused outcome_of (λ o. o.code) (λ code count c. refl)

done_code : (c : Camera) (s payload : List ℕ) → (request_done c s payload).code ≡ 0
unfolding request_done
done_code c s payload =
    laws.done_code outcome_of (λ o. o.code) (λ code count c. refl) (table c) c (puts c (set_gives c.profile (setup_selector s) payload)) s

-- every refusal, of every call, for all bytes and any record
pub refusals : (c : Camera) (call : Call) → ((outcome c call).code ≡ 0 → ⊥) → Unchanged c call
unfolding requested loaded_under written written_out streamed sensed batched batched_out
refusals c (request s payload reply) n =
    let r = by_number (requested_code c s payload (length reply)) c (request_done c s payload) (done_code c s payload) n in
    record {
      count = ap (λ o. o.count) r.1;
      camera = ap (λ o. o.camera) r.1;
      buffer = (requests.refusals (table c) s payload reply
          r.0).buffer;
    }
refusals c (stream on) n =
    let r = by_number (record_code c) c _ refl n in
    record { count = ap (λ o. o.count) r.1; camera = ap (λ o. o.camera) r.1; buffer = refl }
refusals c (load s) n =
    let r = by_number (load_code c s) c _ refl n in
    record { count = ap (λ o. o.count) r.1; camera = ap (λ o. o.camera) r.1; buffer = refl }
refusals c (write out) n =
    let r = by_number (write_code c (length out)) c _ refl n in
    record {
      count = ap (λ o. o.count) r.1;
      camera = ap (λ o. o.camera)
          r.1;
      buffer = rw (ne_eqb (write_code c (length out)) 0 r.0);
    }
refusals c sense n = record { count = refl; camera = refl; buffer = refl }
refusals c (batch packed out) n =
    let r = by_number (batch_code c packed (length out)) c _ refl n in
    record {
      count = ap (λ o. o.count) r.1;
      camera = ap (λ o. o.camera) r.1;
      buffer = rw (ne_eqb (batch_code c packed (length out)) 0 r.0);
    }

-- and the sensor is handed 0
pub refused_sensor : (c : Camera) → ((sensed c).code ≡ 0 → ⊥) → (sensed c).value ≡ pos 0
unfolding sensed
refused_sensor c n = go (record_well_formed c) n
  where
    go : (w : Bool) → (cond {A = ℕ} w 0 malformed_record ≡ 0 → ⊥) → cond w (sensor_value c.profile.ev c.settings.ev) (pos 0) ≡ pos 0
    go true m = absurd (m refl)
    go false m = refl

-- A record that is not well formed is refused 0x21, by every call that takes it.
pub malformed_refused : (c : Camera) → record_well_formed c ≡ false → (call : Call) → (outcome c call).code ≡ malformed_record
unfolding requested streamed loaded_under load_code_under written write_code sensed batched batch_code
malformed_refused c w (request s payload reply) = rw (at_unformed (table c) s payload (length reply) w)
malformed_refused c w (stream on) = rw w
malformed_refused c w (load s) = rw w
malformed_refused c w (write out) = rw w
malformed_refused c w sense = rw w
malformed_refused c w (batch packed out) = rw w

-- the refusal of a number
refusal_of : ℕ → Refusal
refusal_of n =
    cond (eqb n 0x02) R.WrongState
    (cond (eqb n 0x04) R.OutOfRange
    (cond (eqb n 0x05) R.InvalidUnit
    (cond (eqb n 0x06) R.InvalidControl
    (cond (eqb n 0x07) R.InvalidRequest
    (cond (eqb n 0x08) R.InvalidValue
    (cond (eqb n 0x20) R.NoRoom
    (cond (eqb n 0x21) R.MalformedRecord
    (cond (eqb n 0x22) R.MalformedSnapshot
    R.Unknown))))))))

read_back : (e : Refusal) → refusal_of (code_of e) ≡ e
unfolding refusal_of
read_back R.WrongState = refl
read_back R.OutOfRange = refl
read_back R.InvalidUnit = refl
read_back R.InvalidControl = refl
read_back R.InvalidRequest = refl
read_back R.InvalidValue = refl
read_back R.NoRoom = refl
read_back R.MalformedRecord = refl
read_back R.MalformedSnapshot = refl
read_back R.Unknown = refl

batch_refusal_of : ℕ → Batch.Refusal
batch_refusal_of n = cond (eqb n 0x20) B.NoRoom (cond (eqb n 0x21) B.MalformedRecord B.Cut)

batch_read_back : (e : Batch.Refusal) → batch_refusal_of (batch-refusals.code_of e) ≡ e
unfolding batch_refusal_of
batch_read_back B.NoRoom = refl
batch_read_back B.MalformedRecord = refl
batch_read_back B.Cut = refl

pub told_apart : ToldApart
told_apart = record {
  calls = λ a b h. sym (read_back a) ∙ ap refusal_of h ∙ read_back b;
  batches = λ a b h. sym (batch_read_back a) ∙ ap batch_refusal_of h ∙ batch_read_back b;
}
