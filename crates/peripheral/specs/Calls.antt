-- The calls that take the unit's record, all at once: what each answers, reports, leaves of the record and writes to what it is lent.
use Rattle.std.specs.Prelude.{ℕ}
use mathlib.Core.{List.{List, [], ◌∷◌}, Bool.{not}}
use lib.{Dec.{ltb}, ListN.{length}}
use Rattle.wire.specs.{Rows.{◌⇒◌, first_of}, Uvc.{malformed_record, out_of_range}}
use Rattle.request.specs.Requests.{result_by}
use Rattle.peripheral.specs.declared.record.Peripheral.{Peripheral}
use Rattle.peripheral.specs.Outcomes.{Outcome}
use Rattle.peripheral.specs.{Record.{record_well_formed, most, with_count, with_reset}, Requests.{outcome_of, requested, requested_reply}}

-- a refusal: its number, no count, and the record as it came in
abbrev pub refused : ℕ → Peripheral → Outcome
refused code p = outcome_of code 0 p

-- the detector's count, whether the toggle is 1 or 0
unfoldable pub count_code : Peripheral → ℕ → ℕ
count_code p n = first_of ((not (record_well_formed p) ⇒ malformed_record) ∷ (ltb most n ⇒ out_of_range) ∷ [])

unfoldable pub counted : Peripheral → ℕ → Outcome
counted p n = result_by outcome_of (count_code p n) p (outcome_of 0 0 (with_count p n))

-- the restart clears the reset byte and nothing else
unfoldable pub restart_code : Peripheral → ℕ
restart_code p = first_of ((not (record_well_formed p) ⇒ malformed_record) ∷ [])

unfoldable pub restarted : Peripheral → Outcome
restarted p = result_by outcome_of (restart_code p) p (outcome_of 0 0 (with_reset p 0))

-- A call with all its bytes: a request's setup, payload and lent reply; the detector's count; the restart.
pub data Call : Type 0 where
  request : List ℕ → List ℕ → List ℕ → Call
  count : ℕ → Call
  restart : Call

abbrev pub outcome : Peripheral → Call → Outcome
outcome p (request setup payload reply) = requested p setup payload (length reply)
outcome p (count n) = counted p n
outcome p restart = restarted p

-- the bytes lent to be written to, as the call begins, and as it ends
abbrev pub lent : Call → List ℕ
lent (request setup payload reply) = reply
lent (count n) = []
lent restart = []

abbrev pub left : Peripheral → Call → List ℕ
left p (request setup payload reply) = requested_reply p setup payload reply
left p (count n) = []
left p restart = []

-- the record after a call, and after a list of them
abbrev pub next : Peripheral → Call → Peripheral
next p call = (outcome p call).peripheral

abbrev pub run : Peripheral → List Call → Peripheral
run p [] = p
run p (call ∷ calls) = run (next p call) calls
