-- The owner's demand 1 on the peripheral unit's calls, and the number of a record that no call leaves.
use mathlib.Core.{Path.{◌≡◌}, Bool.{true, false}}
use Rattle.peripheral.specs.{declared.record.Peripheral.{Peripheral}, Record.{record_well_formed}, Calls.{Call, outcome, lent, left, next}}

-- a call that changes nothing: no count, the record as it came in, every lent byte as it was
pub record Unchanged (p : Peripheral) (call : Call) : Type 0 where
  pub count : (outcome p call).count ≡ 0
  pub peripheral : next p call ≡ p
  pub buffer : left p call ≡ lent call

-- Every refusal changes nothing, of every call, for all bytes and any record. 0x21 is what every call answers of a record that is not well
-- formed, and of no other.
pub record Refusals (p : Peripheral) (call : Call) : Type 0 where
  pub unchanged : ((outcome p call).code ≡ 0 → ⊥) → Unchanged p call
  pub malformed : record_well_formed p ≡ false → (outcome p call).code ≡ 0x21
  pub formed : record_well_formed p ≡ true → (outcome p call).code ≡ 0x21 → ⊥

abbrev pub AllRefusals : Type 0
AllRefusals = (p : Peripheral) (call : Call) → Refusals p call
