-- Answers of the peripheral unit: what is set reads back, what the reading reads, and what no setting touches.
use Rattle.std.specs.Prelude.{ℕ, ◌≤◌, min}
use mathlib.Core.{Path.{◌≡◌}, List.{List, [], ◌++◌}, Option.{some}, Bool.{true, false, ◌||◌}}
use lib.{Dec.{eqb}, ListN.{length, take, drop}}
use Rattle.wire.specs.{Numbers.{bytes_of}, Uvc.{get_cur}}
use Rattle.wire.proofs.Laws.Numbers.{Bytes}
use Rattle.request.specs.{Setup.{setup_selector, setup_code, setup_w_length, is_set_request}, Table.{has_control}, Tests.{test_number}}
use Rattle.request.specs.Theorems as unit
use Rattle.peripheral.specs.Selectors as selector
use Rattle.peripheral.specs.{declared.record.Peripheral.{Peripheral}, Record.{fresh, record_well_formed}, Values.{payload_switch}}
use Rattle.peripheral.specs.{Requests.{table, outcome_of}, Calls.{Call, request, outcome, left, next, refused, run}}
use Rattle.units.specs.Lists.{last_count}

-- selectors 1, 3, 4 and 6 are there, and no other
abbrev pub FourControls : Type 0
FourControls = (s : ℕ) → has_control selector.presence s ≡ eqb s 1 || eqb s 3 || eqb s 4 || eqb s 6

-- a setup of GET_CUR of a control, for this unit
pub record GetsCurrent (p : Peripheral) (s : ℕ) (g : List ℕ) : Type 0 where
  pub gets : unit.GetSetup p.unit p.interface (has_control selector.presence) g
  pub control : setup_selector g ≡ s
  pub current : setup_code g ≡ get_cur

-- What is sent of a full answer: the first min(wLength, full length) bytes, reported and at the buffer's start; the rest of the buffer and
-- the record are as they were.
pub record SendsAnswer (p : Peripheral) (g reply full : List ℕ) : Type 0 where
  pub answer : outcome p (request g [] reply) ≡ outcome_of 0 (min (setup_w_length g) (length full)) p
  pub buffer : left p (request g [] reply) ≡ take (min (setup_w_length g) (length full)) full
      ++ drop (min (setup_w_length g) (length full)) reply

-- with room for it
abbrev pub Answers : Peripheral → (control : ℕ) → List ℕ → Type 0
Answers p control full =
    (g reply : List ℕ) → GetsCurrent p control g → min (setup_w_length g) (length full) ≤ length reply → SendsAnswer p g reply full

-- An accepted SET, then GET_CUR of its control: the bytes that were set. A reset of 0 changes nothing, and the reading takes no SET.
pub record ReadsBack (p : Peripheral) (setup payload reply : List ℕ) : Type 0 where
  pub answers : (setup_selector setup ≡ selector.reset → payload_switch payload ≡ 0 → ⊥)
      → Answers (next p (request setup payload reply)) (setup_selector setup) payload
  pub no_reset : setup_selector setup ≡ selector.reset → payload_switch payload ≡ 0 → next p (request setup payload reply) ≡ p
  pub no_reading : setup_selector setup ≡ selector.reading → ⊥

abbrev pub SetThenGet : Type 0
SetThenGet =
    (p : Peripheral) (setup payload reply : List ℕ) → Bytes payload → is_set_request setup ≡ true
    → (outcome p (request setup payload reply)).code ≡ 0 → ReadsBack p setup payload reply

-- With eight bytes of reply test 9 refuses no request.
abbrev pub EightSuffice : Type 0
EightSuffice =
    (p : Peripheral) (setup payload reply : List ℕ) → 8 ≤ length reply → test_number (table p) setup payload (length reply) ≡ some 9 → ⊥

-- The reading after any list of calls from fresh, whatever refused counts, toggling, SETs and restarts lie between: with the toggle 1 the
-- last count that was taken, or 0 if there was none; with the toggle 0 it is 0x02, whatever the room.
pub record Reads (p : Peripheral) (n : ℕ) : Type 0 where
  pub counting : p.toggle ≡ 1 → Answers p selector.reading (bytes_of 2 n)
  pub disabled : p.toggle ≡ 0 → (g reply : List ℕ) → GetsCurrent p selector.reading g
      → (outcome p (request g [] reply) ≡ refused 0x02 p) × (left p (request g [] reply) ≡ reply)

abbrev pub ReadingAfter : Type 0
ReadingAfter = (unit interface mask : ℕ) (calls : List Call) → Reads (run (fresh unit interface mask) calls) (last_count 0 calls)

-- two records of one unit: the same ids and mask
pub record SameUnit (p q : Peripheral) : Type 0 where
  pub unit : p.unit ≡ q.unit
  pub interface : p.interface ≡ q.interface
  pub mask : p.mask ≡ q.mask

-- a request that two records answer alike
pub record AnsweredAlike (p q : Peripheral) (setup payload reply : List ℕ) : Type 0 where
  pub code : (outcome p (request setup payload reply)).code ≡ (outcome q (request setup payload reply)).code
  pub count : (outcome p (request setup payload reply)).count ≡ (outcome q (request setup payload reply)).count
  pub buffer : left p (request setup payload reply) ≡ left q (request setup payload reply)

-- Every request that is no SET and no GET_CUR goes by ids and mask alone.
abbrev pub FixedAnswers : Type 0
FixedAnswers =
    (p q : Peripheral) → record_well_formed p ≡ true → record_well_formed q ≡ true → SameUnit p q → (setup payload reply : List ℕ)
    → is_set_request setup ≡ false → (setup_code setup ≡ get_cur → ⊥) → AnsweredAlike p q setup payload reply
