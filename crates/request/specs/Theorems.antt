-- What holds of every unit's requests. proofs/Theorems proves each.
use Rattle.std.specs.Prelude.{ℕ, suc, ◌≤◌}
use mathlib.Core.{Path.{◌≡◌}, List.{List, [], ◌∷◌, ◌++◌, map}, Option.{none, some}, Bool.{Bool, true, false, cond}}
use Rattle.std.specs.Prelude.{length, take, drop}
use Rattle.wire.specs.{Numbers.{bytes_of}, Rows.{Row, ◌⇒◌, AnswersAt}, Uvc.{get_info, get_len}}
use Rattle.request.specs.{Setup.{setup_value_low, setup_selector, setup_code, is_set_request, is_get_request}, Table.{Table}}
use Rattle.request.specs.Tests.{is_addressed, full_answer, asked, sent_count, request_rows, request_code, test_number}
use Rattle.request.specs.Requests.{request_count, replied, requested_by}

-- the number that a row answers with
abbrev pub row_number : Row → ℕ
row_number (test ⇒ code) = code

-- Nine tests, in 01's order: the place of the first row that fails, from 1 on, is the number of the test that answered. None fails exactly
-- where the request is accepted.
pub record Ordered (t : Table) (setup payload : List ℕ) (room : ℕ) : Type 0 where
  pub nine : length (request_rows t setup payload room) ≡ 9
  pub numbers : map row_number (request_rows t setup payload room)
      ≡ 0x21 ∷ 0xFF ∷ 0x05 ∷ 0x06 ∷ 0x07 ∷ 0xFF ∷ t.state (setup_selector setup) (setup_code setup)
      ∷ cond (is_set_request setup) (t.values (setup_selector setup) payload) 0 ∷ 0x20 ∷ []
  pub answered : (i : ℕ) → test_number t setup payload room ≡ some (suc i) → AnswersAt (request_rows t setup payload room) i
  pub from_one : test_number t setup payload room ≡ some 0 → ⊥
  pub accepted : request_code t setup payload room ≡ 0 → test_number t setup payload room ≡ none
  pub none_fails : test_number t setup payload room ≡ none → request_code t setup payload room ≡ 0

abbrev pub AllOrdered : Type 0
AllOrdered = (t : Table) (setup payload : List ℕ) (room : ℕ) → Ordered t setup payload room

-- Demand 1: a refused request reports a count of 0 and leaves every byte of the reply buffer.
pub record RequestRefused (t : Table) (setup payload reply : List ℕ) : Type 0 where
  pub count : request_count t setup payload (length reply) ≡ 0
  pub buffer : replied t setup payload reply ≡ reply

abbrev pub RequestRefusals : Type 0
RequestRefusals =
    (t : Table) (setup payload reply : List ℕ) → (request_code t setup payload (length reply) ≡ 0 → ⊥) → RequestRefused t setup payload reply

-- An accepted GET writes the first min(wLength, full length) bytes of its answer, reports that count and touches nothing else.
pub record Sends (t : Table) (setup payload reply : List ℕ) : Type 0 where
  pub count : request_count t setup payload (length reply) ≡ sent_count t setup
  pub buffer : replied t setup payload reply ≡ take (sent_count t setup) (asked t setup) ++ drop (sent_count t setup) reply

abbrev pub GetSends : Type 0
GetSends =
    (t : Table) (setup payload reply : List ℕ) → is_set_request setup ≡ false → request_code t setup payload (length reply) ≡ 0
    → Sends t setup payload reply

-- A GET's setup for a control that is present. With no payload, past test 7 and with room for its answer it is accepted.
pub record GetSetup (unit interface : ℕ) (present : ℕ → Bool) (setup : List ℕ) : Type 0 where
  pub eight : length setup ≡ 8
  pub addresses : is_addressed unit interface setup ≡ true
  pub there : present (setup_selector setup) ≡ true
  pub low : setup_value_low setup ≡ 0
  pub get : is_get_request setup ≡ true

abbrev pub GetAccepted : Type 0
GetAccepted =
    (t : Table) (setup : List ℕ) (room : ℕ) → t.formed ≡ true → GetSetup t.unit t.interface t.present setup
    → t.state (setup_selector setup) (setup_code setup) ≡ 0 → sent_count t setup ≤ room → request_code t setup [] room ≡ 0

-- A setup of eight bytes whose wIndex has another unit id or another interface is 0x05, where the record is not 0x21.
abbrev pub ElsewhereRefused : Type 0
ElsewhereRefused =
    (t : Table) (unit interface : ℕ) (setup payload : List ℕ) (room : ℕ) → t.formed ≡ true → length setup ≡ 8
    → is_addressed unit interface setup ≡ true → ((unit ≡ t.unit) × (interface ≡ t.interface) → ⊥)
    → request_code t setup payload room ≡ 0x05

-- LEN answers two bytes, and INFO one.
abbrev pub LenAnswers : Type 0
LenAnswers = (t : Table) (selector : ℕ) → full_answer t selector get_len ≡ bytes_of 2 (t.len selector)

abbrev pub InfoAnswers : Type 0
InfoAnswers = (t : Table) (selector : ℕ) → full_answer t selector get_info ≡ t.info selector ∷ []

-- All of this of one request, where a unit hands back this number and this count and leaves these bytes in the reply buffer.
pub record AsAnyUnit (t : Table) (setup payload reply : List ℕ) (code count : ℕ) (left : List ℕ) : Type 0 where
  pub ordered : Ordered t setup payload (length reply)
  pub answered : code ≡ request_code t setup payload (length reply)
  pub refused : (code ≡ 0 → ⊥) → (count ≡ 0) × (left ≡ reply)
  pub set : is_set_request setup ≡ true → (count ≡ 0) × (left ≡ reply)
  pub sent : is_set_request setup ≡ false → code ≡ 0
      → (count ≡ sent_count t setup) × (left ≡ take (sent_count t setup) (asked t setup) ++ drop (sent_count t setup) reply)

-- Every unit's requests are so, whatever its record R is and what it hands back, O.
abbrev pub AllUnits : Type 1
AllUnits =
    (R O : Type 0) (out : ℕ → ℕ → R → O) (code count : O → ℕ) → ((n k : ℕ) (r : R) → (code (out n k r) ≡ n) × (count (out n k r) ≡ k))
    → (t : Table) (before set : R) (setup payload reply : List ℕ)
    → let o = requested_by out t before set setup payload (length reply) in
    AsAnyUnit t setup payload reply (code o) (count o) (replied t setup payload reply)
