-- The form of a snapshot, document 01's "settings sheet": records in strictly ascending order of their keys, none of them with a fault.
use Rattle.std.specs.Prelude.{ℕ, zero, suc, ◌+◌, ◌*◌}
use mathlib.Core.{Bool.{Bool, true, false, cond, ◌&&◌}, List.{List, [], ◌∷◌}}
use lib.{ListN.{length, get_or, take, drop}, Dec.{leb, ltb, eqb}}
use Rattle.wire.specs.{Numbers.{le_at}, Rows.{all_of}, Uvc.{malformed_snapshot}, Selectors.{face, throttle}}
use Rattle.wire.specs.Endpoints.{first_address, last_address}
use Rattle.snapshot.specs.Keys.{kind_length, key_for}

-- all bytes are zero
abbrev pub zeros : List ℕ → Bool
zeros [] = true
zeros (b ∷ s) = eqb b 0 && zeros s

-- What a record's faults are told from, its place in the order aside: how many bytes are left from its start on, the length and the kind
-- that it states, its bytes 4 and 5 (of face authentication the count n of entries and the address), and whether the throttle's tail is
-- zero. None of these tests fails: 4 bytes are left; the length is not past the end; the kind is known; the length is the kind's; n is 1
-- and the address within the first and the last; the tail is zero.
abbrev pub record_tests : ℕ → ℕ → ℕ → ℕ → ℕ → Bool → List Bool
record_tests left len kind n address tail =
    leb 4 left
    ∷ leb len left
    ∷ ltb 0 (kind_length kind)
    ∷ eqb len (kind_length kind)
    ∷ cond (eqb kind face) (all_of (eqb n 1 ∷ leb first_address address ∷ leb address last_address ∷ [])) true
    ∷ cond (eqb kind throttle) tail true
    ∷ []

-- the length and the kind that the record at the start of s states
abbrev pub stated_length : List ℕ → ℕ
stated_length s = le_at 2 s 0

abbrev pub stated_kind : List ℕ → ℕ
stated_kind s = le_at 2 s 2

-- the throttle's tail, bytes 8..19 of its payload
abbrev pub throttle_tail : List ℕ → List ℕ
throttle_tail s = take 12 (drop 12 s)

-- the record at the start of s has no fault, its place in the order aside
unfoldable pub sound_record : List ℕ → Bool
sound_record s = all_of (record_tests (length s) (stated_length s) (stated_kind s) (get_or s 4 0) (get_or s 5 0) (zeros (throttle_tail s)))

-- the key of the record at the start of s
unfoldable pub stated_key : List ℕ → ℕ
stated_key s = key_for (stated_kind s) (get_or s 5 0)

-- the place in 01's order of the record at the start of s: its kind, then of face authentication the address, which is a byte. (`key_order`
-- of proofs/Laws/Keys: the keys' numbers stand in this order.)
abbrev pub order_place : List ℕ → ℕ
order_place s = 256 * stated_kind s + cond (eqb (stated_kind s) face) (get_or s 5 0) 0

abbrev pub is_empty : List ℕ → Bool
is_empty [] = true
is_empty (b ∷ s) = false

-- record by record: each is sound, and its key is `low` or above, where `low` is one more than the key before it
unfoldable pub formed : ℕ → ℕ → List ℕ → Bool
formed zero low s = is_empty s
formed (suc fuel) low s =
    cond (is_empty s) true
    (sound_record s && leb low (stated_key s) && formed fuel (suc (stated_key s)) (drop (stated_length s) s))

-- the bytes have no form fault. (A record has bytes, so there are no more records than bytes.)
unfoldable pub well_formed : List ℕ → Bool
well_formed s = formed (length s) 0 s

-- the verdict on the form: accepted, or a form fault
unfoldable pub form_code : List ℕ → ℕ
form_code s = cond (well_formed s) 0 malformed_snapshot
