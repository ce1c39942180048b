-- What is proved of a snapshot's form and records, over the definitions that the functions' promises equate their results to. Nothing here
-- is lent a buffer to write to. proofs/Theorems proves each.
use Rattle.std.specs.Prelude.{ℕ, ◌≤◌, ◌<◌}
use mathlib.Core.{Path.{◌≡◌}, Bool.{true}, List.{List}, Option.{Option}}
use Rattle.std.specs.Prelude.{length}
use Rattle.wire.specs.Endpoints.{places}
use Rattle.snapshot.specs.{Keys.{length_with, longest_snapshot}, Form.{well_formed, order_place, sound_record, stated_key}}
use Rattle.snapshot.specs.Records.{decode, encode, record_count, Good, records_of, find, Ascending, joined}

-- Demand 2, what is written reads back the same: well-formed bytes are the snapshot of their records, and the snapshot of given records is
-- well formed and has those records.
abbrev pub EncodeDecode : Type 0
EncodeDecode = (s : List ℕ) → well_formed s ≡ true → encode (decode s) ≡ s

abbrev pub DecodeEncode : Type 0
DecodeEncode = (m : ℕ → Option (List ℕ)) → Good m → (well_formed (encode m) ≡ true) × (decode (encode m) ≡ m)

-- The records in order, as loading takes them: the keys ascend strictly, the record of each key is the one that is decoded, and there are
-- no other bytes.
pub record InOrder (s : List ℕ) : Type 0 where
  pub ascending : Ascending 0 (records_of s)
  pub each : (k : ℕ) → find k (records_of s) ≡ decode s k
  pub whole : joined (records_of s) ≡ s

abbrev pub AllInOrder : Type 0
AllInOrder = (s : List ℕ) → well_formed s ≡ true → InOrder s

-- The order of keys is 01's: by kind, then address.
abbrev pub KeyOrder : Type 0
KeyOrder =
    (s t : List ℕ) → sound_record s ≡ true → sound_record t ≡ true
    → (stated_key s < stated_key t → order_place s < order_place t) × (stated_key s ≡ stated_key t → order_place s ≡ order_place t)

-- The longest snapshot has a record of each key; with at most n endpoints it has at most their records and one of every other kind.
abbrev pub Longest : Type 0
Longest =
    (m : ℕ → Option (List ℕ)) → Good m
    → (length (encode m) ≤ longest_snapshot) × ((n : ℕ) → record_count places 1 m ≤ n → length (encode m) ≤ length_with n)
