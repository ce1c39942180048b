-- The records of a snapshot: the record of each key in given bytes, the bytes of given records, and the records in order.
use Rattle.std.specs.Prelude.{ℕ, zero, suc, ◌-◌, ◌≤◌}
use mathlib.Core.{Path.{◌≡◌}, Bool.{Bool, true, cond, ◌&&◌}, List.{List, [], ◌∷◌, ◌++◌}, Option.{Option, none, some}}
use lib.{ListN.{length, take, drop}, Dec.{leb, ltb, eqb}}
use Rattle.std.specs.Borrow.{Bor}
use Rattle.std.specs.declared.option.Option as Core
use Rattle.std.specs.declared.option.Option.TheVariants as H
use Rattle.wire.specs.{declared.parts.Part.{Part}, Parts.{nowhere, up_to, all_from, PartOf}}
use Rattle.snapshot.specs.declared.records.Records.{Records}
use Rattle.snapshot.specs.{Keys.{keys, record_length}, Form.{stated_length, sound_record, stated_key}}

-- a sound record of key k stands at the start of s
unfoldable pub stands : ℕ → List ℕ → Bool
stands k s = sound_record s && eqb (stated_key s) k

-- the key of the sound record at the start of s; `keys`, which is no key, where none stands there
unfoldable pub key_at : List ℕ → ℕ
key_at s = cond (sound_record s) (stated_key s) keys

-- that key as the code hands it on: none where there is none
abbrev pub some_key : ℕ → Core.Option ℕ
some_key k = cond (ltb k keys) (H.Some k) H.None

-- how many bytes the record at the start of s has, if it has key k; else 0
unfoldable pub passed : ℕ → List ℕ → ℕ
passed k s = cond (stands k s) (record_length k) 0

-- s without the record at its start, if that has key k
unfoldable pub skip : ℕ → List ℕ → List ℕ
skip k s = cond (stands k s) (drop (record_length k) s) s

-- what is left of s once the records of the keys below k are passed
unfoldable pub from : List ℕ → ℕ → List ℕ
from s zero = s
from s (suc k) = skip k (from s k)

-- the record at the start of s, if that has key k
unfoldable pub record_at : ℕ → List ℕ → Option (List ℕ)
record_at k s = cond (stands k s) (some (take (record_length k) s)) none

-- the record of key k in s, whole
unfoldable pub decode : List ℕ → ℕ → Option (List ℕ)
decode s k = record_at k (from s k)

-- where it stands in s: behind the records of the keys below k, and as long as it is, so of no length where s has none; nowhere where k is
-- no key
unfoldable pub record_place : List ℕ → ℕ → Part
record_place s k = cond (leb keys k) nowhere (record { at = length s - length (from s k); len = passed k (from s k) })

-- the record of key k as the code hands it on: none where s has none; else its bytes, which are that part of s itself
abbrev pub RecordAt : Bor (List ℕ) → ℕ → Core.Option (Bor (List ℕ)) → Type 0
RecordAt s k H.None = decode s.now k ≡ none
RecordAt s k (H.Some r) = (decode s.now k ≡ some r.now) × PartOf s (record_place s.now k) r

-- the bytes that a walk through records has before it
abbrev pub unread : Records → Bor (List ℕ)
unread s = s.rest

-- a step of it: while a sound record stands at their start, that record with its key, whole, and on to what is behind it; else none, and it
-- stays. A record is that part of the bytes itself, and so is what is behind it
abbrev pub NextRecord : Records → Core.Option (ℕ × Bor (List ℕ)) → Records → Type 0
NextRecord s H.None t = (H.None ≡ some_key (key_at s.rest.now)) × (t ≡ s)
NextRecord s (H.Some e) t =
    (H.Some e.0 ≡ some_key (key_at s.rest.now))
    × PartOf s.rest (up_to (record_length e.0)) e.1
    × PartOf s.rest (all_from s.rest.now (record_length e.0)) t.rest

abbrev pub record_bytes : Option (List ℕ) → List ℕ
record_bytes none = []
record_bytes (some r) = r

-- the bytes of the records of the n keys from k on, in ascending order
unfoldable pub records : ℕ → ℕ → (ℕ → Option (List ℕ)) → List ℕ
records zero k m = []
records (suc n) k m = record_bytes (m k) ++ records n (suc k) m

-- the snapshot of given records
unfoldable pub encode : (ℕ → Option (List ℕ)) → List ℕ
encode m = records keys 0 m

-- how many of the n keys from k on have a record
abbrev pub count_one : Option (List ℕ) → ℕ → ℕ
count_one none n = n
count_one (some r) n = suc n

unfoldable pub record_count : ℕ → ℕ → (ℕ → Option (List ℕ)) → ℕ
record_count zero k m = 0
record_count (suc n) k m = count_one (m k) (record_count n (suc k) m)

-- a record of key k: the bytes of a sound record, no more and no fewer
pub record IsRecord (k : ℕ) (r : List ℕ) : Type 0 where
  pub long : length r ≡ record_length k
  pub is : stands k r ≡ true

-- given records are records of their keys
abbrev pub GoodAt : ℕ → Option (List ℕ) → Type 0
GoodAt k none = Unit {0}
GoodAt k (some r) = IsRecord k r

abbrev pub Good : (ℕ → Option (List ℕ)) → Type 0
Good m = (k : ℕ) → GoodAt k (m k)

-- a record with its key
abbrev pub KeyedRecord : Type 0
KeyedRecord = ℕ × List ℕ

-- record by record, as the bytes have them, up to the first that is not sound
unfoldable pub split : ℕ → List ℕ → List KeyedRecord
split zero s = []
split (suc fuel) s = cond (sound_record s) ((stated_key s, take (stated_length s) s) ∷ split fuel (drop (stated_length s) s)) []

-- the records of a snapshot in order, each with its key
unfoldable pub records_of : List ℕ → List KeyedRecord
records_of s = split (length s) s

-- the record of key k among them
abbrev pub find : ℕ → List KeyedRecord → Option (List ℕ)
find k [] = none
find k (e ∷ l) = cond (eqb e.0 k) (some e.1) (find k l)

-- their keys ascend strictly, from `low` on
abbrev pub Ascending : ℕ → List KeyedRecord → Type 0
Ascending low [] = Unit {0}
Ascending low (e ∷ l) = (low ≤ e.0) × Ascending (suc e.0) l

-- their bytes, one record behind the other
abbrev pub joined : List KeyedRecord → List ℕ
joined [] = []
joined (e ∷ l) = e.1 ++ joined l

-- P holds of each, its key and its bytes
abbrev pub Each : (ℕ → List ℕ → Type 0) → List KeyedRecord → Type 0
Each P [] = Unit {0}
Each P (e ∷ l) = P e.0 e.1 × Each P l
