-- Which items a metadata block holds, or its first fault, by document 01's tests of an item in its order; and what asking for item k and
-- for the number of items hand back.
use Rattle.std.specs.Prelude.{ℕ, zero, suc, ◌-◌, ◌+◌, ◌^◌, ◌<◌}
use mathlib.Core.{Path.{◌≡◌}, List.{List, [], ◌∷◌}, Bool.{Bool, true, false, not, cond}}
use lib.{ListN.{length, take, drop}, Dec.{ltb, eqb}}
use Rattle.wire.specs.{Numbers.{le_at}, Rows.{◌⇒◌, first_of}, Parts.{bytes_at, nowhere}}
use Rattle.wire.specs.declared.parts.Part.{Part}
use Rattle.frame.specs.{Codes.{truncated, invalid_id, short_size, too_long, longest_block, no_item}, Ids.{is_known, is_readable}}

-- an item: its id, and the bytes of its payload
pub record MetadataItem : Type 0 where
  pub id : ℕ
  pub payload : List ℕ

-- each of the ids passes a test, and is of four bytes
abbrev pub EachId : (ℕ → Bool) → List MetadataItem → Type 0
EachId passes [] = Unit {0}
EachId passes (i ∷ is) = (passes i.id ≡ true) × (i.id < 256 ^ 4) × EachId passes is

-- items that may be read
abbrev pub Readable : List MetadataItem → Type 0
Readable = EachId is_readable

-- what stands past the last item
abbrev pub absent : MetadataItem
absent = record { id = 0; payload = [] }

-- what a block holds: its first fault, or its items in byte order
pub data BlockReading : Type 0 where
  refused : ℕ → BlockReading
  sound : List MetadataItem → BlockReading

-- the fields of the item that bytes begin with, 001's KSCAMERA_METADATA_ITEMHEADER: id (4), size of the whole item (4), both unsigned
abbrev pub item_id : List ℕ → ℕ
item_id s = le_at 4 s 0

abbrev pub item_size : List ℕ → ℕ
item_size s = le_at 4 s 4

-- the refusal of the item that the rest of a block begins with, for a reader of the ids that `takes` says
unfoldable pub item_refusal_under : (ℕ → Bool) → List ℕ → ℕ
item_refusal_under takes s =
    first_of
    ((ltb (length s) 8 ⇒ truncated)
    ∷ (not (takes (item_id s)) ⇒ invalid_id)
    ∷ (ltb (item_size s) 8 ⇒ short_size)
    ∷ (ltb (length s) (item_size s) ⇒ truncated)
    ∷ [])

-- one item by itself: its refusal, or its id and its size
pub data Head : Type 0 where
  Bad : ℕ → Head
  Whole : (id size : ℕ) → Head

-- that item
unfoldable pub first_item_under : (ℕ → Bool) → List ℕ → Head
first_item_under takes s =
    cond (eqb (item_refusal_under takes s) 0) (Whole (item_id s) (item_size s)) (Bad (item_refusal_under takes s))

-- one item in front of what the bytes behind it hold
infixr 30 ◌before◌
abbrev pub ◌before◌ : MetadataItem → BlockReading → BlockReading
i before refused code = refused code
i before sound is = sound (i ∷ is)

-- the item of this id and size that bytes begin with
abbrev pub item_in : List ℕ → ℕ → ℕ → MetadataItem
item_in s id size = record { id = id; payload = take (size - 8) (drop 8 s) }

abbrev pub follow : (List ℕ → BlockReading) → List ℕ → Head → BlockReading
follow rest s (Bad code) = refused code
follow rest s (Whole id size) = item_in s id size before rest (drop size s)

-- the items of the rest of a block: none in no bytes, else one and those behind it. n only bounds the recursion: as many as there are
-- bytes is enough, and more change nothing (`proofs/Laws/Fuel.antt`, enough)
unfoldable pub items_in_under : (ℕ → Bool) → ℕ → List ℕ → BlockReading
items_in_under takes zero s = sound []
items_in_under takes (suc n) s =
    let one = follow (items_in_under takes n) s (first_item_under takes s) in
    cond (ltb 0 (length s)) one (sound [])

unfoldable pub items_from_under : (ℕ → Bool) → List ℕ → BlockReading
items_from_under takes s = items_in_under takes (length s) s

-- the block s
unfoldable pub block_items_under : (ℕ → Bool) → List ℕ → BlockReading
block_items_under takes s = cond (ltb longest_block (length s)) (refused too_long) (items_from_under takes s)

-- these, as they are read since request #105 of document 02
abbrev pub item_refusal : List ℕ → ℕ
item_refusal = item_refusal_under is_readable

abbrev pub first_item : List ℕ → Head
first_item = first_item_under is_readable

abbrev pub items_in : ℕ → List ℕ → BlockReading
items_in = items_in_under is_readable

abbrev pub items_from : List ℕ → BlockReading
items_from = items_from_under is_readable

abbrev pub block_items : List ℕ → BlockReading
block_items = block_items_under is_readable

-- an item's id, whether it is unknown, and the place of its payload, with code 0; or a refusal
pub record Found : Type 0 where
  pub code : ℕ
  pub id : ℕ
  pub unknown : Bool
  pub payload : Part

-- how many items a sound block has, with code 0; or a refusal, with none
pub record Counted : Type 0 where
  pub code : ℕ
  pub items : ℕ

-- a refusal: id 0, no mark and an empty part
abbrev pub refused_item : ℕ → Found
refused_item code = record { code = code; id = 0; unknown = false; payload = nowhere }

-- an item that is handed out: marked where its id is not known, its payload at `at`
abbrev pub found_item : (id at len : ℕ) → Found
found_item id at len = record { code = 0; id = id; unknown = not (is_known id); payload = record { at = at; len = len } }

-- item k of items that begin at `at` in their block, k from 0; a payload stands behind the 8 bytes of id and size
unfoldable pub nth_item : ℕ → ℕ → List MetadataItem → Found
nth_item at k [] = refused_item no_item
nth_item at zero (i ∷ is) = found_item i.id (at + 8) (length i.payload)
nth_item at (suc k) (i ∷ is) = nth_item (at + (8 + length i.payload)) k is

abbrev pub found_in : ℕ → BlockReading → Found
found_in k (refused code) = refused_item code
found_in k (sound is) = nth_item 0 k is

abbrev pub count_in : BlockReading → Counted
count_in (refused code) = record { code = code; items = 0 }
count_in (sound is) = record { code = 0; items = length is }

-- of the block s
unfoldable pub block_item : List ℕ → ℕ → Found
block_item s k = found_in k (block_items s)

unfoldable pub block_count : List ℕ → Counted
block_count s = count_in (block_items s)

-- the bytes of item k's payload; none on a refusal
unfoldable pub block_payload : List ℕ → ℕ → List ℕ
block_payload s k = bytes_at s (block_item s k).payload
