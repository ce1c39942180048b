-- Worked rows, computed from the definitions: document 01's item rows first.
use Prim.Native.Nat.{ℕ}
use mathlib.Core.{Path.{◌≡◌, refl}, List.{List, [], ◌∷◌, map}, Bool.{true, false}}
use Rattle.wire.specs.{Numbers.{number, le_at, bytes_of}, Writes.{overlay}}
use Rattle.frame.specs.{Ids.{is_known, is_readable}, Items.{refused, sound, item_refusal_under, first_item_under, items_in_under}}
use Rattle.frame.specs.{Items.{items_from_under, block_items_under, block_items, nth_item, block_item}, Cut.{cut_in, without_unknown}}
use Rattle.frame.specs.Writer.{item_bytes, append_refusal, written_of}

-- one item of 8 payload bytes; with one byte fewer; of size 8, with an empty payload; then sizes that are none, behind id 0 and behind an
-- id that is not known
abbrev blocks : List (List ℕ)
blocks =
    (6 ∷ 0 ∷ 0 ∷ 0 ∷ 16 ∷ 0 ∷ 0 ∷ 0 ∷ 1 ∷ 2 ∷ 3 ∷ 4 ∷ 5 ∷ 6 ∷ 7 ∷ 8 ∷ [])
    ∷ (6 ∷ 0 ∷ 0 ∷ 0 ∷ 16 ∷ 0 ∷ 0 ∷ 0 ∷ 1 ∷ 2 ∷ 3 ∷ 4 ∷ 5 ∷ 6 ∷ 7 ∷ [])
    ∷ (6 ∷ 0 ∷ 0 ∷ 0 ∷ 8 ∷ 0 ∷ 0 ∷ 0 ∷ [])
    ∷ (0 ∷ 0 ∷ 0 ∷ 0 ∷ 3 ∷ 0 ∷ 0 ∷ 0 ∷ [])
    ∷ (7 ∷ 0 ∷ 0 ∷ 0 ∷ 3 ∷ 0 ∷ 0 ∷ 0 ∷ [])
    ∷ []

items_are : map block_items blocks
    ≡ sound (record { id = 6; payload = 1 ∷ 2 ∷ 3 ∷ 4 ∷ 5 ∷ 6 ∷ 7 ∷ 8 ∷ [] } ∷ [])
    ∷ refused 0x40
    ∷ sound (record { id = 6; payload = [] } ∷ [])
    ∷ refused 0x41
    ∷ refused 0x42
    ∷ []
unfolding number le_at is_readable item_refusal_under first_item_under items_in_under items_from_under block_items_under
items_are = refl

-- one item put into the middle of a buffer
written_is : written_of (9 ∷ 9 ∷ 9 ∷ 9 ∷ 9 ∷ 9 ∷ 9 ∷ 9 ∷ 9 ∷ 9 ∷ 9 ∷ 9 ∷ []) 1 0x80000001 (5 ∷ 4 ∷ [])
    ≡ 9 ∷ 1 ∷ 0 ∷ 0 ∷ 128 ∷ 10 ∷ 0 ∷ 0 ∷ 0 ∷ 5 ∷ 4 ∷ 9 ∷ []
unfolding bytes_of overlay is_known item_bytes append_refusal written_of
written_is = refl

-- ids at both sides of each bound, each item of one payload byte but the last: 7, 6, 0x7FFFFFFF, 0x80000000
abbrev mixed : List ℕ
mixed =
    7 ∷ 0 ∷ 0 ∷ 0 ∷ 9 ∷ 0 ∷ 0 ∷ 0 ∷ 1
    ∷ 6 ∷ 0 ∷ 0 ∷ 0 ∷ 9 ∷ 0 ∷ 0 ∷ 0 ∷ 2
    ∷ 255 ∷ 255 ∷ 255 ∷ 127 ∷ 9 ∷ 0 ∷ 0 ∷ 0 ∷ 3
    ∷ 0 ∷ 0 ∷ 0 ∷ 128 ∷ 8 ∷ 0 ∷ 0 ∷ 0
    ∷ []

-- whether item k is marked, of all four and past the last
marks_are : map (λ (k : ℕ). (block_item mixed k).unknown) (0 ∷ 1 ∷ 2 ∷ 3 ∷ 4 ∷ []) ≡ true ∷ false ∷ true ∷ false ∷ false ∷ []
unfolding number le_at is_known is_readable item_refusal_under first_item_under items_in_under items_from_under block_items_under nth_item block_item
marks_are = refl

-- the cut block; and cut up to a fault
cut-is : without_unknown mixed ≡ 6 ∷ 0 ∷ 0 ∷ 0 ∷ 9 ∷ 0 ∷ 0 ∷ 0 ∷ 2 ∷ 0 ∷ 0 ∷ 0 ∷ 128 ∷ 8 ∷ 0 ∷ 0 ∷ 0 ∷ []
unfolding number le_at is_known is_readable item_refusal_under first_item_under cut_in without_unknown
cut-is = refl

cut_to_fault : without_unknown (7 ∷ 0 ∷ 0 ∷ 0 ∷ 8 ∷ 0 ∷ 0 ∷ 0 ∷ 0 ∷ 0 ∷ 0 ∷ 0 ∷ 8 ∷ 0 ∷ 0 ∷ 0 ∷ []) ≡ 0 ∷ 0 ∷ 0 ∷ 0 ∷ 8 ∷ 0 ∷ 0 ∷ 0 ∷ []
unfolding number le_at is_known is_readable item_refusal_under first_item_under cut_in without_unknown
cut_to_fault = refl
