-- Appending one item at a place of a lent buffer: document 01's tests in its order, and the bytes.
use Rattle.std.specs.Prelude.{ℕ, ◌+◌}
use mathlib.Core.{List.{List, [], ◌∷◌, ◌++◌}, Bool.{not, cond}}
use lib.{ListN.{length}, Dec.{ltb, eqb}}
use Rattle.wire.specs.{Numbers.{bytes_of}, Writes.{overlay}, Uvc.{no_room}, Rows.{◌⇒◌, first_of}}
use Rattle.frame.specs.{Codes.{invalid_id, too_long, longest_block}, Ids.{is_known}}
use Rattle.frame.specs.Items.{MetadataItem, EachId}

-- id, size of the whole item, payload
unfoldable pub item_bytes : ℕ → List ℕ → List ℕ
item_bytes id payload = bytes_of 4 id ++ bytes_of 4 (8 + length payload) ++ payload

-- items one behind the other
unfoldable pub layout : List MetadataItem → List ℕ
layout [] = []
layout (i ∷ is) = item_bytes i.id i.payload ++ layout is

-- items that may be written
abbrev pub Writable : List MetadataItem → Type 0
Writable = EachId is_known

-- where an item of so many payload bytes at `at` ends; a sum of numbers without bound, which nothing wraps
abbrev pub end_of : ℕ → ℕ → ℕ
end_of at len = at + 8 + len

unfoldable pub append_refusal : (room at id len : ℕ) → ℕ
append_refusal room at id len =
    first_of
    ((not (is_known id) ⇒ invalid_id)
    ∷ (ltb longest_block (end_of at len) ⇒ too_long)
    ∷ (ltb room (end_of at len) ⇒ no_room)
    ∷ [])

-- the place behind the item, with code 0; or a refusal, with 0
pub record Appended : Type 0 where
  pub code : ℕ
  pub end : ℕ

-- the answer: the end of the item, or the refusal and 0
unfoldable pub appended_of : (room at id len : ℕ) → Appended
appended_of room at id len =
    cond (eqb (append_refusal room at id len) 0)
    (record { code = 0; end = end_of at len })
    (record { code = append_refusal room at id len; end = 0 })

-- the buffer afterwards: the item's bytes at the place and every other as it was; on a refusal all as it was
unfoldable pub written_of : List ℕ → ℕ → ℕ → List ℕ → List ℕ
written_of buf at id payload =
    cond (eqb (append_refusal (length buf) at id (length payload)) 0) (overlay buf at (item_bytes id payload)) buf
