-- Request #105 of document 02: a metadata block with its unknown items cut out, and where in a block its known items stand. For
-- statements alone.
use Rattle.std.specs.Prelude.{ℕ, zero, suc}
use mathlib.Core.{List.{List, [], ◌∷◌, ◌++◌}, Bool.{cond}}
use Rattle.std.specs.Prelude.{length, take, drop}
use Rattle.frame.specs.{Ids.{is_known}, Items.{MetadataItem, Head, Bad, Whole, first_item}}

-- what stays of the item of this id and size that bytes begin with: all its bytes if it is known, else none
abbrev pub kept : List ℕ → (id size : ℕ) → List ℕ
kept s id size = cond (is_known id) (take size s) []

-- and of all the bytes; from a fault on, all stay
abbrev pub cut_here : (List ℕ → List ℕ) → List ℕ → Head → List ℕ
cut_here rest s (Bad code) = s
cut_here rest s (Whole id size) = kept s id size ++ rest (drop size s)

-- n only bounds the recursion, as in `items_in_under`
unfoldable pub cut_in : ℕ → List ℕ → List ℕ
cut_in zero s = s
cut_in (suc n) s = cut_here (cut_in n) s (first_item s)

unfoldable pub without_unknown : List ℕ → List ℕ
without_unknown s = cut_in (length s) s

-- the known ones of items, in their order
unfoldable pub known_of : List MetadataItem → List MetadataItem
known_of [] = []
known_of (i ∷ is) = cond (is_known i.id) (i ∷ known_of is) (known_of is)

-- the number, among all items, of the known item k, both from 0; where there is none, the number past the last item
unfoldable pub known_index : ℕ → List MetadataItem → ℕ
known_index k [] = 0
known_index zero (i ∷ is) = cond (is_known i.id) 0 (suc (known_index zero is))
known_index (suc k) (i ∷ is) = suc (known_index (cond (is_known i.id) k (suc k)) is)
