-- What is left of each answer where its number is not 0. Assumes nothing.
use Prim.Native.Nat.{ℕ, zero, suc, ◌+◌}
use mathlib.Core.{Path.{◌≡◌, refl}, List.{List, [], ◌∷◌}, Bool.{Bool, true, false, cond}}
use lib.{ListN.{length}, Dec.{eqb}}
use Rattle.wire.specs.Writes.{overlay}
use Rattle.frame.specs.Writer.{Appended}
use Rattle.frame.specs.Items.{MetadataItem, BlockReading, refused, sound, block_items, refused_item, nth_item, found_in, count_in}
use Rattle.frame.specs.Items.{block_item, block_count}
use Rattle.frame.specs.Writer.{item_bytes, end_of, append_refusal, appended_of, written_of}

no_item : (at k : ℕ) (is : List MetadataItem) → ((nth_item at k is).code ≡ 0 → ⊥) → nth_item at k is ≡ refused_item (nth_item at k is).code
unfolding nth_item
no_item at k [] n = refl
no_item at zero (i ∷ is) n = absurd (n refl)
no_item at (suc k) (i ∷ is) n = no_item (at + (8 + length i.payload)) k is n

pub item_refused : (s : List ℕ) (k : ℕ) → ((block_item s k).code ≡ 0 → ⊥) → block_item s k ≡ refused_item (block_item s k).code
unfolding block_item
item_refused s k = go (block_items s)
  where
    go : (f : BlockReading) → ((found_in k f).code ≡ 0 → ⊥) → found_in k f ≡ refused_item (found_in k f).code
    go (refused code) n = refl
    go (sound is) n = no_item 0 k is n

pub count_refused : (s : List ℕ) → ((block_count s).code ≡ 0 → ⊥) → (block_count s).items ≡ 0
unfolding block_count
count_refused s = go (block_items s)
  where
    go : (f : BlockReading) → ((count_in f).code ≡ 0 → ⊥) → (count_in f).items ≡ 0
    go (refused code) n = refl
    go (sound is) n = absurd (n refl)

module _ (buf : List ℕ) (at id : ℕ) (payload : List ℕ) where
  pub append_refused : ((appended_of (length buf) at id (length payload)).code ≡ 0 → ⊥)
      → ((appended_of (length buf) at id (length payload)).end ≡ 0) × (written_of buf at id payload ≡ buf)
  unfolding appended_of written_of
  append_refused = go (eqb (append_refusal (length buf) at id (length payload)) 0)
    where
      answer : Bool → Appended
      answer b =
          cond b (record { code = 0; end = end_of at (length payload) })
          (record { code = append_refusal (length buf) at id (length payload); end = 0 })

      go : (b : Bool) → ((answer b).code ≡ 0 → ⊥) → ((answer b).end ≡ 0) × (cond b (overlay buf at (item_bytes id payload)) buf ≡ buf)
      go true n = absurd (n refl)
      go false n = (refl, refl)
