-- A block that the rules before #105 of document 02 do not refuse for an id is read as they read it. Assumes nothing.
use Prim.Native.Nat.{ℕ, zero, suc}
use mathlib.Core.{Path.{◌≡◌, refl, ap, ◌∙◌}, List.{List, []}, Bool.{Bool, true, false, cond}}
use lib.{ListN.{length, drop}, Dec.{ltb, eqb}}
use borrow.Author.Tests.{eqb-true}
use Rattle.frame.specs.Items.{Head, Bad, Whole}
use Rattle.frame.specs.{Ids.{is_known}, Codes.{invalid_id, too_long, longest_block}, Theorems.{read_before}}
use Rattle.frame.specs.Items.{MetadataItem, BlockReading, refused, sound, item_id, item_size, item_refusal_under, item_refusal}
use Rattle.frame.specs.Items.{first_item_under, first_item, ◌before◌, follow, item_in, items_in_under, items_in, items_from_under, found_in}
use Rattle.frame.specs.Items.{block_items_under, block_items}
use Rattle.frame.proofs.Laws.{Ids.{known_readable}, Heads.{passed}, Known.{AllKnown, unmarked}}

-- one item
same_refusal : (s : List ℕ) → (item_refusal_under is_known s ≡ invalid_id → ⊥) → item_refusal s ≡ item_refusal_under is_known s
unfolding item_refusal_under
same_refusal s = go (ltb (length s) 8) refl (is_known (item_id s)) refl
  where
    go : (b : Bool) → ltb (length s) 8 ≡ b → (c : Bool) → is_known (item_id s) ≡ c
        → (item_refusal_under is_known s ≡ invalid_id → ⊥) → item_refusal s ≡ item_refusal_under is_known s
    go true e c f n = simp e
    go false e true f n = simp (f, known_readable (item_id s) f)
    go false e false f n = absurd (n (simp (e, f)))

same_head : (s : List ℕ) → (first_item_under is_known s ≡ Bad invalid_id → ⊥) → first_item s ≡ first_item_under is_known s
unfolding first_item_under
same_head s n = rw (same_refusal s (λ e. n (rw e refl)))

-- the items, where one item in front is read alike and those behind it are
same_follow : (f g : List ℕ → BlockReading) (s : List ℕ) (h : Head) → (follow g s h ≡ refused invalid_id → ⊥)
    → ((t : List ℕ) → (g t ≡ refused invalid_id → ⊥) → f t ≡ g t) → follow f s h ≡ follow g s h
same_follow f g s (Bad code) n k = refl
same_follow f g s (Whole id size) n k =
    ap (λ (r : BlockReading). item_in s id size before r)
    (k (drop size s) (λ e. n (ap (λ (r : BlockReading). item_in s id size before r) e)))

same_items : (n : ℕ) (s : List ℕ) → (items_in_under is_known n s ≡ refused invalid_id → ⊥) → items_in n s ≡ items_in_under is_known n s
unfolding items_in_under
same_items zero s k = refl
same_items (suc n) s k = go (ltb 0 (length s)) (same_items n) k
  where
    old : List ℕ → BlockReading
    old = items_in_under is_known n

    go : (b : Bool) → ((t : List ℕ) → (old t ≡ refused invalid_id → ⊥) → items_in n t ≡ old t)
        → (cond b (follow old s (first_item_under is_known s)) (sound []) ≡ refused invalid_id → ⊥)
        → cond b (follow (items_in n) s (first_item s)) (sound []) ≡ cond b (follow old s (first_item_under is_known s)) (sound [])
    go true ih k =
        ap (follow (items_in n) s) (same_head s (λ e. k (ap (follow old s) e)))
        ∙ same_follow (items_in n) old s (first_item_under is_known s) k ih
    go false ih k = refl

pub same_block : (s : List ℕ) → (read_before s ≡ refused invalid_id → ⊥) → block_items s ≡ read_before s
unfolding block_items_under items_from_under
same_block s = go (ltb longest_block (length s))
  where
    go : (b : Bool) → (cond b (refused too_long) (items_in_under is_known (length s) s) ≡ refused invalid_id → ⊥)
        → cond b (refused too_long) (items_in (length s) s) ≡ cond b (refused too_long) (items_in_under is_known (length s) s)
    go true k = refl
    go false k = same_items (length s) s k

-- what those rules read is known
abbrev Known : BlockReading → Type 0
Known (refused code) = Unit {0}
Known (sound is) = AllKnown is

abbrev KnownHead : Head → Type 0
KnownHead (Bad code) = Unit {0}
KnownHead (Whole id size) = is_known id ≡ true

known_head : (s : List ℕ) → KnownHead (first_item_under is_known s)
unfolding first_item_under
known_head s = go (eqb (item_refusal_under is_known s) 0) refl
  where
    go : (b : Bool) → eqb (item_refusal_under is_known s) 0 ≡ b
        → KnownHead (cond b (Whole (item_id s) (item_size s)) (Bad (item_refusal_under is_known s)))
    go true e = (passed is_known s (eqb-true _ _ e)).0
    go false e = tt

either : (b : Bool) (f g : BlockReading) → Known f → Known g → Known (cond b f g)
either true f g k l = k
either false f g k l = l

known_before : (i : MetadataItem) (f : BlockReading) → is_known i.id ≡ true → Known f → Known (i before f)
known_before i (refused code) k a = tt
known_before i (sound is) k a = (k, a)

known_follow : (f : List ℕ → BlockReading) (s : List ℕ) (h : Head) → KnownHead h → ((t : List ℕ) → Known (f t)) → Known (follow f s h)
known_follow f s (Bad code) k a = tt
known_follow f s (Whole id size) k a = known_before (item_in s id size) (f (drop size s)) k (a (drop size s))

known_items : (n : ℕ) (s : List ℕ) → Known (items_in_under is_known n s)
unfolding items_in_under
known_items zero s = tt
known_items (suc n) s =
    either (ltb 0 (length s)) _ _ (known_follow (items_in_under is_known n) s (first_item_under is_known s) (known_head s) (known_items n)) tt

known_block : (s : List ℕ) → Known (read_before s)
unfolding block_items_under items_from_under
known_block s = either (ltb longest_block (length s)) _ _ tt (known_items (length s) s)

pub before_unmarked : (k : ℕ) (s : List ℕ) → (found_in k (read_before s)).unknown ≡ false
before_unmarked k s = go (read_before s) (known_block s)
  where
    go : (f : BlockReading) → Known f → (found_in k f).unknown ≡ false
    go (refused code) a = refl
    go (sound is) a = unmarked 0 k is a
