-- What stands behind a sound block once an item is appended there. Assumes nothing.
use Prim.Native.Nat.{ℕ, zero, suc, ◌+◌, ◌-◌, ◌^◌, ◌≤◌, ◌<◌}
use mathlib.Core.{Path.{◌≡◌, refl, sym, ap, ap₂, ◌∙◌}, List.{List, [], ◌∷◌, ◌++◌, append-nil}, Bool.{Bool, true, false, cond}}
use native.Mathlib.Omega.{arith}
use lib.{ListN.{length, take, drop, get_or, length-append, length-take, length-drop}, Seq.{take_at}, Dec.{ltb}}
use borrow.Author.Tests.{ltb-false}
use Rattle.frame.specs.Codes.{longest_block, too_long}
use Rattle.frame.specs.Items.{MetadataItem, BlockReading, refused, sound, ◌before◌, items_from, block_items_under, block_items, found_item}
use Rattle.frame.specs.{Items.{nth_item}, Writer.{item_bytes, append_refusal, written_of}}
use Rattle.wire.proofs.Laws.Writes as overlays
use Rattle.frame.proofs.Laws.{Fuel.{nothing_left}, Append.{accepted, writes}, Join.{◌then◌, Split, every, join}}
use Rattle.frame.proofs.Laws.{Ids.{known_readable}, Layout.{length_item, reads}}

-- item k of the items before, and item k of those behind
pub before_it : (at k : ℕ) (is js : List MetadataItem) → k < length is → nth_item at k (is ++ js) ≡ nth_item at k is
unfolding nth_item
before_it at k [] js h = absurd (omega arith)
before_it at zero (i ∷ is) js h = refl
before_it at (suc k) (i ∷ is) js h = before_it (at + (8 + length i.payload)) k is js (omega arith)

abbrev Behind : List ℕ → List MetadataItem → Type 0
Behind s is = (at k : ℕ) (js : List MetadataItem) → nth_item at (length is + k) (is ++ js) ≡ nth_item (at + length s) k js

step : (s : List ℕ) (is : List MetadataItem) (p : Split s is) → Behind (drop p.size s) p.rest → Behind s is
unfolding nth_item
step s is p ih at k js =
    let long : 8 ≤ p.size = p.head.long in
    let inside : p.size ≤ length s = p.head.inside in
    let len : length (take (p.size - 8) (drop 8 s)) ≡ p.size - 8 = simp (length-take, length-drop) (omega arith) in
    let next : at + (8 + length (take (p.size - 8) (drop 8 s))) + length (drop p.size s) ≡ at + length s =
    simp length-drop (omega arith) in
    let one : suc (length p.rest) + k ≡ suc (length p.rest + k) = omega arith in
    rw (p.whole, one) (ih (at + (8 + length (take (p.size - 8) (drop 8 s)))) k js ∙ ap (λ (n : ℕ). nth_item n k js) next)

pub behind_it : (s : List ℕ) (is : List MetadataItem) → items_from s ≡ sound is → Behind s is
behind_it = every Behind (λ at k js. ap₂ (λ (n m : ℕ). nth_item n m js) (omega arith) (omega arith)) step

-- one item behind the others
pub last_item : (s : List ℕ) (is : List MetadataItem) (i : MetadataItem) → items_from s ≡ sound is
    → nth_item 0 (length is) (is ++ i ∷ [])
    ≡ found_item i.id (length s + 8) (length i.payload)
unfolding nth_item
last_item s is i e =
    let n : length is ≡ length is + 0 = omega arith in
    let m : 0 + length s ≡ length s = omega arith in
    ap (λ (k : ℕ). nth_item 0 k (is ++ i ∷ [])) n ∙ behind_it s is e 0 0 (i ∷ []) ∙ ap (λ (k : ℕ). nth_item k 0 (i ∷ [])) m

pub last_of : (is : List MetadataItem) (i d : MetadataItem) → get_or (is ++ i ∷ []) (length is) d ≡ i
last_of [] i d = refl
last_of (j ∷ is) i d = last_of is i d

-- a block that is not refused
pub sound_block : (s : List ℕ) (is : List MetadataItem) → block_items s ≡ sound is → (length s ≤ longest_block) × (items_from s ≡ sound is)
unfolding block_items_under
sound_block s is e = go (ltb longest_block (length s)) refl e
  where
    go : (b : Bool) → ltb longest_block (length s) ≡ b → cond b (refused too_long) (items_from s) ≡ sound is
        → (length s ≤ longest_block) × (items_from s ≡ sound is)
    go true t f = absurd (let z : ◌≡◌ {A = ℕ} 0 1 = cc in omega arith)
    go false t f = (ltb-false _ _ t, f)

then_sound : (is js : List MetadataItem) → (is then sound js) ≡ sound (is ++ js)
then_sound [] js = refl
then_sound (i ∷ is) js = ap (λ (f : BlockReading). i before f) (then_sound is js)

module _ (block buf : List ℕ) (id : ℕ) (payload : List ℕ) (begins : take (length block) buf ≡ block)
    (a : append_refusal (length buf) (length block) id (length payload) ≡ 0) where
  abbrev new : List ℕ
  new = take (length block + 8 + length payload) (written_of buf (length block) id payload)

  pub new_is : new ≡ block ++ item_bytes id payload
  new_is =
      let f = accepted (length buf) (length block) id (length payload) a in
      let n = length_item id payload in
      let room : length block + length (item_bytes id payload) ≤ length buf = omega arith in
      let m : length (block ++ item_bytes id payload) ≡ length block + 8 + length payload = simp length-append (omega arith) in
      let behind : List ℕ = drop (length block + length (item_bytes id payload)) buf in
      let whole : written_of buf (length block) id payload ≡ block ++ item_bytes id payload ++ behind =
      sym (writes buf (length block) id payload a)
      ∙ overlays.fits buf (length block) (item_bytes id payload) room
      ∙ ap (λ (l : List ℕ). l ++ item_bytes id payload ++ behind) begins in
      ap (take (length block + 8 + length payload)) whole ∙ take_at (block ++ item_bytes id payload) _ _ m

  pub new_length : length new ≡ length block + 8 + length payload
  new_length = ap length new_is ∙ simp (length-append, length_item) (omega arith)

  pub new_items : (is : List MetadataItem) → items_from block ≡ sound is → id < 256 ^ 4
      → items_from new ≡ sound (is ++ record { id = id; payload = payload } ∷ [])
  new_items is e small =
      let f = accepted (length buf) (length block) id (length payload) a in
      let i : MetadataItem = record { id = id; payload = payload } in
      let one : items_from (item_bytes id payload) ≡ (i before items_from []) =
      ap items_from (sym (append-nil (item_bytes id payload))) ∙ reads id payload [] (known_readable id f.known) small (omega arith) in
      let last : items_from (item_bytes id payload) ≡ sound (i ∷ []) =
      one ∙ ap (λ (g : BlockReading). i before g) (nothing_left [] (omega arith)) in
      ap items_from new_is ∙ join (item_bytes id payload) block is e ∙ ap (λ (g : BlockReading). is then g) last ∙ then_sound is _
