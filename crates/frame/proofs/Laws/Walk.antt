-- Laws of the walk over a block: what is left to walk comes to what the whole comes to. Assumes nothing.
use Prim.Native.Nat.{ℕ, zero, suc, ◌+◌, ◌-◌, ◌≤◌, ◌<◌}
use mathlib.Core.{Path.{◌≡◌, refl, sym, ap, ap₂, ◌∙◌}, List.{List, [], ◌∷◌}, Bool.{Bool, not}}
use native.Mathlib.{Omega.{arith}, Numerals.{add-one}}
use lib.{ListN.{length, drop, length-take, length-drop}, Seq.{drop-drop}}
use borrow.Author.Tests.{eq-eqb, ne_eqb, le-ltb}
use Rattle.frame.specs.{Items.{Head, Bad, Whole, Found}, Steps.{Survey}}
use Rattle.frame.specs.{Codes.{no_item, longest_block}, Ids.{is_known}}
use Rattle.frame.specs.Items.{MetadataItem, BlockReading, refused, sound, first_item, ◌before◌, follow, items_from, block_items_under}
use Rattle.frame.specs.Items.{block_items, item_in, refused_item, found_item, nth_item}
use Rattle.frame.specs.Steps.{survey_of, stopped_at, pass_item, walked_over, onward}
use Rattle.frame.proofs.Laws.{Heads.{sound_head}, Fuel.{nothing_left, one_then}}

-- one item is passed
pub pass_hit : (k at n : ℕ) (found : Found) (id len : ℕ) (unknown : Bool) → n ≡ k → unknown ≡ not (is_known id)
    → ◌≡◌ {A = Found} (record { code = 0; id = id; unknown = unknown; payload = record { at = at + 8; len = len } })
    (pass_item k at n found id len)
unfolding pass_item
pass_hit k at n found id len unknown e m = rw m (simp (eq-eqb _ _ e))

pub pass_by : (k at n : ℕ) (found : Found) (id len : ℕ) → (n ≡ k → ⊥) → found ≡ pass_item k at n found id len
unfolding pass_item
pass_by k at n found id len e = simp (ne_eqb _ _ e)

-- what a walk over these items comes to, once item k was found, and while it is looked for
abbrev Ends : Survey → ℕ → Found → Type 0
Ends s n found = s ≡ record { counted = record { code = 0; items = n }; found = found }

over_after : (k at n : ℕ) (found : Found) (is : List MetadataItem) → k < n → Ends (walked_over k at n found is) (n + length is) found
unfolding walked_over
over_after k at n found [] h = ap (λ (m : ℕ). record { counted = record { code = 0; items = m }; found = found }) (omega arith)
over_after k at n found (i ∷ is) h =
    let next = over_after k (at + (8 + length i.payload)) (suc n) found is (omega arith) in
    let m : suc n + length is ≡ n + suc (length is) = omega arith in
    rw (← (pass_by k at n found i.id (length i.payload) (omega arith))) (rw m at next)

over_before : (k j at n : ℕ) (is : List MetadataItem) → k ≡ n + j
    → Ends (walked_over k at n (refused_item no_item) is) (n + length is) (nth_item at j is)
unfolding walked_over nth_item
over_before k j at n [] h = ap (λ (m : ℕ). record { counted = record { code = 0; items = m }; found = refused_item no_item }) (omega arith)
over_before k zero at n (i ∷ is) h =
    let here = found_item i.id (at + 8) (length i.payload) in
    let next = over_after k (at + (8 + length i.payload)) (suc n) here is (omega arith) in
    let m : suc n + length is ≡ n + suc (length is) = omega arith in
    rw (← (pass_hit k at n (refused_item no_item) i.id (length i.payload) _ (omega arith) refl)) (rw m at next)
over_before k (suc j) at n (i ∷ is) h =
    let next = over_before k j (at + (8 + length i.payload)) (suc n) is (omega arith) in
    let m : suc n + length is ≡ n + suc (length is) = omega arith in
    rw (← (pass_by k at n (refused_item no_item) i.id (length i.payload) (omega arith))) (rw m at next)

-- what is left to walk comes to what the whole comes to
abbrev pub Left : (k at n : ℕ) → Found → List ℕ → Type 0
Left k at n found s = onward k at n found (items_from (drop at s)) ≡ survey_of k (items_from s)

-- nothing is passed yet, and nothing found
pub begins : (k : ℕ) (s : List ℕ) → Left k 0 0 (refused_item no_item) s
unfolding onward
begins k s = go (items_from s)
  where
    go : (f : BlockReading) → onward k 0 0 (refused_item no_item) f ≡ survey_of k f
    go (refused code) = refl
    go (sound is) =
        let m : 0 + length is ≡ length is = omega arith in
        rw m at (over_before k k 0 0 is (omega arith))

onward_before : (k at n : ℕ) (found : Found) (i : MetadataItem) (f : BlockReading)
    → onward k at n found (i before f)
    ≡ onward k (at + (8 + length i.payload)) (suc n) (pass_item k at n found i.id (length i.payload)) f
unfolding onward walked_over
onward_before k at n found i (refused code) = refl
onward_before k at n found i (sound is) = refl

pub short_enough : (s : List ℕ) → length s ≤ longest_block → items_from s ≡ block_items s
unfolding block_items_under
short_enough s h = simp (le-ltb _ _ h)

comes_to : (k at n : ℕ) (found : Found) (s : List ℕ) (w : Survey) → length s ≤ longest_block → Left k at n found s
    → w ≡ onward k at n found (items_from (drop at s)) → w ≡ survey_of k (block_items s)
comes_to k at n found s w short left e = e ∙ left ∙ ap (survey_of k) (short_enough s short)

pub ends : (k at n : ℕ) (found : Found) (s : List ℕ) → length s ≤ longest_block → Left k at n found s → length s ≤ at
    → ◌≡◌ {A = Survey} (record { counted = record { code = 0; items = n }; found = found }) (survey_of k (block_items s))
unfolding onward walked_over
ends k at n found s short left l = comes_to k at n found s _ short left (rw (nothing_left (drop at s) (simp length-drop (omega arith))))

-- the walk stands at `at`, and this is the item there
pub record Meets (k at n : ℕ) (found : Found) (s : List ℕ) (h : Head) : Type 0 where
  pub short : length s ≤ longest_block
  pub left : Left k at n found s
  pub ahead : at < length s
  pub head : first_item (drop at s) ≡ h

pub meets : {k at n : ℕ} {found : Found} (s rest : List ℕ) (h : Head) → length s ≤ longest_block → Left k at n found s → at < length s
    → rest ≡ drop at s → h ≡ first_item rest → Meets k at n found s h
meets s rest h short left l r e = record { short = short; left = left; ahead = l; head = ap first_item (sym r) ∙ sym e }

module _ (k at n : ℕ) (found : Found) (s : List ℕ) where
  here : (h : Head) → Meets k at n found s h → items_from (drop at s) ≡ follow items_from (drop at s) h
  here h m = one_then (drop at s) (simp length-drop (omega arith)) ∙ ap (follow items_from (drop at s)) m.head

  pub stops : (code : ℕ) → Meets k at n found s (Bad code) → stopped_at code ≡ survey_of k (block_items s)
  unfolding onward
  stops code m = comes_to k at n found s (stopped_at code) m.short m.left (rw (here (Bad code) m))

  module _ (id size : ℕ) (m : Meets k at n found s (Whole id size)) where
    pub inside : (8 ≤ size) × (at + size ≤ length s)
    inside =
        let w = sound_head (drop at s) id size m.head in
        let r : size ≤ length s - at = rw length-drop at w.inside in
        omega arith

    pub goes_on : (next : Found) → next ≡ pass_item k at n found id (size - 8) → Left k (at + size) (n + 1) next s
    goes_on next f =
        let i = inside in
        let it = item_in (drop at s) id size in
        let behind : BlockReading = items_from (drop size (drop at s)) in
        let len : length it.payload ≡ size - 8 = simp (length-take, length-drop) (omega arith) in
        let end : at + (8 + length it.payload) ≡ at + size = omega arith in
        let one = ap (onward k at n found) (here (Whole id size) m) ∙ onward_before k at n found it behind in
        let on = one ∙ ap₂ (λ (x y : ℕ). onward k x (suc n) (pass_item k at n found id y) behind) end len in
        rw (f, add-one, ← drop-drop) (sym on ∙ m.left)
