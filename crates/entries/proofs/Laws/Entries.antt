-- Entries of a SET, one by one and one after the other. Assumes nothing.
use mathlib.Core.{Path.{◌≡◌, refl, ap, ap₂, sym, ◌∙◌}, List.{List}, Bool.{Bool, true, false, ◌||◌, or-true, or-false}}
use Prim.Native.Nat.{ℕ, zero, suc, ◌+◌, ◌*◌, ◌<◌}
use native.Mathlib.{Numerals.{add-one}, Omega.{arith}}
use lib.{Dec.{eqb}, ListN.{length, get_or, set, replicate, get_or-replicate}, Seq.{get_or-set_same, get_or-set_other}}
use borrow.Author.Tests.{ne_eqb, eqb-true, eqb-false}
use Rattle.std.specs.Prelude.{Option, Some, None}
use Rattle.wire.specs.{Endpoints.{endpoint_limit}, Numbers.{le_at}, Uvc.{out_of_range}}
use Rattle.controls.specs.Controls.{Refused, Given, item_code, first_refusal}
use Rattle.controls.specs.declared.Setting.TheVariants as S
use Rattle.controls.proofs.Laws.Controls as controls
use Rattle.controls.proofs.Laws.Items.{none_refused, stops, passes}
use Rattle.face.specs.{declared.limits.FaceLimits.{FaceLimits}, Limits.{address_at, offers_at, offers_of, place_of, place_or_limit}}
use Rattle.entries.specs.Entries.{FacesTaken}
use Rattle.entries.specs.Entries.{entry_address, entry_flags, seen_in, seen_before, entry_tests, entry_refusal, face_item, put_face}
use Rattle.entries.specs.Entries.{entries_put, faces_taken}
use Rattle.face.proofs.Laws.Limits.{found_at, offers_none, offers_placed, address_placed, address_at_place}

-- entry i by the number that its tests give
module _ (l : FaceLimits) (s : List ℕ) (i : ℕ) where
  pub entry_code : item_code (face_item l s i) ≡ entry_refusal l s i
  unfolding face_item
  entry_code = controls.item_code_lem (entry_refusal l s i) (S.Face (entry_address s i) (entry_flags s i))

  module _ (code : ℕ) (e : code ≡ entry_refusal l s i) where
    pub entry_refused : (code ≡ 0 → ⊥) → face_item l s i ≡ Refused code
    unfolding face_item
    entry_refused n = rw (← e) (controls.item_refused code (S.Face (entry_address s i) (entry_flags s i)) n)

    pub entry_given : code ≡ 0 → face_item l s i ≡ Given (S.Face (entry_address s i) (entry_flags s i))
    unfolding face_item
    entry_given z = controls.item_given (entry_refusal l s i) (S.Face (entry_address s i) (entry_flags s i)) (sym e ∙ z)

-- the first entry, with none seen before it; the numbers are what the code reads
module _ (l : FaceLimits) (s : List ℕ) (address offers flags code : ℕ) (ha : address ≡ entry_address s 0) (ho : offers ≡ offers_of l address)
    (hf : flags ≡ entry_flags s 0) (hc : code ≡ entry_tests offers false flags) where
  first_code : code ≡ entry_refusal l s 0
  unfolding entry_refusal seen_in
  first_code = hc ∙ ap₂ (λ (o f : ℕ). entry_tests o false f) (ho ∙ ap (offers_of l) ha) hf

  pub first_refused : (code ≡ 0 → ⊥) → face_item l s 0 ≡ Refused code
  first_refused = entry_refused l s 0 code first_code

  pub first_given : code ≡ 0 → face_item l s 0 ≡ Given (S.Face address flags)
  first_given z = rw (ha, hf) (entry_given l s 0 code first_code z)

-- a SET of which no entry is refused gives them all
pub taken_entries : (l : FaceLimits) (s : List ℕ) (n : ℕ) → first_refusal n 0 (entry_refusal l s) ≡ 0
    → (i : ℕ) → i < n → face_item l s i ≡ Given (S.Face (entry_address s i) (entry_flags s i))
taken_entries l s n e i h = entry_given l s i (entry_refusal l s i) refl (none_refused (entry_refusal l s) n e i h)

-- whether one of the first n entries has an address
unfoldable pub named : List ℕ → ℕ → ℕ → Bool
named s address zero = false
named s address (suc n) = named s address n || eqb (entry_address s n) address

seen_named : (s : List ℕ) (i n : ℕ) → seen_in s i n ≡ named s (entry_address s i) n
unfolding seen_in named
seen_named s i zero = refl
seen_named s i (suc n) = rw (seen_named s i n)

-- i entries taken: the places listed of their addresses are marked, and the settings laid
pub record Walked (l : FaceLimits) (held s : List ℕ) (i : ℕ) (seen : List Bool) (next : List ℕ) : Type 0 where
  pub places : length l.addresses ≡ endpoint_limit
  pub marks : (address : ℕ) → place_of l address < endpoint_limit → get_or seen (place_of l address) false ≡ named s address i
  pub passed : (j : ℕ) → j < i → entry_refusal l s j ≡ 0
  pub laid : next ≡ entries_put held s i

pub walked_none : (l : FaceLimits) (held s : List ℕ) → length l.addresses ≡ endpoint_limit
    → Walked l held s 0 (replicate endpoint_limit false) held
unfolding named entries_put
walked_none l held s places = record {
  places = places;
  marks = λ address h. get_or-replicate endpoint_limit (place_of l address) false false h;
  passed = λ j h. absurd (omega arith);
  laid = refl;
}

-- entry i; the numbers are what the code reads, and r is the place that it finds
module _ (l : FaceLimits) (held s : List ℕ) (i : ℕ) (seen : List Bool) (next : List ℕ) (w : Walked l held s i seen next) (address : ℕ)
    (r : Option ℕ) (ha : address ≡ entry_address s i) (hp : place_or_limit r ≡ place_of l address) where
  pub entry_unlisted : r ≡ None → out_of_range ≡ entry_refusal l s i
  unfolding entry_refusal
  entry_unlisted h = rw (← ha, offers_none l address r hp w.places h)

  module _ (p : ℕ) (is : r ≡ Some p) (h : p < endpoint_limit) (flags code : ℕ) (hf : flags ≡ le_at 7 s (1 + 8 * i + 1))
      (hc : code ≡ entry_tests (offers_at l p) (get_or seen p false) flags) where
    abbrev found : place_of l address ≡ p
    found = found_at l address r hp p is h

    abbrev flags_are : flags ≡ entry_flags s i
    flags_are = let e : 1 + 8 * i + 1 ≡ 2 + 8 * i = omega arith in hf ∙ ap (le_at 7 s) e

    mark_is : get_or seen p false ≡ seen_before s i
    mark_is = rw (← found) (w.marks address (rw found h)) ∙ ap (λ (a : ℕ). named s a i) ha ∙ sym (seen_named s i i)

    pub entry_listed : code ≡ entry_refusal l s i
    unfolding entry_refusal
    entry_listed = rw (← ha, offers_placed l address r hp p is h w.places, ← mark_is, ← flags_are) hc

    marks_next : length seen ≡ endpoint_limit → (a : ℕ) → place_of l a < endpoint_limit
        → get_or (set seen p true) (place_of l a) false ≡ named s a (suc i)
    unfolding named
    marks_next room a g = go (eqb (entry_address s i) a) refl
      where
        go : (b : Bool) → eqb (entry_address s i) a ≡ b → get_or (set seen p true) (place_of l a) false ≡ named s a i || b
        go true e =
            let same : place_of l a ≡ p = ap (place_of l) (sym (ha ∙ eqb-true (entry_address s i) a e)) ∙ found in
            rw (same, or-true) (get_or-set_same seen p true false (omega arith))
        go false e =
            let other : place_of l a ≡ p → ⊥ =
            λ q. eqb-false (entry_address s i) a e
            (sym ha ∙ sym (address_placed l address r hp p is h) ∙ ap (address_at l) (sym q) ∙ address_at_place l a g) in
            rw or-false (get_or-set_other seen p (place_of l a) true false other ∙ w.marks a g)

    pub walked_next : length seen ≡ endpoint_limit → code ≡ 0 → Walked l held s (i + 1) (set seen p true) (put_face next address flags)
    unfolding entries_put
    walked_next room z = rw add-one (record {
      places = w.places;
      marks = marks_next room;
      passed = λ j g. go (eqb j i) refl g;
      laid = rw (w.laid, ha, flags_are);
    })
      where
        go : {j : ℕ} (b : Bool) → eqb j i ≡ b → j < suc i → entry_refusal l s j ≡ 0
        go {j} true e g = rw (eqb-true j i e) (sym entry_listed ∙ z)
        go {j} false e g = let q = eqb-false j i e in w.passed j (omega arith)

-- what a SET comes to: refused at entry i, or all of it taken
module _ (l : FaceLimits) (held s : List ℕ) (n i : ℕ) (seen : List Bool) (next : List ℕ) (hn : n ≡ get_or s 0 0)
    (w : Walked l held s i seen next) where
  pub taken_refused : i < n → (code : ℕ) → code ≡ entry_refusal l s i → (code ≡ 0 → ⊥)
      → ◌≡◌ {A = FacesTaken} (record { code = code; held = held }) (faces_taken l held s)
  unfolding faces_taken
  taken_refused h code e bad =
      let r : first_refusal (get_or s 0 0) 0 (entry_refusal l s) ≡ code =
      rw (← hn) (stops (entry_refusal l s) n i w.passed h (λ z. bad (e ∙ z)) ∙ sym e) in
      rw (r, ne_eqb code 0 bad)

  pub taken_all : i ≡ n → ◌≡◌ {A = FacesTaken} (record { code = 0; held = next }) (faces_taken l held s)
  unfolding faces_taken
  taken_all e =
      let r : first_refusal (get_or s 0 0) 0 (entry_refusal l s) ≡ 0 = rw (← hn) (passes (entry_refusal l s) n (rw e at w.passed)) in
      rw (r, ← hn, ← e, ← w.laid)
