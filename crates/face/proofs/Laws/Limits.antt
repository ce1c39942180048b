-- The endpoints that a profile lists: what a valid one says of each, and where an address stands among them. Assumes nothing.
use mathlib.Core.{Path.{◌≡◌, refl, ap, sym, ◌∙◌}, List.{List, [], ◌∷◌}}
use mathlib.Core.Bool.{Bool, true, false, cond, ◌&&◌, ◌||◌, and-true, and-false, and-eq-true_iff}
use Prim.Native.Nat.{ℕ, zero, suc, ◌+◌, ◌-◌, ◌/◌, ◌≤◌, ◌<◌}
use native.Mathlib.{Nat.{zero-add, add-zero}, Numerals.{add-one, sub-one}, Omega.{arith}}
use lib.{Dec.{leb, ltb, eqb}, ListN.{length, get_or, take, length-take, get_or-eq_default}, Seq.{get_or-take}}
use borrow.Author.Tests.{ne_eqb, eqb-true, lt-ltb, le-leb, lt-leb, ltb-true, ltb-false, leb-true}
use Rattle.std.specs.Prelude.{Option}
use Rattle.std.specs.List.{position, position_from, list_all, range_with_len}
use Rattle.std.specs.declared.option.Option.TheVariants.{Some, None}
use Rattle.std.proofs.lemmas.Iterator.Adapters.{position_from-zero}
use Rattle.wire.proofs.Laws.Below.{all-at, all_same, below_front}
use Rattle.wire.specs.{Endpoints.{first_address, last_address, places, endpoint_limit, count_valid}, Rows.{all_below}}
use Rattle.face.specs.declared.limits.FaceLimits.{FaceLimits}
use Rattle.face.specs.Limits.{endpoints_of, address_at, offers_at, offers_valid, address_before, endpoint_valid, face_valid_under}
use Rattle.face.specs.Limits.{face_valid, offers_from, offers_of, place_from, place_of, place_or_limit}

-- a place behind the first comes after the one before it
pub before_next : (l : FaceLimits) (i : ℕ) → (i ≡ 0 → ⊥) → address_at l (i - 1) ≡ address_before l i
unfolding address_before
before_next l zero p = absurd (p refl)
before_next l (suc i) p = rw sub-one

-- a listed endpoint of a valid profile
pub record Listed (address offers : ℕ) : Type 0 where
  pub first : first_address ≤ address
  pub last : address ≤ last_address
  pub least : 2 ≤ offers
  pub most : offers ≤ 5

pub offers_between : (o : ℕ) → offers_valid o ≡ true → (2 ≤ o) × (o ≤ 5)
offers_between o h = go (eqb (o / 2) 1) (eqb (o / 2) 2) refl refl h
  where
    go : (a b : Bool) → eqb (o / 2) 1 ≡ a → eqb (o / 2) 2 ≡ b → a || b ≡ true → (2 ≤ o) × (o ≤ 5)
    go true b e f g = omega (arith, eqb-true (o / 2) 1 e)
    go false true e f g = omega (arith, eqb-true (o / 2) 2 f)
    go false false e f g = let z : ◌≡◌ {A = ℕ} 0 1 = cc in absurd (omega arith)

module _ (limit : ℕ) (l : FaceLimits) (valid : face_valid_under limit l ≡ true) where
  pub count_least : 1 ≤ l.count
  unfolding face_valid_under
  count_least = leb-true 1 l.count (simp and-eq-true_iff at valid).0.0

  pub count_most : l.count ≤ limit
  unfolding face_valid_under
  count_most = leb-true l.count limit (simp and-eq-true_iff at valid).0.1

  place_valid : (i : ℕ) → i < l.count
      → (address_before l i < address_at l i) × (address_at l i ≤ last_address) × (2 ≤ offers_at l i) × (offers_at l i ≤ 5)
  unfolding face_valid_under endpoint_valid
  place_valid i h =
      let v = all-at limit (endpoint_valid l) (simp and-eq-true_iff at valid).1 i (omega (arith, count_most)) in
      let w = simp and-eq-true_iff at (rw (lt-ltb i l.count h) at v) in
      let o = offers_between (offers_at l i) w.1 in
      (ltb-true (address_before l i) (address_at l i) w.0.0, leb-true (address_at l i) last_address w.0.1, o.0, o.1)

  above : (i : ℕ) → i < l.count → first_address + i ≤ address_at l i
  unfolding address_before
  above zero h = (place_valid zero h).0
  above (suc i) h = omega (arith, above i (omega arith), (place_valid (suc i) h).0)

  -- it has a place for each endpoint that it counts: past its last place it reads 0, which is no address
  pub count_placed : l.count ≤ length l.addresses
  count_placed = go (ltb (length l.addresses) l.count) refl
    where
      go : (b : Bool) → ltb (length l.addresses) l.count ≡ b → l.count ≤ length l.addresses
      go true e =
          let n = length l.addresses in
          let past = get_or-eq_default l.addresses 0 {n = n} (omega arith) in
          absurd (omega (arith, above n (ltb-true n l.count e)))
      go false e = omega (arith, ltb-false (length l.addresses) l.count e)

  -- addresses ascend from the first one on, so no more are listed than there are
  pub count_places : l.count ≤ places
  count_places = go l.count refl
    where
      go : (n : ℕ) → l.count ≡ n → n ≤ places
      go zero e = omega arith
      go (suc n) e = let h : n < l.count = omega arith in omega (arith, above n h, (place_valid n h).1)

  pub place_listed : (i : ℕ) → i < l.count → Listed (address_at l i) (offers_at l i)
  place_listed i h = let p = place_valid i h in record { first = omega (arith, above i h); last = p.1; least = p.2; most = p.3 }

  -- what a look-up finds is listed
  found : (address n i : ℕ) → i + n ≤ l.count → (offers_from l address n i ≡ 0 → ⊥) → Listed address (offers_from l address n i)
  unfolding offers_from
  found address zero i h p = absurd (p refl)
  found address (suc n) i h p = go (eqb (address_at l i) address) refl p (found address n (suc i) (omega arith))
    where
      go : (b : Bool) → eqb (address_at l i) address ≡ b → (cond b (offers_at l i) (offers_from l address n (suc i)) ≡ 0 → ⊥)
          → ((offers_from l address n (suc i) ≡ 0 → ⊥) → Listed address (offers_from l address n (suc i)))
          → Listed address (cond b (offers_at l i) (offers_from l address n (suc i)))
      go true e q rest = rw (eqb-true (address_at l i) address e) at (place_listed i (omega arith))
      go false e q rest = rest q

  pub listed : (address : ℕ) → (offers_of l address ≡ 0 → ⊥) → Listed address (offers_of l address)
  unfolding offers_of
  listed address p = found address (endpoints_of l) 0 (omega (arith, count_most)) p

-- a limit of one place more, which is zero: if the place is counted neither list is valid, else both are or neither
pub one_more : (l : FaceLimits) (n : ℕ) → address_at l n ≡ 0 → offers_at l n ≡ 0 → face_valid_under n l ≡ face_valid_under (suc n) l
unfolding face_valid_under endpoint_valid all_below
one_more l n a o = rw (a, o) (go (ltb n l.count) refl)
  where
    go : (b : Bool) → ltb n l.count ≡ b
        → leb 1 l.count && leb l.count n && all_below n (endpoint_valid l)
        ≡ leb 1 l.count && leb l.count (suc n)
        && (all_below n (endpoint_valid l) && cond b (ltb (address_before l n) 0 && leb 0 last_address && offers_valid 0) true)
    go true e = simp (lt-leb l.count n (ltb-true n l.count e), and-false)
    go false e = let h = ltb-false n l.count e in simp (le-leb l.count n h, le-leb l.count (suc n) (omega arith), and-true)

-- an address that no place has offers nothing
pub offers_unlisted : (l : FaceLimits) (address n i : ℕ) → ((j : ℕ) → j < i + n → address_at l j ≡ address → ⊥)
    → offers_from l address n i ≡ 0
unfolding offers_from
offers_unlisted l address zero i h = refl
offers_unlisted l address (suc n) i h =
    rw (ne_eqb (address_at l i) address (h i (omega arith))) (offers_unlisted l address n (suc i) (λ j g. h j (omega arith)))

-- looking an address up in the places from i on, which stand in a list
place_in : (l : FaceLimits) (address : ℕ) (ys : List ℕ) (i : ℕ) → ((k : ℕ) → k < length ys → get_or ys k 0 ≡ address_at l (i + k))
    → place_or_limit (position_from (λ a. eqb a address) i ys) ≡ place_from l address (length ys) i
unfolding place_from
place_in l address [] i h = refl
place_in l address (y ∷ ys) i h =
    rw (h 0 (omega arith), add-zero)
    (go (eqb (address_at l i) address)
    (place_in l address ys (i + 1) (λ k g. h (suc k) (omega arith) ∙ ap (address_at l) (omega arith))))
  where
    behind : Option ℕ
    behind = position_from (λ a. eqb a address) (i + 1) ys

    go : (b : Bool) → place_or_limit behind ≡ place_from l address (length ys) (i + 1)
        → place_or_limit (cond b (Some i) behind) ≡ cond b i (place_from l address (length ys) (suc i))
    go true e = refl
    go false e = rw (← add-one i) e

pub place_found : (l : FaceLimits) (address n : ℕ) → n ≡ endpoints_of l
    → place_or_limit (position (λ a. eqb a address) (take n l.addresses)) ≡ place_of l address
unfolding place_of
place_found l address n h =
    let e : length (take n l.addresses) ≡ n = omega (arith, length-take n l.addresses) in
    ap place_or_limit (position_from-zero (λ a. eqb a address) (take n l.addresses))
    ∙ place_in l address (take n l.addresses) 0 (λ k h. rw zero-add (get_or-take n l.addresses k 0 (omega arith)))
    ∙ ap (λ (m : ℕ). place_from l address m 0) (e ∙ h)

-- a test of every place, in the order of a range
range_below : (f : ℕ → Bool) (n a : ℕ) → list_all f (range_with_len a n) ≡ all_below n (λ i. f (a + i))
unfolding all_below
range_below f zero a = refl
range_below f (suc n) a =
    rw (below_front n (λ i. f (a + i)), add-zero)
    (ap (λ b. f a && b) (range_below f n (a + 1) ∙ all_same n _ _ (λ i h. ap f (omega arith))))

pub range_valid : (l : FaceLimits) → count_valid l.count ≡ true
    → list_all (endpoint_valid l) (range_with_len 0 endpoint_limit) ≡ face_valid l
unfolding face_valid_under
range_valid l e =
    range_below (endpoint_valid l) endpoint_limit 0
    ∙ all_same endpoint_limit _ (endpoint_valid l) (λ i h. ap (endpoint_valid l) (zero-add i))
    ∙ ap (λ b. b && all_below endpoint_limit (endpoint_valid l)) (sym e)

-- what stands at its place
module _ (l : FaceLimits) (address : ℕ) where
  abbrev at_place : ℕ → ℕ
  at_place p = cond (ltb p endpoint_limit) (offers_at l p) 0

  offers_from_lem : (n i : ℕ) → i + n ≤ endpoint_limit → offers_from l address n i ≡ at_place (place_from l address n i)
  unfolding offers_from place_from
  offers_from_lem zero i h = refl
  offers_from_lem (suc n) i h = go (eqb (address_at l i) address) (offers_from_lem n (suc i) (omega arith))
    where
      go : (b : Bool) → offers_from l address n (suc i) ≡ at_place (place_from l address n (suc i))
          → cond b (offers_at l i) (offers_from l address n (suc i)) ≡ at_place (cond b i (place_from l address n (suc i)))
      go true e = rw (lt-ltb i endpoint_limit (omega arith))
      go false e = e

  address_from : (n i : ℕ) → place_from l address n i < endpoint_limit → address_at l (place_from l address n i) ≡ address
  unfolding place_from
  address_from zero i h = absurd (omega arith)
  address_from (suc n) i h = go (eqb (address_at l i) address) refl h (address_from n (suc i))
    where
      go : (b : Bool) → eqb (address_at l i) address ≡ b → cond b i (place_from l address n (suc i)) < endpoint_limit
          → (place_from l address n (suc i) < endpoint_limit → address_at l (place_from l address n (suc i)) ≡ address)
          → address_at l (cond b i (place_from l address n (suc i))) ≡ address
      go true e g rest = eqb-true (address_at l i) address e
      go false e g rest = rest g

  offers_place : length l.addresses ≡ endpoint_limit → offers_of l address ≡ at_place (place_of l address)
  unfolding offers_of place_of
  offers_place places = offers_from_lem (endpoints_of l) 0 (omega arith)

  pub address_at_place : place_of l address < endpoint_limit → address_at l (place_of l address) ≡ address
  unfolding place_of
  address_at_place h = address_from (endpoints_of l) 0 h

  -- r is what the code found
  module _ (r : Option ℕ) (e : place_or_limit r ≡ place_of l address) where
    pub offers_none : length l.addresses ≡ endpoint_limit → r ≡ None → offers_of l address ≡ 0
    offers_none places h = offers_place places ∙ rw (← e, h)

    module _ (p : ℕ) (is : r ≡ Some p) (h : p < endpoint_limit) where
      pub found_at : place_of l address ≡ p
      found_at = sym e ∙ ap place_or_limit is

      pub offers_placed : length l.addresses ≡ endpoint_limit → offers_of l address ≡ offers_at l p
      offers_placed places = offers_place places ∙ rw (found_at, lt-ltb p endpoint_limit h)

      pub address_placed : address_at l p ≡ address
      address_placed = rw (← found_at) (address_at_place (rw found_at h))
