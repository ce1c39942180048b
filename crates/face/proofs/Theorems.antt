-- What an endpoint offers, its default, and the limit of endpoints; specs/Theorems says what the words of it mean. Assumes nothing.
use Prim.Native.Nat.{ℕ, zero, suc, ◌+◌, ◌-◌, ◌≤◌, ◌<◌}
use mathlib.Core.{Path.{◌≡◌, refl, ap, sym, ◌∙◌}, List.{List}, Bool.{Bool, true, false, not, cond, ◌||◌}}
use native.Mathlib.{Nat.{zero-add}, Omega.{arith}}
use lib.{Dec.{leb, ltb, eqb, lit<}, ListN.{get_or, take, length-take, get_or-eq_default}, Seq.{get_or-take}}
use borrow.Author.Tests.{ltb-true, ltb-false, leb-true, leb-false}
use Rattle.wire.specs.Rows.{all_below}
use Rattle.wire.proofs.Laws.Below.{all-at, all_of, all_same}
use Rattle.flags.specs.Flags.{is_set, bits_of, count, first, one_flag}
use Rattle.flags.proofs.Laws.Bits.{high_clear}
use Rattle.face.specs.{declared.limits.FaceLimits.{FaceLimits}, Answers.{default_of}}
use Rattle.face.specs.Limits.{endpoints_of, address_at, offers_at, offers_valid, address_before, endpoint_valid, face_valid_under, offers_from}
use Rattle.face.specs.Limits.{offers_of}
use Rattle.face.specs.Theorems.{OneMode, OffersByFlags, DefaultChosen, DefaultsChosen, ZerosFrom, LimitRaised, first_places}
use Rattle.face.specs.Theorems.{ZerosLeftOut, NoMoreListed}
use Rattle.face.proofs.Laws.Limits.{offers_between, count_places, one_more}

-- a claim of 2, 3, 4 and 5 is one of all valid offers
valid_four : (P : ℕ → Type 0) → P 2 → P 3 → P 4 → P 5 → (o : ℕ) → offers_valid o ≡ true → P o
valid_four P a b c d o v = go o (offers_between o v)
  where
    go : (o : ℕ) → (2 ≤ o) × (o ≤ 5) → P o
    go zero h = absurd (omega arith)
    go (suc zero) h = absurd (omega arith)
    go (suc (suc zero)) h = a
    go (suc (suc (suc zero))) h = b
    go (suc (suc (suc (suc zero)))) h = c
    go (suc (suc (suc (suc (suc zero))))) h = d
    go (suc (suc (suc (suc (suc (suc n)))))) h = absurd (omega arith)

-- the other way, computed of every byte: without a flag of D3 to D7 it is valid, unless D1 and D2 are alike
abbrev none_above : ℕ → Bool
none_above o = all_below 5 (λ k. not (is_set o (3 + k)))

computed : all_below 256 (λ o. not (none_above o) || cond (is_set o 1) (is_set o 2) (not (is_set o 2)) || offers_valid o) ≡ true
unfolding all_below is_set
computed = refl

mode_none : (o : ℕ) → OneMode o → none_above o ≡ true
mode_none o m = all_of 5 _ (λ k h. rw (m.above (3 + k) (omega arith)))

pub offers_by_flags : OffersByFlags
unfolding is_set
offers_by_flags o h = (
  λ v. record {
    one = valid_four (λ o. is_set o 1 ≡ not (is_set o 2)) refl refl refl refl o v;
    above = λ k g. high_clear 3 o k (valid_four (λ o. o < 8) (lit< tt) (lit< tt) (lit< tt) (lit< tt) o v) (omega arith);
  },
  λ m. go (is_set o 2) (offers_valid o) (rw (mode_none o m, m.one) at (all-at 256 _ computed o h)),
)
  where
    go : (c d : Bool) → cond (not c) c (not c) || d ≡ true → d ≡ true
    go true d g = g
    go false d g = g

pub defaults_chosen : DefaultsChosen
unfolding is_set bits_of count first one_flag default_of
defaults_chosen = valid_four DefaultChosen refl refl refl refl

pub limit_raised : LimitRaised
limit_raised low zero l z = rw zero-add
limit_raised low (suc more) l z =
    let e : suc more + low ≡ suc (more + low) = omega arith in
    limit_raised low more l z ∙ rw e (one_more l (more + low) (z.addresses _ (omega arith)) (z.offers _ (omega arith)))

-- what a list reads is what its first places do, where the others are zero
front_same : (low : ℕ) (s : List ℕ) → ((i : ℕ) → low ≤ i → get_or s i 0 ≡ 0) → (i : ℕ) → get_or (take low s) i 0 ≡ get_or s i 0
front_same low s z i = go (ltb i low) refl
  where
    go : (b : Bool) → ltb i low ≡ b → get_or (take low s) i 0 ≡ get_or s i 0
    go true e = get_or-take low s i 0 (ltb-true i low e)
    go false e =
        let h = ltb-false i low e in
        get_or-eq_default (take low s) 0 {n = i} (simp length-take (omega arith)) ∙ sym (z i h)

module _ (low : ℕ) (l : FaceLimits) (z : ZerosFrom low l) where
  abbrev few : FaceLimits
  few = first_places low l

  address_same : (i : ℕ) → address_at few i ≡ address_at l i
  address_same = front_same low l.addresses z.addresses

  offers_same : (i : ℕ) → offers_at few i ≡ offers_at l i
  offers_same = front_same low l.offers z.offers

  before_same : (i : ℕ) → address_before few i ≡ address_before l i
  unfolding address_before
  before_same zero = refl
  before_same (suc i) = address_same i

  endpoint_same : (i : ℕ) → endpoint_valid few i ≡ endpoint_valid l i
  unfolding endpoint_valid
  endpoint_same i = rw (before_same i, address_same i, offers_same i)

  valid_same : (limit : ℕ) → face_valid_under limit few ≡ face_valid_under limit l
  unfolding face_valid_under
  valid_same limit = rw (all_same limit (endpoint_valid few) (endpoint_valid l) (λ i h. endpoint_same i))

  -- looking an address up in either, and past the places that are not zero
  from_same : (address n i : ℕ) → offers_from few address n i ≡ offers_from l address n i
  unfolding offers_from
  from_same address zero i = refl
  from_same address (suc n) i = rw (address_same i, offers_same i, from_same address n (suc i))

  from_zeros : (address n i : ℕ) → low ≤ i → offers_from l address n i ≡ 0
  unfolding offers_from
  from_zeros address zero i h = refl
  from_zeros address (suc n) i h = rw (z.offers i h) (go (eqb (address_at l i) address) (from_zeros address n (suc i) (omega arith)))
    where
      go : (b : Bool) → offers_from l address n (suc i) ≡ 0 → cond b 0 (offers_from l address n (suc i)) ≡ 0
      go true e = refl
      go false e = e

  from_front : (address m k i : ℕ) → low ≤ i + m → offers_from l address m i ≡ offers_from l address (m + k) i
  unfolding offers_from
  from_front address zero k i h = rw zero-add (sym (from_zeros address k i (omega arith)))
  from_front address (suc m) k i h =
      let e : suc m + k ≡ suc (m + k) = omega arith in
      rw e (ap (cond (eqb (address_at l i) address) (offers_at l i)) (from_front address m k (suc i) (omega arith)))

  look_same : (address : ℕ) → offers_of few address ≡ offers_of l address
  unfolding offers_of
  look_same address = go (leb (endpoints_of l) low) refl
    where
      go : (b : Bool) → leb (endpoints_of l) low ≡ b → offers_from few address (endpoints_of few) 0 ≡ offers_from l address (endpoints_of l) 0
      go true e =
          let h = leb-true (endpoints_of l) low e in
          let n : endpoints_of few ≡ endpoints_of l = omega (arith, length-take low l.addresses) in
          from_same address (endpoints_of few) 0 ∙ ap (λ (n : ℕ). offers_from l address n 0) n
      go false e =
          let h = leb-false (endpoints_of l) low e in
          let n : endpoints_of few ≡ low = omega (arith, length-take low l.addresses) in
          let m : low + (endpoints_of l - low) ≡ endpoints_of l = omega arith in
          from_same address (endpoints_of few) 0 ∙ ap (λ (n : ℕ). offers_from l address n 0) n
          ∙ from_front address low (endpoints_of l - low) 0 (omega arith) ∙ ap (λ (n : ℕ). offers_from l address n 0) m

-- zeros from a place on are zeros from any behind it
pub zeros_behind : (low : ℕ) (l : FaceLimits) → ZerosFrom low l → (n : ℕ) → low ≤ n → ZerosFrom n l
zeros_behind low l z n h = record { addresses = λ i g. z.addresses i (omega arith); offers = λ i g. z.offers i (omega arith) }

pub zeros_left_out : ZerosLeftOut
zeros_left_out low l z = record { valid = valid_same low l z; offers = look_same low l z }

pub no_more_listed : NoMoreListed
no_more_listed limit l v = omega (arith, count_places limit l v)
