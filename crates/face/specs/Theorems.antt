-- What an endpoint offers, and its default, by the places of flags; and what the limit of endpoints changes. proofs/Theorems proves each.
use Rattle.std.specs.Prelude.{ℕ, ◌+◌, ◌≤◌, ◌<◌}
use mathlib.Core.{Path.{◌≡◌}, Bool.{true, false, not, cond}, Logic.{◌↔◌}}
use Rattle.std.specs.declared.option.Option.TheVariants.{Some}
use Rattle.flags.specs.Flags.{is_set, one_flag}
use Rattle.std.specs.Prelude.{take}
use Rattle.wire.specs.Endpoints.{places}
use Rattle.face.specs.{declared.limits.FaceLimits.{FaceLimits}, Limits.{address_at, offers_at, offers_valid, face_valid_under, offers_of}}
use Rattle.face.specs.Answers.{default_of}

-- one of D1 and D2 and not both, D0 or not, and no flag above
pub record OneMode (offers : ℕ) : Type 0 where
  pub one : is_set offers 1 ≡ not (is_set offers 2)
  pub above : (k : ℕ) → 2 < k → is_set offers k ≡ false

abbrev pub OffersByFlags : Type 0
OffersByFlags = (offers : ℕ) → offers < 256 → (offers_valid offers ≡ true) ↔ OneMode offers

-- The default is exactly one flag, and offered, by the function that judges a SET's: D0 if that is offered, else the one of D1 and D2 that
-- is.
abbrev pub DefaultChosen : ℕ → Type 0
DefaultChosen offers = one_flag offers (default_of offers) ≡ Some (cond (is_set offers 0) 0 (cond (is_set offers 1) 1 2))

abbrev pub DefaultsChosen : Type 0
DefaultsChosen = (offers : ℕ) → offers_valid offers ≡ true → DefaultChosen offers

-- places from `low` on are zero
pub record ZerosFrom (low : ℕ) (l : FaceLimits) : Type 0 where
  pub addresses : (i : ℕ) → low ≤ i → address_at l i ≡ 0
  pub offers : (i : ℕ) → low ≤ i → offers_at l i ≡ 0

-- A higher limit changes nothing where the places that it adds are zero, whatever is counted.
abbrev pub LimitRaised : Type 0
LimitRaised = (low more : ℕ) (l : FaceLimits) → ZerosFrom low l → face_valid_under low l ≡ face_valid_under (more + low) l

-- the list with its first n places alone
abbrev pub first_places : ℕ → FaceLimits → FaceLimits
first_places n l = record { count = l.count; addresses = take n l.addresses; offers = take n l.offers }

-- Places that are zero may as well not be there: the list is valid under the same limits, and every address offers the same.
pub record SameInFirst (n : ℕ) (l : FaceLimits) : Type 0 where
  pub valid : (limit : ℕ) → face_valid_under limit (first_places n l) ≡ face_valid_under limit l
  pub offers : (address : ℕ) → offers_of (first_places n l) address ≡ offers_of l address

abbrev pub ZerosLeftOut : Type 0
ZerosLeftOut = (low : ℕ) (l : FaceLimits) → ZerosFrom low l → SameInFirst low l

-- Under no limit can more endpoints be listed than there are addresses from 0x81 to 0x8F.
abbrev pub NoMoreListed : Type 0
NoMoreListed = (limit : ℕ) (l : FaceLimits) → face_valid_under limit l ≡ true → l.count ≤ places
