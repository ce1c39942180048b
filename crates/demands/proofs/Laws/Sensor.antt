-- The sensor's number: as many of its units as the value has steps, for steps of which some number makes a stop. Assumes nothing.
use mathlib.Core.{Path.{◌≡◌, refl, ap, ◌∙◌, subst}, Bool.{true, false≢true}}
use Prim.Native.Nat.{ℕ, zero, suc, ◌*◌, ◌/◌, ◌≤◌}
use native.Mathlib.{Nat.{mul_assoc, mul_comm, mul-le-mul, le_refl}, Omega.{arith}}
use lib.{IntN.{ℤ, pos, negsuc, neg_ℤ, ◌*ℤ◌}, Signed.{le_z}}
use borrow.Author.Tests.{leb-true, le-leb}
use Rattle.exposure.specs.{declared.EvLimits.{EvLimits}, Exposure.{ev_valid, divisor, in_range, units_per_stop}}
use Rattle.exposure.proofs.Laws.Exposure.{range_between, minimum_from, maximum_to}

-- every step is a whole number of units
pub units_whole : (place : ℕ) → divisor place * (units_per_stop / divisor place) ≡ units_per_stop
units_whole zero = refl
units_whole (suc zero) = refl
units_whole (suc (suc zero)) = refl
units_whole (suc (suc (suc zero))) = refl
units_whole (suc (suc (suc (suc n)))) = refl

-- a product with two natural numbers is that with their product
negative_times : (m d : ℕ) → neg_ℤ (pos m) *ℤ pos d ≡ neg_ℤ (pos (m * d))
negative_times zero d = let e : 0 * d ≡ 0 = omega arith in rw e
negative_times (suc m) d = refl

times_times : (v : ℤ) (k d : ℕ) → (v *ℤ pos k) *ℤ pos d ≡ v *ℤ pos (k * d)
times_times (pos n) k d = ap pos (mul_assoc n k d)
times_times (negsuc n) k d = negative_times (suc n * k) d ∙ ap (λ (m : ℕ). neg_ℤ (pos m)) (mul_assoc (suc n) k d)

-- a number of steps in units, and back: so many stops in units
module _ (place : ℕ) (v : ℤ) where
  abbrev d : ℕ
  d = divisor place

  pub units_exact : (v *ℤ pos (units_per_stop / d)) *ℤ pos d ≡ v *ℤ pos units_per_stop
  units_exact = times_times v (units_per_stop / d) d ∙ ap (λ (m : ℕ). v *ℤ pos m) (mul_comm (units_per_stop / d) d ∙ units_whole place)

  stops_exact : (v *ℤ pos d) *ℤ pos (units_per_stop / d) ≡ v *ℤ pos units_per_stop
  stops_exact = times_times v d (units_per_stop / d) ∙ ap (λ (m : ℕ). v *ℤ pos m) (units_whole place)

-- the order of signed numbers: a chain of two, and a product with a natural number
chain : (a b c : ℤ) → le_z a b ≡ true → le_z b c ≡ true → le_z a c ≡ true
chain (pos a) (pos b) (pos c) h g = le-leb a c (omega (arith, leb-true a b h, leb-true b c g))
chain (pos a) (pos b) (negsuc c) h g = g
chain (pos a) (negsuc b) c h g = absurd (false≢true h)
chain (negsuc a) b (pos c) h g = refl
chain (negsuc a) (pos b) (negsuc c) h g = absurd (false≢true g)
chain (negsuc a) (negsuc b) (negsuc c) h g = le-leb c a (omega (arith, leb-true b a h, leb-true c b g))

negated : (n m : ℕ) → m ≤ n → le_z (neg_ℤ (pos n)) (neg_ℤ (pos m)) ≡ true
negated zero zero h = refl
negated (suc n) zero h = refl
negated zero (suc m) h = absurd (omega arith)
negated (suc n) (suc m) h = le-leb m n (omega arith)

below-zero : (n m : ℕ) → le_z (neg_ℤ (pos n)) (pos m) ≡ true
below-zero zero m = le-leb 0 m (omega arith)
below-zero (suc n) m = refl

times_ordered : (k : ℕ) (a b : ℤ) → le_z a b ≡ true → le_z (a *ℤ pos k) (b *ℤ pos k) ≡ true
times_ordered k (pos a) (pos b) h = le-leb (a * k) (b * k) (mul-le-mul (leb-true a b h) (le_refl k))
times_ordered k (pos a) (negsuc b) h = absurd (false≢true h)
times_ordered k (negsuc a) (pos b) h = below-zero (suc a * k) (b * k)
times_ordered k (negsuc a) (negsuc b) h = negated (suc a * k) (suc b * k) (mul-le-mul (omega (arith, leb-true b a h)) (le_refl k))

-- in units, a value in range of valid limits lies between -128 and 127 stops
module _ (l : EvLimits) (h : ev_valid l ≡ true) (place : ℕ) (v : ℤ) (r : in_range l (divisor place) v ≡ true) where
  abbrev number : ℤ
  number = v *ℤ pos (units_per_stop / divisor place)

  pub least_units : le_z (negsuc 127 *ℤ pos units_per_stop) number ≡ true
  least_units =
      chain (negsuc 127 *ℤ pos units_per_stop) (l.minimum *ℤ pos units_per_stop) number
      (times_ordered units_per_stop (negsuc 127) l.minimum (minimum_from l h))
      (subst (λ z. le_z z number ≡ true) (stops_exact place l.minimum)
      (times_ordered (units_per_stop / divisor place) (l.minimum *ℤ pos (divisor place)) v (range_between l (divisor place) v r).0))

  pub most_units : le_z number (pos 127 *ℤ pos units_per_stop) ≡ true
  most_units =
      chain number (l.maximum *ℤ pos units_per_stop) (pos 127 *ℤ pos units_per_stop)
      (subst (λ z. le_z number z ≡ true) (stops_exact place l.maximum)
      (times_ordered (units_per_stop / divisor place) v (l.maximum *ℤ pos (divisor place)) (range_between l (divisor place) v r).1))
      (times_ordered units_per_stop l.maximum (pos 127) (maximum_to l h))
