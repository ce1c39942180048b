-- Signed numbers between bounds, products that fit, and numbers in a wider type or a register. Assumes nothing.
use mathlib.Core.{Path.{◌≡◌, refl, ap, ap₂, ◌∙◌}, Bool.{Bool, true, false, cond, false≢true}}
use Prim.Native.Nat.{ℕ, zero, suc, ◌*◌, ◌/◌, ◌^◌, ◌≤◌, ◌<◌, zero-le}
use native.Mathlib.{Nat.{le_trans, le-suc, le_of_lt, div-le_self, lt_of_le_of_lt, mul-le-mul}, Omega.{arith}}
use lib.{Dec.{lit<, ltb, leb}, IntN.{ℤ, pos, negsuc, neg_ℤ, ◌*ℤ◌}, Signed.{mag, le_z, lt_z, quot_z}}
use mir.Syntax.{Width, w8, w32, w64}
use mir.Val.{Fits, SFits, hbits, to_z, of_z}
use mir.Facts.{to_z-of_z, to_z_pos, sfits_widen}
use borrow.Author.Tests.{leb-true, ltb-true, ltb-false, le-leb, lt-leb}
use Rattle.std.specs.Ordering.{is_le}
use Rattle.std.proofs.Common.{Less, Equal, Greater}

-- a product is no larger than the product of the bounds, a quotient no larger than what is divided
mag-neg : (n m : ℕ) → n ≤ suc m → mag (neg_ℤ (pos n)) ≤ m
mag-neg zero m h = zero-le
mag-neg (suc n) m h = omega arith

pub mag_mul : (x y : ℤ) (a b : ℕ) → mag x < a → mag y < b → mag (x *ℤ y) ≤ a * b
mag_mul (pos n) (pos m) a b h g = mul-le-mul (le_of_lt h) (le_of_lt g)
mag_mul (pos n) (negsuc m) a b h g = mag-neg _ _ (le_trans (mul-le-mul (le_of_lt h) g) (le-suc _))
mag_mul (negsuc n) (pos m) a b h g = mag-neg _ _ (le_trans (mul-le-mul h (le_of_lt g)) (le-suc _))
mag_mul (negsuc n) (negsuc m) a b h g = mul-le-mul h g

pub mag_quot : (z : ℤ) (d : ℕ) → mag (quot_z z (pos d)) ≤ mag z
mag_quot (pos n) d = div-le_self n d
mag_quot (negsuc n) d = mag-neg (suc n / d) n (div-le_self (suc n) d)

-- so a product fits where that of the bounds does
pub product_fits : (w : Width) (x y : ℤ) (a b : ℕ) → mag x < a → mag y < b → a * b < 2 ^ hbits w → SFits w (x *ℤ y)
product_fits w x y a b h g r = record { sfits = lt_of_le_of_lt (mag_mul x y a b h g) r }

-- what lies between two numbers is no larger than they are
pub between : (m : ℕ) (a z b : ℤ) → le_z a z ≡ true → le_z z b ≡ true → mag a < m → mag b < m → mag z < m
between m a (pos n) (pos k) p q f g = omega (arith, leb-true n k q)
between m a (pos n) (negsuc k) p q f g = absurd (false≢true q)
between m (pos k) (negsuc n) b p q f g = absurd (false≢true p)
between m (negsuc k) (negsuc n) b p q f g = omega (arith, leb-true n k p)

-- a number in the wider type
module _ (z x : ℤ) (f : SFits w32 z) (e : x ≡ to_z w32 (of_z w32 z)) where
  wide_fits : SFits w64 z
  wide_fits = sfits_widen {w = w32} {w' = w64} tt f

  pub widened_is : to_z w64 (of_z w64 x) ≡ z
  widened_is = rw (e ∙ to_z-of_z f) (to_z-of_z wide_fits)

  -- and, a limit, times d
  module _ (d : ℕ) (y : ℤ) (g : Fits w8 d) (k : y ≡ pos d) where
    times_d : to_z w64 (of_z w64 x) *ℤ to_z w64 (of_z w64 y) ≡ z *ℤ pos d
    times_d = ap₂ ◌*ℤ◌ widened_is (ap (λ n. to_z w64 (of_z w64 n)) k ∙ to_z_pos w64 (omega arith))

    pub limit_fits : SFits w64 (to_z w64 (of_z w64 x) *ℤ to_z w64 (of_z w64 y))
    limit_fits = rw times_d (product_fits w64 z (pos d) (2 ^ 31) 256 f.sfits (omega arith) (lit< tt))

    pub limit_is : to_z w64 (of_z w64 (to_z w64 (of_z w64 x) *ℤ to_z w64 (of_z w64 y))) ≡ z *ℤ pos d
    limit_is = to_z-of_z limit_fits ∙ times_d

-- a number below 1024 in a register, its quotient by d, and the product of two such
module _ (z : ℤ) (h : mag z < 1024) where
  pub small_fits : SFits w32 z
  small_fits = record { sfits = omega arith }

  pub small_held : mag (to_z w32 (of_z w32 z)) < 1024
  small_held = rw (to_z-of_z small_fits) h

  pub quotient_small : (d : ℕ) (y : ℤ) → y ≡ pos d → d < 7 → mag (quot_z z (to_z w32 (of_z w32 y))) < 1024
  quotient_small d y k g =
      let e : to_z w32 (of_z w32 y) ≡ pos d = ap (λ n. to_z w32 (of_z w32 n)) k ∙ to_z_pos w32 (omega arith) in
      rw e (lt_of_le_of_lt (mag_quot z d) h)

pub small_product : (x y : ℤ) → mag x < 1024 → mag y < 1024 → SFits w32 (x *ℤ y)
small_product x y h g = product_fits w32 x y 1024 1024 h g (lit< tt)

-- what a comparison says of being at most
at_most_nat : (m n : ℕ) → is_le (cond (ltb m n) Less (cond (ltb n m) Greater Equal)) ≡ leb m n
at_most_nat m n = go (ltb m n) (ltb n m) refl refl
  where
    go : (b c : Bool) → ltb m n ≡ b → ltb n m ≡ c → is_le (cond b Less (cond c Greater Equal)) ≡ leb m n
    go true c p q = rw (le-leb m n (le_of_lt (ltb-true m n p))) refl
    go false true p q = rw (lt-leb m n (ltb-true n m q)) refl
    go false false p q = rw (le-leb m n (ltb-false n m q)) refl

pub at_most : (y z : ℤ) → is_le (cond (lt_z y z) Less (cond (lt_z z y) Greater Equal)) ≡ le_z y z
at_most (pos m) (pos n) = at_most_nat m n
at_most (pos m) (negsuc n) = refl
at_most (negsuc m) (pos n) = refl
at_most (negsuc m) (negsuc n) = at_most_nat n m
