-- A signed number's columns, by its absolute value. Assumes nothing.
use mathlib.Core.{Path.{◌≡◌, refl}, Bool.{true, false}}
use Prim.Native.Nat.{suc}
use native.Mathlib.Omega.{arith}
use borrow.Author.Tests.{ltb-true}
use lib.{IntN.{ℤ, pos, negsuc, nat_abs}, Signed.{lt_z}}
use Rattle.printing.specs.Printing.{decimal_columns, signed_columns}

pub below_zero : (v : ℤ) → lt_z v (pos 0) ≡ true → suc (decimal_columns (nat_abs v)) ≡ signed_columns v
unfolding signed_columns
below_zero (pos n) h = absurd (omega (arith, ltb-true n 0 h))
below_zero (negsuc n) h = refl

pub not_below : (v : ℤ) → lt_z v (pos 0) ≡ false → decimal_columns (nat_abs v) ≡ signed_columns v
unfolding signed_columns
not_below (pos n) h = refl
not_below (negsuc n) h = cc
