-- What an item comes to. Assumes nothing.
use mathlib.Core.{Path.{◌≡◌, refl, sym}, Bool.{Bool, true, false, cond}}
use Prim.Native.Nat.{ℕ}
use native.Mathlib.Omega.{arith}
use lib.Dec.{eqb}
use borrow.Author.Tests.{eq-eqb, ne_eqb, eqb-true}
use Rattle.controls.specs.declared.Setting.{Setting}
use Rattle.std.specs.Option.{unwrap_or}
use Rattle.std.specs.declared.option.Option.TheVariants as H
use Rattle.controls.specs.Controls.{Refused, Given, HeldNumber, item_of, item_code, number_or}

module _ (code : ℕ) (s : Setting) where
  pub item_given : code ≡ 0 → item_of code s ≡ Given s
  unfolding item_of
  item_given e = rw (eq-eqb code 0 e)

  pub item_refused : (code ≡ 0 → ⊥) → item_of code s ≡ Refused code
  unfolding item_of
  item_refused n = rw (ne_eqb code 0 n)

  -- its number is that of its tests
  pub item_code_lem : item_code (item_of code s) ≡ code
  unfolding item_of item_code
  item_code_lem = go (eqb code 0) refl
    where
      go : (b : Bool) → eqb code 0 ≡ b → item_code (cond b (Given s) (Refused code)) ≡ code
      go true e = sym (eqb-true code 0 e)
      go false e = refl

  -- an item is given only where its tests give 0
  pub given_is : (t : Setting) → item_of code s ≡ Given t → (code ≡ 0) × (s ≡ t)
  unfolding item_of
  given_is t e = go (eqb code 0) refl e
    where
      go : (b : Bool) → eqb code 0 ≡ b → cond b (Given s) (Refused code) ≡ Given t → (code ≡ 0) × (s ≡ t)
      go true p q = (eqb-true code 0 p, cc)
      go false p q = let z : ◌≡◌ {A = ℕ} 0 1 = cc in absurd (omega arith)

-- the number held, as the code reads it
pub number_read : (n : ℕ) (held : HeldNumber) → unwrap_or held n ≡ number_or n held
unfolding number_or
number_read n H.None = refl
number_read n (H.Some m) = refl
