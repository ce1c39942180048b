-- The columns of bytes in hex, one byte more. Assumes nothing.
use mathlib.Core.Path.{◌≡◌, ap, ap₂, sym, ◌∙◌}
use Prim.Native.Nat.{ℕ, ◌+◌, ◌-◌, ◌*◌, min}
use native.Mathlib.{Nat.{add-mul}, Omega.{arith}}
use Rattle.printing.specs.Printing.{saturated, bytes_columns}

gathered : (a b : ℕ) → saturated (saturated a + b) ≡ saturated (a + b)
gathered a b = omega arith

module _ (i between : ℕ) where
  separated : min i 1 * between + (i - 1) * between ≡ (i + 1 - 1) * between
  separated =
      let e : min i 1 + (i - 1) ≡ i + 1 - 1 = omega arith in
      sym (add-mul (min i 1) (i - 1) between) ∙ ap (λ (x : ℕ). x * between) e

  next : saturated (saturated (bytes_columns i between + min i 1 * between) + 2) ≡ bytes_columns (i + 1) between
  unfolding bytes_columns
  next =
      let sum : 2 * i + (i - 1) * between + min i 1 * between + 2 ≡ 2 * (i + 1) + (i + 1 - 1) * between = omega (arith, separated) in
      ap (λ (n : ℕ). saturated (n + 2)) (gathered _ _) ∙ gathered _ 2 ∙ ap saturated sum

  -- what stands in front of byte i is added to the columns so far, and then the byte's two digits
  pub one_more : (columns gap first pair second : ℕ) → columns ≡ bytes_columns i between → gap ≡ min i 1 * between
      → first ≡ saturated (columns + gap) → pair ≡ 2 → second ≡ saturated (first + pair)
      → second ≡ bytes_columns (i + 1) between
  one_more columns gap first pair second c g f p s =
      let sum : first ≡ saturated (bytes_columns i between + min i 1 * between) = f ∙ ap₂ (λ (m n : ℕ). saturated (m + n)) c g in
      s ∙ ap₂ (λ (m n : ℕ). saturated (m + n)) sum p ∙ next
