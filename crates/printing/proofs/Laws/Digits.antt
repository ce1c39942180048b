-- How many digits a number has, by the powers of the base between which it lies. Assumes nothing.
use mathlib.Core.{Path.{◌≡◌, refl, ap, ◌∙◌}, Bool.{Bool, true, false}}
use Prim.Native.Nat.{ℕ, zero, suc, ◌-◌, ◌*◌, ◌/◌, ◌^◌, ◌≤◌, ◌<◌, min, max}
use native.Mathlib.Nat.{pow-zero, pow-suc, pow-le-pow_left, pow-le-pow_right, two-pow-succ, one-mul, le_trans, div-lt_iff_lt-mul}
use native.Mathlib.Nat.{le-div_iff_mul-le}
use native.Mathlib.Omega.{arith}
use lib.Dec.{ltb, lit<}
use borrow.Author.Tests.{lt-ltb, le-ltb, ltb-true, ltb-false}
use Rattle.io.specs.Digits.{IsDigitCount}
use Rattle.printing.specs.Printing.{digits_within, digit_count, hex_columns}

below_power : (k : ℕ) → k < 2 ^ k
below_power zero = lit< tt
below_power (suc k) = omega (arith, below_power k, two-pow-succ k)

module _ (b : ℕ) (h : 1 < b) where
  positive : (steps n : ℕ) → 1 ≤ digits_within steps b n
  unfolding digits_within
  positive zero n = omega arith
  positive (suc steps) n = go (ltb n b) refl
    where
      go : (t : Bool) → ltb n b ≡ t → 1 ≤ digits_within (suc steps) b n
      go true e = rw e (omega arith)
      go false e = rw e (omega arith)

  first_power : b ^ 1 ≡ b
  first_power = pow-suc b 0 ∙ ap (λ (x : ℕ). x * b) (pow-zero b) ∙ one-mul b

  base : (k : ℕ) → b ≤ b ^ suc k
  base k = rw first_power at (pow-le-pow_right {n = b} (omega arith) {i = 1} {j = suc k} (omega arith))

  -- at most k digits below the k-th power, and exactly so many from the power before it on
  most : (steps k n : ℕ) → n < b ^ suc k → digits_within steps b n ≤ suc k
  unfolding digits_within
  most zero k n u = omega arith
  most (suc steps) zero n u = rw (lt-ltb n b (omega (arith, first_power))) (omega arith)
  most (suc steps) (suc k) n u = go (ltb n b) refl (most steps k (n / b) ((div-lt_iff_lt-mul (omega arith)).1 (rw (pow-suc b (suc k)) at u)))
    where
      go : (t : Bool) → ltb n b ≡ t → digits_within steps b (n / b) ≤ suc k → digits_within (suc steps) b n ≤ suc (suc k)
      go true e r = rw e (omega arith)
      go false e r = rw e (omega arith)

  within : (k steps n : ℕ) → k ≤ steps → n < b ^ suc k → (0 < k → b ^ k ≤ n) → digits_within steps b n ≡ suc k
  unfolding digits_within
  within zero zero n l u f = refl
  within zero (suc steps) n l u f = rw (lt-ltb n b (omega (arith, first_power)))
  within (suc k) zero n l u f = absurd (omega arith)
  within (suc k) (suc steps) n l u f =
      let p = f (omega arith) in
      rw (le-ltb n b (le_trans (base k) p))
      (ap suc (within k steps (n / b) (omega arith)
      ((div-lt_iff_lt-mul (omega arith)).1 (rw (pow-suc b (suc k)) at u))
      (λ z. (le-div_iff_mul-le (omega arith)).1 (rw (pow-suc b k) at p))))

  -- the fewest digits that hold it, one at least
  pub counted : (n k : ℕ) → IsDigitCount b 1 n k → digit_count b n ≡ k
  unfolding digit_count
  counted n zero f = absurd (omega arith)
  counted n (suc k) f =
      let e : suc k - 1 ≡ k = omega arith in
      let g : 0 < k → b ^ k ≤ n = λ z. rw e at (f.2 (omega arith)) in
      within k n n (enough k g) f.1 g
    where
      enough : (k : ℕ) → (0 < k → b ^ k ≤ n) → k ≤ n
      enough zero g = omega arith
      enough (suc k) g = omega (arith, below_power (suc k), pow-le-pow_left {n = 2} {m = b} (omega arith) (suc k), g (omega arith))

  pub below : (n k : ℕ) → n < b ^ k → 0 < k → digit_count b n ≤ k
  unfolding digit_count
  below n zero u z = absurd (omega arith)
  below n (suc k) u z = most n k n u

  pub some : (n : ℕ) → 1 ≤ digit_count b n
  unfolding digit_count
  some n = positive n n

-- with zeros in front
pub hex_counted : (n digits k : ℕ) → IsDigitCount 16 (min (max digits 1) 16) n k → hex_columns n digits ≡ k
unfolding hex_columns
hex_counted n digits k f = go (ltb (min (max digits 1) 16) k) refl
  where
    go : (t : Bool) → ltb (min (max digits 1) 16) k ≡ t → max (digit_count 16 n) (min digits 16) ≡ k
    go true e =
        omega (
          arith,
          ltb-true (min (max digits 1) 16) k e,
          counted 16 (lit< tt) n k
              (omega (arith, f.0), f.1, λ z. f.2 (ltb-true (min (max digits 1) 16) k e)),
        )
    go false e = omega (arith, ltb-false (min (max digits 1) 16) k e, below 16 (lit< tt) n k f.1 (omega arith), some 16 (lit< tt) n)

-- the digits that hold it in decimal
pub decimal_counted : (n k : ℕ) → IsDigitCount 10 1 n k → digit_count 10 n ≡ k
decimal_counted n k f = counted 10 (lit< tt) n k f

-- a number of 64 bits has at most 20 digits in decimal and 16 in hex
pub decimal_most : (n : ℕ) → n < 2 ^ 64 → digit_count 10 n ≤ 20
decimal_most n h = below 10 (lit< tt) n 20 (omega arith) (lit< tt)

pub hex_most : (n digits : ℕ) → n < 2 ^ 64 → hex_columns n digits ≤ 16
unfolding hex_columns
hex_most n digits h = omega (arith, below 16 (lit< tt) n 16 h (lit< tt))

-- and a byte has two
pub byte_two : (n : ℕ) → n < 256 → hex_columns n 2 ≡ 2
unfolding hex_columns
byte_two n h = omega (arith, below 16 (lit< tt) n 2 h (lit< tt))
