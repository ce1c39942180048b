-- How many columns printed numbers and bytes take: one for each character.
use Rattle.std.specs.Prelude.{ℕ, zero, suc, ◌+◌, ◌-◌, ◌*◌, ◌/◌, ◌^◌, min, max, cond}
use lib.{Dec.{ltb}, IntN.{ℤ, pos, negsuc}}

-- the digits of n in base b, in so many steps: one where n is below b, else one more than n / b has
unfoldable pub digits_within : ℕ → ℕ → ℕ → ℕ
digits_within zero b n = 1
digits_within (suc steps) b n = cond (ltb n b) 1 (suc (digits_within steps b (n / b)))

-- n steps are enough
unfoldable pub digit_count : ℕ → ℕ → ℕ
digit_count b n = digits_within n b n

abbrev pub decimal_columns : ℕ → ℕ
decimal_columns n = digit_count 10 n

-- a minus sign in front of a negative number
unfoldable pub signed_columns : ℤ → ℕ
signed_columns (pos n) = decimal_columns n
signed_columns (negsuc n) = suc (decimal_columns (suc n))

-- zeros in front up to so many digits, of which more than 16 count as 16
unfoldable pub hex_columns : ℕ → ℕ → ℕ
hex_columns n digits = max (digit_count 16 n) (min digits 16)

-- a count, or the largest number of 64 bits where it is larger
abbrev pub saturated : ℕ → ℕ
saturated n = min n (2 ^ 64 - 1)

-- two digits a byte, and between two bytes a text of so many columns
unfoldable pub bytes_columns : ℕ → ℕ → ℕ
bytes_columns bytes between = saturated (2 * bytes + (bytes - 1) * between)
