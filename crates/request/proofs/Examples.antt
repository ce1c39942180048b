-- A few requests to a unit, computed from the definitions: unit 4 on interface 0, with selectors 9 and 13, where a SET of
-- 13 has four bytes and 9 takes none.
use mathlib.Core.{Path.{◌≡◌, refl}, List.{List, [], ◌∷◌}, Bool.{true}}
use Prim.Native.Nat.{ℕ}
use lib.Dec.{eqb}
use Rattle.wire.specs.{Numbers.{number, le_at}, Rows.{first_of}}
use Rattle.flags.specs.Flags.{is_set}
use Rattle.request.specs.{Setup.{setup_selector, setup_w_length, is_set_request}, Table.{Table, table_of}, Tests.{request_tests}}

abbrev table : ℕ → Table
table selector = table_of (record { unit = 4; interface = 0; present = 0x1100 }) (record { settable = eqb selector 0x0D; len = 4 })

abbrev verdict : List ℕ → List ℕ → ℕ
verdict setup payload = first_of (request_tests (table (setup_selector setup)) setup payload)

-- SET_CUR of selector 13, as the bench camera's row for HDR has it
abbrev set : List ℕ
set = 0x21 ∷ 0x01 ∷ 0x00 ∷ 0x0D ∷ 0x00 ∷ 0x04 ∷ 0x04 ∷ 0x00 ∷ []

abbrev on : List ℕ
on = 1 ∷ 0 ∷ 0 ∷ 0 ∷ []

is-set : (is_set_request set ≡ true) × (setup_selector set ≡ 0x0D) × (setup_w_length set ≡ 4)
unfolding le_at number
is-set = (refl, refl, refl)

accepted : verdict set on ≡ 0
unfolding request_tests is_set le_at number
accepted = refl

-- seven bytes; wIndex's bytes exchanged; a selector that is not there; a SET of selector 9; three bytes of payload
refused : (verdict (0x21 ∷ 0x01 ∷ 0x00 ∷ 0x0D ∷ 0x00 ∷ 0x04 ∷ 0x04 ∷ []) on ≡ 0xFF)
    × (verdict (0x21 ∷ 0x01 ∷ 0x00 ∷ 0x0D ∷ 0x04 ∷ 0x00 ∷ 0x04 ∷ 0x00 ∷ []) on ≡ 0x05)
    × (verdict (0x21 ∷ 0x01 ∷ 0x00 ∷ 0x0E ∷ 0x00 ∷ 0x04 ∷ 0x04 ∷ 0x00 ∷ []) on ≡ 0x06)
    × (verdict (0x21 ∷ 0x01 ∷ 0x00 ∷ 0x09 ∷ 0x00 ∷ 0x04 ∷ 0x04 ∷ 0x00 ∷ []) on ≡ 0x07)
    × (verdict set (1 ∷ 0 ∷ 0 ∷ []) ≡ 0xFF)
unfolding request_tests is_set le_at number
refused = (refl, refl, refl, refl, refl)
