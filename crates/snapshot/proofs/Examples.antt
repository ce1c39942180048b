-- Snapshots worked out from the definitions. Assumes nothing.
use Prim.Native.Nat.{ℕ}
use mathlib.Core.{Path.{◌≡◌, refl}, Bool.{true, false}, List.{List, [], ◌∷◌, ◌++◌}}
use Rattle.wire.specs.Numbers.{le_at, number}
use Rattle.snapshot.specs.{Form.{sound_record, stated_key, formed, well_formed}, Records.{split, records_of}}

unfoldable pub ev : List ℕ
ev = 0x0F ∷ 0 ∷ 0x03 ∷ 0 ∷ 0x02 ∷ 0 ∷ 0 ∷ 0 ∷ 0 ∷ 0 ∷ 0 ∷ 0xFD ∷ 0xFF ∷ 0xFF ∷ 0xFF ∷ []

unfoldable pub face : ℕ → ℕ → List ℕ
face address flags = 0x0D ∷ 0 ∷ 0x06 ∷ 0 ∷ 1 ∷ address ∷ flags ∷ 0 ∷ 0 ∷ 0 ∷ 0 ∷ 0 ∷ 0 ∷ []

unfoldable pub hdr : ℕ → List ℕ
hdr mode = 0x08 ∷ 0 ∷ 0x0D ∷ 0 ∷ mode ∷ 0 ∷ 0 ∷ 0 ∷ []

-- the bench camera's snapshot
bench : well_formed (ev ++ hdr 1) ≡ true
unfolding le_at number well_formed formed sound_record stated_key ev hdr
bench = refl

-- addresses out of order
order : well_formed (face 0x82 1 ++ face 0x81 1) ≡ false
unfolding le_at number well_formed formed sound_record stated_key face
order = refl

-- an equal key
twice : well_formed (hdr 0 ++ hdr 1) ≡ false
unfolding le_at number well_formed formed sound_record stated_key hdr
twice = refl

listed : records_of (ev ++ face 0x8F 1 ++ hdr 0) ≡ (0, ev) ∷ (15, face 0x8F 1) ∷ (17, hdr 0) ∷ []
unfolding le_at number records_of split sound_record stated_key ev face hdr
listed = refl
