-- The records of the five controls, from the bytes of their settings, are records of their keys. Assumes nothing.
use Prim.Native.Nat.{ℕ, ◌+◌, ◌-◌, ◌≤◌}
use native.Mathlib.Omega.{arith}
use mathlib.Core.{Path.{refl}, List.{[], ◌∷◌}}
use borrow.Author.Tests.{le-leb, eq-eqb, ne_eqb}
use Rattle.wire.specs.{Numbers.{le_at, number}, Selectors.{ev, face, metadata, hdr, throttle}, Endpoints.{first_address, last_address, places}}
use Rattle.snapshot.specs.{Form.{sound_record, stated_key}, Records.{stands, IsRecord}}

pub record_ev : (a b c d e f g h i j k : ℕ) → IsRecord 0 (15 ∷ 0 ∷ ev ∷ 0 ∷ a ∷ b ∷ c ∷ d ∷ e ∷ f ∷ g ∷ h ∷ i ∷ j ∷ k ∷ [])
unfolding stands sound_record stated_key le_at number
record_ev a b c d e f g h i j k = record { long = refl; is = refl }

pub record_face : (k a b c d e f g : ℕ) → 1 ≤ k → k ≤ places
    → IsRecord k (13 ∷ 0 ∷ face ∷ 0 ∷ 1 ∷ (first_address - 1 + k) ∷ a ∷ b ∷ c ∷ d ∷ e ∷ f ∷ g ∷ [])
unfolding stands sound_record stated_key le_at number
record_face k a b c d e f g lo hi = record {
  long = simp (ne_eqb k 0 (omega arith), le-leb k places hi);
  is =
      simp (
        le-leb first_address (first_address - 1 + k) (omega arith),
        le-leb (first_address - 1 + k) last_address (omega arith),
        eq-eqb
            (first_address - 1 + k - (first_address - 1)) k (omega arith),
      );
}

pub record_metadata : (a b c d : ℕ) → IsRecord (1 + places) (8 ∷ 0 ∷ metadata ∷ 0 ∷ a ∷ b ∷ c ∷ d ∷ [])
unfolding stands sound_record stated_key le_at number
record_metadata a b c d = record { long = refl; is = refl }

pub record_hdr : (a b c d : ℕ) → IsRecord (2 + places) (8 ∷ 0 ∷ hdr ∷ 0 ∷ a ∷ b ∷ c ∷ d ∷ [])
unfolding stands sound_record stated_key le_at number
record_hdr a b c d = record { long = refl; is = refl }

pub record_throttle : (a b c d e f g h : ℕ)
    → IsRecord (3 + places) (24 ∷ 0 ∷ throttle ∷ 0 ∷ a ∷ b ∷ c ∷ d ∷ e ∷ f ∷ g ∷ h ∷ 0 ∷ 0 ∷ 0 ∷ 0 ∷ 0 ∷ 0 ∷ 0 ∷ 0 ∷ 0 ∷ 0 ∷ 0 ∷ 0 ∷ [])
unfolding stands sound_record stated_key le_at number
record_throttle a b c d e f g h = record { long = refl; is = refl }
