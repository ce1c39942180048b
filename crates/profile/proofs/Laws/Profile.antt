-- The profile: its tests as the code takes them, and what a valid one says of a control that is there. Assumes nothing.
use mathlib.Core.{Path.{◌≡◌, refl, sym}, List.{[], ◌∷◌}, Bool.{Bool, true, false, ◌&&◌, and-true, and-eq-true_iff}}
use Rattle.wire.specs.{Rows.{all_of}, Selectors.{ev, face}}
use Rattle.exposure.specs.Exposure.{ev_valid}
use Rattle.face.specs.Limits.{face_valid}
use Rattle.profile.specs.{declared.Profile.{Profile}, Profile.{has, presence_valid, profile_valid, profile_valid_under}}

-- five tests, one after the other
pub all_five : (a b c d e : Bool) → a && b && c && d && e ≡ all_of (a ∷ b ∷ c ∷ d ∷ e ∷ [])
all_five false b c d e = refl
all_five true false c d e = refl
all_five true true false d e = refl
all_five true true true false e = refl
all_five true true true true e = sym (and-true e)

module _ (p : Profile) (v : profile_valid p ≡ true) where
  pub valid_presence : presence_valid p.controls ≡ true
  unfolding profile_valid_under
  valid_presence = let q = simp and-eq-true_iff at v in q.0

  pub valid_ev : has p ev ≡ true → ev_valid p.ev ≡ true
  unfolding profile_valid_under
  valid_ev h = let q = simp and-eq-true_iff at v in rw h at q.1.0

  pub valid_face : has p face ≡ true → face_valid p.face ≡ true
  unfolding profile_valid_under
  valid_face h = let q = simp and-eq-true_iff at v in rw h at q.1.1.0
