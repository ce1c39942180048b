-- The numbers of the settings that a well-formed record holds fit the bytes of their records. Assumes nothing.
use mathlib.Core.{Path.{◌≡◌}, Option.{some}, Bool.{true, and-eq-true_iff}}
use Prim.Native.Nat.{ℕ, ◌^◌, ◌≤◌, ◌<◌}
use native.Mathlib.{Nat.{lt_trans}, Omega.{arith}}
use lib.Dec.{lit<}
use mir.Syntax.{w32}
use mir.Val.{SFits}
use borrow.Author.Tests.{leb-true}
use Rattle.wire.specs.Selectors as selector
use Rattle.controls.specs.declared.Setting.{Setting}
use Rattle.controls.specs.declared.Setting.TheVariants as S
use Rattle.exposure.proofs.Laws.Exposure.{accepts, range_small}
use Rattle.metadata.proofs.Laws.Metadata.{metadata_within}
use Rattle.hdr.proofs.Laws.Hdr.{hdr_within}
use Rattle.throttle.proofs.Laws.Throttle.{throttle_within}
use Rattle.profile.specs.{declared.Profile.{Profile}, Profile.{has, profile_valid, profile_valid_under}}
use Rattle.settings.specs.Kept.{value_refusal}
use Rattle.camera.specs.{declared.record.Camera.{Camera}, Record.{held, record_well_formed}}
use Rattle.profile.proofs.Laws.Profile.{valid_ev}
use Rattle.camera.proofs.Laws.Record.{formed_profile}
use Rattle.demands.specs.Cameras.{setting_flags, Typed}
use Rattle.invariants.proofs.Laws.Kept.{Good, control_there, held_good}

-- flags of a byte, and values of four
abbrev pub Fitting : Setting → Type 0
Fitting (S.Ev s) = (s.flags < 2 ^ 8) × SFits w32 s.value
Fitting (S.Face address flags) = flags < 2 ^ 8
Fitting (S.Metadata n) = n < 2 ^ 32
Fitting (S.Hdr n) = n < 2 ^ 32
Fitting (S.Throttle s) = (s.mode < 2 ^ 32) × (s.percent < 2 ^ 32)

module _ (p : Profile) (v : profile_valid p ≡ true) where
  throttle_maximum : has p selector.throttle ≡ true → p.throttle.maximum ≤ 100
  unfolding profile_valid_under
  throttle_maximum h =
      let q = simp and-eq-true_iff at v in
      let t = simp and-eq-true_iff at (rw h at q.1.1.1.1.0) in
      leb-true p.throttle.maximum 100 t.0.0.0.1

  -- a SET's own tests bound all but the flags, which they read 56 bits of, and a metadata setting by the profile's maximum
  good_fitting : (s : Setting) → Good p s → setting_flags s < 2 ^ 8 → p.metadata.maximum < 2 ^ 32 → Fitting s
  unfolding value_refusal
  good_fitting (S.Ev s) g f m =
      let a = accepts p.ev s.flags s.value g.value in (
        f,
        record {
          sfits = lt_trans
              (range_small p.ev (valid_ev p v (control_there p selector.ev g.control)) a.0 s.value a.1.1) (lit< tt);
        },
      )
  good_fitting (S.Face address flags) g f m = f
  good_fitting (S.Metadata n) g f m = omega (arith, metadata_within p.metadata n g.value)
  good_fitting (S.Hdr n) g f m = omega (arith, hdr_within p.hdr n g.value)
  good_fitting (S.Throttle s) g f m =
      let w = throttle_within p.throttle s.mode s.percent g.value in
      let h = throttle_maximum (control_there p selector.throttle g.control) in
      (omega arith, omega arith)

pub held_fitting : (c : Camera) → record_well_formed c ≡ true → Typed c → (k : ℕ) (s : Setting) → held c k ≡ some s → Fitting s
held_fitting c w t k s e =
    good_fitting c.profile (formed_profile c w) s (held_good c.profile c.settings w k s e).1 (t.flags k s e) t.maximum
