-- The two calls that need nothing but the record, and what a well-formed record says of its profile. Assumes nothing.
use mathlib.Core.{Path.{◌≡◌, refl}, Bool.{Bool, true, false, cond, and-eq-true_iff}}
use Prim.Native.Nat.{ℕ}
use native.Mathlib.Omega.{arith}
use lib.{IntN.{pos}}
use borrow.Author.Tests.{ne_eqb}
use Rattle.wire.specs.Uvc.{malformed_record}
use Rattle.wire.proofs.Laws.Refusals.{not_accepted}
use Rattle.exposure.specs.Exposure.{sensor_value}
use Rattle.profile.specs.Profile.{profile_valid}
use Rattle.settings.specs.Kept.{settings_well_formed_under}
use Rattle.camera.specs.{declared.record.Camera.{Camera}, Outcomes.{Sensed}, Record.{with_streaming, record_well_formed}}
use Rattle.camera.specs.{Requests.{refused}, Calls.{record_code, streamed, sensed}}

module _ (c : Camera) where
  -- the record test
  pub record_good : record_code c ≡ 0 → record_well_formed c ≡ true
  record_good e = go (record_well_formed c) e
    where
      go : (b : Bool) → cond {A = ℕ} b 0 malformed_record ≡ 0 → b ≡ true
      go true q = refl
      go false q = absurd (omega arith)

  pub record_bad : {n : ℕ} → n ≡ record_code c → (n ≡ 0 → ⊥) → (record_well_formed c ≡ false) × (n ≡ malformed_record)
  record_bad {n} e bad = go (record_well_formed c) e
    where
      go : (b : Bool) → n ≡ cond {A = ℕ} b 0 malformed_record → (b ≡ false) × (n ≡ malformed_record)
      go true q = absurd (bad q)
      go false q = (refl, q)

  module _ {n : ℕ} (e : n ≡ record_code c) (bad : n ≡ 0 → ⊥) where
    pub streamed_refused : (on : Bool) → refused n c ≡ streamed c on
    unfolding streamed
    streamed_refused on = rw (← e, ne_eqb n 0 bad)

    pub sensed_refused : ◌≡◌ {A = Sensed} (record { code = n; value = pos 0; camera = c }) (sensed c)
    unfolding sensed
    sensed_refused = let w = record_bad e bad in rw (w.0, w.1)

module _ (c : Camera) (w : record_well_formed c ≡ true) where
  pub streamed_done : (on : Bool) → streamed c on ≡ record { code = 0; count = 0; camera = with_streaming c on }
  unfolding streamed
  streamed_done on = rw w

  pub sensed_done : sensed c ≡ record { code = 0; value = sensor_value c.profile.ev c.settings.ev; camera = c }
  unfolding sensed
  sensed_done = rw w

  pub formed_profile : profile_valid c.profile ≡ true
  unfolding settings_well_formed_under
  formed_profile = let q = simp and-eq-true_iff at w in q.0

-- what the two calls go by
pub ruleset changing = (record_good, streamed_refused, streamed_done, sensed_refused, sensed_done, not_accepted)
