-- The owner's demand 2 on the number handed to the sensor, and #103's range. Assumes nothing.
use mathlib.Core.{Path.{◌≡◌, refl, ap, sym, ◌∙◌, subst}, Bool.{Bool, true, false, cond}}
use Prim.Native.Nat.{◌/◌}
use lib.{Dec.{T}, IntN.{ℤ, pos, ◌*ℤ◌}, Signed.{le_z, le_z_yes, ◌≤ℤ◌}}
use Rattle.wire.specs.{Numbers.{number, le_at, signed32}, Rows.{all_below}}
use Rattle.wire.specs.Selectors as selector
use Rattle.flags.specs.Flags.{Choice, is_set, bits_of, count, first, one_flag}
use Rattle.std.specs.declared.option.Option.TheVariants.{Some, None}
use Rattle.flags.proofs.Laws.Bits.{chosen_is}
use Rattle.request.specs.Tests.{request_tests, value_tests, request_rows, request_code}
use Rattle.controls.specs.{declared.EvSetting.{EvSetting}, Controls.{item_of, item_code, first_refusal}}
use Rattle.controls.specs.declared.Setting.TheVariants as S
use Rattle.exposure.specs.declared.EvLimits.{EvLimits}
use Rattle.controls.specs.Controls.{HeldEv}
use Rattle.exposure.specs.Exposure.{ev_valid, divisor, in_range, refusal_at}
use Rattle.std.specs.declared.option.Option.TheVariants as E
use Rattle.exposure.specs.Exposure.{ev_refusal, ev_item, units_per_stop, scaled_at, scaled, sensor_value}
use Rattle.exposure.proofs.Laws.Exposure.{accepts, steps_below, scaled_is}
use Rattle.face.specs.Limits.{address_before, endpoint_valid, face_valid_under}
use Rattle.profile.specs.{Profile.{presence_valid, profile_valid_under, profile_refusal}, Items.{profile_item, set_refusal}}
use Rattle.profile.proofs.Laws.Profile.{valid_ev}
use Rattle.settings.specs.{Settings.{no_settings, put}, Held.{settings_held}, Kept.{value_refusal, kept, settings_well_formed_under}}
use Rattle.settings.specs.Items.{given_of, all_given, put_all, set_gives}
use Rattle.camera.specs.{declared.record.Camera.{Camera}, Record.{record_well_formed}, Requests.{request_done, requested}, Calls.{sensed}}
use Rattle.camera.proofs.Laws.Record.{formed_profile}
use Rattle.demands.specs.{Bench.{bench_profile}, Sensor.{StepUnits, Unrounded, SensorExact, SensorRange, SensorEnds}}
use Rattle.invariants.proofs.Laws.Kept.{control_there, held_good}
use Rattle.demands.proofs.Laws.Sensor.{units_whole, units_exact, least_units, most_units}

-- the units of each step
pub step_units : StepUnits
step_units = refl

-- The sensor's number is exact.
pub sensor_exact : (c : Camera) → record_well_formed c ≡ true → SensorExact c
unfolding sensed sensor_value settings_held value_refusal
sensor_exact c w = record { code = rw w; held = unrounded; unset = λ e. rw (w, e) }
  where
    unrounded : (s : EvSetting) → c.settings.ev ≡ E.Some s → Unrounded c s
    unrounded s e =
        let l = c.profile.ev in
        let g = (held_good c.profile c.settings w 0 (S.Ev s) (rw e)).1 in
        let v = valid_ev c.profile (formed_profile c w) (control_there c.profile selector.ev g.control) in
        let a = accepts l s.flags s.value g.value in
        let place = a.0 in
        let n : (sensed c).value ≡ scaled l s = rw (w, e) in
        let x = n ∙ scaled_is l s v place a.1.0 a.1.1 in
        record {
          place = place;
          offered = a.1.0;
          flag = λ h. chosen_is l.steps s.flags place a.1.0 5 (steps_below l v) h;
          value = x;
          whole = units_whole place;
          exact = ap (λ z. z *ℤ pos (divisor place)) x ∙ units_exact place s.value;
        }

-- The number of any record is in range: a refused one's, and that of a setting that no SET accepts, is 0.
tested : {a b : ℤ} → le_z a b ≡ true → a ≤ℤ b
tested e = le_z_yes (subst T (sym e) tt)

zero_in_range : SensorRange (pos 0)
zero_in_range = record { least = le_z_yes tt; most = le_z_yes tt }

else_zero : (b : Bool) (z : ℤ) → (b ≡ true → SensorRange z) → SensorRange (cond b z (pos 0))
else_zero true z h = h refl
else_zero false z h = zero_in_range

value_in_range : (l : EvLimits) → ev_valid l ≡ true → (v : ℤ) (x : Choice) → SensorRange (scaled_at l v x)
unfolding scaled_at
value_in_range l h v None = zero_in_range
value_in_range l h v (Some place) =
    else_zero (in_range l (divisor place) v) (v *ℤ pos (units_per_stop / divisor place))
    (λ r. record { least = tested (least_units l h place v r); most = tested (most_units l h place v r) })

setting_in_range : (l : EvLimits) (held : HeldEv) → SensorRange (sensor_value l held)
unfolding sensor_value scaled
setting_in_range l E.None = zero_in_range
setting_in_range l (E.Some s) = else_zero (ev_valid l) _ (λ h. value_in_range l h s.value (one_flag l.steps s.flags))

pub sensor_in_range : (c : Camera) → SensorRange (sensed c).value
unfolding sensed
sensor_in_range c = else_zero (record_well_formed c) _ (λ w. setting_in_range c.profile.ev c.settings.ev)

-- Both ends of the range, computed.
pub sensor_ends : SensorEnds
unfolding bench_profile number le_at signed32 is_set bits_of count first one_flag request_tests item_of in_range refusal_at ev_refusal ev_item
    scaled_at scaled sensor_value all_below address_before endpoint_valid face_valid_under presence_valid profile_valid_under no_settings settings_held
    put value_refusal profile_refusal kept settings_well_formed_under item_code given_of first_refusal all_given put_all profile_item set_refusal
    set_gives value_tests request_rows request_code request_done requested sensed
sensor_ends = record { least = refl; most = refl }
