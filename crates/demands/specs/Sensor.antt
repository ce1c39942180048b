-- What the owner's demand 2 says of the number handed to the sensor: it is exact; and the range that #103 gives it.
use Rattle.std.specs.Prelude.{ℕ, ◌*◌, ◌/◌, ◌^◌, ◌<◌}
use mathlib.Core.{Path.{◌≡◌}, List.{[], ◌∷◌, map}, Bool.{true}}
use lib.{IntN.{ℤ, pos, negsuc, ◌*ℤ◌}, Signed.{◌≤ℤ◌}}
use Rattle.std.specs.declared.option.Option.TheVariants.{Some}
use Rattle.flags.specs.Flags.{one_flag}
use Rattle.controls.specs.declared.EvSetting.{EvSetting}
use Rattle.std.specs.declared.option.Option.TheVariants as E
use Rattle.exposure.specs.Exposure.{divisor, units_per_stop}
use Rattle.profile.specs.declared.Profile.{Profile}
use Rattle.camera.specs.{declared.record.Camera.{Camera}, Record.{fresh}, Calls.{sensed}}
use Rattle.demands.specs.{Runs.{run}, Bench.{bench_profile}, Table.{set_ev, call}}

-- The sensor's units in one step of D0 to D4: 120 to a stop.
abbrev pub StepUnits : Type 0
StepUnits = map (λ place. units_per_stop / divisor place) (0 ∷ 1 ∷ 2 ∷ 3 ∷ 4 ∷ []) ≡ 20 ∷ 30 ∷ 40 ∷ 60 ∷ 120 ∷ []

-- The sensor's number of the EV setting s that is held, unrounded. The setting has one flag, which is offered and says the step:
-- d = divisor place of them make a stop, and d divides the units of a stop. The number is value · (units / d), so it is as many stops as
-- the value.
pub record Unrounded (c : Camera) (s : EvSetting) : Type 0 where
  pub place : ℕ
  pub offered : one_flag c.profile.ev.steps s.flags ≡ Some place
  pub flag : s.flags < 2 ^ 56 → (s.flags ≡ 2 ^ place) × (place < 5)
  pub value : (sensed c).value ≡ s.value *ℤ pos (units_per_stop / divisor place)
  pub whole : divisor place * (units_per_stop / divisor place) ≡ units_per_stop
  pub exact : (sensed c).value *ℤ pos (divisor place) ≡ s.value *ℤ pos units_per_stop

-- What the sensor is handed, exactly; 0 while no setting is held.
pub record SensorExact (c : Camera) : Type 0 where
  pub code : (sensed c).code ≡ 0
  pub held : (s : EvSetting) → c.settings.ev ≡ E.Some s → Unrounded c s
  pub unset : c.settings.ev ≡ E.None → (sensed c).value ≡ pos 0

-- The range of the sensor's number: 128 stops down to 127 up.
pub record SensorRange (number : ℤ) : Type 0 where
  pub least : negsuc 15359 ≤ℤ number
  pub most : number ≤ℤ pos 15240

-- the bench camera's profile with the widest limits of EV
abbrev pub widest_profile : Profile
widest_profile = record {
  unit = bench_profile.unit;
  interface = bench_profile.interface;
  controls = bench_profile.controls;
  ev = record { minimum = negsuc 127; maximum = pos 127; steps = 0x1F };
  face = bench_profile.face;
  metadata = bench_profile.metadata;
  hdr = bench_profile.hdr;
  throttle = bench_profile.throttle;
}

-- a camera of it after a SET of whole stops: the value's lowest byte, and each of its upper three
abbrev pub at_stops : (value upper : ℕ) → Camera
at_stops value upper = run (fresh widest_profile true) (call (set_ev 0x10 value upper) ∷ [])

-- Both ends of the range are reached, by -128 and by 127 stops.
pub record SensorEnds : Type 0 where
  pub least : sensed (at_stops 0x80 0xFF) ≡ record { code = 0; value = negsuc 15359; camera = at_stops 0x80 0xFF }
  pub most : sensed (at_stops 0x7F 0x00) ≡ record { code = 0; value = pos 15240; camera = at_stops 0x7F 0x00 }
