-- Document 01, "Profile and camera record": which settings keep their rules, each by its own SET's.
use Rattle.std.specs.Prelude.{ℕ}
use mathlib.Core.{Option.{Option, none, some}, Bool.{Bool, true, ◌&&◌}}
use Rattle.std.specs.Prelude.{eqb}
use Rattle.std.specs.declared.option.Option as Core
use Rattle.std.specs.declared.option.Option.TheVariants.{Some, None}
use Rattle.snapshot.specs.Keys.{keys}
use Rattle.controls.specs.declared.Setting.{Setting}
use Rattle.controls.specs.declared.Setting.TheVariants as S
use Rattle.exposure.specs.Exposure.{ev_refusal}
use Rattle.wire.specs.{Rows.{all_below}, Endpoints.{endpoint_limit}}
use Rattle.entries.specs.Entries.{setting_refusal}
use Rattle.metadata.specs.Metadata.{metadata_refusal}
use Rattle.hdr.specs.Hdr.{hdr_refusal}
use Rattle.throttle.specs.Throttle.{throttle_refusal}
use Rattle.profile.specs.{declared.Profile.{Profile}, Profile.{profile_valid_under, profile_refusal}}
use Rattle.settings.specs.{declared.settings.Settings.{Settings}, Held.{settings_held}, Settings.{setting_selector}}

-- SET's value tests of one setting
unfoldable pub value_refusal : Profile → Setting → ℕ
value_refusal p (S.Ev s) = ev_refusal p.ev s.flags s.value
value_refusal p (S.Face address flags) = setting_refusal p.face address flags
value_refusal p (S.Metadata n) = metadata_refusal p.metadata n
value_refusal p (S.Hdr n) = hdr_refusal p.hdr n
value_refusal p (S.Throttle s) = throttle_refusal p.throttle s.mode s.percent

-- a setting that is held keeps its own SET's rules, if streaming: so test 7 is not asked
unfoldable pub kept : Profile → Option Setting → Bool
kept p none = true
kept p (some s) = eqb (profile_refusal p (setting_selector s)) 0 && eqb (value_refusal p s) 0

-- the same of one control, by what its SETs are refused for and by the limits' refusals
unfoldable pub kept_by : {A : Type 0} → ℕ → (A → ℕ) → Core.Option A → Bool
kept_by closed refusal None = true
kept_by closed refusal (Some a) = eqb closed 0 && eqb (refusal a) 0

-- the profile is valid, under a limit of endpoints, and every setting keeps its rules; a record with any other is 0x21
unfoldable pub settings_well_formed_under : ℕ → Profile → Settings → Bool
settings_well_formed_under limit p s = profile_valid_under limit p && all_below keys (λ k. kept p (settings_held s k))

abbrev pub settings_well_formed : Profile → Settings → Bool
settings_well_formed = settings_well_formed_under endpoint_limit
