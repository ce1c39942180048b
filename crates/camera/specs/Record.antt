-- Document 01, "Profile and camera record": the record.
use Rattle.std.specs.Prelude.{ℕ}
use mathlib.Core.{List.{List}, Option.{Option}, Bool.{Bool}}
use Rattle.wire.specs.Endpoints.{endpoint_limit}
use Rattle.controls.specs.declared.Setting.{Setting}
use Rattle.profile.specs.declared.Profile.{Profile}
use Rattle.settings.specs.{declared.settings.Settings.{Settings}, Settings.{no_settings}, Held.{settings_held}, Items.{put_all}}
use Rattle.settings.specs.Kept.{settings_well_formed_under}
use Rattle.camera.specs.declared.record.Camera.{Camera}

-- no settings, and streaming as it is started
abbrev pub fresh : Profile → Bool → Camera
fresh p streaming = record { profile = p; streaming = streaming; settings = no_settings }

abbrev pub with_streaming : Camera → Bool → Camera
with_streaming c on = record { profile = c.profile; streaming = on; settings = c.settings }

abbrev pub with_settings : Camera → Settings → Camera
with_settings c s = record { profile = c.profile; streaming = c.streaming; settings = s }

-- the setting held of a key, or none
abbrev pub held : Camera → ℕ → Option Setting
held c = settings_held c.settings

-- the record with settings put in one after the other
abbrev pub puts : Camera → List (ℕ × Setting) → Camera
puts c l = with_settings c (put_all c.settings l)

-- the profile is valid, under a limit of endpoints, and every setting keeps its rules; all other records are 0x21
abbrev pub record_well_formed_under : ℕ → Camera → Bool
record_well_formed_under limit c = settings_well_formed_under limit c.profile c.settings

abbrev pub record_well_formed : Camera → Bool
record_well_formed = record_well_formed_under endpoint_limit
