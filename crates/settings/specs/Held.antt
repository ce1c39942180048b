-- The setting that is held of each control, of each endpoint, and of each key of a snapshot.
use Rattle.std.specs.Prelude.{ℕ, ◌+◌, ◌-◌}
use mathlib.Core.{Option.{Option, none, some}, Bool.{cond}}
use lib.{Dec.{leb, eqb}, ListN.{get_or}}
use Rattle.wire.specs.Endpoints.{first_address, places}
use Rattle.snapshot.specs.Keys.{ev_key, metadata_key, hdr_key, throttle_key}
use Rattle.std.specs.declared.option.Option.TheVariants.{Some, None}
use Rattle.controls.specs.Controls.{HeldNumber, HeldEv, HeldThrottle, HeldSetting}
use Rattle.controls.specs.declared.Setting.{Setting}
use Rattle.controls.specs.declared.Setting.TheVariants as S
use Rattle.settings.specs.declared.settings.Settings.{Settings}

-- the setting held of each control
abbrev pub ev_held : HeldEv → Option Setting
ev_held None = none
ev_held (Some s) = some (S.Ev s)

abbrev pub face_held : ℕ → ℕ → Option Setting
face_held address flags = cond (eqb flags 0) none (some (S.Face address flags))

abbrev pub number_held : (ℕ → Setting) → HeldNumber → Option Setting
number_held control None = none
number_held control (Some n) = some (control n)

abbrev pub metadata_held : HeldNumber → Option Setting
metadata_held = number_held S.Metadata

abbrev pub hdr_held : HeldNumber → Option Setting
hdr_held = number_held S.Hdr

abbrev pub throttle_held : HeldThrottle → Option Setting
throttle_held None = none
throttle_held (Some s) = some (S.Throttle s)

-- the setting held of a key, or none
unfoldable pub settings_held : Settings → ℕ → Option Setting
settings_held s k =
    cond (eqb k ev_key) (ev_held s.ev)
    (cond (leb k places) (face_held (first_address + (k - 1)) (get_or s.face (k - 1) 0))
    (cond (eqb k metadata_key) (metadata_held s.metadata)
    (cond (eqb k hdr_key) (hdr_held s.hdr)
    (cond (eqb k throttle_key) (throttle_held s.throttle) none))))

-- the same as a `HeldSetting`
abbrev pub held_setting : Option Setting → HeldSetting
held_setting none = None
held_setting (some s) = Some s
