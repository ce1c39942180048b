-- Document 01, "Profile and camera record": the settings of the five controls, their keys, and the settings with one more.
use Rattle.std.specs.Prelude.{ℕ, replicate}
use Rattle.wire.specs.Endpoints.{places}
use Rattle.wire.specs.Selectors as selector
use Rattle.snapshot.specs.Keys.{key_for}
use Rattle.std.specs.declared.option.Option.TheVariants.{Some, None}
use Rattle.controls.specs.declared.Setting.{Setting}
use Rattle.controls.specs.declared.Setting.TheVariants as S
use Rattle.entries.specs.Entries.{put_face}
use Rattle.settings.specs.declared.settings.Settings.{Settings}

unfoldable pub no_settings : Settings
no_settings = record { ev = None; face = replicate places 0; metadata = None; hdr = None; throttle = None }

abbrev pub setting_selector : Setting → ℕ
setting_selector (S.Ev s) = selector.ev
setting_selector (S.Face address flags) = selector.face
setting_selector (S.Metadata n) = selector.metadata
setting_selector (S.Hdr n) = selector.hdr
setting_selector (S.Throttle s) = selector.throttle

-- The keys of settings are those of a snapshot's records: 0 EV, 1 to 15 face authentication at 0x81 to 0x8F, 16 metadata, 17 HDR, 18
-- throttle.
abbrev pub setting_key : Setting → ℕ
setting_key (S.Ev s) = key_for selector.ev 0
setting_key (S.Face address flags) = key_for selector.face address
setting_key (S.Metadata n) = key_for selector.metadata 0
setting_key (S.Hdr n) = key_for selector.hdr 0
setting_key (S.Throttle s) = key_for selector.throttle 0

-- the settings with one more
unfoldable pub put : Settings → Setting → Settings
put h (S.Ev s) = record { ev = Some s; face = h.face; metadata = h.metadata; hdr = h.hdr; throttle = h.throttle }
put h (S.Face address flags) =
    record { ev = h.ev; face = put_face h.face address flags; metadata = h.metadata; hdr = h.hdr; throttle = h.throttle }
put h (S.Metadata n) = record { ev = h.ev; face = h.face; metadata = Some n; hdr = h.hdr; throttle = h.throttle }
put h (S.Hdr n) = record { ev = h.ev; face = h.face; metadata = h.metadata; hdr = Some n; throttle = h.throttle }
put h (S.Throttle s) = record { ev = h.ev; face = h.face; metadata = h.metadata; hdr = h.hdr; throttle = Some s }
