-- Document 01, "Settings sheet": the records of settings, and a snapshot of them.
use Rattle.std.specs.Prelude.{ℕ, ◌+◌, List, ◌∷◌, ◌++◌, length}
use Rattle.wire.specs.Numbers.{bytes_of}
use Rattle.wire.specs.Selectors as selector
use Rattle.snapshot.specs.Given.{snapshot_of}
use Rattle.controls.specs.declared.Setting.{Setting}
use Rattle.controls.specs.declared.Setting.TheVariants as S
use Rattle.throttle.specs.{declared.ThrottleLimits.{ThrottleLimits}, Throttle.{throttle_bytes}}
use Rattle.exposure.specs.Exposure.{ev_bytes}
use Rattle.face.specs.Answers.{entry_of}
use Rattle.settings.specs.{declared.settings.Settings.{Settings}, Held.{settings_held}}

-- a record: its length and its kind, two bytes each, then a SET payload
abbrev pub framed : ℕ → List ℕ → List ℕ
framed kind payload = bytes_of 2 (4 + length payload) ++ bytes_of 2 kind ++ payload

-- the record of a setting; a throttle's tail is zero
abbrev pub no_limits : ThrottleLimits
no_limits = record { minimum = 0; maximum = 0; step = 0 }

unfoldable pub record_of : Setting → List ℕ
record_of (S.Ev s) = framed selector.ev (ev_bytes s)
record_of (S.Face address flags) = framed selector.face (1 ∷ entry_of address flags)
record_of (S.Metadata n) = framed selector.metadata (bytes_of 4 n)
record_of (S.Hdr n) = framed selector.hdr (bytes_of 4 n)
record_of (S.Throttle s) = framed selector.throttle (throttle_bytes s no_limits)

-- the snapshot of settings: a record for each that is held and no other, in ascending order of the keys
abbrev pub encoded : Settings → List ℕ
encoded s = snapshot_of record_of (settings_held s)
