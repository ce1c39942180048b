-- Camera records that the demands speak of: one that is not refused, one that a program holds, two that are the same, one that is written.
use Rattle.std.specs.Prelude.{ℕ, ◌^◌, ◌<◌}
use mathlib.Core.{Path.{◌≡◌}, List.{List, ◌++◌}, Option.{some}, Bool.{true}}
use Rattle.std.specs.Prelude.{length, take, drop}
use Rattle.wire.specs.Endpoints as endpoint
use Rattle.controls.specs.declared.Setting.{Setting}
use Rattle.controls.specs.declared.Setting.TheVariants as S
use Rattle.profile.specs.declared.Profile.{Profile}
use Rattle.camera.specs.{declared.record.Camera.{Camera}, Record.{held, record_well_formed}, Writing.{written, written_out}}

-- a camera of the profile p that is not refused 0x21, with the face places that its type has; every call leaves such a one
pub record Ok (p : Profile) (c : Camera) : Type 0 where
  pub profile : c.profile ≡ p
  pub formed : record_well_formed c ≡ true
  pub places : length c.settings.face ≡ endpoint.places

-- the flags of a setting, 0 where it has none
abbrev pub setting_flags : Setting → ℕ
setting_flags (S.Ev s) = s.flags
setting_flags (S.Face address flags) = flags
setting_flags (S.Metadata n) = 0
setting_flags (S.Hdr n) = 0
setting_flags (S.Throttle s) = 0

-- What the types of a record say of one that a program holds, as far as its being well formed does not: flags are of a byte, and the
-- profile's metadata maximum is of four.
pub record Typed (c : Camera) : Type 0 where
  pub flags : (k : ℕ) (s : Setting) → held c k ≡ some s → setting_flags s < 2 ^ 8
  pub maximum : c.profile.metadata.maximum < 2 ^ 32

-- the bytes that writing into `out` hands over: as many of the buffer as are reported
abbrev pub handed_snapshot : Camera → List ℕ → List ℕ
handed_snapshot c out = take (written c (length out)).count (written_out c out)

-- writing the snapshot s of a camera into `out`, which has room for it
pub record Written (c : Camera) (s out : List ℕ) : Type 0 where
  pub outcome : written c (length out) ≡ record { code = 0; count = length s; camera = c }
  pub buffer : written_out c out ≡ s ++ drop (length s) out

-- two cameras are the same when profile, flag and every setting are equal
pub record Same (c d : Camera) : Type 0 where
  pub profile : c.profile ≡ d.profile
  pub streaming : c.streaming ≡ d.streaming
  pub settings : (k : ℕ) → held c k ≡ held d k
