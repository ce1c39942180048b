-- Document 01, "Profile and camera record": presence bits and limits; and what a SET of a control takes.
use Rattle.std.specs.Prelude.{ℕ, ◌+◌, ◌-◌, ◌*◌, ◌^◌}
use mathlib.Core.{List.{List, [], ◌∷◌}, Bool.{Bool, cond, not, ◌||◌}}
use Rattle.std.specs.Prelude.{eqb}
use Rattle.wire.specs.{Rows.{◌⇒◌, first_of, all_of}, Selectors.{ev, face, metadata, hdr, throttle}, Endpoints.{endpoint_limit}}
use Rattle.wire.specs.Uvc.{invalid_control, invalid_request}
use Rattle.request.specs.{declared.{tests.Unit.{Unit}, tests.Control.{Control}}, Table.{has_control}}
use Rattle.exposure.specs.Exposure.{ev_valid}
use Rattle.face.specs.Limits.{face_valid_under, endpoints_of}
use Rattle.entries.specs.Entries.{face_set_length}
use Rattle.metadata.specs.Metadata.{metadata_valid}
use Rattle.throttle.specs.Throttle.{throttle_valid}
use Rattle.profile.specs.declared.Profile.{Profile}

-- whether the control of a selector is there: EV 0x03 (D2), face 0x06 (D5), metadata 0x09 (D8), HDR 0x0D (D12), throttle 0x0E (D13)
abbrev pub has : Profile → ℕ → Bool
has p selector = has_control p.controls selector

-- what the bit of a selector adds to a number
abbrev pub bit_at : ℕ → ℕ → ℕ
bit_at bits selector = cond (has_control bits selector) (2 ^ (selector - 1)) 0

-- every other bit is zero: the number is the sum of the five controls' bits
unfoldable pub presence_valid : ℕ → Bool
presence_valid bits = eqb bits (bit_at bits ev + bit_at bits face + bit_at bits metadata + bit_at bits hdr + bit_at bits throttle)

-- the limits of the controls that are there keep their rules, under a limit of endpoints; HDR's may be any
unfoldable pub profile_valid_under : ℕ → Profile → Bool
profile_valid_under limit p =
    all_of
    (presence_valid p.controls
    ∷ (not (has p ev) || ev_valid p.ev)
    ∷ (not (has p face) || face_valid_under limit p.face)
    ∷ (not (has p metadata) || metadata_valid p.metadata)
    ∷ (not (has p throttle) || throttle_valid p.throttle)
    ∷ [])

abbrev pub profile_valid : Profile → Bool
profile_valid = profile_valid_under endpoint_limit

-- every control takes a SET but read-only metadata
abbrev pub is_settable : Profile → ℕ → Bool
is_settable p selector = not (eqb selector metadata) || p.metadata.writable

-- a SET of a selector is refused whatever its payload: the control is absent, or read only
unfoldable pub profile_refusal : Profile → ℕ → ℕ
profile_refusal p selector = first_of ((not (has p selector) ⇒ invalid_control) ∷ (not (is_settable p selector) ⇒ invalid_request) ∷ [])

-- the length of a control's payload, of face authentication the longest
abbrev pub payload_length : Profile → ℕ → ℕ
payload_length p selector =
    cond (eqb selector ev) 11
    (cond (eqb selector face) (1 + 8 * endpoints_of p.face)
    (cond (eqb selector metadata) 4
    (cond (eqb selector hdr) 4
    20)))

-- the length that a SET of a payload must have; face authentication's goes by its first byte
abbrev pub set_length : Profile → ℕ → List ℕ → ℕ
set_length p selector payload = cond (eqb selector face) (face_set_length p.face payload) (payload_length p selector)

-- a profile's unit, and the control of a selector, as the tests of a request are handed them
unfoldable pub extension_unit : Profile → Unit
extension_unit p = record { unit = p.unit; interface = p.interface; present = p.controls }

unfoldable pub profile_control : Profile → ℕ → List ℕ → Control
profile_control p selector payload = record { settable = is_settable p selector; len = set_length p selector payload }
