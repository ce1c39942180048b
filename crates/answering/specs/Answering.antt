-- Document 01, "The five controls": what a GET of a control answers, by profile and settings.
use Rattle.std.specs.Prelude.{ℕ}
use mathlib.Core.{List.{List}, Bool.{cond}}
use lib.{Dec.{eqb}, ListN.{length}}
use Rattle.wire.specs.{Numbers.{bytes_of}, Selectors.{ev, face, metadata, hdr}}
use Rattle.request.specs.Answers.{answer_by}
use Rattle.exposure.specs.Exposure.{ev_attribute, ev_bytes}
use Rattle.face.specs.Answers.{face_value}
use Rattle.metadata.specs.Metadata.{metadata_attribute, metadata_info}
use Rattle.hdr.specs.Hdr.{hdr_attribute}
use Rattle.throttle.specs.Throttle.{throttle_attribute, throttle_bytes}
use Rattle.profile.specs.{declared.Profile.{Profile}, Profile.{payload_length}}
use Rattle.settings.specs.{declared.settings.Settings.{Settings}, Settings.{no_settings}}

-- INFO's byte
abbrev pub info_of : Profile → ℕ → ℕ
info_of p selector = cond (eqb selector ev) 0x13 (cond (eqb selector metadata) (metadata_info p.metadata) 0x03)

-- the bytes of CUR, MIN, MAX, RES and DEF
unfoldable pub value_of : Profile → Settings → ℕ → ℕ → List ℕ
value_of p s selector code =
    cond (eqb selector ev) (ev_bytes (ev_attribute p.ev s.ev code))
    (cond (eqb selector face) (face_value p.face s.face code)
    (cond (eqb selector metadata) (bytes_of 4 (metadata_attribute p.metadata s.metadata code))
    (cond (eqb selector hdr) (bytes_of 4 (hdr_attribute p.hdr s.hdr code))
    (throttle_bytes (throttle_attribute p.throttle s.throttle code) p.throttle))))

-- the full answer
unfoldable pub control_answer : Profile → Settings → ℕ → ℕ → List ℕ
control_answer p s selector code = answer_by code (payload_length p selector) (info_of p selector) (value_of p s selector code)

-- how long it is: as long as while no setting is held (`length_fixed` of proofs/Laws/Answering)
abbrev pub answer_length : Profile → ℕ → ℕ → ℕ
answer_length p selector code = length (control_answer p no_settings selector code)
