-- How long an answer is: that goes by the profile alone, and fits the place that the code has for it. And whose it is. Assumes nothing.
use mathlib.Core.{Path.{◌≡◌, refl, sym, ◌∙◌}, List.{[], ◌∷◌}, Bool.{Bool, true, false, cond, ◌&&◌, ◌||◌}}
use Prim.Native.Nat.{ℕ, ◌+◌, ◌*◌, ◌≤◌}
use native.Mathlib.Omega.{arith}
use lib.{Dec.{eqb, lit≤}, ListN.{length}}
use borrow.Author.Tests.{eqb-true}
use Rattle.wire.specs.{Endpoints.{endpoint_limit}, Numbers.{bytes_of}, Selectors.{ev, face, metadata, hdr}}
use Rattle.wire.specs.Uvc.{get_info, get_len, get_min, get_res}
use Rattle.request.specs.Answers.{answer_by, longest_answer}
use Rattle.exposure.specs.Exposure.{ev_attribute, ev_bytes, ev_answer}
use Rattle.face.specs.{Limits.{endpoints_of}, Answers.{face_value, face_answer}}
use Rattle.face.proofs.Laws.Answers as faces
use Rattle.metadata.specs.Metadata.{metadata_attribute, metadata_info, metadata_answer}
use Rattle.hdr.specs.Hdr.{hdr_attribute, hdr_answer}
use Rattle.throttle.specs.Throttle.{throttle_attribute, throttle_bytes, throttle_answer}
use Rattle.throttle.proofs.Laws.Throttle.{throttle_length}
use Rattle.profile.specs.{declared.Profile.{Profile}, Profile.{payload_length}}
use Rattle.settings.specs.{declared.settings.Settings.{Settings}, Settings.{no_settings}}
use Rattle.answering.specs.Answering.{info_of, value_of, control_answer, answer_length}

-- MIN and RES of face authentication are the only ones shorter than LEN says
abbrev is_short : ℕ → ℕ → Bool
is_short selector code = eqb selector face && (eqb code get_min || eqb code get_res)

abbrev value_length : Profile → ℕ → ℕ → ℕ
value_length p selector code = cond (is_short selector code) 1 (payload_length p selector)

-- the length of an answer by profile, selector and code
abbrev pub length_by : Profile → ℕ → ℕ → ℕ
length_by p selector code = cond (eqb code get_len) 2 (cond (eqb code get_info) 1 (value_length p selector code))

module _ (p : Profile) (s : Settings) (selector code : ℕ) where
  value_length_lem : length (value_of p s selector code) ≡ value_length p selector code
  unfolding value_of ev_bytes bytes_of
  value_length_lem = go (eqb selector ev) (eqb selector face) (eqb selector metadata) (eqb selector hdr) refl refl
    where
      short : Bool
      short = eqb code get_min || eqb code get_res

      go : (a b d e : Bool) → eqb selector ev ≡ a → eqb selector face ≡ b
          → length (cond a (ev_bytes (ev_attribute p.ev s.ev code))
          (cond b (face_value p.face s.face code)
          (cond d (bytes_of 4 (metadata_attribute p.metadata s.metadata code))
          (cond e (bytes_of 4 (hdr_attribute p.hdr s.hdr code))
          (throttle_bytes (throttle_attribute p.throttle s.throttle code) p.throttle)))))
          ≡ cond (b && short) 1 (cond a 11 (cond b (1 + 8 * endpoints_of p.face) (cond d 4 (cond e 4 20))))
      go true true d e q r = absurd (omega (arith, eqb-true selector ev q, eqb-true selector face r))
      go true false d e q r = refl
      go false true d e q r = faces.value_length_lem p.face s.face code
      go false false true e q r = refl
      go false false false true q r = refl
      go false false false false q r = throttle_length (throttle_attribute p.throttle s.throttle code) p.throttle

  pub length_by_lem : length (control_answer p s selector code) ≡ length_by p selector code
  unfolding control_answer answer_by bytes_of
  length_by_lem = go (eqb code get_len) (eqb code get_info)
    where
      go : (a b : Bool)
          → length (cond a (bytes_of 2 (payload_length p selector)) (cond b (info_of p selector ∷ []) (value_of p s selector code)))
          ≡ cond a 2 (cond b 1 (value_length p selector code))
      go true b = refl
      go false true = refl
      go false false = value_length_lem

  pub answer_fits : (selector ≡ face → endpoints_of p.face ≤ endpoint_limit) → length (control_answer p s selector code) ≤ longest_answer
  answer_fits few =
      rw length_by_lem
      (go (eqb code get_len) (eqb code get_info) (is_short selector code) (eqb selector ev) (eqb selector face) (eqb selector metadata)
      (eqb selector hdr) refl)
    where
      go : (l i s a b d e : Bool) → eqb selector face ≡ b
          → cond l 2 (cond i 1 (cond s 1 (cond a 11 (cond b (1 + 8 * endpoints_of p.face) (cond d 4 (cond e 4 20)))))) ≤ longest_answer
      go true i s a b d e q = lit≤ tt
      go false true s a b d e q = lit≤ tt
      go false false true a b d e q = lit≤ tt
      go false false false true b d e q = lit≤ tt
      go false false false false true d e q = omega (arith, few (eqb-true selector face q))
      go false false false false false true e q = lit≤ tt
      go false false false false false false true q = lit≤ tt
      go false false false false false false false q = lit≤ tt

-- no setting changes it
pub length_fixed : (p : Profile) (s : Settings) (selector code : ℕ)
    → length (control_answer p s selector code) ≡ answer_length p selector code
length_fixed p s selector code = length_by_lem p s selector code ∙ sym (length_by_lem p no_settings selector code)

-- the full answer, control by control
pub by_control : (p : Profile) (s : Settings) (selector code : ℕ)
    → control_answer p s selector code
    ≡ cond (eqb selector ev) (ev_answer p.ev s.ev code)
    (cond (eqb selector face) (face_answer p.face s.face code)
    (cond (eqb selector metadata) (metadata_answer p.metadata s.metadata code)
    (cond (eqb selector hdr) (hdr_answer p.hdr s.hdr code)
    (throttle_answer p.throttle s.throttle code))))
unfolding control_answer value_of ev_answer face_answer metadata_answer hdr_answer throttle_answer
by_control p s selector code = go (eqb selector ev) (eqb selector face) (eqb selector metadata) (eqb selector hdr) refl refl
  where
    go : (a b d e : Bool) → eqb selector face ≡ b → eqb selector metadata ≡ d
        → answer_by code (cond a 11 (cond b (1 + 8 * endpoints_of p.face) (cond d 4 (cond e 4 20))))
        (cond a 0x13 (cond d (metadata_info p.metadata) 0x03))
        (cond a (ev_bytes (ev_attribute p.ev s.ev code))
        (cond b (face_value p.face s.face code)
        (cond d (bytes_of 4 (metadata_attribute p.metadata s.metadata code))
        (cond e (bytes_of 4 (hdr_attribute p.hdr s.hdr code))
        (throttle_bytes (throttle_attribute p.throttle s.throttle code) p.throttle)))))
        ≡ cond a (ev_answer p.ev s.ev code)
        (cond b (face_answer p.face s.face code)
        (cond d (metadata_answer p.metadata s.metadata code)
        (cond e (hdr_answer p.hdr s.hdr code)
        (throttle_answer p.throttle s.throttle code))))
    go true b d e q r = refl
    go false true true e q r = absurd (omega (arith, eqb-true selector face q, eqb-true selector metadata r))
    go false true false e q r = refl
    go false false true e q r = refl
    go false false false true q r = refl
    go false false false false q r = refl
