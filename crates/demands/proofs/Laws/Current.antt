-- What a record holds is what GET_CUR answers, control by control. Assumes nothing.
use mathlib.Core.{Path.{◌≡◌, ap, ap₂, sym, ◌∙◌}, Option.{none, some}, Bool.{true}}
use Prim.Native.Nat.{ℕ, ◌+◌, ◌-◌, ◌≤◌, ◌<◌}
use native.Mathlib.Omega.{arith}
use lib.ListN.{get_or}
use borrow.Author.Tests.{ne_eqb}
use Rattle.wire.specs.{Numbers.{bytes_of}, Endpoints.{first_address, last_address}, Uvc.{get_cur, get_def}}
use Rattle.wire.specs.Selectors as selector
use Rattle.snapshot.specs.Keys.{key_for, metadata_key}
use Rattle.request.specs.{Tests.{full_answer}, Answers.{answer_by}}
use Rattle.answering.specs.Answering.{value_of}
use Rattle.settings.specs.{Settings.{setting_key}, Held.{face_held, settings_held}}
use Rattle.controls.specs.declared.Setting.TheVariants as S
use Rattle.std.specs.declared.option.Option.TheVariants as E
use Rattle.controls.specs.{declared.{EvSetting.{EvSetting}, ThrottleSetting.{ThrottleSetting}}, Controls.{number_or}}
use Rattle.exposure.specs.Exposure.{ev_bytes, ev_current, ev_attribute}
use Rattle.face.specs.{Limits.{endpoints_of, address_at}, Answers.{entry_of, held_at}}
use Rattle.metadata.specs.Metadata.{metadata_attribute}
use Rattle.hdr.specs.Hdr.{hdr_attribute}
use Rattle.throttle.specs.Throttle.{throttle_bytes, throttle_current, throttle_attribute}
use Rattle.face.proofs.Laws.Limits.{place_listed}
use Rattle.profile.specs.Profile.{has}
use Rattle.profile.proofs.Laws.Profile.{valid_face}
use Rattle.camera.specs.{declared.record.Camera.{Camera}, Record.{held, record_well_formed}, Requests.{camera_answer}}
use Rattle.camera.proofs.Laws.Record.{formed_profile}
use Rattle.demands.specs.Answers.{entry_bytes}
use Rattle.invariants.proofs.Laws.{Held.{held_face, held_named}, Kept.{control_settable, held_good}}
use Rattle.demands.proofs.Laws.Same.{ev_same, metadata_same, hdr_same, throttle_same, face_same}
use Rattle.demands.proofs.Laws.ReadBack.{current_entry, default_entry, current_held, current_unset, face_unset}

module _ (c : Camera) where
  pub ev_current_lem : (s : EvSetting) → held c (setting_key (S.Ev s)) ≡ some (S.Ev s) → camera_answer c selector.ev get_cur ≡ ev_bytes s
  unfolding settings_held full_answer value_of answer_by ev_attribute ev_current
  ev_current_lem s e = rw (ev_same c.settings.ev (E.Some s) e)

  pub hdr_current : (n : ℕ) → held c (setting_key (S.Hdr n)) ≡ some (S.Hdr n) → camera_answer c selector.hdr get_cur ≡ bytes_of 4 n
  unfolding settings_held full_answer value_of answer_by hdr_attribute number_or
  hdr_current n e = rw (hdr_same c.settings.hdr (E.Some n) e)

  pub throttle_current_lem : (s : ThrottleSetting) → held c (setting_key (S.Throttle s)) ≡ some (S.Throttle s)
      → camera_answer c selector.throttle get_cur ≡ throttle_bytes s c.profile.throttle
  unfolding settings_held full_answer value_of answer_by throttle_attribute throttle_current
  throttle_current_lem s e = rw (throttle_same c.settings.throttle (E.Some s) e)

  -- metadata that is held is writable
  module _ (w : record_well_formed c ≡ true) where
    pub metadata_current : (n : ℕ) → held c (setting_key (S.Metadata n)) ≡ some (S.Metadata n)
        → camera_answer c selector.metadata get_cur ≡ bytes_of 4 n
    unfolding settings_held full_answer value_of answer_by metadata_attribute number_or
    metadata_current n e =
        let writable : c.profile.metadata.writable ≡ true =
        control_settable c.profile selector.metadata
        (held_good c.profile c.settings w metadata_key (S.Metadata n) e).1.control in
        rw (writable, metadata_same c.settings.metadata (E.Some n) e)

-- the entry of the endpoint at place j, by its address's setting
module _ (c : Camera) (j : ℕ) (h : j < endpoints_of c.profile.face) where
  abbrev address : ℕ
  address = address_at c.profile.face j

  abbrev key : ℕ
  key = key_for selector.face address

  place_held : first_address ≤ address → address ≤ last_address → held c key ≡ face_held address (held_at c.settings.face address)
  place_held a b =
      let e : first_address + (key - 1) ≡ address = omega arith in
      let f : key - 1 ≡ address - first_address = omega arith in
      held_face c.settings key (omega arith) (omega arith) ∙ ap₂ (λ (m n : ℕ). face_held m (get_or c.settings.face n 0)) e f

  pub face_current : (flags : ℕ) → held c key ≡ some (S.Face address flags)
      → entry_bytes (camera_answer c selector.face get_cur) j ≡ entry_of address flags
  face_current flags e =
      let p = (held_named c.settings key (S.Face address flags) e).1 in
      let s : some (S.Face address flags) ≡ face_held address flags = rw (ne_eqb flags 0 (omega arith)) in
      let q = face_same address (held_at c.settings.face address) flags (sym (place_held p.0 p.1) ∙ e ∙ s) in
      current_entry c j h ∙ ap (entry_of address) (current_held c.profile.face c.settings.face j flags q p.2)

  pub face_default : record_well_formed c ≡ true → has c.profile selector.face ≡ true → held c key ≡ none
      → entry_bytes (camera_answer c selector.face get_cur) j ≡ entry_bytes (camera_answer c selector.face get_def) j
  face_default w g e =
      let p = place_listed _ c.profile.face (valid_face c.profile (formed_profile c w) g) j (omega arith) in
      let q = face_unset address (held_at c.settings.face address) (sym (place_held p.first p.last) ∙ e) in
      current_entry c j h ∙ ap (entry_of address) (current_unset c.profile.face c.settings.face j q) ∙ sym (default_entry c j h)
