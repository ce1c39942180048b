-- The owner's demand 2 on the camera: new settings, GET_CUR, LEN, and what is written reads back. Assumes nothing.
use mathlib.Core.{Path.{◌≡◌, refl, ap, ap₂, sym, ◌∙◌, subst}, List.{List, []}, Option.{none, map}}
use mathlib.Core.Bool.{Bool, true, false, cond, not, ◌&&◌, and-eq-true_iff}
use Prim.Native.Nat.{ℕ, ◌+◌, ◌*◌, ◌≤◌, ◌<◌, min}
use native.Mathlib.Omega.{arith}
use lib.{Dec.{eqb}, ListN.{length, get_or}}
use borrow.Author.Tests.{eq-eqb, ne_eqb, leb-true}
use Rattle.snapshot.specs.Keys.{metadata_key, hdr_key, throttle_key}
use Rattle.wire.specs.{Endpoints.{first_address, places}, Numbers.{bytes_of}}
use Rattle.wire.specs.Uvc.{set_cur, get_cur, get_len, get_def, wrong_state}
use Rattle.wire.specs.Selectors as selector
use Rattle.wire.proofs.Laws.Numbers.{Bytes}
use Rattle.request.specs.Setup.{setup_code, setup_selector, setup_w_length, is_set_request, is_get_request}
use Rattle.request.specs.{Answers.{answer_by}, Tests.{full_answer, asked, sent_count}}
use Rattle.request.proofs.Theorems.{get_no_set, len_answers}
use Rattle.request.proofs.Theorems as requests
use Rattle.controls.specs.Controls.{HeldNumber, number_or}
use Rattle.std.specs.declared.option.Option.TheVariants as N
use Rattle.controls.specs.declared.Setting.TheVariants as S
use Rattle.controls.specs.Controls.{HeldThrottle}
use Rattle.throttle.specs.Throttle.{throttle_attribute, throttle_bytes, throttle_current}
use Rattle.controls.specs.Controls.{HeldEv}
use Rattle.exposure.specs.Exposure.{ev_attribute, ev_bytes, ev_current}
use Rattle.face.specs.{declared.limits.FaceLimits.{FaceLimits}, Limits.{endpoints_of, address_at}}
use Rattle.face.specs.Answers.{entry_of, held_at, flags_at, face_answer}
use Rattle.entries.specs.Entries.{entry_address, entry_flags, entries_put}
use Rattle.metadata.specs.Metadata.{metadata_attribute}
use Rattle.hdr.specs.Hdr.{hdr_attribute}
use Rattle.face.proofs.Laws.{Limits.{place_listed}, Answers.{fresh_answer}}
use Rattle.entries.proofs.Laws.Payload.{len_taken, len_longest}
use Rattle.profile.specs.{declared.Profile.{Profile}, KnownControl.{KnownControl}, Profile.{has, set_length, profile_refusal}}
use Rattle.profile.specs.Items.{set_refusal}
use Rattle.profile.specs.KnownControl as selectors
use Rattle.settings.specs.{Held.{ev_held, metadata_held, hdr_held, throttle_held, settings_held}, Settings.{no_settings}}
use Rattle.settings.specs.Items.{all_given, set_gives, put_all}
use Rattle.answering.specs.Answering.{value_of}
use Rattle.profile.proofs.Laws.{Profile.{valid_presence, valid_face}, KnownControl.{control_known}}
use Rattle.camera.specs.{declared.record.Camera.{Camera}, Record.{fresh, held, puts, record_well_formed}}
use Rattle.camera.specs.Requests.{state_refusal, table, rules, accepts_set, request_gives, camera_answer, requested_code, request_done, requested}
use Rattle.camera.specs.{Loading.{selector_at, record_item, load_gives}, Calls.{sensed}}
use Rattle.camera.proofs.Laws.Record.{formed_profile}
use Rattle.demands.specs.Calls.{Call, request, load, outcome, left, next}
use Rattle.demands.specs.{Runs.{gives, run}, Cameras.{Ok, Typed, Same}}
use Rattle.demands.specs.Answers.{NewSettings, CurrentIsHeld, SameAnswers, FaceLength, FaceReadsBack}
use Rattle.demands.specs.Answers.{ReadsBack, bytes_back, CameraSends, Gets, SnapshotReadsBack, WriteSuffices}
use Rattle.invariants.proofs.Laws.{Held.{none_never, none_held}, Kept.{control_there}}
use Rattle.invariants.proofs.Laws.Requests.{outcome_code, set_answer, request_next, set_control}
use Rattle.demands.proofs.Laws.Longest.{snapshot_most}
use Rattle.demands.proofs.Laws.Current.{ev_current_lem, face_current, face_default, metadata_current, hdr_current, throttle_current_lem}
use Rattle.demands.proofs.Laws.Same.{settings_same}
use Rattle.demands.proofs.Laws.ReadBack.{answer_back, Taken, entry_taken, face_put, After, after, payload_entry, place_at}
use Rattle.demands.proofs.Laws.ReadBack.{face_sized, current_entry, current_length, current_held, current_same, face_none}
use Rattle.demands.proofs.Laws.Steps.{step, load_answer, refused_none}
use Rattle.request.proofs.Laws.Sets.{accepted_control, accepted_length, accepted_values}
use Rattle.demands.proofs.Lists.{writes, snapshot_decodes, snapshot_formed, written_item}

-- new settings, of any call
pub new_settings : (c : Camera) → Ok c.profile c → (call : Call) → NewSettings c call
new_settings c o call =
    let s = step c.profile c o call in
    record { settings = s.held_after; streaming = s.streaming_after; profile = s.ok.profile; refused = refused_none c o.formed call }

module _ (c : Camera) (w : record_well_formed c ≡ true) where
  pub set_gives_lem : (s payload reply : List ℕ) → is_set_request s ≡ true → (outcome c (request s payload reply)).code ≡ 0
      → gives c.profile c.streaming (request s payload reply) ≡ set_gives c.profile (setup_selector s) payload
  unfolding gives request_gives
  set_gives_lem s payload reply i e = rw (set_answer c s payload (length reply) w i, eq-eqb _ 0 e)

  pub load_gives_lem : (s : List ℕ) → (outcome c (load s)).code ≡ 0
      → gives c.profile c.streaming (load s) ≡ load_gives c.profile c.streaming s
  unfolding gives
  load_gives_lem s e = rw (eq-eqb _ 0 (sym (load_answer c s w) ∙ e))

-- GET_CUR is DEF while no setting is held of the selector's control.
module _ (c : Camera) (l : length c.settings.face ≡ places) where
  pub unset_current : (control : ℕ) → KnownControl control → ((k : ℕ) → selector_at k ≡ control → held c k ≡ none)
      → camera_answer c control get_cur ≡ camera_answer c control get_def
  unfolding full_answer value_of settings_held answer_by ev_attribute ev_current face_answer metadata_attribute hdr_attribute number_or
      throttle_attribute throttle_current
  unset_current _ selectors.ev h = go c.settings.ev (h 0 refl)
    where
      go : (e : HeldEv) → ev_held e ≡ none
          → ev_bytes (ev_attribute c.profile.ev e get_cur) ≡ ev_bytes (ev_attribute c.profile.ev e get_def)
      go N.None z = refl
      go (N.Some s) z = absurd (none_never (S.Ev s) (sym z))
  unset_current _ selectors.face h = fresh_answer c.profile.face c.settings.face (face_none c.settings l h)
  unset_current _ selectors.metadata h = go c.settings.metadata (h metadata_key refl)
    where
      go : (n : HeldNumber) → metadata_held n ≡ none
          → bytes_of 4 (metadata_attribute c.profile.metadata n get_cur) ≡ bytes_of 4 (metadata_attribute c.profile.metadata n get_def)
      go N.None z = refl
      go (N.Some n) z = absurd (none_never (S.Metadata n) (sym z))
  unset_current _ selectors.hdr h = go c.settings.hdr (h hdr_key refl)
    where
      go : (n : HeldNumber) → hdr_held n ≡ none
          → bytes_of 4 (hdr_attribute c.profile.hdr n get_cur) ≡ bytes_of 4 (hdr_attribute c.profile.hdr n get_def)
      go N.None z = refl
      go (N.Some n) z = absurd (none_never (S.Hdr n) (sym z))
  unset_current _ selectors.throttle h = go c.settings.throttle (h throttle_key refl)
    where
      bytes : HeldThrottle → ℕ → List ℕ
      bytes t code = throttle_bytes (throttle_attribute c.profile.throttle t code) c.profile.throttle

      go : (t : HeldThrottle) → throttle_held t ≡ none → bytes t get_cur ≡ bytes t get_def
      go N.None z = refl
      go (N.Some s) z = absurd (none_never (S.Throttle s) (sym z))

-- So it is before any SET, whatever the selector.
pub fresh_current : (p : Profile) (streaming : Bool) (control : ℕ)
    → camera_answer (fresh p streaming) control get_cur ≡ camera_answer (fresh p streaming) control get_def
unfolding full_answer value_of answer_by no_settings
fresh_current p streaming control =
    go (eqb control selector.ev) (eqb control selector.face) (eqb control selector.metadata) (eqb control selector.hdr) refl refl refl refl
  where
    known : (n : ℕ) → KnownControl n → camera_answer (fresh p streaming) n get_cur ≡ camera_answer (fresh p streaming) n get_def
    known n k = unset_current (fresh p streaming) refl n k (λ k e. none_held k)

    go : (a b m h : Bool) → eqb control selector.ev ≡ a → eqb control selector.face ≡ b → eqb control selector.metadata ≡ m
        → eqb control selector.hdr ≡ h
        → camera_answer (fresh p streaming) control get_cur ≡ camera_answer (fresh p streaming) control get_def
    go true b m h e f g i = rw e (known selector.ev selectors.ev)
    go false true m h e f g i = rw (e, f) (known selector.face selectors.face)
    go false false true h e f g i = rw (e, f, g) (known selector.metadata selectors.metadata)
    go false false false true e f g i = rw (e, f, g, i) (known selector.hdr selectors.hdr)
    go false false false false e f g i = rw (e, f, g, i) (known selector.throttle selectors.throttle)

-- Where a setting is held, GET_CUR is that.
pub current_is_held : (c : Camera) → record_well_formed c ≡ true → CurrentIsHeld c
current_is_held c w = record {
  of_ev = ev_current_lem c;
  of_face = λ j flags h e. face_current c j h flags e;
  of_unset_face = λ j h g e. face_default c j h w g e;
  of_metadata = metadata_current c w;
  of_hdr = hdr_current c;
  of_throttle = throttle_current_lem c;
}

-- Two cameras that are the same are one record, as a face place holds none exactly where it is 0; so they answer every later call alike.
module _ (c d : Camera) (s : Same c d) (l : length c.settings.face ≡ places) (m : length d.settings.face ≡ places) where
  pub same_camera : c ≡ d
  same_camera =
      let h = settings_same c.settings d.settings s.settings l m in
      λ i. record { profile = s.profile i; streaming = s.streaming i; settings = h i }

  pub same_answers : (calls : List Call) → SameAnswers (run c calls) (run d calls)
  same_answers calls = record {
    outcomes = λ call. ap (λ x. outcome (run x calls) call) same_camera;
    buffers = λ call. ap (λ x. left (run x calls) call) same_camera;
    sensor = ap (λ x. sensed (run x calls)) same_camera;
  }

-- LEN's answer is the length that a SET takes, whatever its payload.
pub length_answer : (c : Camera) (control : ℕ) → KnownControl control → (control ≡ selector.face → ⊥) → (payload : List ℕ)
    → camera_answer c control get_len ≡ bytes_of 2 (set_length c.profile control payload)
length_answer c _ selectors.ev n payload = len_answers (table c) selector.ev
length_answer c _ selectors.face n payload = absurd (n refl)
length_answer c _ selectors.metadata n payload = len_answers (table c) selector.metadata
length_answer c _ selectors.hdr n payload = len_answers (table c) selector.hdr
length_answer c _ selectors.throttle n payload = len_answers (table c) selector.throttle

-- That of face authentication is the longest.
pub face_length : (c : Camera) → record_well_formed c ≡ true → has c.profile selector.face ≡ true → FaceLength c
face_length c w h =
    let v = valid_face c.profile (formed_profile c w) h in
    record {
      answer = len_answers (table c) selector.face;
      longest = len_longest c.profile.face v;
      reached = len_taken
          c.profile.face v;
    }

-- A SET's verdict is 0 where 01's tests accept it with the record's profile and flag.
pub set_verdict : (c : Camera) → record_well_formed c ≡ true → (s payload : List ℕ) (room : ℕ) → is_set_request s ≡ true
    → accepts_set c.profile c.streaming s payload ≡ eqb (requested c s payload room).code 0
set_verdict c w s payload room i = set_answer c s payload room w i

module _ (c : Camera) (o : Ok c.profile c) (payload : List ℕ) (r : profile_refusal c.profile selector.face ≡ 0)
    (z : set_refusal c.profile selector.face payload ≡ 0) where
  abbrev d : Camera
  d = puts c (set_gives c.profile selector.face payload)

  abbrev limits : FaceLimits
  limits = c.profile.face

  each_taken : (i : ℕ) → i < get_or payload 0 0 → Taken c.profile payload i
  each_taken = entry_taken c.profile payload z (formed_profile c o.formed) r

  all_taken : After c.profile c.settings.face o.places payload (get_or payload 0 0)
  all_taken = after c.profile c.settings.face o.places payload (get_or payload 0 0) each_taken

  -- what is then held of an address
  held_then : (address : ℕ)
      → held_at d.settings.face address ≡ held_at (entries_put c.settings.face payload (get_or payload 0 0)) address
  held_then address = ap (λ f. held_at f address) (face_put c.profile payload z c.settings)

  held_named : (i : ℕ) → i < get_or payload 0 0 → held_at d.settings.face (entry_address payload i) ≡ entry_flags payload i
  held_named i h = held_then (entry_address payload i) ∙ all_taken.named i h

  held_other : (address : ℕ) → first_address ≤ address → ((i : ℕ) → i < get_or payload 0 0 → entry_address payload i ≡ address → ⊥)
      → held_at d.settings.face address ≡ held_at c.settings.face address
  held_other address h free = held_then address ∙ all_taken.other address h free

  flags_listed : (i j : ℕ) → i < get_or payload 0 0 → address_at limits j ≡ entry_address payload i
      → flags_at limits d.settings.face get_cur j ≡ entry_flags payload i
  flags_listed i j h q =
      current_held limits d.settings.face j (entry_flags payload i) (ap (held_at d.settings.face) q ∙ held_named i h)
      (each_taken i h).some

  face_back : Bytes payload → length payload ≡ set_length c.profile selector.face payload → FaceReadsBack c d payload
  unfolding set_gives all_given put_all
  face_back b n =
      let v = valid_face c.profile (formed_profile c o.formed) (control_there c.profile selector.face r) in
      let m = face_sized limits payload n in
      record {
        entries = held_named;
        place = λ i h. place_at limits (entry_address payload i) (each_taken i h).known;
        listed = flags_listed;
        bytes = λ i j h k q. current_entry d j k ∙ ap₂ entry_of q (flags_listed i j h q) ∙ sym (payload_entry payload i b (omega arith));
        others = held_other;
        unnamed = λ j h no.
            let e = held_other (address_at limits j) (place_listed _ limits v j (omega arith)).first no in
            current_entry d j h
            ∙ ap (entry_of (address_at limits j)) (current_same limits d.settings.face j c.settings.face e)
            ∙ sym (current_entry c j h);
        empty = λ e. rw e;
      }

set_next : (c : Camera) → Ok c.profile c → (s payload reply : List ℕ) → accepts_set c.profile c.streaming s payload ≡ true
    → next c (request s payload reply) ≡ puts c (set_gives c.profile (setup_selector s) payload)
unfolding request_gives
set_next c o s payload reply a = request_next c s payload (length reply) o.formed ∙ rw a

pub set_then_get : (c : Camera) → Ok c.profile c → (s payload reply : List ℕ) → Bytes payload → is_set_request s ≡ true
    → (outcome c (request s payload reply)).code ≡ 0
    → ReadsBack c (next c (request s payload reply)) (setup_selector s) payload
set_then_get c o s payload reply b i e =
    let p = c.profile in
    let a : accepts_set p c.streaming s payload ≡ true = set_answer c s payload (length reply) o.formed i ∙ eq-eqb _ 0 e in
    let n = accepted_length (rules p c.streaming) s payload a in
    let z = accepted_values (rules p c.streaming) s payload a in
    let h = accepted_control (rules p c.streaming) s payload a in
    let r = set_control p c.streaming s payload a in
    let k = control_known p.controls (setup_selector s) (valid_presence p (formed_profile c o.formed)) h.0 in
    let d : next c (request s payload reply) ≡ puts c (set_gives p (setup_selector s) payload) = set_next c o s payload reply a in
    record {
      known = k;
      answer = λ m. ap (λ d. camera_answer d (setup_selector s) get_cur) d ∙ answer_back c payload b (setup_selector s) k m h.1 z n;
      of_face =
          λ q. subst (λ d. FaceReadsBack c d payload) (sym (d ∙ ap (λ (m : ℕ). puts c (set_gives p m payload)) q))
          (face_back c o payload (rw q at r) (rw q at z) b (rw q at n));
    }

-- every accepted GET sends its full answer so
pub get_sends : (c : Camera) (s payload reply : List ℕ) → is_set_request s ≡ false → (outcome c (request s payload reply)).code ≡ 0
    → CameraSends c s payload reply (asked (table c) s)
unfolding requested request_done
get_sends c s payload reply i e =
    let z : (request_done c s payload).code ≡ 0 = rw i in
    let n = sym (outcome_code (requested_code c s payload (length reply)) c (request_done c s payload) z) ∙ e in
    let done : outcome c (request s payload reply) ≡ record { code = 0; count = sent_count (table c) s; camera = c } = rw (n, i) in
    record {
      count = ap (λ o. o.count) done;
      buffer = (requests.get_sends
          (table c) s payload reply i n).buffer;
      camera = ap (λ o. o.camera) done;
    }

-- test 7 is of SETs alone
get_state : (streaming : Bool) (control : ℕ) (s : List ℕ) → is_get_request s ≡ true → state_refusal streaming control (setup_code s) ≡ 0
get_state streaming control s h =
    let q = simp and-eq-true_iff at h in
    let n : eqb (setup_code s) set_cur ≡ false = ne_eqb (setup_code s) set_cur (λ e. omega (arith, leb-true get_cur (setup_code s) q.0.1)) in
    rw n (go (eqb control selector.throttle))
  where
    go : (b : Bool) → cond {A = ℕ} (b && false && not streaming) wrong_state 0 ≡ 0
    go true = refl
    go false = refl

pub get_accepted : (c : Camera) → record_well_formed c ≡ true → (s reply : List ℕ) → Gets c.profile s
    → min (setup_w_length s) (length (asked (table c) s)) ≤ length reply → (outcome c (request s [] reply)).code ≡ 0
unfolding requested request_done
get_accepted c w s reply g h =
    let z : (request_done c s []).code ≡ 0 = rw (get_no_set s g.get) in
    outcome_code (requested_code c s [] (length reply)) c (request_done c s []) z
    ∙ requests.get_accepted (table c) s (length reply) w g (get_state c.streaming (setup_selector s) s g.get) h

-- GET_CUR of a control after any call is accepted, given room, and sends its full answer.
get_after : (c : Camera) → Ok c.profile c → (call : Call) (g buffer : List ℕ) → Gets c.profile g → setup_code g ≡ get_cur
    → (full : List ℕ)
    → camera_answer (next c call) (setup_selector g) get_cur ≡ full → min (setup_w_length g) (length full) ≤ length buffer
    → ((outcome (next c call) (request g [] buffer)).code ≡ 0) × CameraSends (next c call) g [] buffer full
get_after c o call g buffer x q full f h =
    let d = next c call in
    let t = (step c.profile c o call).ok in
    let e : asked (table d) g ≡ full = ap (camera_answer d (setup_selector g)) q ∙ f in
    let z = get_accepted d t.formed g buffer (subst (λ p. Gets p g) (sym t.profile) x) (rw e h) in
    (z, subst (λ l. CameraSends d g [] buffer l) e (get_sends d g [] buffer (get_no_set g x.get) z))

-- Call by call: after an accepted SET, GET_CUR of its control is accepted, given room, and sends the bytes that were set.
pub round_trip : (c : Camera) → Ok c.profile c → (s payload reply : List ℕ) → Bytes payload → is_set_request s ≡ true
    → (outcome c (request s payload reply)).code ≡ 0
    → (setup_selector s ≡ selector.face → ⊥) → (g buffer : List ℕ) → Gets c.profile g → setup_code g ≡ get_cur
    → setup_selector g ≡ setup_selector s
    → min (setup_w_length g) (length (bytes_back c.profile (setup_selector s) payload)) ≤ length buffer
    → let d = next c (request s payload reply) in
    ((outcome d (request g [] buffer)).code ≡ 0) × CameraSends d g [] buffer (bytes_back c.profile (setup_selector s) payload)
round_trip c o s payload reply b i e m g buffer x q f h =
    get_after c o (request s payload reply) g buffer x q (bytes_back c.profile (setup_selector s) payload)
    (ap (λ (n : ℕ). camera_answer (next c (request s payload reply)) n get_cur) f ∙ (set_then_get c o s payload reply b i e).answer m) h

-- Of face authentication it sends the list of every endpoint, in which the eight bytes of each entry that was set stand at its endpoint's
-- place.
pub face_round_trip : (c : Camera) → Ok c.profile c → (s payload reply : List ℕ) → Bytes payload → is_set_request s ≡ true
    → (outcome c (request s payload reply)).code ≡ 0
    → setup_selector s ≡ selector.face → (g buffer : List ℕ) → Gets c.profile g → setup_code g ≡ get_cur → setup_selector g ≡ selector.face
    → min (setup_w_length g) (1 + 8 * endpoints_of c.profile.face) ≤ length buffer
    → let d = next c (request s payload reply) in
    ((outcome d (request g [] buffer)).code ≡ 0) × CameraSends d g [] buffer (camera_answer d selector.face get_cur)
    × FaceReadsBack c d payload
face_round_trip c o s payload reply b i e m g buffer x q f h =
    let d = next c (request s payload reply) in
    let n : length (camera_answer d selector.face get_cur) ≡ 1 + 8 * endpoints_of c.profile.face =
    current_length d ∙ ap (λ p. 1 + 8 * endpoints_of p.face) (step c.profile c o (request s payload reply)).ok.profile in
    let r =
    get_after c o (request s payload reply) g buffer x q (camera_answer d selector.face get_cur)
    (ap (λ (n : ℕ). camera_answer d n get_cur) f) (rw n h) in
    (r.0, r.1, (set_then_get c o s payload reply b i e).of_face m)

pub snapshot_read_back : (c : Camera) → record_well_formed c ≡ true → Typed c → SnapshotReadsBack c
snapshot_read_back c w t =
    let d = snapshot_decodes c w in
    record {
      formed = snapshot_formed c w;
      records = λ k. ap (λ m. m k) d;
      settings = λ k. ap (λ m. map (record_item c.profile true k) (m k)) d ∙ written_item c w t k (held c k) refl;
      written = λ out h. writes c out w h;
    }

pub write_suffices : (c : Camera) → record_well_formed c ≡ true → WriteSuffices c
write_suffices c w out h = writes c out w (omega (arith, snapshot_most c w))
