-- What an accepted SET leaves of the record, control by control. Assumes nothing.
use mathlib.Core.{Path.{◌≡◌, refl, ap, ap₂, sym, ◌∙◌}, List.{List, [], ◌∷◌, ◌++◌}, Option.{none, some}}
use mathlib.Core.Bool.{Bool, true, false, cond, ◌||◌, true≢false}
use Prim.Native.Nat.{ℕ, zero, suc, ◌+◌, ◌-◌, ◌*◌, ◌≤◌, ◌<◌}
use native.Mathlib.Omega.{arith}
use lib.{Dec.{eqb, ltb, leb, lit<}, ListN.{length, get_or, take, drop, length-drop, get_or-eq_default}}
use lib.Seq.{drop-cons, drop-drop, drop_at, drop-append-le, take-add, take-append-le, get_or-set_same, get_or-set_other}
use borrow.Author.Tests.{eq-eqb, ne_eqb, eqb-true, eqb-false, ltb-true, ltb-false, le-leb}
use Rattle.wire.specs.{Endpoints.{first_address, last_address, places}, Numbers.{le_at, bytes_of}, Uvc.{get_cur, get_def}}
use Rattle.wire.specs.Selectors as selectors
use Rattle.wire.proofs.Laws.{Bytes.{bytes-at, word_bytes}, Numbers.{Bytes}}
use Rattle.request.specs.{Answers.{answer_by}, Tests.{full_answer}}
use Rattle.controls.specs.Controls.{Item, Given}
use Rattle.controls.specs.declared.Setting.{Setting}
use Rattle.controls.specs.Controls.{item_of, number_or, item_code, first_refusal}
use Rattle.controls.specs.declared.Setting.TheVariants as S
use Rattle.exposure.specs.Exposure.{ev_flags, ev_value, ev_item, ev_current, ev_attribute}
use Rattle.face.specs.{declared.limits.FaceLimits.{FaceLimits}, Limits.{endpoints_of, address_at, offers_at, offers_from, offers_of}}
use Rattle.face.specs.Answers.{entry_of, held_at, flags_at, entries_of, face_value}
use Rattle.entries.specs.Entries.{face_set_length, entry_address, entry_flags, seen_in, seen_before, put_face, entries_put, faces_taken}
use Rattle.metadata.specs.Metadata.{metadata_item, metadata_attribute}
use Rattle.hdr.specs.Hdr.{hdr_item, hdr_attribute}
use Rattle.throttle.specs.Throttle.{throttle_item, throttle_current, throttle_attribute, throttle_bytes}
use Rattle.controls.proofs.Laws.Items.{none_refused}
use Rattle.exposure.proofs.Laws.Exposure.{ev_bytes_lem}
use Rattle.entries.proofs.Laws.{Entries.{taken_entries}, Payload.{accepted}, Held.{length-put}}
use Rattle.face.proofs.Laws.Answers.{length_entries}
use Rattle.profile.specs.{declared.Profile.{Profile}, KnownControl.{KnownControl, ev, face, metadata, hdr, throttle}}
use Rattle.profile.specs.{Profile.{is_settable, set_length, profile_valid, profile_refusal}, Items.{profile_item, set_refusal}}
use Rattle.settings.specs.{declared.settings.Settings.{Settings}, Held.{face_held, settings_held}, Settings.{put}}
use Rattle.settings.specs.Items.{given_of, all_given, put_all, set_gives, set_taken}
use Rattle.answering.specs.Answering.{value_of}
use Rattle.settings.proofs.Laws.Items.{face_refusal_lem, face_set}
use Rattle.camera.specs.{declared.record.Camera.{Camera}, Record.{with_settings}, Requests.{camera_answer}, Loading.{selector_at}}
use Rattle.demands.specs.Answers.{bytes_back, entry_bytes}
use Rattle.invariants.proofs.Laws.{Held.{none_never, held_face}, Kept.{item_good}}
use Rattle.demands.proofs.Laws.Loads.{taken}

-- one item that no test refuses is put in
one_put : (h : Settings) (item : ℕ → Item) (code : ℕ) (s : Setting) → item 0 ≡ item_of code s → first_refusal 1 0 (λ i. item_code (item i)) ≡ 0
    → put_all h (all_given 1 0 (λ i. given_of (item i))) ≡ put h s
unfolding all_given given_of put_all
one_put h item code s e z =
    let g : item 0 ≡ Given s = e ∙ taken code s (ap item_code (sym e) ∙ none_refused (λ i. item_code (item i)) 1 z 0 (lit< tt)) in
    rw g

-- the four controls of one setting
module _ (c : Camera) (payload : List ℕ) (b : Bytes payload) where
  front : 8 ≤ length payload → bytes_of 4 (le_at 4 payload 0) ++ bytes_of 4 (le_at 4 payload 4) ≡ take 8 payload
  front n = ap₂ ◌++◌ (bytes-at 4 payload 0 (omega arith) b) (bytes-at 4 payload 4 (omega arith) b) ∙ sym (take-add 4 4 payload)

  abbrev current_of : ℕ → Settings → List ℕ
  current_of control h = camera_answer (with_settings c h) control get_cur

  pub answer_back : (control : ℕ) → KnownControl control → (control ≡ selectors.face → ⊥) → is_settable c.profile control ≡ true
      → set_refusal c.profile control payload ≡ 0
      → length payload ≡ set_length c.profile control payload
      → current_of control (put_all c.settings (set_gives c.profile control payload)) ≡ bytes_back c.profile control payload
  unfolding set_refusal set_gives profile_item ev_item metadata_item hdr_item throttle_item full_answer value_of put answer_by ev_attribute ev_current
      metadata_attribute hdr_attribute number_or throttle_attribute throttle_current throttle_bytes
  answer_back _ ev m w z n =
      ap (current_of selectors.ev)
      (one_put c.settings (profile_item c.profile selectors.ev payload) _
      (S.Ev (record { flags = ev_flags payload; value = ev_value payload })) refl z)
      ∙ ev_bytes_lem payload n b
  answer_back _ face m w z n = absurd (m refl)
  answer_back _ metadata m w z n =
      ap (current_of selectors.metadata)
      (one_put c.settings (profile_item c.profile selectors.metadata payload) _ (S.Metadata (le_at 4 payload 0)) refl z)
      ∙ rw w (word_bytes payload n b)
  answer_back _ hdr m w z n =
      ap (current_of selectors.hdr)
      (one_put c.settings (profile_item c.profile selectors.hdr payload) _ (S.Hdr (le_at 4 payload 0)) refl z)
      ∙ word_bytes payload n b
  answer_back _ throttle m w z n =
      let l = c.profile.throttle in
      ap (current_of selectors.throttle)
      (one_put c.settings (profile_item c.profile selectors.throttle payload) _
      (S.Throttle (record { mode = le_at 4 payload 0; percent = le_at 4 payload 4 })) refl z)
      ∙ ap (λ f. f ++ bytes_of 4 l.minimum ++ bytes_of 4 l.maximum ++ bytes_of 4 l.step) (front (omega arith))

-- an entry that is not seen before has an address of its own
unseen : (payload : List ℕ) (i n : ℕ) → seen_in payload i n ≡ false → (j : ℕ) → j < n → entry_address payload j ≡ entry_address payload i → ⊥
unfolding seen_in
unseen payload i zero e j h q = absurd (omega arith)
unseen payload i (suc n) e j h q =
    go (seen_in payload i n) (eqb (entry_address payload n) (entry_address payload i)) refl refl e (λ z l. unseen payload i n z j l q)
  where
    go : (a b : Bool) → seen_in payload i n ≡ a → eqb (entry_address payload n) (entry_address payload i) ≡ b → a || b ≡ false
        → (seen_in payload i n ≡ false → j < n → ⊥) → ⊥
    go true b f g z ih = true≢false z
    go false true f g z ih = true≢false z
    go false false f g z ih = last (eqb j n) refl
      where
        last : (x : Bool) → eqb j n ≡ x → ⊥
        last true k = eqb-false _ _ g (ap (entry_address payload) (sym (eqb-true j n k)) ∙ q)
        last false k = ih f (let m = eqb-false j n k in omega arith)

-- an entry that is taken
pub record Taken (p : Profile) (payload : List ℕ) (i : ℕ) : Type 0 where
  pub first : first_address ≤ entry_address payload i
  pub last : entry_address payload i ≤ last_address
  pub some : 0 < entry_flags payload i
  pub new : seen_before payload i ≡ false
  pub known : offers_of p.face (entry_address payload i) ≡ 0 → ⊥

module _ (p : Profile) (payload : List ℕ) (z : set_refusal p selectors.face payload ≡ 0) where
  pub entry_taken : profile_valid p ≡ true → profile_refusal p selectors.face ≡ 0 → (i : ℕ) → i < get_or payload 0 0 → Taken p payload i
  unfolding profile_item
  entry_taken v r i h =
      let g = taken_entries p.face payload (get_or payload 0 0) (sym (face_refusal_lem p payload) ∙ z) i h in
      let proper = (item_good p v payload i _ selectors.face face r g).proper in
      let x = accepted p.face payload i _ _ g in
      record { first = proper.0; last = proper.1; some = proper.2; new = x.new; known = x.known }

  -- they are put in one after the other
  pub face_put : (h : Settings) → (put_all h (set_gives p selectors.face payload)).face ≡ entries_put h.face payload (get_or payload 0 0)
  unfolding set_taken faces_taken
  face_put h =
      let e = ap (λ t. t.settings.face) (face_set p h payload refl) in
      sym (rw (eq-eqb _ 0 z, eq-eqb _ 0 (sym (face_refusal_lem p payload) ∙ z)) at e)

-- one put in at its address, and at another
module _ (face : List ℕ) (address flags : ℕ) (low : first_address ≤ address) where
  put_same : address < first_address + length face → held_at (put_face face address flags) address ≡ flags
  unfolding put_face
  put_same h = rw (le-leb first_address address low) (get_or-set_same face (address - first_address) flags 0 (omega arith))

  put_other : (a : ℕ) → first_address ≤ a → (address ≡ a → ⊥) → held_at (put_face face address flags) a ≡ held_at face a
  unfolding put_face
  put_other a h n =
      rw (le-leb first_address address low) (get_or-set_other face (address - first_address) (a - first_address) flags 0 (λ e. n (omega arith)))

-- entries taken one after the other: each is held at its address, and every other address keeps its setting
module _ (p : Profile) (before : List ℕ) (l : length before ≡ places) (payload : List ℕ) where
  abbrev face_after : ℕ → List ℕ
  face_after n = entries_put before payload n

  pub record After (n : ℕ) : Type 0 where
    pub room : length (face_after n) ≡ places
    pub named : (i : ℕ) → i < n → held_at (face_after n) (entry_address payload i) ≡ entry_flags payload i
    pub other : (address : ℕ) → first_address ≤ address → ((i : ℕ) → i < n → entry_address payload i ≡ address → ⊥)
        → held_at (face_after n) address ≡ held_at before address

  pub after : (n : ℕ) → ((i : ℕ) → i < n → Taken p payload i) → After n
  unfolding entries_put
  after zero t = record { room = l; named = λ i h. absurd (omega arith); other = λ a h no. refl }
  after (suc n) t =
      let b = after n (λ i h. t i (omega arith)) in
      let x = t n (omega arith) in
      record {
        room = length-put (face_after n) _ _ ∙ b.room;
        named = λ i h. go b x i h (eqb i n) refl;
        other = λ a h no. put_other (face_after n) _ _ x.first a h (no n (omega arith)) ∙ b.other a h (λ i q. no i (omega arith));
      }
    where
      go : After n → Taken p payload n → (i : ℕ) → i < suc n → (x : Bool) → eqb i n ≡ x
          → held_at (put_face (face_after n) (entry_address payload n) (entry_flags payload n)) (entry_address payload i) ≡ entry_flags payload i
      go b x i h true q =
          let j : i ≡ n = eqb-true i n q in
          rw j (put_same (face_after n) _ _ x.first (omega (arith, b.room, x.last)))
      go b x i h false q =
          let j = eqb-false i n q in
          put_other (face_after n) _ _ x.first (entry_address payload i) (t i h).first
          (λ k. unseen payload n n x.new i (omega arith) (sym k))
          ∙ b.named i (omega arith)

-- of a payload: its address and its flags
pub payload_entry : (payload : List ℕ) (i : ℕ) → Bytes payload → 9 + 8 * i ≤ length payload
    → entry_bytes payload i ≡ entry_of (entry_address payload i) (entry_flags payload i)
payload_entry payload i b h =
    let e : suc (1 + 8 * i) ≡ 2 + 8 * i = omega arith in
    ap (take 8) (drop-cons payload (1 + 8 * i) 0 (omega arith) ∙ ap (λ (n : ℕ). entry_address payload i ∷ drop n payload) e)
    ∙ ap (λ r. entry_address payload i ∷ r) (sym (bytes-at 7 payload (2 + 8 * i) (omega arith) b))

-- of an answer: its place's
module _ (l : FaceLimits) (settings_held : List ℕ) (code : ℕ) where
  place_entry : (n j : ℕ) → j < n
      → take 8 (drop (8 * j) (entries_of l settings_held code n)) ≡ entry_of (address_at l j) (flags_at l settings_held code j)
  unfolding entries_of bytes_of
  place_entry zero j h = absurd (omega arith)
  place_entry (suc n) j h = go (eqb j n) refl (place_entry n j)
    where
      go : (b : Bool) → eqb j n ≡ b
          → (j < n → take 8 (drop (8 * j) (entries_of l settings_held code n)) ≡ entry_of (address_at l j) (flags_at l settings_held code j))
          → take 8 (drop (8 * j) (entries_of l settings_held code (suc n))) ≡ entry_of (address_at l j) (flags_at l settings_held code j)
      go true e ih =
          let q : j ≡ n = eqb-true j n e in
          rw q (ap (take 8) (drop_at (entries_of l settings_held code n) (entry_of (address_at l n) (flags_at l settings_held code n)) (8 * n)
          (length_entries l settings_held code n)))
      go false e ih =
          let q = eqb-false j n e in
          let m = length_entries l settings_held code n in
          ap (take 8) (drop-append-le (8 * j) (entries_of l settings_held code n) _ (omega arith))
          ∙ take-append-le 8 (drop (8 * j) (entries_of l settings_held code n)) _ (simp length-drop (omega arith))
          ∙ ih (omega arith)

  answer_entry : (m n j : ℕ) → j < n
      → entry_bytes (m ∷ entries_of l settings_held code n) j ≡ entry_of (address_at l j) (flags_at l settings_held code j)
  answer_entry m n j h = ap (take 8) (sym (drop-drop (8 * j) 1 (m ∷ entries_of l settings_held code n))) ∙ place_entry n j h

-- an address that offers flags is an endpoint's
place_of : (l : FaceLimits) (address n i : ℕ) → (offers_from l address n i ≡ 0 → ⊥) → (j : ℕ) × ((j < i + n) × (address_at l j ≡ address))
unfolding offers_from
place_of l address zero i h = absurd (h refl)
place_of l address (suc n) i h = go (eqb (address_at l i) address) refl h (place_of l address n (suc i))
  where
    go : (b : Bool) → eqb (address_at l i) address ≡ b → (cond b (offers_at l i) (offers_from l address n (suc i)) ≡ 0 → ⊥)
        → ((offers_from l address n (suc i) ≡ 0 → ⊥) → (j : ℕ) × ((j < suc i + n) × (address_at l j ≡ address)))
        → (j : ℕ) × ((j < i + suc n) × (address_at l j ≡ address))
    go true e q ih = (i, (omega arith, eqb-true (address_at l i) address e))
    go false e q ih = let r = ih q in (r.0, (let b = r.1.0 in omega arith, r.1.1))

pub place_at : (l : FaceLimits) (address : ℕ) → (offers_of l address ≡ 0 → ⊥) → (j : ℕ) × ((j < endpoints_of l) × (address_at l j ≡ address))
unfolding offers_of
place_at l address h = let r = place_of l address (endpoints_of l) 0 h in (r.0, (let b = r.1.0 in omega arith, r.1.1))

-- an accepted payload has as many bytes as its first byte says
pub face_sized : (l : FaceLimits) (payload : List ℕ) → length payload ≡ face_set_length l payload → length payload ≡ 1 + 8 * get_or payload 0 0
unfolding face_set_length
face_sized l [] e = absurd (omega arith)
face_sized l (n ∷ rest) e = go (leb n l.count) e
  where
    go : (b : Bool) → length (n ∷ rest) ≡ cond b (1 + 8 * n) 0 → length (n ∷ rest) ≡ 1 + 8 * n
    go true q = q
    go false q = absurd (omega arith)

-- the entry of an endpoint in the answers to GET_CUR and GET_DEF, and the length of the first
module _ (c : Camera) where
  abbrev limits : FaceLimits
  limits = c.profile.face

  pub current_entry : (j : ℕ) → j < endpoints_of limits
      → entry_bytes (camera_answer c selectors.face get_cur) j ≡ entry_of (address_at limits j) (flags_at limits c.settings.face get_cur j)
  unfolding full_answer value_of answer_by face_value
  current_entry j h = answer_entry limits c.settings.face get_cur (endpoints_of limits) (endpoints_of limits) j h

  pub default_entry : (j : ℕ) → j < endpoints_of limits
      → entry_bytes (camera_answer c selectors.face get_def) j ≡ entry_of (address_at limits j) (flags_at limits c.settings.face get_def j)
  unfolding full_answer value_of answer_by face_value
  default_entry j h = answer_entry limits c.settings.face get_def (endpoints_of limits) (endpoints_of limits) j h

  pub current_length : length (camera_answer c selectors.face get_cur) ≡ 1 + 8 * endpoints_of limits
  unfolding full_answer value_of answer_by face_value
  current_length = omega (arith, length_entries limits c.settings.face get_cur (endpoints_of limits))

-- its flags are the setting held
module _ (l : FaceLimits) (settings_held : List ℕ) (j : ℕ) where
  pub current_held : (flags : ℕ) → held_at settings_held (address_at l j) ≡ flags → 0 < flags → flags_at l settings_held get_cur j ≡ flags
  unfolding flags_at
  current_held flags e h = rw (e, ne_eqb flags 0 (omega arith))

  pub current_unset : held_at settings_held (address_at l j) ≡ 0 → flags_at l settings_held get_cur j ≡ flags_at l settings_held get_def j
  unfolding flags_at
  current_unset e = rw e

  pub current_same : (before : List ℕ) → held_at settings_held (address_at l j) ≡ held_at before (address_at l j)
      → flags_at l settings_held get_cur j ≡ flags_at l before get_cur j
  unfolding flags_at
  current_same before e = rw e

-- where no setting is held of any endpoint, none is held of any address
pub face_unset : (address flags : ℕ) → face_held address flags ≡ none → flags ≡ 0
face_unset address flags e = go (eqb flags 0) refl e
  where
    go : (b : Bool) → eqb flags 0 ≡ b → cond b none (some (S.Face address flags)) ≡ none → flags ≡ 0
    go true q z = eqb-true flags 0 q
    go false q z = absurd (none_never (S.Face address flags) (sym z))

pub face_none : (h : Settings) → length h.face ≡ places → ((k : ℕ) → selector_at k ≡ selectors.face → settings_held h k ≡ none)
    → (address : ℕ) → held_at h.face address ≡ 0
face_none g l h address = go (ltb (address - first_address) places) refl
  where
    go : (b : Bool) → ltb (address - first_address) places ≡ b → held_at g.face address ≡ 0
    go true q =
        let i = address - first_address in
        let b = ltb-true i places q in
        let e : 1 + i - 1 ≡ i = omega arith in
        let z =
        sym (held_face g (1 + i) (omega arith) (omega arith))
        ∙ h (1 + i) (rw (ne_eqb (1 + i) 0 (omega arith), le-leb (1 + i) places (omega arith))) in
        ap (λ (j : ℕ). get_or g.face j 0) (sym e) ∙ face_unset _ _ z
    go false q = let b = ltb-false (address - first_address) places q in get_or-eq_default g.face 0 (omega arith)
