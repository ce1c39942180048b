-- A snapshot's record in form, tested as a SET and taken as one. Assumes nothing.
use mathlib.Core.{Path.{◌≡◌, refl, ap, sym, ◌∙◌}, List.{List, [], ◌∷◌, append-nil}}
use mathlib.Core.Bool.{Bool, true, false, cond, not, true≢false, and-eq-true_iff}
use Prim.Native.Nat.{ℕ, ◌+◌, ◌-◌, ◌^◌, ◌≤◌, ◌<◌}
use native.Mathlib.Omega.{arith}
use lib.{Dec.{eqb}, ListN.{length, get_or, drop, length-drop}, Seq.{get_or-drop}}
use borrow.Author.Tests.{eq-eqb, ne_eqb, le-leb, eqb-true, eqb-false}
use Rattle.snapshot.specs.{Keys.{metadata_key, hdr_key, throttle_key, kind_length}, Form.{stated_key, stated_kind}, Records.{IsRecord}}
use Rattle.wire.specs.{Endpoints.{first_address, places}, Numbers.{le_at, bytes_of}, Rows.{Row, ◌⇒◌, answers, first_of}}
use Rattle.wire.specs.Uvc.{set_cur, invalid_control, invalid_request}
use Rattle.wire.specs.Selectors as selectors
use Rattle.wire.proofs.Laws.{Bytes.{number_bytes}, Rows.{answers_number}}
use Rattle.request.specs.{Setup.{setup_w_length}, Tests.{request_tests, value_tests, set_accepted, table_refusal}}
use Rattle.snapshot.proofs.Laws.Sound.{Sound, Kind, ev, face, metadata, hdr, throttle, kind_of, sound_address, stands_sound, stands_size}
use Rattle.controls.specs.Controls.{Item, Refused, Given, item_code, first_refusal}
use Rattle.face.proofs.Laws.Limits.{count_least}
use Rattle.entries.proofs.Laws.Payload.{set_length_first}
use Rattle.profile.specs.{declared.Profile.{Profile}, Profile.{has, is_settable, set_length, profile_valid}}
use Rattle.profile.specs.Items.{item_count, profile_item, set_refusal}
use Rattle.camera.specs.{Requests.{state_refusal, control_refusal, request_gives}, Loading.{selector_at, record_item}}
use Rattle.settings.specs.Items.{given_of, all_given, set_gives}
use Rattle.profile.proofs.Laws.Profile.{valid_face}
use Rattle.demands.specs.{Runs.{gives}, Loading.{record_set, set_code, AsSet}}

-- an item with a number gives nothing
refused_nothing : (i : Item) → eqb (item_code i) 0 ≡ false → given_of i ≡ []
unfolding item_code given_of
refused_nothing (Refused code) e = refl
refused_nothing (Given s) e = absurd (true≢false e)

-- of face authentication, a sound record has one entry
sound_count : (r : List ℕ) → Sound r → stated_kind r ≡ selectors.face → get_or r 4 0 ≡ 1
sound_count r s e =
    let f = rw e at s.face in
    let q = simp and-eq-true_iff at f in
    eqb-true (get_or r 4 0) 1 q.0

-- the selector of a record's key is its kind
key_kind : (k : ℕ) (r : List ℕ) → Sound r → stated_key r ≡ k → Kind (stated_kind r) → selector_at k ≡ stated_kind r
unfolding stated_key
key_kind k r s e (ev q) = let z : 0 ≡ k = rw q at e in rw (← z, q)
key_kind k r s e (face q) =
    let z : get_or r 5 0 - (first_address - 1) ≡ k = rw q at e in
    let b = sound_address r s q in
    rw (q, ne_eqb k 0 (omega arith), le-leb k places (omega arith))
key_kind k r s e (metadata q) = let z : metadata_key ≡ k = rw q at e in rw (← z, q)
key_kind k r s e (hdr q) = let z : hdr_key ≡ k = rw q at e in rw (← z, q)
key_kind k r s e (throttle q) = let z : throttle_key ≡ k = rw q at e in rw (← z, q)

module _ (k : ℕ) (r : List ℕ) (g : IsRecord k r) where
  record_sound : Sound r
  record_sound = (stands_sound k r g.is).0

  pub is_kind : selector_at k ≡ stated_kind r
  is_kind = key_kind k r record_sound (stands_sound k r g.is).1 (kind_of (stated_kind r) record_sound.known)

  kind : Kind (selector_at k)
  kind = kind_of (selector_at k) (rw is_kind record_sound.known)

  -- its payload has the length that its kind gives it
  payload_length_lem : (n : ℕ) → selector_at k ≡ n → 4 + length (drop 4 r) ≡ kind_length n
  payload_length_lem n e =
      let m = g.long ∙ stands_size k r g.is ∙ record_sound.right ∙ ap kind_length (sym is_kind ∙ e) in
      let l : length (drop 4 r) ≡ length r - 4 = length-drop 4 r in
      omega (arith, record_sound.four)

  -- a face record has one entry
  one_entry : selector_at k ≡ selectors.face → get_or (drop 4 r) 0 0 ≡ 1
  one_entry e = get_or-drop 4 r 0 0 ∙ sound_count r record_sound (sym is_kind ∙ e)

  -- so a SET of any record has one item
  one_item : item_count (selector_at k) (drop 4 r) ≡ 1
  one_item = go (eqb (selector_at k) selectors.face) refl
    where
      go : (b : Bool) → eqb (selector_at k) selectors.face ≡ b → cond b (get_or (drop 4 r) 0 0) 1 ≡ 1
      go true e = one_entry (eqb-true (selector_at k) selectors.face e)
      go false e = refl

  set_refusal_lem : (p : Profile) → set_refusal p (selector_at k) (drop 4 r) ≡ item_code (profile_item p (selector_at k) (drop 4 r) 0)
  unfolding set_refusal first_refusal
  set_refusal_lem p = rw one_item (go (eqb (item_code (profile_item p (selector_at k) (drop 4 r) 0)) 0) refl)
    where
      go : (b : Bool) → eqb (item_code (profile_item p (selector_at k) (drop 4 r) 0)) 0 ≡ b
          → cond b 0 (item_code (profile_item p (selector_at k) (drop 4 r) 0)) ≡ item_code (profile_item p (selector_at k) (drop 4 r) 0)
      go true e = sym (eqb-true _ 0 e)
      go false e = refl

  set_gives_lem : (p : Profile) → set_gives p (selector_at k) (drop 4 r) ≡ given_of (profile_item p (selector_at k) (drop 4 r) 0)
  unfolding set_gives all_given
  set_gives_lem p = rw one_item (append-nil (given_of (profile_item p (selector_at k) (drop 4 r) 0)))

  -- test 6: the payload has the control's length. Of face authentication, one entry is no more than a valid profile's endpoints.
  set_length_payload : (p : Profile) → profile_valid p ≡ true → has p (selector_at k) ≡ true
      → set_length p (selector_at k) (drop 4 r) ≡ length (drop 4 r)
  set_length_payload p v h = go kind
    where
      go : Kind (selector_at k) → set_length p (selector_at k) (drop 4 r) ≡ length (drop 4 r)
      go (ev e) = rw e (omega (arith, payload_length_lem selectors.ev e))
      go (face e) =
          let n = payload_length_lem selectors.face e in
          let few : 1 ≤ p.face.count = count_least _ p.face (valid_face p v (rw e at h)) in
          rw e (set_length_first p.face (drop 4 r) (λ z. omega arith) ∙ rw (one_entry e, le-leb 1 p.face.count few) (omega arith))
      go (metadata e) = rw e (omega (arith, payload_length_lem selectors.metadata e))
      go (hdr e) = rw e (omega (arith, payload_length_lem selectors.hdr e))
      go (throttle e) = rw e (omega (arith, payload_length_lem selectors.throttle e))

  -- wLength says that length
  length_said : (p : Profile) → setup_w_length (record_set p k r) ≡ length (drop 4 r)
  unfolding le_at bytes_of
  length_said p = number_bytes 2 (length (drop 4 r)) (go kind)
    where
      go : Kind (selector_at k) → length (drop 4 r) < 256 ^ 2
      go (ev e) = omega (arith, payload_length_lem selectors.ev e)
      go (face e) = omega (arith, payload_length_lem selectors.face e)
      go (metadata e) = omega (arith, payload_length_lem selectors.metadata e)
      go (hdr e) = omega (arith, payload_length_lem selectors.hdr e)
      go (throttle e) = omega (arith, payload_length_lem selectors.throttle e)

  -- tests 2 to 8
  module _ (p : Profile) (v : profile_valid p ≡ true) (streaming : Bool) where
    abbrev state : ℕ
    state = state_refusal streaming (selector_at k) set_cur

    abbrev rows : ℕ → List Row
    rows n =
        (not (has p (selector_at k)) ⇒ invalid_control) ∷ (not (is_settable p (selector_at k)) ⇒ invalid_request) ∷ answers state ∷ answers n ∷
        []

    value : ℕ
    value = item_code (profile_item p (selector_at k) (drop 4 r) 0)

    -- where the control is there, test 6 holds
    set_tests : (b : Bool) → has p (selector_at k) ≡ b → set_code p streaming k r ≡ first_of (rows value)
    unfolding request_tests value_tests bytes_of value
    set_tests true h =
        let z = set_length_payload p v h in
        let w = length_said p in
        rw (
          eq-eqb p.unit p.unit refl,
          eq-eqb p.interface p.interface refl,
          h,
          w,
          z,
          eq-eqb (length (drop 4 r))
              (length (drop 4 r)) refl,
          set_refusal_lem p,
        )
    set_tests false h = rw (eq-eqb p.unit p.unit refl, eq-eqb p.interface p.interface refl, h)

    record_code_lem : item_code (record_item p streaming k r) ≡ first_of (rows value)
    unfolding record_item table_refusal item_code value
    record_code_lem = go (has p (selector_at k)) (is_settable p (selector_at k)) state
      where
        code : Bool → Bool → ℕ → List Row → ℕ
        code a b n rest = first_of ((not a ⇒ invalid_control) ∷ (not b ⇒ invalid_request) ∷ answers n ∷ rest)

        last : (n : ℕ) (b : Bool) → eqb n 0 ≡ b
            → item_code (cond (eqb (cond (not b) n 0) 0) (profile_item p (selector_at k) (drop 4 r) 0) (Refused (cond (not b) n 0)))
            ≡ cond (not b) n (first_of (answers value ∷ []))
        last n true e = sym (answers_number value)
        last n false e = rw e

        go : (a b : Bool) (n : ℕ)
            → item_code (cond (eqb (code a b n []) 0) (profile_item p (selector_at k) (drop 4 r) 0) (Refused (code a b n [])))
            ≡ code a b n (answers value ∷ [])
        go true true n = last n (eqb n 0) refl
        go true false n = refl
        go false b n = refl

    set-code : set_code p streaming k r ≡ item_code (record_item p streaming k r)
    set-code = set_tests (has p (selector_at k)) refl ∙ sym record_code_lem

    -- where no test refuses the record, its item is its payload's
    record_item_lem : item_code (record_item p streaming k r) ≡ 0 → record_item p streaming k r ≡ profile_item p (selector_at k) (drop 4 r) 0
    unfolding record_item item_code
    record_item_lem e = go (eqb code 0) refl e
      where
        code : ℕ
        code = control_refusal p streaming (selector_at k)

        go : (b : Bool) → eqb code 0 ≡ b → item_code (cond b (profile_item p (selector_at k) (drop 4 r) 0) (Refused code)) ≡ 0
            → cond b (profile_item p (selector_at k) (drop 4 r) 0) (Refused code) ≡ profile_item p (selector_at k) (drop 4 r) 0
        go true q z = refl
        go false q z = absurd (eqb-false code 0 q z)

    set_settings : (b : Bool) → eqb (item_code (record_item p streaming k r)) 0 ≡ b
        → cond b (set_gives p (selector_at k) (drop 4 r)) [] ≡ given_of (record_item p streaming k r)
    set_settings true e = set_gives_lem p ∙ ap given_of (sym (record_item_lem (eqb-true _ 0 e)))
    set_settings false e = sym (refused_nothing (record_item p streaming k r) e)

    pub record_as_set : AsSet p streaming k r
    unfolding gives request_gives set_accepted
    record_as_set = record { code = set-code; settings = λ reply. rw set-code (set_settings _ refl) }
