-- Request #107, up to fifteen endpoints; specs/Endpoints has the statements. Assumes nothing.
use mathlib.Core.{Path.{◌≡◌, refl, ap, sym, ◌∙◌}, List.{List, [], ◌∷◌, ◌++◌}}
use mathlib.Core.Bool.{Bool, true, false, cond}
use Prim.Native.Nat.{ℕ, ◌-◌, ◌≤◌}
use native.Mathlib.Omega.{arith}
use lib.{Dec.{eqb}, ListN.{length, get_or, drop}, Seq.{get_or-drop}}
use borrow.Author.Tests.{eq-eqb, ne_eqb}
use Rattle.wire.specs.{Endpoints.{endpoint_limit}, Numbers.{number, le_at, bytes_of, bits32}, Rows.{all_below}}
use Rattle.wire.specs.Uvc.{out_of_range}
use Rattle.wire.specs.Selectors as selector
use Rattle.flags.specs.Flags.{is_set, bits_of, count, first, one_flag}
use Rattle.request.specs.{Setup.{is_set_request, setup_selector}, Answers.{answer_by, longest_answer}}
use Rattle.request.specs.Tests.{request_tests, value_tests, full_answer, request_rows, request_code, table_refusal}
use Rattle.snapshot.specs.Records.{records, encode, IsRecord, KeyedRecord}
use Rattle.snapshot.proofs.Laws.Entries.{each_record, each_at}
use Rattle.controls.specs.Controls.{item_of, item_code, first_refusal}
use Rattle.exposure.specs.Exposure.{in_range, refusal_at, ev_refusal, ev_bytes}
use Rattle.face.specs.Limits.{endpoints_of, address_before, endpoint_valid, face_valid_under, offers_from, offers_of}
use Rattle.face.specs.Answers.{flags_at, entries_of, face_value}
use Rattle.face.proofs.{Theorems.{limit_raised, zeros_behind}, Laws.Limits.{offers_unlisted}}
use Rattle.entries.specs.Entries.{entry_address, seen_in, face_set_length, is_choice, entry_refusal, face_item, setting_refusal}
use Rattle.entries.proofs.Laws.{Entries.{entry_code}, Payload.{len_longest}}
use Rattle.metadata.specs.Metadata.{metadata_refusal}
use Rattle.hdr.specs.Hdr.{hdr_refusal}
use Rattle.throttle.specs.Throttle.{throttle_refusal, throttle_bytes}
use Rattle.profile.specs.{declared.Profile.{Profile}, Items.{profile_item, set_refusal}}
use Rattle.profile.specs.Profile.{has, set_length, presence_valid, profile_valid, profile_valid_under, profile_refusal}
use Rattle.profile.proofs.Laws.Profile.{valid_face}
use Rattle.settings.specs.{Held.{settings_held}, Kept.{value_refusal, kept, settings_well_formed_under}}
use Rattle.answering.specs.Answering.{value_of}
use Rattle.camera.specs.{declared.record.Camera.{Camera}, Record.{record_well_formed, record_well_formed_under}}
use Rattle.camera.specs.{Requests.{rules, refused, request_done, requested}, Writing.{snapshot}}
use Rattle.camera.specs.Loading.{selector_at, record_item, load_code, load_code_under, loaded, loaded_under}
use Rattle.camera.proofs.Laws.Record.{formed_profile}
use Rattle.invariants.proofs.Laws.{Requests.{set_answer}, Replies.{few, answer_short, no_ninth}}
use Rattle.encoding.specs.Encoding.{record_of}
use Rattle.demands.specs.Calls.{request, outcome}
use Rattle.demands.specs.Loading.{set_code, first_fault}
use Rattle.demands.specs.Endpoints.{AllCameraLengths, LengthsReached, full_profile, full_camera, old_limit, old_outcome, OldShapesLoad}
use Rattle.demands.specs.Endpoints.{Unlisted, RefusesUnlisted, AllNewSnapshots}
use Rattle.demands.proofs.{Refusals.{by_number}, Loading.{record_as_set, load_fault}}
use Rattle.demands.proofs.Laws.{Longest.{snapshot_short, snapshot_most}, Older.{load_narrow}, Sets.{is_kind}}
use Rattle.request.proofs.Laws.Sets.{accepted_control, accepted_length}

-- the longest

module _ (c : Camera) (w : record_well_formed c ≡ true) where
  payload_short : (setup payload reply : List ℕ) → is_set_request setup ≡ true → setup_selector setup ≡ selector.face
      → (outcome c (request setup payload reply)).code ≡ 0 → length payload ≤ longest_answer
  payload_short setup payload reply i f e =
      let a = set_answer c setup payload (length reply) w i ∙ eq-eqb _ 0 e in
      let h : has c.profile selector.face ≡ true = rw f at (accepted_control (rules c.profile c.streaming) setup payload a).0 in
      let l : length payload ≡ set_length c.profile selector.face payload =
      rw f at (accepted_length (rules c.profile c.streaming) setup payload a) in
      omega (arith, few c w h, len_longest c.profile.face (valid_face c.profile (formed_profile c w) h) payload)

pub camera_lengths : AllCameraLengths
camera_lengths c w = record {
  payload = λ setup payload reply i f e. omega (arith, payload_short c w setup payload reply i f e);
  answer = λ h code. omega (arith, answer_short c w selector.face code h);
  reply = λ setup payload reply h e. no_ninth c w setup payload (length reply) (omega arith) e;
  written = omega (arith, snapshot_most c w);
  listed = snapshot_short c w;
}

-- computed
pub lengths_reached : LengthsReached
unfolding full_profile full_camera number le_at bytes_of bits32 all_below is_set bits_of count first one_flag answer_by
    request_tests value_tests full_answer request_rows request_code records encode item_of item_code first_refusal in_range refusal_at ev_refusal
    ev_bytes address_before endpoint_valid face_valid_under offers_from offers_of flags_at entries_of face_value seen_in face_set_length is_choice
    entry_refusal face_item setting_refusal metadata_refusal hdr_refusal throttle_refusal throttle_bytes presence_valid profile_valid_under
    profile_refusal profile_item set_refusal settings_held value_refusal kept settings_well_formed_under value_of request_done requested
    snapshot record_of
lengths_reached = record { formed = refl; answer = refl; payload = refl; written = refl }

-- snapshots saved before

pub old_shapes_load : OldShapesLoad
unfolding settings_well_formed_under profile_valid_under loaded_under load_code_under
old_shapes_load c zeros =
    let z = zeros_behind _ c.profile.face zeros old_limit (omega arith) in
    let e : record_well_formed_under old_limit c ≡ record_well_formed c =
    rw (limit_raised old_limit (endpoint_limit - old_limit) c.profile.face z) in
    let loads : (s : List ℕ) → loaded_under old_limit c s ≡ loaded c s = λ s. rw e in
    record { formed = e; loads = loads; narrow = λ s. load_narrow c z s ∙ ap old_outcome (loads s) }

-- new snapshots on an older camera

-- the records behind are asked where those before have no fault
fault_append : (p : Profile) (f : Bool) (before l : List KeyedRecord)
    → first_fault p f (before ++ l) ≡ cond (eqb (first_fault p f before) 0) (first_fault p f l) (first_fault p f before)
fault_append p f [] l = refl
fault_append p f (x ∷ before) l = go (eqb (set_code p f x.0 x.1) 0) refl (fault_append p f before l)
  where
    go : (b : Bool) → eqb (set_code p f x.0 x.1) 0 ≡ b
        → first_fault p f (before ++ l) ≡ cond (eqb (first_fault p f before) 0) (first_fault p f l) (first_fault p f before)
        → cond b (first_fault p f (before ++ l)) (set_code p f x.0 x.1)
        ≡ cond (eqb (cond b (first_fault p f before) (set_code p f x.0 x.1)) 0) (first_fault p f l)
        (cond b (first_fault p f before) (set_code p f x.0 x.1))
    go true q ih = ih
    go false q ih = rw q

-- a record of an endpoint that the profile doesn't list is 0x04
unlisted_code : (p : Profile) → profile_valid p ≡ true → has p selector.face ≡ true → (f : Bool) (k : ℕ) (r : List ℕ) → IsRecord k r
    → Unlisted p r → set_code p f k r ≡ out_of_range
unfolding record_item table_refusal profile_item entry_refusal offers_of
unlisted_code p v h f k r g u =
    let kind : selector_at k ≡ selector.face = is_kind k r g ∙ u.kind in
    let none : offers_of p.face (entry_address (drop 4 r) 0) ≡ 0 =
    ap (offers_of p.face) (get_or-drop 4 r 1 0)
    ∙ offers_unlisted p.face (get_or r 5 0) (endpoints_of p.face) 0 (λ j l. u.address j (omega arith)) in
    (record_as_set p v f k r g).code
    ∙ rw (kind, h) (entry_code p.face (drop 4 r) 0 ∙ rw none)

-- a load by its number
load_refused : (c : Camera) (s : List ℕ) (code : ℕ) → (loaded c s).code ≡ code → (code ≡ 0 → ⊥) → loaded c s ≡ refused code c
unfolding loaded_under
load_refused c s code e n =
    let r = (by_number (load_code c s) c _ refl (λ z. n (sym e ∙ z))).1 in
    r ∙ ap (λ code. refused code c) (sym (ap (λ o. o.code) r) ∙ e)

refuses_unlisted : (c : Camera) → record_well_formed c ≡ true → RefusesUnlisted endpoint_limit c
refuses_unlisted c w h s f before after e split u =
    let p = c.profile in
    let on = c.streaming in
    let v = formed_profile c w in
    let is = each_at IsRecord before after e (rw split at (each_record s f)) in
    let here = unlisted_code p v h on e.0 e.1 is u in
    let all = load_fault c w s f ∙ ap (first_fault p on) split ∙ fault_append p on before (e ∷ after) in
    record {
      first = λ z. load_refused c s out_of_range (all ∙ rw (z, here)) (λ q. omega arith);
      earlier = λ n. load_refused c s (first_fault p on before) (all ∙ rw (ne_eqb (first_fault p on before) 0 n)) n;
    }

pub new_snapshots : AllNewSnapshots
new_snapshots c = record {
  now = refuses_unlisted c;
  older = λ z w h s f before after e split u.
      let b = old_shapes_load c z in
      let r = refuses_unlisted c (sym b.formed ∙ w) h s f before after e split u in
      record { first = λ q. b.loads s ∙ r.first q; earlier = λ n. b.loads s ∙ r.earlier n };
}
