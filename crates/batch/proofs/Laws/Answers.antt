-- The answers to requests, one after another: what each is with any room that suffices, and how long they are. Assumes nothing.
use mathlib.Core.{Path.{◌≡◌, refl, ap, ap₂, sym, ◌∙◌}, List.{List, [], ◌∷◌, ◌++◌, append_assoc}, Bool.{Bool, true, false}}
use Prim.Native.Nat.{ℕ, ◌+◌, ◌≤◌, min}
use native.Mathlib.Omega.{arith}
use lib.{Dec.{eqb}, ListN.{length, replicate, length-append, length-replicate}, Seq.{length-take-le}}
use borrow.Author.Tests.{eqb-true, eqb-false}
use Rattle.wire.specs.{Numbers.{bytes_of}, Rows.{first_of}}
use Rattle.request.specs.Setup.{setup_code, setup_selector, setup_w_length, is_set_request}
use Rattle.request.specs.{Tests.{request_tests}, Answers.{longest_answer}}
use Rattle.request.proofs.Laws.Rooms.{reply_length_lem}
use Rattle.profile.specs.{declared.Profile.{Profile}, Profile.{profile_valid}}
use Rattle.answering.specs.Answering.{answer_length}
use Rattle.camera.specs.declared.record.Camera.{Camera}
use Rattle.camera.specs.Outcomes.{Outcome}
use Rattle.camera.specs.Record.{fresh, record_well_formed}
use Rattle.camera.specs.Requests.{rules, table, requested, requested_reply}
use Rattle.camera.proofs.Laws.Record.{formed_profile}
use Rattle.invariants.proofs.Laws.{Kept.{none_formed}, Requests.{Stays, request_stays}}
use Rattle.invariants.proofs.Laws.Replies.{Enough, ample, count_within, count_refused, count_set, count_get, sent_short}
use Rattle.invariants.proofs.Laws.Replies.{same_outcome, same_reply}
use Rattle.batch.specs.Packing.{Request}
use Rattle.batch.specs.Answers.{answer_bytes, ample_room, sent, sent_reply, answer_to, answers_to, camera_after, reply_length, answers_length}

-- an answer's length
pub answer_long : (o : Outcome) (reply : List ℕ) → o.count ≤ length reply → length (answer_bytes o reply) ≡ 3 + o.count
unfolding answer_bytes bytes_of
answer_long o reply h = omega (arith, length-take-le o.count reply h)

module _ (c : Camera) (w : record_well_formed c ≡ true) (r : Request) where
  abbrev pub ample_here : Enough c w r.setup r.payload ample_room
  ample_here = ample c w r.setup r.payload ample_room (omega arith)

  -- a request sent with any room that suffices
  module _ (reply : List ℕ) (e : Enough c w r.setup r.payload (length reply)) where
    pub sent_same : requested c r.setup r.payload (length reply) ≡ sent c r
    sent_same = same_outcome c w r.setup r.payload (length reply) e ample_room ample_here

    pub answer_same : answer_bytes (requested c r.setup r.payload (length reply)) (requested_reply c r.setup r.payload reply)
        ≡ answer_to c r
    unfolding answer_bytes
    answer_same =
        ap₂ (λ (o : Outcome) (l : List ℕ). o.code ∷ bytes_of 2 o.count ++ l) sent_same
        (same_reply c w r.setup r.payload reply (replicate ample_room 0) e ample_here)

-- How many bytes of reply a request sends, by the profile's tests: none where these refuse it, none of a SET, and a GET's answer up to
-- wLength.
module _ (p : Profile) (v : profile_valid p ≡ true) (r : Request) where
  abbrev fresh_formed : record_well_formed (fresh p true) ≡ true
  fresh_formed = none_formed p v

  abbrev pub tests : ℕ
  tests = first_of (request_tests (rules p true) r.setup r.payload)

  pub reply_refused : (tests ≡ 0 → ⊥) → 0 ≡ reply_length p r
  reply_refused n = sym (count_refused (fresh p true) fresh_formed r.setup r.payload n ample_room)

  pub reply_set : is_set_request r.setup ≡ true → 0 ≡ reply_length p r
  reply_set e = sym (count_set (fresh p true) fresh_formed r.setup r.payload e ample_room)

  pub reply_get : tests ≡ 0 → is_set_request r.setup ≡ false
      → min (setup_w_length r.setup) (answer_length p (setup_selector r.setup) (setup_code r.setup)) ≡ reply_length p r
  reply_get z e =
      sym (count_get (fresh p true) fresh_formed r.setup r.payload z e ample_room
      (sent_short (fresh p true) fresh_formed r.setup r.payload z))

  pub reply_within : reply_length p r ≤ longest_answer
  reply_within = count_within (fresh p true) r.setup r.payload ample_room

-- so a record of the profile that is not refused 0x21 sends as many, whatever its settings and its flag
pub sent_count_lem : (c : Camera) → record_well_formed c ≡ true → (r : Request) → (sent c r).count ≡ reply_length c.profile r
unfolding request_tests
sent_count_lem c w r = go (eqb first 0) (is_set_request r.setup) refl refl
  where
    first : ℕ
    first = first_of (request_tests (table c) r.setup r.payload)

    v : profile_valid c.profile ≡ true
    v = formed_profile c w

    go : (a b : Bool) → eqb first 0 ≡ a → is_set_request r.setup ≡ b → (sent c r).count ≡ reply_length c.profile r
    go false b p q =
        let n = eqb-false first 0 p in
        count_refused c w r.setup r.payload n ample_room ∙ reply_refused c.profile v r n
    go true true p q = count_set c w r.setup r.payload q ample_room ∙ reply_set c.profile v r q
    go true false p q =
        let z = eqb-true first 0 p in
        count_get c w r.setup r.payload z q ample_room (sent_short c w r.setup r.payload z) ∙ reply_get c.profile v r z q

-- how long an answer is
pub answer_size : (c : Camera) (r : Request) → length (answer_to c r) ≡ 3 + (sent c r).count
answer_size c r =
    answer_long (sent c r) (sent_reply c r)
    (omega (
      arith,
      count_within c r.setup r.payload ample_room,
      reply_length_lem (table c) r.setup r.payload (replicate ample_room 0),
      length-replicate {A = ℕ} ample_room 0,
    ))

-- a request leaves a record of the same profile that is not refused either
module _ (c : Camera) (w : record_well_formed c ≡ true) where
  pub sent_stays : (r : Request) → Stays c (sent c r).camera
  sent_stays r = request_stays c r.setup r.payload ample_room w

-- how long the answers to requests are
pub answers_length_lem : (c : Camera) → record_well_formed c ≡ true → (rs : List Request)
    → length (answers_to c rs) ≡ answers_length c.profile rs
answers_length_lem c w [] = refl
answers_length_lem c w (r ∷ rs) =
    let next = sent_stays c w r in
    simp length-append (omega (
      arith,
      answer_size c r,
      sent_count_lem c w r,
      answers_length_lem (sent c r).camera next.formed rs,
      ap (λ p. answers_length p rs) next.profile,
    ))

-- the record after requests
pub after_stays : (c : Camera) → record_well_formed c ≡ true → (rs : List Request) → Stays c (camera_after c rs)
after_stays c w [] = record { profile = refl; streaming = refl; formed = w }
after_stays c w (r ∷ rs) =
    let next = sent_stays c w r in
    let after = after_stays (sent c r).camera next.formed rs in
    record { profile = after.profile ∙ next.profile; streaming = after.streaming ∙ next.streaming; formed = after.formed }

-- requests in two parts
pub answers_append : (c : Camera) (a b : List Request) → answers_to c (a ++ b) ≡ answers_to c a ++ answers_to (camera_after c a) b
answers_append c [] b = refl
answers_append c (r ∷ a) b =
    ap (λ l. answer_to c r ++ l) (answers_append (sent c r).camera a b)
    ∙ sym (append_assoc (answer_to c r) (answers_to (sent c r).camera a) (answers_to (camera_after c (r ∷ a)) b))

pub after-append : (c : Camera) (a b : List Request) → camera_after c (a ++ b) ≡ camera_after (camera_after c a) b
after-append c [] b = refl
after-append c (r ∷ a) b = after-append (sent c r).camera a b

pub length_parts : (p : Profile) (a b : List Request) → answers_length p (a ++ b) ≡ answers_length p a + answers_length p b
length_parts p [] b = omega arith
length_parts p (r ∷ a) b = omega (arith, length_parts p a b)
