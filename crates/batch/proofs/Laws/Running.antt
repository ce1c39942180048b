-- Answers laid over a buffer, one behind the other. Assumes nothing.
use mathlib.Core.{Path.{◌≡◌, refl, ap, ap₂, sym, ◌∙◌}, List.{List, [], ◌∷◌, ◌++◌, append_assoc, append-nil}, Bool.{true, false, not}}
use Prim.Native.Nat.{ℕ, ◌+◌, ◌-◌, ◌≤◌, ◌<◌}
use native.Mathlib.Omega.{arith}
use lib.{Dec.{ltb}, ListN.{length, take, drop, length-drop, length-append, drop_of_length-le}, Seq.{take_all, drop-drop}}
use borrow.Author.Tests.{eq-eqb, ne_eqb, le-ltb, ltb-false, not-false}
use Rattle.wire.specs.{Numbers.{bytes_of}, Writes.{overlay}, Rows.{◌⇒◌, first_of}, Uvc.{malformed_record, no_room}}
use Rattle.wire.proofs.Laws.{Rows.{quiet}, Writes.{append, fits, fits_start, no_bytes, same_length, prepend}}
use Rattle.request.proofs.Laws.Rooms.{reply_by, reply_split}
use Rattle.camera.specs.declared.record.Camera.{Camera}
use Rattle.camera.specs.Outcomes.{Outcome, of_request}
use Rattle.camera.specs.Record.{record_well_formed}
use Rattle.camera.specs.Requests.{table, refused, requested_code, requested, requested_reply}
use Rattle.invariants.proofs.Laws.Requests.{outcome_code}
use Rattle.invariants.proofs.Laws.Replies.{Enough, as_sent, count_reply, count_within, reply_handed}
use Rattle.batch.specs.Packing.{Request, data_length, requests_of, is_whole}
use Rattle.batch.specs.Answers.{answer_bytes, sent, answer_to, answers_to, camera_after}
use Rattle.std.specs.Prelude.{Result, Ok, Err}
use Rattle.batch.specs.{declared.refusal.Refusal.{Refusal}, Refusals.{cut_batch, code_of, of_batch}}
use Rattle.batch.specs.Steps.{answered}
use Rattle.batch.proofs.Laws.Refusals.{not_accepted, done, told_code, told_count, told_next}
use Rattle.wire.specs.Refusals.{verdict}
use Rattle.wire.specs.declared.refusal.Refusal as Wire
use Rattle.request.specs.declared.reply.Done.{Done}
use Rattle.batch.specs.Batch.{batch_answers, batch_code, batch_tests, batched, batched_out}
use Rattle.batch.proofs.Laws.Answers.{answers_append, after-append, answer_size, answers_length_lem, sent_same, answer_same, after_stays}
use Rattle.batch.proofs.Laws.Walking.{Walked, at-start, walked_all, walked_next, whole_here}

-- One answer: the reply is laid over first, and then what stands before it.
module _ (c : Camera) (setup payload out : List ℕ) (at : ℕ) (h : at + 3 ≤ length out) where
  -- the part of the buffer that is lent for the reply
  abbrev lent : List ℕ
  lent = take (length out - (at + 3)) (drop (at + 3) out)

  lent_is : lent ≡ drop (at + 3) out
  lent_is = take_all (length out - (at + 3)) (drop (at + 3) out) (simp length-drop (omega arith))

  module _ {o : Outcome} (is-done : o ≡ requested c setup payload (length lent)) where
    pub done_is : o ≡ requested c setup payload (length out - (at + 3))
    done_is = is-done ∙ ap (λ l. requested c setup payload (length l)) lent_is ∙ ap (requested c setup payload) (length-drop (at + 3) out)

    pub answer_laid : {left : List ℕ} → left ≡ requested_reply c setup payload lent
        → overlay (take (at + 3) out ++ (left ++ drop (length out - (at + 3)) (drop (at + 3) out))) at (o.code ∷ bytes_of 2 o.count)
        ≡ overlay out at (answer_bytes o (requested_reply c setup payload (drop (at + 3) out)))
    unfolding answer_bytes bytes_of
    answer_laid {left} is-left =
        let reply = drop (at + 3) out in
        let handed = reply_by (table c) setup payload (requested_code c setup payload (length reply)) in
        let front = o.code ∷ bytes_of 2 o.count in
        let done : o ≡ requested c setup payload (length reply) = is-done ∙ ap (λ l. requested c setup payload (length l)) lent_is in
        let taken : take o.count (requested_reply c setup payload reply) ≡ handed =
        ap (λ q. take q.count (requested_reply c setup payload reply)) done ∙ reply_handed c setup payload reply in
        let long : length reply ≡ length out - (at + 3) = length-drop (at + 3) out in
        let room : length handed ≤ length reply =
        omega (arith, count_reply c setup payload (length reply), count_within c setup payload (length reply)) in
        let laid : take (at + 3) out ++ (left ++ drop (length out - (at + 3)) reply) ≡ overlay out (at + 3) handed =
        ap₂ (λ l r. take (at + 3) out ++ (l ++ r))
        (is-left ∙ ap (requested_reply c setup payload) lent_is ∙ reply_split (table c) setup payload reply)
        (drop_of_length-le reply {i = length out - (at + 3)} (omega arith))
        ∙ ap (λ l. take (at + 3) out ++ l)
        (append-nil (handed ++ drop (length handed) reply) ∙ ap (λ l. handed ++ l) (drop-drop (length handed) (at + 3) out))
        ∙ sym (append_assoc (take (at + 3) out) handed (drop (at + 3 + length handed) out))
        ∙ sym (fits out (at + 3) handed (omega arith)) in
        ap (λ b. overlay b at front) laid
        ∙ prepend out at front handed (omega arith)
        ∙ ap (λ l. overlay out at (front ++ l)) (sym taken)

  -- what the code makes of the request's result, laid over and handed on
  module _ (r : Result (Done Camera) Wire.Refusal) (is : of_request c r ≡ requested c setup payload (length lent)) where
    pub front_laid : {left : List ℕ} → left ≡ requested_reply c setup payload lent
        → overlay (take (at + 3) out ++ (left ++ drop (length out - (at + 3)) (drop (at + 3) out))) at (verdict r ∷ bytes_of 2 (done c r).count)
        ≡ overlay out at
        (answer_bytes (requested c setup payload (length out - (at + 3))) (requested_reply c setup payload (drop (at + 3) out)))
    front_laid {left} is-left =
        ap₂ (λ (k n : ℕ). overlay (take (at + 3) out ++ (left ++ drop (length out - (at + 3)) (drop (at + 3) out))) at (k ∷ bytes_of 2 n)) (sym (told_code c r)) (sym (told_count c r))
        ∙ answer_laid is is-left
        ∙ ap (λ o. overlay out at (answer_bytes o (requested_reply c setup payload (drop (at + 3) out)))) (done_is is)

    pub handed_on : answered (requested c setup payload (length out - (at + 3))) (done c r)
    handed_on =
        (sym (told_count c r) ∙ ap (λ o. o.count) (done_is is), sym (told_next c r) ∙ ap (λ o. o.camera) (done_is is))

-- a batch's number
pub number_is : (c : Camera) (s : List ℕ) (room : ℕ) → (batched c s room).code ≡ batch_code c s room
unfolding batched
number_is c s room = outcome_code (batch_code c s room) _ _ refl

-- a batch that is not refused
pub record Accepted (c : Camera) (s : List ℕ) (room : ℕ) : Type 0 where
  pub formed : record_well_formed c ≡ true
  pub whole : is_whole s ≡ true
  pub fits : length (batch_answers c s) ≤ room

pub accepted : (c : Camera) (s : List ℕ) (room : ℕ) → batch_code c s room ≡ 0 → Accepted c s room
unfolding batch_code
accepted c s room e =
    let q =
    (quiet ((not (record_well_formed c) ⇒ malformed_record) ∷ (not (is_whole s) ⇒ cut_batch)
    ∷ (ltb room (length (batch_answers c s)) ⇒ no_room) ∷ []) [] refl e).0 in
    record {
      formed = not-false _ q.0;
      whole = not-false _ q.1.0;
      fits = ltb-false room (length (batch_answers c s)) q.1.1.0;
    }

pub accepts : (c : Camera) (s : List ℕ) (room : ℕ) → Accepted c s room → batch_code c s room ≡ 0
unfolding batch_code
accepts c s room a = rw (a.formed, a.whole, le-ltb room (length (batch_answers c s)) a.fits)

-- a batch that is refused, and the tests that the profile and the bytes decide
module _ (c : Camera) (s out : List ℕ) where
  pub batch_refused : (code : ℕ) → batch_code c s (length out) ≡ code → (code ≡ 0 → ⊥)
      → (refused code c ≡ batched c s (length out)) × (out ≡ batched_out c s out)
  unfolding batched batched_out
  batch_refused code e n = (rw (e, ne_eqb code 0 n), rw (e, ne_eqb code 0 n))

  pub batch_malformed : record_well_formed c ≡ false
      → (refused malformed_record c ≡ batched c s (length out)) × (out ≡ batched_out c s out)
  unfolding batch_code
  batch_malformed w = batch_refused malformed_record (rw w) (λ e. omega arith)

pub code_by_profile : (c : Camera) (s : List ℕ) (room : ℕ) → record_well_formed c ≡ true
    → batch_code c s room ≡ first_of (batch_tests c.profile s room)
unfolding batch_code batch_tests
code_by_profile c s room w = rw (w, answers_length_lem c w (requests_of s))

-- the same by the refusal that the code finds, and what the code has found where it finds none
module _ (c : Camera) (s out : List ℕ) (w : record_well_formed c ≡ true) where
  module _ (e : Refusal) (is : code_of e ≡ first_of (batch_tests c.profile s (length out))) where
    pub found_value : of_batch c (Err e) ≡ batched c s (length out)
    found_value = (batch_refused c s out (code_of e) (code_by_profile c s (length out) w ∙ sym is) (not_accepted e)).0

    pub found_out : out ≡ batched_out c s out
    found_out = (batch_refused c s out (code_of e) (code_by_profile c s (length out) w ∙ sym is) (not_accepted e)).1

  pub found_none : 0 ≡ first_of (batch_tests c.profile s (length out)) → batch_code c s (length out) ≡ 0
  found_none is = code_by_profile c s (length out) w ∙ sym is

-- The requests before a place are answered: the record that they left, and their answers over the start of the buffer.
pub record Answered (c : Camera) (s out₀ out : List ℕ) (next : Camera) (written at : ℕ) : Type 0 where
  pub passed : List Request
  pub walked : Walked s at passed
  pub camera : next ≡ camera_after c passed
  pub laid : out ≡ overlay out₀ 0 (answers_to c passed)
  pub count : written ≡ length (answers_to c passed)

pub answered_none : (c : Camera) (s out : List ℕ) → Answered c s out out c 0 0
answered_none c s out = record { passed = []; walked = at-start s; camera = refl; laid = sym (no_bytes out); count = refl }

module _ (c : Camera) (s out₀ : List ℕ) (a : Accepted c s (length out₀)) where
  -- there is room for the answers to the requests before any place
  room_for : {at : ℕ} {passed : List Request} → Walked s at passed → length (answers_to c passed) ≤ length out₀
  room_for {at} {passed} w =
      let rest = answers_to (camera_after c passed) (requests_of (drop at s)) in
      let e : batch_answers c s ≡ answers_to c passed ++ rest =
      ap (answers_to c) w.requests ∙ answers_append c passed (requests_of (drop at s)) in
      omega (arith, a.fits, ap length e, length-append (answers_to c passed) rest)

  module _ {out : List ℕ} {next : Camera} {written at : ℕ} (d : Answered c s out₀ out next written at) where
    pub same_long : length out ≡ length out₀
    same_long = ap length d.laid ∙ same_length out₀ 0 (answers_to c d.passed)

    next_formed : record_well_formed next ≡ true
    next_formed = rw d.camera (after_stays c a.formed d.passed).formed

    -- a turn, by what the calls ensure
    module _ {setup : List ℕ} {len : ℕ} (is-setup : setup ≡ take 8 (drop at s)) (is-len : len ≡ data_length setup) (l : at < length s)
        {payload : List ℕ} (is-payload : payload ≡ take len (drop (at + 8) s)) where
      abbrev here : Request
      here = record { setup = setup; payload = payload }

      next_walked : Walked s (at + (8 + len)) (d.passed ++ (here ∷ []))
      next_walked = walked_next d.walked is-setup is-len (whole_here d.walked is-setup is-len a.whole l) is-payload

      answers_here : answers_to c (d.passed ++ (here ∷ [])) ≡ answers_to c d.passed ++ answer_to next here
      answers_here =
          answers_append c d.passed (here ∷ [])
          ∙ ap (λ l. answers_to c d.passed ++ l) (append-nil _ ∙ ap (λ q. answer_to q here) (sym d.camera))

      pub fits_here : at + (8 + len) ≤ length s
      fits_here = next_walked.within

      pub room_here : written + (3 + (sent next here).count) ≤ length out₀
      room_here = omega (
        arith,
        d.count,
        room_for next_walked,
        ap length answers_here,
        length-append (answers_to c d.passed) (answer_to next here),
        answer_size next here,
      )

      module _ {o : Outcome} (is-done : o ≡ requested next setup payload (length out - (written + 3))) where
        abbrev reply : List ℕ
        reply = drop (written + 3) out

        long : length reply ≡ length out - (written + 3)
        long = length-drop (written + 3) out

        enough : Enough next next_formed setup payload (length reply)
        enough = as_sent next next_formed setup payload (length reply) (omega (arith, long, same_long, room_here))

        done_here : o ≡ requested next setup payload (length reply)
        done_here = is-done ∙ ap (requested next setup payload) (sym long)

        done_sent : o ≡ sent next here
        done_sent = done_here ∙ sent_same next next_formed here reply enough

        pub count_here : written + (3 + o.count) ≤ length out₀
        count_here = omega (arith, room_here, ap (λ q. q.count) done_sent)

        pub answered_next : {after : List ℕ} → after ≡ overlay out written (answer_bytes o (requested_reply next setup payload reply))
            → Answered c s out₀ after o.camera (written + (3 + o.count)) (at + (8 + len))
        answered_next is-after = record {
          passed = d.passed ++ (here ∷ []);
          walked = next_walked;
          camera = ap (λ q. q.camera) done_sent ∙ ap (λ q. (sent q here).camera) d.camera ∙ sym (after-append c d.passed (here ∷ []));
          laid = is-after
              ∙ ap (overlay out written)
              (ap (λ q. answer_bytes q (requested_reply next setup payload reply)) done_here ∙ answer_same next next_formed here reply enough)
              ∙ ap₂ (λ (b : List ℕ) (n : ℕ). overlay b n (answer_to next here)) d.laid d.count
              ∙ append out₀ (answers_to c d.passed) (answer_to next here)
              ∙ ap (overlay out₀ 0) (sym answers_here);
          count = omega (
            arith,
            d.count,
            ap (λ q. q.count) done_sent,
            ap length answers_here,
            length-append (answers_to c d.passed) (answer_to next here),
            answer_size next here,
          );
        }

    -- all of them
    pub answered_all : batch_code c s (length out₀) ≡ 0 → length s ≤ at
        → (record { code = 0; count = written; camera = next } ≡ batched c s (length out₀)) × (out ≡ batched_out c s out₀)
    unfolding batched batched_out
    answered_all z h =
        let e = walked_all d.walked h in
        let q = eq-eqb (batch_code c s (length out₀)) 0 z in
        (rw (q, e, d.count, d.camera), d.laid ∙ rw (q, e) (fits_start out₀ (answers_to c d.passed) (room_for d.walked)))
