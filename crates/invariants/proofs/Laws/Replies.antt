-- The reply of a request to a record that is not refused 0x21: how long it is, by the profile and the request alone, and room that always
-- suffices. Assumes nothing.
use mathlib.Core.{Path.{◌≡◌, refl, ap, sym, ◌∙◌}, List.{List, []}, Option.{some}}
use mathlib.Core.Bool.{Bool, true, false, cond, not, ◌&&◌, and-eq-true_iff}
use Prim.Native.Nat.{ℕ, ◌≤◌, min}
use native.Mathlib.Omega.{arith}
use lib.{Dec.{eqb}, ListN.{length, take}}
use borrow.Author.Tests.{ne_eqb, leb-true, not-false, le-ltb}
use Rattle.wire.specs.{Endpoints.{endpoint_limit}, Rows.{first_of, Quiet}, Uvc.{get_cur, set_cur, wrong_state}}
use Rattle.wire.specs.Selectors as selector
use Rattle.wire.proofs.Laws.Rows.{quiet}
use Rattle.request.specs.Setup.{setup_code, setup_selector, setup_value_low, setup_w_length, is_set_request, is_get_request}
use Rattle.request.specs.Tests.{request_tests, full_answer, sent_count, test_number}
use Rattle.request.specs.{Answers.{longest_answer}, Requests.{request_count}}
use Rattle.request.proofs.Laws.{Rooms.{reply_by, reply_count, reply_within, reply_front, enough}, Requests.{requested_count}}
use Rattle.request.proofs.{Theorems.{ninth}, Laws.Tests.{at_tests, at_get}}
use Rattle.face.specs.Limits.{endpoints_of}
use Rattle.face.proofs.Laws.Limits.{count_most}
use Rattle.profile.specs.Profile.{has}
use Rattle.profile.proofs.Laws.Profile.{valid_face}
use Rattle.settings.specs.Items.{set_gives}
use Rattle.answering.specs.Answering.{control_answer, answer_length}
use Rattle.answering.proofs.Laws.Answering.{answer_fits, length_fixed}
use Rattle.camera.specs.{declared.record.Camera.{Camera}, Record.{record_well_formed, puts}}
use Rattle.camera.specs.Requests.{table, state_refusal, outcome_of, outcome_by, requested_code, request_done, requested}
use Rattle.camera.specs.Requests.{requested_reply, camera_answer}
use Rattle.camera.proofs.Laws.Record.{formed_profile}

-- what a request reports, by the number that answers it
module _ (c : Camera) (s payload : List ℕ) (room : ℕ) where
  count-is : (requested c s payload room).count ≡ request_count (table c) s payload room
  unfolding requested request_done
  count-is =
      requested_count outcome_of (λ o. o.count) (λ code n c. refl) (table c) c (puts c (set_gives c.profile (setup_selector s) payload)) s
      payload room

  pub count_reply : (requested c s payload room).count ≡ length (reply_by (table c) s payload (requested_code c s payload room))
  count_reply = count-is ∙ reply_count (table c) s payload room

  pub count_within : (requested c s payload room).count ≤ room
  count_within = omega (arith, count_reply, reply_within (table c) s payload room)

-- the bytes of the buffer that it reports
pub reply_handed : (c : Camera) (s payload reply : List ℕ)
    → take (requested c s payload (length reply)).count (requested_reply c s payload reply)
    ≡ reply_by (table c) s payload (requested_code c s payload (length reply))
reply_handed c s payload reply = rw (count-is c s payload (length reply)) (reply_front (table c) s payload reply)

module _ (c : Camera) (w : record_well_formed c ≡ true) where
  pub few : has c.profile selector.face ≡ true → endpoints_of c.profile.face ≤ endpoint_limit
  few h = omega (arith, count_most _ c.profile.face (valid_face c.profile (formed_profile c w) h))

  -- the answer of a control that is there
  pub answer_short : (control code : ℕ) → has c.profile control ≡ true → length (camera_answer c control code) ≤ longest_answer
  unfolding control_answer full_answer
  answer_short control code h = answer_fits c.profile c.settings control code (λ e. few (rw e at h))

  module _ (s payload : List ℕ) where
    abbrev first : ℕ
    first = first_of (request_tests (table c) s payload)

    -- past tests 2 to 6 the control is there, and what is no SET is a GET
    module _ (z : first ≡ 0) where
      passed : Quiet (request_tests (table c) s payload)
      unfolding request_tests
      passed = (quiet (request_tests (table c) s payload) [] refl z).0

      there : has c.profile (setup_selector s) ≡ true
      unfolding request_tests
      there = not-false _ passed.1.1.0

      pub sent_short : sent_count (table c) s ≤ longest_answer
      sent_short = omega (arith, answer_short (setup_selector s) (setup_code s) there)

      module _ (g : is_set_request s ≡ false) where
        is_get : is_get_request s ≡ true
        unfolding request_tests
        is_get =
            let q = ((and-eq-true_iff (eqb (setup_value_low s) 0) _).0 (not-false _ passed.1.1.1.0)).1 in
            rw g at q

        -- which test 7 does not look at
        get_state : state_refusal c.streaming (setup_selector s) (setup_code s) ≡ 0
        get_state =
            let q = simp and-eq-true_iff at is_get in
            let h = leb-true get_cur (setup_code s) q.0.1 in
            rw (ne_eqb (setup_code s) set_cur (λ e. omega arith)) (go (eqb (setup_selector s) selector.throttle))
          where
            go : (b : Bool) → cond {A = ℕ} (b && false && not c.streaming) wrong_state 0 ≡ 0
            go true = refl
            go false = refl

        get_code : (room : ℕ) → sent_count (table c) s ≤ room → requested_code c s payload room ≡ 0
        get_code room h = at_get (table c) s payload room w z get_state g ∙ rw (le-ltb room (sent_count (table c) s) h)

    -- what is reported where tests 2 to 6 refuse, of a SET, and of a GET with room
    pub count_refused : (first ≡ 0 → ⊥) → (room : ℕ) → (requested c s payload room).count ≡ 0
    unfolding request_count
    count_refused n room = count-is c s payload room ∙ rw (at_tests (table c) s payload room w n, ne_eqb first 0 n)

    pub count_set : is_set_request s ≡ true → (room : ℕ) → (requested c s payload room).count ≡ 0
    unfolding request_count
    count_set e room = count-is c s payload room ∙ rw e (go (eqb (requested_code c s payload room) 0))
      where
        go : (b : Bool) → cond (b && false) (sent_count (table c) s) 0 ≡ 0
        go true = refl
        go false = refl

    pub count_sent : first ≡ 0 → is_set_request s ≡ false → (room : ℕ) → sent_count (table c) s ≤ room
        → (requested c s payload room).count ≡ sent_count (table c) s
    unfolding request_count
    count_sent z g room h = count-is c s payload room ∙ rw (get_code z g room h, g)

    -- the last goes by the profile
    pub count_get : first ≡ 0 → is_set_request s ≡ false → (room : ℕ) → sent_count (table c) s ≤ room
        → (requested c s payload room).count ≡ min (setup_w_length s) (answer_length c.profile (setup_selector s) (setup_code s))
    unfolding control_answer full_answer
    count_get z g room h =
        count_sent z g room h
        ∙ ap (min (setup_w_length s)) (length_fixed c.profile c.settings (setup_selector s) (setup_code s))

    -- room for what a GET sends
    abbrev pub Enough : ℕ → Type 0
    Enough room = first ≡ 0 → is_set_request s ≡ false → sent_count (table c) s ≤ room

    pub ample : (room : ℕ) → longest_answer ≤ room → Enough room
    ample room h z g = omega (arith, sent_short z)

    -- so test 9 refuses no request
    pub no_ninth : (room : ℕ) → longest_answer ≤ room → test_number (table c) s payload room ≡ some 9 → ⊥
    no_ninth room h e =
        let q = ninth (table c) s payload room e in
        omega (arith, answer_short (setup_selector s) (setup_code s) q.0, q.1)

    pub as_sent : (room : ℕ) → (requested c s payload longest_answer).count ≤ room → Enough room
    as_sent room h z g = omega (arith, count_sent z g longest_answer (sent_short z))

    -- with enough of it a request hands back and sends the same
    module _ (room : ℕ) (e : Enough room) (other : ℕ) (f : Enough other) where
      same_code : requested_code c s payload room ≡ requested_code c s payload other
      same_code = enough (table c) s payload w room other (λ z g. (e z g, f z g))

      pub same_outcome : requested c s payload room ≡ requested c s payload other
      unfolding requested
      same_outcome = ap (λ (n : ℕ). outcome_by n c (request_done c s payload)) same_code

    pub same_reply : (a b : List ℕ) → Enough (length a) → Enough (length b)
        → take (requested c s payload (length a)).count (requested_reply c s payload a)
        ≡ take (requested c s payload (length b)).count (requested_reply c s payload b)
    same_reply a b e f =
        reply_handed c s payload a
        ∙ ap (reply_by (table c) s payload) (same_code (length a) e (length b) f)
        ∙ sym (reply_handed c s payload b)
