-- What a request hands back and leaves in the reply buffer, by the first of its tests that fails, whatever the unit. Assumes nothing.
use mathlib.Core.{Path.{◌≡◌, refl, ap₂, sym, ◌∙◌}, List.{List, [], ◌∷◌, ◌++◌}, Bool.{Bool, true, false, cond, not, ◌&&◌}}
use Prim.Native.Nat.{ℕ}
use native.Mathlib.Omega.{arith}
use lib.{Dec.{eqb, ltb}, ListN.{length}}
use borrow.Author.Tests.{ne_eqb, eqb-true}
use Rattle.wire.specs.{Rows.{Row, ◌⇒◌, answers, first_of}, Uvc.{malformed_record, no_room}}
use Rattle.request.specs.Reply.{Sent}
use Rattle.request.specs.Setup.{setup_selector, setup_code, setup_w_length, is_set_request}
use Rattle.request.specs.Table.{Table}
use Rattle.request.specs.Tests.{request_tests, value_tests, admission, asked, sent_count, request_rows, request_code}
use Rattle.request.specs.Reply.{sent_length, sent_of, reply_of}
use Rattle.request.specs.Requests.{request_count, replied, result_by, done_by, requested_by}
use Rattle.request.proofs.Laws.Tests.{at_unformed, at_tests, at_state, at_set, at_get, at_admission, admitted, set_replied, get_sent}

-- a call by its number, where `code` reads it off what is handed back
module _ {R O : Type 0} (out : ℕ → ℕ → R → O) (code : O → ℕ) (reads : (n count : ℕ) (r : R) → code (out n count r) ≡ n) where
  pub result_code : (n : ℕ) (before : R) (done : O) → code done ≡ 0 → code (result_by out n before done) ≡ n
  result_code n before done z = go (eqb n 0) refl
    where
      go : (b : Bool) → eqb n 0 ≡ b → code (cond b done (out n 0 before)) ≡ n
      go true e = z ∙ sym (eqb-true n 0 e)
      go false e = reads n 0 before

  -- where that is not 0, it is refused
  pub result_refused : (n : ℕ) (before : R) (done : O) → code done ≡ 0 → (code (result_by out n before done) ≡ 0 → ⊥)
      → (n ≡ 0 → ⊥) × (result_by out n before done ≡ out n 0 before)
  result_refused n before done z bad =
      let bad_number : n ≡ 0 → ⊥ = λ e. bad (result_code n before done z ∙ e) in
      (bad_number, rw (ne_eqb n 0 bad_number))

  pub done_code : (t : Table) (before set : R) (setup : List ℕ) → code (done_by out t before set setup) ≡ 0
  done_code t before set setup = go (is_set_request setup)
    where
      go : (b : Bool) → code (cond b (out 0 0 set) (out 0 (sent_count t setup) before)) ≡ 0
      go true = reads 0 0 set
      go false = reads 0 (sent_count t setup) before

-- what it reports, which `count` reads off
pub requested_count : {R O : Type 0} (out : ℕ → ℕ → R → O) (count : O → ℕ) → ((code n : ℕ) (r : R) → count (out code n r) ≡ n)
    → (t : Table) (before set : R) (setup payload : List ℕ) (room : ℕ)
    → count (requested_by out t before set setup payload room) ≡ request_count t setup payload room
unfolding request_count
requested_count out count reads t before set setup payload room = go (eqb code 0) (is_set_request setup)
  where
    code : ℕ
    code = request_code t setup payload room

    go : (a b : Bool) → count (cond a (cond b (out 0 0 set) (out 0 (sent_count t setup) before)) (out code 0 before))
        ≡ cond (a && not b) (sent_count t setup) 0
    go true true = reads 0 0 set
    go true false = reads 0 (sent_count t setup) before
    go false true = reads code 0 before
    go false false = reads code 0 before

module _ {R O : Type 0} (out : ℕ → ℕ → R → O) (t : Table) (before set : R) (setup payload reply : List ℕ) where
  abbrev number : ℕ
  number = request_code t setup payload (length reply)

  -- what is handed back, and what is left in the reply buffer
  abbrev pub Answers : O → List ℕ → Type 0
  Answers o after = (o ≡ requested_by out t before set setup payload (length reply)) × (after ≡ replied t setup payload reply)

  pub refusal_answers : (code : ℕ) → number ≡ code → (code ≡ 0 → ⊥) → Answers (out code 0 before) reply
  unfolding replied
  refusal_answers code e n = (rw (e, ne_eqb code 0 n), rw (e, ne_eqb code 0 n))

  pub malformed : t.formed ≡ false → Answers (out malformed_record 0 before) reply
  malformed w = refusal_answers malformed_record (at_unformed t setup payload (length reply) w) (λ e. omega arith)

  module _ (w : t.formed ≡ true) where
    pub tests_fail : (first_of (request_tests t setup payload) ≡ 0 → ⊥)
        → Answers (out (first_of (request_tests t setup payload)) 0 before) reply
    tests_fail n = refusal_answers _ (at_tests t setup payload (length reply) w n) n

    module _ (z : first_of (request_tests t setup payload) ≡ 0) where
      abbrev state : ℕ
      state = t.state (setup_selector setup) (setup_code setup)

      pub state_fails : (state ≡ 0 → ⊥) → Answers (out state 0 before) reply
      state_fails n = refusal_answers _ (at_state t setup payload (length reply) w z n) n

      module _ (y : state ≡ 0) where
        pub a-set : is_set_request setup ≡ true → Answers (result_by out (t.values (setup_selector setup) payload) before (out 0 0 set)) reply
        a-set e =
            let n = at_set t setup payload (length reply) w z y e in
            (rw (n, e), set_replied t setup payload reply e)

        abbrev sent : Sent
        sent = sent_of (asked t setup) (setup_w_length setup) (length reply)

        pub a_get : is_set_request setup ≡ false
            → Answers (out sent.code sent.count before) (reply_of (asked t setup) (setup_w_length setup) reply)
        a_get e =
            let r = get_sent t setup payload reply e (at_get t setup payload (length reply) w z y e) in
            (rw (← r.1, e) (go (eqb number 0)), r.0)
          where
            by : Bool → Sent
            by b = cond b (record { code = 0; count = sent_count t setup }) (record { code = number; count = 0 })

            go : (b : Bool) → out (by b).code (by b).count before ≡ cond b (out 0 (sent_count t setup) before) (out number 0 before)
            go true = refl
            go false = refl

  -- the same for a unit that tests 1 to 7 first
  pub not_admitted : (admission t setup payload ≡ 0 → ⊥) → Answers (out (admission t setup payload) 0 before) reply
  not_admitted n = refusal_answers _ (at_admission t setup payload (length reply) n) n

  module _ (z : admission t setup payload ≡ 0) where
    abbrev passed : (t.formed ≡ true) × (first_of (request_tests t setup payload) ≡ 0)
        × (t.state (setup_selector setup) (setup_code setup) ≡ 0)
    passed = admitted t setup payload z

    pub admitted_set : is_set_request setup ≡ true
        → Answers (result_by out (t.values (setup_selector setup) payload) before (out 0 0 set)) reply
    admitted_set = a-set passed.0 passed.1 passed.2

    pub admitted_get : is_set_request setup ≡ false → let sent = sent_of (asked t setup) (setup_w_length setup) (length reply) in
        Answers (out sent.code sent.count before) (reply_of (asked t setup) (setup_w_length setup) reply)
    admitted_get = a_get passed.0 passed.1 passed.2

-- two units that a request finds alike: whatever is no SET is answered alike
module _ (t u : Table) (setup payload : List ℕ) (no-set : is_set_request setup ≡ false) (formed : t.formed ≡ u.formed)
    (tests : request_tests t setup payload ≡ request_tests u setup payload)
    (state : t.state (setup_selector setup) (setup_code setup) ≡ u.state (setup_selector setup) (setup_code setup))
    (answer : asked t setup ≡ asked u setup) where
  pub same_code : (room : ℕ) → request_code t setup payload room ≡ request_code u setup payload room
  unfolding request_code request_rows value_tests
  same_code room =
      of t
      ∙ ap₂ (λ f rows. code f rows (t.state (setup_selector setup) (setup_code setup)) (asked t setup)) formed tests
      ∙ ap₂ (code u.formed (request_tests u setup payload)) state answer
      ∙ sym (of u)
    where
      code : Bool → List Row → ℕ → List ℕ → ℕ
      code f rows n full =
          first_of
          ((not f ⇒ malformed_record)
          ∷ rows
          ++ (answers n ∷ answers 0 ∷ [])
          ++ (ltb room (sent_length full (setup_w_length setup)) ⇒ no_room)
          ∷ [])

      of : (x : Table) → request_code x setup payload room
          ≡ code x.formed (request_tests x setup payload) (x.state (setup_selector setup) (setup_code setup)) (asked x setup)
      of x = rw no-set

  pub same_count : (room : ℕ) → request_count t setup payload room ≡ request_count u setup payload room
  unfolding request_count
  same_count room = rw (same_code room, answer)

  pub same_replied : (reply : List ℕ) → replied t setup payload reply ≡ replied u setup payload reply
  unfolding replied
  same_replied reply = rw (same_code (length reply), answer)
