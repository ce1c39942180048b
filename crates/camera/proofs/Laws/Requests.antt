-- What a request comes to, by the first of its tests that fails. Assumes nothing.
use mathlib.Core.{Path.{◌≡◌, refl, ap, ap₂, sym, ◌∙◌}, List.{List, [], ◌∷◌}, Bool.{Bool, true, false, cond, not}}
use Prim.Native.Nat.{ℕ}
use Rattle.std.specs.Prelude.{Result, Ok, Err}
use Rattle.wire.specs.{declared.refusal.Refusal.{Refusal}, Refusals.{code_of}}
use lib.{Dec.{eqb}, ListN.{length}}
use borrow.Author.Tests.{eq-eqb, ne_eqb, eqb-true}
use Rattle.wire.specs.{Rows.{◌⇒◌, answers, first_of}, Uvc.{set_cur, malformed_record, invalid_control, invalid_request}}
use Rattle.request.specs.Setup.{setup_selector, setup_code, setup_w_length, is_set_request}
use Rattle.request.specs.{Tests.{request_tests, asked, table_refusal}, Reply.{Sent, sent_told, sent_of, reply_of}}
use Rattle.request.specs.{declared.tests.{Unit.{Unit}, Control.{Control}}, Table.{table_of}}
use Rattle.request.proofs.Laws.Requests as requests
use Rattle.profile.specs.Profile.{has, is_settable, profile_refusal, extension_unit, profile_control}
use Rattle.profile.specs.{declared.Profile.{Profile}, Items.{set_refusal}}
use Rattle.settings.specs.Items.{SetTaken, set_gives, set_taken}
use Rattle.camera.specs.declared.record.Camera.{Camera}
use Rattle.camera.specs.Outcomes.{Outcome}
use Rattle.camera.specs.Record.{puts, with_settings, record_well_formed}
use Rattle.camera.specs.Requests.{state_refusal, table, control_refusal, outcome_of, refused, request_done, requested, requested_reply}
use Rattle.camera.specs.{Calls.{record_code}, Steps.{set_done}}
use Rattle.wire.proofs.Laws.{Refusals.{not_accepted}, Rows.{answers_number}}
use Rattle.camera.proofs.Laws.Record.{record_good, record_bad}

-- a SET before its payload is looked at: the profile's own tests, then test 7
module _ (p : Profile) (streaming : Bool) (selector : ℕ) where
  own : ℕ
  own = profile_refusal p selector

  state : ℕ
  state = state_refusal streaming selector set_cur

  by_profile : control_refusal p streaming selector ≡ cond (eqb own 0) state own
  unfolding own state table_refusal profile_refusal
  by_profile = go (has p selector) (is_settable p selector) state
    where
      go : (h t : Bool) (n : ℕ)
          → first_of ((not h ⇒ invalid_control) ∷ (not t ⇒ invalid_request) ∷ answers n ∷ [])
          ≡ cond (eqb (first_of ((not h ⇒ invalid_control) ∷ (not t ⇒ invalid_request) ∷ [])) 0) n
          (first_of ((not h ⇒ invalid_control) ∷ (not t ⇒ invalid_request) ∷ []))
      go true true n = answers_number n
      go true false n = refl
      go false t n = refl

  pub control_refused : {code : ℕ} → code ≡ profile_refusal p selector → (code ≡ 0 → ⊥) → code ≡ control_refusal p streaming selector
  unfolding own
  control_refused e n = e ∙ sym (by_profile ∙ rw (ne_eqb own 0 (λ z. n (e ∙ z))))

  pub control_state : {code : ℕ} → code ≡ profile_refusal p selector → code ≡ 0
      → state_refusal streaming selector set_cur ≡ control_refusal p streaming selector
  unfolding own state
  control_state e z = sym (by_profile ∙ rw (eq-eqb own 0 (sym e ∙ z)))

-- what `check_set` goes by
pub ruleset before_payload = (control_refused, control_state, not_accepted)

-- a SET that passed tests 1 to 7
pub set_done_lem : (c : Camera) (selector : ℕ) (payload : List ℕ) {t : SetTaken} → t ≡ set_taken c.profile c.settings selector payload
    → ◌≡◌ {A = Outcome} (record { code = t.code; count = 0; camera = with_settings c t.settings }) (set_done c selector payload)
unfolding set_taken set_done
set_done_lem c selector payload {t} is = rw is (go (eqb code 0) refl)
  where
    code : ℕ
    code = set_refusal c.profile selector payload

    go : (b : Bool) → eqb code 0 ≡ b
        → ◌≡◌ {A = Outcome} (record {
          code = code;
          count = 0;
          camera = with_settings c
              (cond b (puts c (set_gives c.profile selector payload)).settings c.settings);
        })
        (cond b (record { code = 0; count = 0; camera = puts c (set_gives c.profile selector payload) }) (refused code c))
    go true e = rw (eqb-true code 0 e)
    go false e = refl

-- what is answered, and what is left in the reply buffer
abbrev pub Answers : Camera → List ℕ → List ℕ → List ℕ → Outcome → List ℕ → Type 0
Answers c s payload reply o after = (o ≡ requested c s payload (length reply)) × (after ≡ requested_reply c s payload reply)

-- `request` has these of any unit
module _ (c : Camera) (s payload reply : List ℕ) where
  abbrev after : Camera
  after = puts c (set_gives c.profile (setup_selector s) payload)

  abbrev sent : Sent
  sent = sent_of (asked (table c) s) (setup_w_length s) (length reply)

  pub malformed : record_well_formed c ≡ false → Answers c s payload reply (refused malformed_record c) reply
  unfolding requested request_done
  malformed = requests.malformed outcome_of (table c) c after s payload reply

  module _ (w : record_well_formed c ≡ true) where
    pub tests_fail : (first_of (request_tests (table c) s payload) ≡ 0 → ⊥)
        → Answers c s payload reply (refused (first_of (request_tests (table c) s payload)) c) reply
    unfolding requested request_done
    tests_fail = requests.tests_fail outcome_of (table c) c after s payload reply w

    module _ (t : first_of (request_tests (table c) s payload) ≡ 0) where
      pub state_fails : (state_refusal c.streaming (setup_selector s) (setup_code s) ≡ 0 → ⊥)
          → Answers c s payload reply (refused (state_refusal c.streaming (setup_selector s) (setup_code s)) c) reply
      unfolding requested request_done
      state_fails = requests.state_fails outcome_of (table c) c after s payload reply w t

      module _ (y : state_refusal c.streaming (setup_selector s) (setup_code s) ≡ 0) where
        pub a-set : is_set_request s ≡ true → Answers c s payload reply (set_done c (setup_selector s) payload) reply
        unfolding requested set_done request_done
        a-set = requests.a-set outcome_of (table c) c after s payload reply w t y

        pub a_get : is_set_request s ≡ false
            → Answers c s payload reply (outcome_of sent.code sent.count c) (reply_of (asked (table c) s) (setup_w_length s) reply)
        unfolding requested request_done
        a_get = requests.a_get outcome_of (table c) c after s payload reply w t y

-- The same by what the calls of the code ensure.
module _ (c : Camera) (s payload reply : List ℕ) where
  -- test 1
  module _ {n : ℕ} (e : n ≡ record_code c) (bad : n ≡ 0 → ⊥) where
    unformed : Answers c s payload reply (refused n c) reply
    unformed = let w = record_bad c e bad in rw w.1 (malformed c s payload reply w.0)

    pub malformed_value : refused n c ≡ requested c s payload (length reply)
    malformed_value = unformed.0

    pub malformed_reply : reply ≡ requested_reply c s payload reply
    malformed_reply = unformed.1

  -- tests 2 to 6
  module _ (good : record_code c ≡ 0) {u : Unit} {k : Control} {selector n : ℕ} (is-selector : selector ≡ setup_selector s)
      (is-unit : u ≡ extension_unit c.profile) (is-control : k ≡ profile_control c.profile selector payload)
      (tested : n ≡ first_of (request_tests (table_of u k) s payload)) where
    told : n ≡ first_of (request_tests (table c) s payload)
    unfolding request_tests extension_unit profile_control
    told =
        tested
        ∙ ap₂ (λ u k. first_of (request_tests (table_of u k) s payload)) is-unit
        (is-control ∙ ap (λ (m : ℕ). profile_control c.profile m payload) is-selector)

    module _ (bad : n ≡ 0 → ⊥) where
      failed : Answers c s payload reply (refused n c) reply
      failed = rw told (tests_fail c s payload reply (record_good c good) (λ z. bad (told ∙ z)))

      pub tests_value : refused n c ≡ requested c s payload (length reply)
      tests_value = failed.0

      pub tests_reply : reply ≡ requested_reply c s payload reply
      tests_reply = failed.1

    -- test 7
    module _ (z : n ≡ 0) {code state : ℕ} (is_code : code ≡ setup_code s) (is-state : state ≡ state_refusal c.streaming selector code) where
      passed : first_of (request_tests (table c) s payload) ≡ 0
      passed = sym told ∙ z

      state_told : state ≡ state_refusal c.streaming (setup_selector s) (setup_code s)
      state_told = is-state ∙ ap₂ (state_refusal c.streaming) is-selector is_code

      module _ (bad : state ≡ 0 → ⊥) where
        stopped : Answers c s payload reply (refused state c) reply
        stopped = rw state_told (state_fails c s payload reply (record_good c good) passed (λ z. bad (state_told ∙ z)))

        pub state_value : refused state c ≡ requested c s payload (length reply)
        state_value = stopped.0

        pub state_reply : reply ≡ requested_reply c s payload reply
        state_reply = stopped.1

      -- a SET, and a GET
      module _ (y : state ≡ 0) where
        set : is_set_request s ≡ true → Answers c s payload reply (set_done c (setup_selector s) payload) reply
        set = a-set c s payload reply (record_good c good) passed (sym state_told ∙ y)

        pub set_value : {o : Outcome} → is_set_request s ≡ true → o ≡ set_done c selector payload → o ≡ requested c s payload (length reply)
        set_value g e = e ∙ ap (λ (m : ℕ). set_done c m payload) is-selector ∙ (set g).0

        pub set_reply : is_set_request s ≡ true → reply ≡ requested_reply c s payload reply
        set_reply g = (set g).1

        module _ (g : is_set_request s ≡ false) where
          abbrev gives : Sent
          gives = sent_of (asked (table c) s) (setup_w_length s) (length reply)

          get : Answers c s payload reply (outcome_of gives.code gives.count c) (reply_of (asked (table c) s) (setup_w_length s) reply)
          get = a_get c s payload reply (record_good c good) passed (sym state_told ∙ y) g

          pub get_refused : {r : Result ℕ Refusal} {e : Refusal} → sent_told r ≡ gives → r ≡ Err e
              → refused (code_of e) c ≡ requested c s payload (length reply)
          get_refused told is = ap (λ (r : Result ℕ Refusal). outcome_of (sent_told r).code (sent_told r).count c) (sym is)
              ∙ ap (λ (n : Sent). outcome_of n.code n.count c) told
              ∙ get.0

          pub get_sent : {r : Result ℕ Refusal} {count : ℕ} → sent_told r ≡ gives → r ≡ Ok count
              → outcome_of 0 count c ≡ requested c s payload (length reply)
          get_sent told is = ap (λ (r : Result ℕ Refusal). outcome_of (sent_told r).code (sent_told r).count c) (sym is)
              ∙ ap (λ (n : Sent). outcome_of n.code n.count c) told
              ∙ get.0

          pub get_reply : {left : List ℕ} → left ≡ reply_of (asked (table c) s) (setup_w_length s) reply
              → left ≡ requested_reply c s payload reply
          get_reply e = e ∙ get.1

-- what `request` goes by
pub ruleset requesting = (
  malformed_value,
  malformed_reply,
  tests_value,
  tests_reply,
  state_value,
  state_reply,
  set_value,
  set_reply,
  get_refused,
  get_reply,
  not_accepted,
)
