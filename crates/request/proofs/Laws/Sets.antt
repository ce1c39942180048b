-- SETs, whatever the unit: the number of one, and what the tests of an accepted one say. Assumes nothing.
use mathlib.Core.{Path.{◌≡◌, refl, ap, sym, ◌∙◌}, List.{List, [], ◌∷◌, ◌++◌}, Bool.{Bool, true, false, cond, not, ◌&&◌, and-eq-true_iff}}
use Prim.Native.Nat.{ℕ}
use lib.{Dec.{eqb, ltb}, ListN.{length}}
use borrow.Author.Tests.{eq-eqb, eqb-true, not-false}
use Rattle.wire.specs.{Rows.{Row, ◌⇒◌, first_of, Quiet}, Uvc.{malformed_record, no_room}}
use Rattle.wire.proofs.Laws.Rows.{quiet, quiet_own, own_coded, own_quiet, first_quiet}
use Rattle.request.specs.Setup.{setup_selector, setup_code, setup_value_low, setup_w_length, is_set_request}
use Rattle.request.specs.{Table.{Table}, Tests.{is_addressed, is_sized, request_tests, value_tests, sent_count, request_rows, request_code}}
use Rattle.request.specs.{Tests.{set_accepted}, Requests.{requested_by}}
use Rattle.request.proofs.Laws.Tests.{at_set}

module _ (t : Table) (setup payload : List ℕ) where
  -- tests 2 to 8
  abbrev tests : List Row
  tests = request_tests t setup payload ++ value_tests t setup payload

  abbrev selector : ℕ
  selector = setup_selector setup

  -- the number of a SET, on a well-formed record
  pub set-code : (room : ℕ) → t.formed ≡ true → is_set_request setup ≡ true → request_code t setup payload room ≡ first_of tests
  unfolding request_code request_rows request_tests value_tests
  set-code room w e =
      let last = (not (is_set_request setup) && ltb room (sent_count t setup) ⇒ no_room) ∷ [] in
      let z : first_of last ≡ 0 = rw e in
      ap (λ b. cond (not b) malformed_record (first_of (tests ++ last))) w ∙ first_quiet tests last z

  -- it is accepted where that is 0
  pub set_answer : (room : ℕ) → t.formed ≡ true → is_set_request setup ≡ true
      → set_accepted t setup payload ≡ eqb (request_code t setup payload room) 0
  unfolding set_accepted
  set_answer room w e = rw e (ap (λ (n : ℕ). eqb n 0) (sym (set-code room w e)))

  module _ (a : set_accepted t setup payload ≡ true) where
    accepted_zero : (is_set_request setup ≡ true) × (first_of tests ≡ 0)
    unfolding set_accepted
    accepted_zero = let q = (and-eq-true_iff (is_set_request setup) _).0 a in (q.0, eqb-true _ 0 q.1)

    accepted_quiet : Quiet (request_tests t setup payload) × (first_of (value_tests t setup payload) ≡ 0)
    unfolding request_tests
    accepted_quiet = quiet (request_tests t setup payload) (value_tests t setup payload) refl accepted_zero.1

    -- its control is there and takes a SET
    pub accepted_control : (t.present selector ≡ true) × (t.settable selector ≡ true)
    unfolding request_tests
    accepted_control =
        let q = accepted_quiet.0.1.1 in
        let u = ((and-eq-true_iff (eqb (setup_value_low setup) 0) _).0 (not-false _ q.1.0)).1 in
        (not-false _ q.0, rw accepted_zero.0 at u)

    -- the payload has the control's length
    pub accepted_length : length payload ≡ t.set_length selector payload
    unfolding request_tests
    accepted_length =
        let q = not-false (is_sized (t.set_length selector payload) setup payload) accepted_quiet.0.1.1.1.1.0 in
        let z = rw accepted_zero.0 at q in
        eqb-true (length payload) _ ((and-eq-true_iff (eqb (length payload) (setup_w_length setup)) _).0 z).1

    -- and no value test refuses it
    pub accepted_values : t.values selector payload ≡ 0
    unfolding value_tests
    accepted_values =
        let v = quiet_own (value_tests t setup payload) (own_coded _, (own_coded _, tt)) accepted_quiet.1 in
        rw accepted_zero.0 at (own_quiet (cond (is_set_request setup) (t.values selector payload) 0) v.1.0)

  -- A SET's setup and payload that tests 2 to 6 accept. Past test 7 its values answer.
  pub record Sets : Type 0 where
    pub eight : length setup ≡ 8
    pub addresses : is_addressed t.unit t.interface setup ≡ true
    pub present : t.present selector ≡ true
    pub low : setup_value_low setup ≡ 0
    pub set : is_set_request setup ≡ true
    pub settable : t.settable selector ≡ true
    pub sized : length payload ≡ setup_w_length setup
    pub fits : length payload ≡ t.set_length selector payload

  pub sets_code : (room : ℕ) → t.formed ≡ true → Sets → t.state selector (setup_code setup) ≡ 0
      → request_code t setup payload room ≡ t.values selector payload
  unfolding request_tests
  sets_code room w s y =
      let first : first_of (request_tests t setup payload) ≡ 0 =
      rw (
        eq-eqb (length setup) 8 s.eight,
        s.addresses,
        s.present,
        eq-eqb (setup_value_low setup) 0 s.low,
        s.set,
        s.settable,
        eq-eqb (length payload) (setup_w_length setup) s.sized,
        eq-eqb (length payload) (t.set_length selector payload) s.fits,
      ) in
      at_set t setup payload room w first y s.set

-- the record after a request, which `next` reads off what is handed back: an accepted SET's, or as it was
module _ {R O : Type 0} (out : ℕ → ℕ → R → O) (next : O → R) (reads : (n count : ℕ) (r : R) → next (out n count r) ≡ r) (t : Table)
    (before set : R) (setup payload : List ℕ) (room : ℕ) (w : t.formed ≡ true) where
  pub next_record : next (requested_by out t before set setup payload room) ≡ cond (set_accepted t setup payload) set before
  unfolding set_accepted
  next_record = go (is_set_request setup) refl
    where
      code : ℕ
      code = request_code t setup payload room

      by : (b : Bool) (n count : ℕ) (done : R) → next (cond b (out 0 count done) (out n 0 before)) ≡ cond b done before
      by true n count done = reads 0 count done
      by false n count done = reads n 0 before

      stays : (b : Bool) → cond b before before ≡ before
      stays true = refl
      stays false = refl

      go : (b : Bool) → is_set_request setup ≡ b
          → next (cond (eqb code 0) (cond b (out 0 0 set) (out 0 (sent_count t setup) before)) (out code 0 before))
          ≡ cond (set_accepted t setup payload) set before
      go true e = by (eqb code 0) code 0 set ∙ ap (λ b. cond b set before) (sym (set_answer t setup payload room w e))
      go false e = by (eqb code 0) code (sent_count t setup) before ∙ stays (eqb code 0) ∙ rw e
