-- What holds of every unit's requests. Assumes nothing.
use mathlib.Core.{Path.{◌≡◌, refl, subst, sym, ◌∙◌}, List.{List, [], ◌∷◌, ◌++◌}, Option.{none, some}}
use mathlib.Core.Bool.{Bool, true, false, cond, not, ◌&&◌, and-eq-true_iff}
use Prim.Native.Nat.{ℕ, suc, ◌<◌}
use native.Mathlib.Omega.{arith}
use lib.{Dec.{eqb, ltb}, ListN.{length}}
use borrow.Author.Tests.{eq-eqb, ne_eqb, eqb-true, le-ltb, ltb-true, not-false}
use Rattle.wire.specs.{Rows.{Row, ◌⇒◌, first_of, first_from, AnswersAt}, Uvc.{invalid_unit, malformed_record, no_room}}
use Rattle.wire.proofs.Laws.Rows.{answers_at, answers_none, last_answers}
use Rattle.request.specs.Setup.{setup_type, setup_value_low, setup_selector, setup_unit, setup_interface, is_set_request, is_get_request}
use Rattle.request.specs.{Table.{Table}, Answers.{answer_by}}
use Rattle.request.specs.Tests.{is_addressed, request_tests, value_tests, full_answer, sent_count, request_rows, request_code, test_number}
use Rattle.request.specs.Requests.{request_count, replied, done_by}
use Rattle.request.specs.Theorems.{AllOrdered, RequestRefusals, GetSends, GetSetup, GetAccepted, ElsewhereRefused, LenAnswers}
use Rattle.request.specs.Theorems.{InfoAnswers, AllUnits}
use Rattle.request.proofs.Laws.Tests.{at_tests, at_get, request_quiet, set_replied}
use Rattle.request.proofs.Laws.Requests.{result_code, done_code, requested_count}

-- no row's place is found where none answers
none_answers : (k : ℕ) (l : List Row) → first_from k l ≡ none → first_of l ≡ 0
none_answers k [] e = refl
none_answers k ((true ⇒ code) ∷ l) e = let z : ◌≡◌ {A = ℕ} 0 1 = cc in absurd (omega arith)
none_answers k ((false ⇒ code) ∷ l) e = none_answers (suc k) l e

pub ordered : AllOrdered
unfolding request_rows request_tests value_tests test_number request_code
ordered t setup payload room = record {
  nine = refl;
  numbers = refl;
  answered = λ i e.
      let r = answers_at 1 (request_rows t setup payload room) (suc i) e in
      let q : r.0 ≡ i = omega (arith, r.1.0) in
      subst (AnswersAt (request_rows t setup payload room)) q r.1.1;
  from_one = λ e. let r = answers_at 1 (request_rows t setup payload room) 0 e in omega (arith, r.1.0);
  accepted = λ e. answers_none 1 (request_rows t setup payload room) (request_quiet t setup payload room e);
  none_fails = none_answers 1 (request_rows t setup payload room);
}

pub refusals : RequestRefusals
unfolding request_count replied
refusals t setup payload reply n = let e = ne_eqb (request_code t setup payload (length reply)) 0 n in record { count = rw e; buffer = rw e }

pub get_sends : GetSends
unfolding request_count replied
get_sends t setup payload reply g e = record { count = rw (eq-eqb _ 0 e, g); buffer = rw (eq-eqb _ 0 e, g) }

-- where test 9 answers, the control is there and the buffer is shorter than what is to be sent
pub ninth : (t : Table) (setup payload : List ℕ) (room : ℕ) → test_number t setup payload room ≡ some 9
    → (t.present (setup_selector setup) ≡ true) × (room < sent_count t setup)
unfolding test_number request_rows request_tests value_tests
ninth t setup payload room e =
    let q =
    last_answers 1 ((not t.formed ⇒ malformed_record) ∷ request_tests t setup payload ++ value_tests t setup payload)
    (not (is_set_request setup) && ltb room (sent_count t setup)) no_room e in
    (not-false _ q.0.1.1.1.0, ltb-true _ _ ((and-eq-true_iff (not (is_set_request setup)) _).0 q.1).1)

-- a GET is no SET
pub get_no_set : (setup : List ℕ) → is_get_request setup ≡ true → is_set_request setup ≡ false
get_no_set setup h =
    let q = simp and-eq-true_iff at h in
    let t : setup_type setup ≡ 0xA1 = eqb-true (setup_type setup) 0xA1 q.0.0 in
    rw t

-- a GET of a control passes tests 2 to 6
pub gets_tests : (t : Table) (setup : List ℕ) → GetSetup t.unit t.interface t.present setup → first_of (request_tests t setup []) ≡ 0
unfolding request_tests
gets_tests t setup g =
    rw (
      eq-eqb (length setup) 8 g.eight,
      g.addresses,
      g.there,
      eq-eqb (setup_value_low setup) 0 g.low,
      get_no_set setup g.get,
      g.get,
    )

pub get_accepted : GetAccepted
get_accepted t setup room w g y h =
    at_get t setup [] room w (gets_tests t setup g) y (get_no_set setup g.get) ∙ rw (le-ltb room (sent_count t setup) h)

pub elsewhere_refused : ElsewhereRefused
unfolding request_tests
elsewhere_refused t unit interface setup payload room w n a other =
    let first : first_of (request_tests t setup payload) ≡ invalid_unit = rw (eq-eqb (length setup) 8 n, no-match) in
    at_tests t setup payload room w (λ z. omega (arith, first)) ∙ first
  where
    no-match : is_addressed t.unit t.interface setup ≡ false
    no-match = go (is_addressed t.unit t.interface setup) refl
      where
        go : (b : Bool) → is_addressed t.unit t.interface setup ≡ b → b ≡ false
        go true e =
            let p = simp and-eq-true_iff at a in
            let q = simp and-eq-true_iff at e in
            absurd (other (
              sym (eqb-true (setup_unit setup) unit p.0) ∙ eqb-true (setup_unit setup) t.unit q.0,
              sym (eqb-true (setup_interface setup) interface p.1) ∙ eqb-true (setup_interface setup) t.interface q.1,
            ))
        go false e = refl

pub len_answers : LenAnswers
unfolding full_answer answer_by
len_answers t selector = refl

pub info_answers : InfoAnswers
unfolding full_answer answer_by
info_answers t selector = refl

pub all_units : AllUnits
unfolding request_count
all_units R O out code count reads t before set setup payload reply =
    let number = request_code t setup payload (length reply) in
    let code_is =
    result_code out code (λ n k r. (reads n k r).0) number before (done_by out t before set setup)
    (done_code out code (λ n k r. (reads n k r).0) t before set setup) in
    let count-is = requested_count out count (λ n k r. (reads n k r).1) t before set setup payload (length reply) in
    record {
      ordered = ordered t setup payload (length reply);
      answered = code_is;
      refused = λ n. let r = refusals t setup payload reply (λ z. n (code_is ∙ z)) in (count-is ∙ r.count, r.buffer);
      set = λ e. (count-is ∙ rw e (no_count (eqb number 0)), sym (set_replied t setup payload reply e));
      sent = λ e z. let r = get_sends t setup payload reply e (sym code_is ∙ z) in (count-is ∙ r.count, r.buffer);
    }
  where
    no_count : (b : Bool) → cond (b && false) (sent_count t setup) 0 ≡ 0
    no_count true = refl
    no_count false = refl
