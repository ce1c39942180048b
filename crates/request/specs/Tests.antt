-- The nine tests of a request, in order, over a table of controls: row n of the table is test n.
use Rattle.std.specs.Prelude.{ℕ}
use mathlib.Core.{List.{List, [], ◌∷◌, ◌++◌}, Option.{Option}, Bool.{Bool, cond, not, ◌&&◌}}
use lib.{Dec.{eqb, ltb}, ListN.{length}}
use Rattle.wire.specs.Rows.{Row, ◌⇒◌, answers, first_of, first_from}
use Rattle.wire.specs.Uvc.{set_cur, invalid_control, invalid_request, invalid_unit, malformed_record, no_room, unknown}
use Rattle.request.specs.Setup.{setup_value_low, setup_selector, setup_code, setup_interface, setup_unit, setup_w_length, is_set_request}
use Rattle.request.specs.Setup.{is_get_request}
use Rattle.request.specs.{Table.{Table}, Answers.{answer_by}, Reply.{sent_length}}

-- test 3: wIndex's high byte is the unit, and its low byte the interface
abbrev pub is_addressed : (unit interface : ℕ) → List ℕ → Bool
is_addressed unit interface setup = eqb (setup_unit setup) unit && eqb (setup_interface setup) interface

-- test 5: wValue's low byte is 0, and type and code are a SET, which the control takes, or a GET
abbrev pub is_understood : (settable : Bool) → List ℕ → Bool
is_understood settable setup = eqb (setup_value_low setup) 0 && cond (is_set_request setup) settable (is_get_request setup)

-- test 6: a GET's payload is empty; a SET's has wLength bytes and the control's length
abbrev pub is_sized : (len : ℕ) → List ℕ → List ℕ → Bool
is_sized len setup payload =
    cond (is_set_request setup) (eqb (length payload) (setup_w_length setup) && eqb (length payload) len) (eqb (length payload) 0)

-- tests 2 to 6
unfoldable pub request_tests : Table → List ℕ → List ℕ → List Row
request_tests t setup payload =
    (not (eqb (length setup) 8) ⇒ unknown)
    ∷ (not (is_addressed t.unit t.interface setup) ⇒ invalid_unit)
    ∷ (not (t.present (setup_selector setup)) ⇒ invalid_control)
    ∷ (not (is_understood (t.settable (setup_selector setup)) setup) ⇒ invalid_request)
    ∷ (not (is_sized (t.set_length (setup_selector setup) payload) setup payload) ⇒ unknown)
    ∷ []

-- tests 7 and 8; a GET has no values
unfoldable pub value_tests : Table → List ℕ → List ℕ → List Row
value_tests t setup payload =
    answers (t.state (setup_selector setup) (setup_code setup))
    ∷ answers (cond (is_set_request setup) (t.values (setup_selector setup) payload) 0)
    ∷ []

-- the number of the first of tests 1 to 7 that fails, before a SET's values and a GET's room are looked at
unfoldable pub admission : Table → List ℕ → List ℕ → ℕ
admission t setup payload =
    first_of
    ((not t.formed ⇒ malformed_record)
    ∷ request_tests t setup payload
    ++ answers (t.state (setup_selector setup) (setup_code setup))
    ∷ [])

-- the full answer to a GET, and how much of it is sent
unfoldable pub full_answer : Table → ℕ → ℕ → List ℕ
full_answer t selector code = answer_by code (t.len selector) (t.info selector) (t.value selector code)

abbrev pub asked : Table → List ℕ → List ℕ
asked t setup = full_answer t (setup_selector setup) (setup_code setup)

abbrev pub sent_count : Table → List ℕ → ℕ
sent_count t setup = sent_length (asked t setup) (setup_w_length setup)

-- all nine; `room` is the length of the reply buffer
unfoldable pub request_rows : Table → List ℕ → List ℕ → ℕ → List Row
request_rows t setup payload room =
    (not t.formed ⇒ malformed_record)
    ∷ request_tests t setup payload
    ++ value_tests t setup payload
    ++ (not (is_set_request setup) && ltb room (sent_count t setup) ⇒ no_room)
    ∷ []

-- the number that answers, and the number of the test that gave it
unfoldable pub request_code : Table → List ℕ → List ℕ → ℕ → ℕ
request_code t setup payload room = first_of (request_rows t setup payload room)

unfoldable pub test_number : Table → List ℕ → List ℕ → ℕ → Option ℕ
test_number t setup payload room = first_from 1 (request_rows t setup payload room)

-- a SET that tests 2 to 8 accept
unfoldable pub set_accepted : Table → List ℕ → List ℕ → Bool
set_accepted t setup payload = is_set_request setup && eqb (first_of (request_tests t setup payload ++ value_tests t setup payload)) 0

-- a SET of a selector before its payload is looked at: tests 4, 5 and 7
unfoldable pub table_refusal : Table → ℕ → ℕ
table_refusal t selector =
    first_of
    ((not (t.present selector) ⇒ invalid_control)
    ∷ (not (t.settable selector) ⇒ invalid_request)
    ∷ answers (t.state selector set_cur)
    ∷ [])
