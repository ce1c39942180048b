-- Every answer of a unit with 002's own mask, 0x85, after a SET of its third mode, of the toggle and of the reset, and a count of 12:
-- of each control CUR, MIN, MAX, RES, LEN, INFO and DEF, as document 002 and request #101 have them.
use Rattle.std.specs.Prelude.{ℕ}
use mathlib.Core.{Path.{◌≡◌}, List.{List, [], ◌∷◌, map}}
use Rattle.request.specs.Tests.{full_answer}
use Rattle.peripheral.specs.{declared.record.Peripheral.{Peripheral}, Record.{fresh}, Requests.{table}, Calls.{Call, request, count, run}}

-- unit 6 on interface 2
abbrev pub set_call : (control : ℕ) → (wLength : ℕ) → List ℕ → Call
set_call control wLength payload = request (0x21 ∷ 0x01 ∷ 0x00 ∷ control ∷ 0x02 ∷ 0x06 ∷ wLength ∷ 0x00 ∷ []) payload []

abbrev pub room : Peripheral
room =
    run (fresh 6 2 0x85)
    (set_call 0x01 8 (0x80 ∷ 0 ∷ 0 ∷ 0 ∷ 0 ∷ 0 ∷ 0 ∷ 0 ∷ []) ∷ set_call 0x03 1 (1 ∷ []) ∷ set_call 0x06 1 (1 ∷ []) ∷ count 12 ∷ [])

-- GET_CUR to GET_DEF of a control
abbrev pub answers_of : ℕ → List (List ℕ)
answers_of control = map (full_answer (table room) control) (0x81 ∷ 0x82 ∷ 0x83 ∷ 0x84 ∷ 0x85 ∷ 0x86 ∷ 0x87 ∷ [])

abbrev pub AllAnswers : Type 0
AllAnswers =
    map answers_of (0x01 ∷ 0x03 ∷ 0x04 ∷ 0x06 ∷ [])
    ≡ ((0x80 ∷ 0 ∷ 0 ∷ 0 ∷ 0 ∷ 0 ∷ 0 ∷ 0 ∷ [])
    ∷ (0 ∷ 0 ∷ 0 ∷ 0 ∷ 0 ∷ 0 ∷ 0 ∷ 0 ∷ [])
    ∷ (0x85 ∷ 0 ∷ 0 ∷ 0 ∷ 0 ∷ 0 ∷ 0 ∷ 0 ∷ [])
    ∷ (0x85 ∷ 0 ∷ 0 ∷ 0 ∷ 0 ∷ 0 ∷ 0 ∷ 0 ∷ [])
    ∷ (8 ∷ 0 ∷ [])
    ∷ (0x0B ∷ [])
    ∷ (0 ∷ 0 ∷ 0 ∷ 0 ∷ 0 ∷ 0 ∷ 0 ∷ 0 ∷ [])
    ∷ [])
    ∷ ((1 ∷ []) ∷ (0 ∷ []) ∷ (1 ∷ []) ∷ (1 ∷ []) ∷ (1 ∷ 0 ∷ []) ∷ (0x0B ∷ []) ∷ (0 ∷ []) ∷ [])
    ∷ ((12 ∷ 0 ∷ []) ∷ (0 ∷ 0 ∷ []) ∷ (0xFF ∷ 0 ∷ []) ∷ (1 ∷ 0 ∷ []) ∷ (2 ∷ 0 ∷ []) ∷ (0x09 ∷ []) ∷ (0 ∷ 0 ∷ []) ∷ [])
    ∷ ((1 ∷ []) ∷ (0 ∷ []) ∷ (1 ∷ []) ∷ (1 ∷ []) ∷ (1 ∷ 0 ∷ []) ∷ (0x03 ∷ []) ∷ (0 ∷ []) ∷ [])
    ∷ []
