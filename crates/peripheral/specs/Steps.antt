-- What the code's steps go by, which its private functions' promises cite. No statement and no public promise depends on this file.
use Rattle.std.specs.Prelude.{ℕ}
use mathlib.Core.{List.{List}, Bool.{cond}}
use Rattle.std.specs.Prelude.{eqb}
use Rattle.wire.specs.Uvc.{get_info, get_len}
use Rattle.request.specs.{declared.tests.Control.{Control}, Requests.{result_by}}
use Rattle.peripheral.specs.declared.record.Peripheral.{Peripheral}
use Rattle.peripheral.specs.Outcomes.{Outcome}
use Rattle.peripheral.specs.Values.{payload_length, info_of, is_settable, set_refusal, after_set, attribute}
use Rattle.peripheral.specs.Requests.{outcome_of}

-- what tests 5 and 6 ask of a control
abbrev pub control_of : ℕ → Control
control_of selector = record { settable = is_settable selector; len = payload_length selector }

-- a GET's full answer is a number of so many bytes
abbrev pub answer_number : Peripheral → (selector code : ℕ) → ℕ
answer_number p selector code =
    cond (eqb code get_len) (payload_length selector) (cond (eqb code get_info) (info_of selector) (attribute p selector code))

abbrev pub answer_length : (selector code : ℕ) → ℕ
answer_length selector code = cond (eqb code get_len) 2 (cond (eqb code get_info) 1 (payload_length selector))

-- past test 7: a SET of a selector
unfoldable pub set_done : Peripheral → ℕ → List ℕ → Outcome
set_done p selector payload =
    result_by outcome_of (set_refusal p.mask selector payload) p (outcome_of 0 0 (after_set p selector payload))
