-- Request #101: the values of the four controls. What is said of a selector that is none of theirs is never asked, by test 4.
use Rattle.std.specs.Prelude.{ℕ}
use mathlib.Core.{List.{List}, Bool.{Bool, cond, not, ◌&&◌}}
use lib.{Dec.{eqb}, ListN.{get_or}}
use Rattle.wire.specs.{Numbers.{le_at}, Uvc.{get_cur, get_max, get_res, wrong_state, out_of_range, invalid_value}}
use Rattle.peripheral.specs.Selectors as selector
use Rattle.peripheral.specs.declared.record.Peripheral.{Peripheral}
use Rattle.peripheral.specs.Record.{mode_valid, is_switch, most, with_mode, with_toggle, with_reset}

-- frame strategy has eight bytes, the reading two, the toggle and the reset one
abbrev pub payload_length : ℕ → ℕ
payload_length s = cond (eqb s selector.strategy) 8 (cond (eqb s selector.reading) 2 1)

-- INFO: D0 GET and D1 SET, of the reading GET alone; D3, the unit changes it by itself, of all but the reset
abbrev pub info_of : ℕ → ℕ
info_of s = cond (eqb s selector.reading) 0x09 (cond (eqb s selector.reset) 0x03 0x0B)

abbrev pub is_settable : ℕ → Bool
is_settable s = not (eqb s selector.reading)

-- test 7: GET_CUR of the reading while the toggle is 0
abbrev pub state_refusal : (toggle selector code : ℕ) → ℕ
state_refusal toggle s code = cond (eqb s selector.reading && eqb code get_cur && eqb toggle 0) wrong_state 0

-- the mode, and the switch, that a payload asks for
abbrev pub payload_mode : List ℕ → ℕ
payload_mode payload = le_at 8 payload 0

abbrev pub payload_switch : List ℕ → ℕ
payload_switch payload = get_or payload 0 0

-- test 8 of a SET
unfoldable pub set_refusal : (mask selector : ℕ) → List ℕ → ℕ
set_refusal mask s payload =
    cond (eqb s selector.strategy)
    (cond (mode_valid mask (payload_mode payload)) 0 invalid_value)
    (cond (is_switch (payload_switch payload)) 0 out_of_range)

-- what an accepted SET leaves; a reset of 0 changes nothing
unfoldable pub after_set : Peripheral → ℕ → List ℕ → Peripheral
after_set p s payload =
    cond (eqb s selector.strategy) (with_mode p (payload_mode payload))
    (cond (eqb s selector.toggle) (with_toggle p (payload_switch payload))
    (cond (eqb (payload_switch payload) 0) p (with_reset p (payload_switch payload))))

-- the number that is current, the largest one, and the resolution, which of frame strategy is the mask of supported modes
abbrev pub current : Peripheral → ℕ → ℕ
current p s =
    cond (eqb s selector.strategy) p.mode
    (cond (eqb s selector.toggle) p.toggle
    (cond (eqb s selector.reading) p.count
    p.reset))

abbrev pub maximum : (mask selector : ℕ) → ℕ
maximum mask s = cond (eqb s selector.strategy) mask (cond (eqb s selector.reading) most 1)

abbrev pub resolution : (mask selector : ℕ) → ℕ
resolution mask s = cond (eqb s selector.strategy) mask 1

-- the number that CUR, MIN, MAX, RES or DEF asks for; MIN and DEF are 0 of every control
abbrev pub attribute : Peripheral → (selector code : ℕ) → ℕ
attribute p s code =
    cond (eqb code get_cur) (current p s)
    (cond (eqb code get_max) (maximum p.mask s)
    (cond (eqb code get_res) (resolution p.mask s)
    0))
