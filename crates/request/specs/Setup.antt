-- The setup packet of a class request: bmRequestType, bRequest, wValue, wIndex, wLength.
use Rattle.std.specs.Prelude.{ℕ}
use mathlib.Core.{List.{List}, Bool.{Bool, ◌&&◌}}
use lib.{Dec.{leb, eqb}, ListN.{get_or}}
use Rattle.wire.specs.{Numbers.{le_at}, Uvc.{get_cur, get_def, set_cur}}

abbrev pub setup_type : List ℕ → ℕ
setup_type setup = get_or setup 0 0

abbrev pub setup_code : List ℕ → ℕ
setup_code setup = get_or setup 1 0

-- wValue's low byte, which is to be 0, and its high byte, the selector
abbrev pub setup_value_low : List ℕ → ℕ
setup_value_low setup = get_or setup 2 0

abbrev pub setup_selector : List ℕ → ℕ
setup_selector setup = get_or setup 3 0

-- wIndex: the interface in its low byte, the unit in its high one
abbrev pub setup_interface : List ℕ → ℕ
setup_interface setup = get_or setup 4 0

abbrev pub setup_unit : List ℕ → ℕ
setup_unit setup = get_or setup 5 0

abbrev pub setup_w_length : List ℕ → ℕ
setup_w_length setup = le_at 2 setup 6

-- type 0x21 with SET_CUR
abbrev pub is_set_request : List ℕ → Bool
is_set_request setup = eqb (setup_type setup) 0x21 && eqb (setup_code setup) set_cur

-- type 0xA1 with GET_CUR 0x81, MIN, MAX, RES, LEN, INFO, or DEF 0x87
abbrev pub is_get_request : List ℕ → Bool
is_get_request setup = eqb (setup_type setup) 0xA1 && leb get_cur (setup_code setup) && leb (setup_code setup) get_def
