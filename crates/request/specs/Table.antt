-- The table of a unit's controls, over which the nine tests and the answers are stated.
use Rattle.std.specs.Prelude.{ℕ, ◌-◌}
use mathlib.Core.{List.{List, []}, Bool.{Bool, true, ◌&&◌}}
use Rattle.std.specs.Prelude.{leb}
use Rattle.flags.specs.Flags.{is_set}
use Rattle.request.specs.declared.{tests.Unit.{Unit}, tests.Control.{Control}}

pub record Table : Type 0 where
  -- whether the unit's record is well formed; its id and its interface
  pub formed : Bool
  pub unit : ℕ
  pub interface : ℕ
  -- of each selector: whether it is present, whether it takes a SET, and the length that a SET of a payload must have
  pub present : ℕ → Bool
  pub settable : ℕ → Bool
  pub set_length : ℕ → List ℕ → ℕ
  -- test 7 by selector and request code, and test 8 of a SET by selector and payload: a number, 0 where it passes
  pub state : ℕ → ℕ → ℕ
  pub values : ℕ → List ℕ → ℕ
  -- LEN's number, INFO's byte, and the bytes of CUR, MIN, MAX, RES and DEF by selector and request code
  pub len : ℕ → ℕ
  pub info : ℕ → ℕ
  pub value : ℕ → ℕ → List ℕ

-- bmControls: the control of selector s stands at bit s - 1
abbrev pub has_control : ℕ → ℕ → Bool
has_control bits selector = leb 1 selector && is_set bits (selector - 1)

-- as much of a table as tests 2 to 6 look at, from the numbers that the code is handed
abbrev pub table_of : Unit → Control → Table
table_of u c = record {
  formed = true;
  unit = u.unit;
  interface = u.interface;
  present = has_control u.present;
  settable = λ selector. c.settable;
  set_length = λ selector payload. c.len;
  state = λ selector code. 0;
  values = λ selector payload. 0;
  len = λ selector. 0;
  info = λ selector. 0;
  value = λ selector code. [];
}
