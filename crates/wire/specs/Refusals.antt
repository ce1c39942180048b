-- Why a call is refused, and the number of each.
use Rattle.std.specs.Prelude.{◌≡◌, ℕ, Result, Ok, Err, eqb, false, refl}
use Rattle.wire.specs.declared.refusal.Refusal.{Refusal}
use Rattle.wire.specs.declared.refusal.Refusal.TheVariants as R
use Rattle.wire.specs.Uvc.{wrong_state, out_of_range, invalid_unit, invalid_control, invalid_request, invalid_value, unknown}
use Rattle.wire.specs.Uvc.{no_room, malformed_record, malformed_snapshot}

abbrev pub code_of : Refusal → ℕ
code_of R.WrongState = wrong_state
code_of R.OutOfRange = out_of_range
code_of R.InvalidUnit = invalid_unit
code_of R.InvalidControl = invalid_control
code_of R.InvalidRequest = invalid_request
code_of R.InvalidValue = invalid_value
code_of R.NoRoom = no_room
code_of R.MalformedRecord = malformed_record
code_of R.MalformedSnapshot = malformed_snapshot
code_of R.Unknown = unknown

-- none is acceptance
pub is_refused : (e : Refusal) → eqb (code_of e) 0 ≡ false
is_refused R.WrongState = refl
is_refused R.OutOfRange = refl
is_refused R.InvalidUnit = refl
is_refused R.InvalidControl = refl
is_refused R.InvalidRequest = refl
is_refused R.InvalidValue = refl
is_refused R.NoRoom = refl
is_refused R.MalformedRecord = refl
is_refused R.MalformedSnapshot = refl
is_refused R.Unknown = refl

-- the number that a result stands for, by its refusals' numbers: 0 where it is not refused
abbrev pub number_by : {A E : Type 0} → (E → ℕ) → Result A E → ℕ
number_by number (Ok a) = 0
number_by number (Err e) = number e

abbrev pub verdict : {A : Type 0} → Result A Refusal → ℕ
verdict = number_by code_of

-- the count of a result that counts, 0 where it is refused
abbrev pub count_of : Result ℕ Refusal → ℕ
count_of (Ok n) = n
count_of (Err e) = 0
