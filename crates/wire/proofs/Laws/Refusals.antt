-- Every refusal has a number of its own, and none has that of acceptance. Assumes nothing.
use mathlib.Core.{Path.{◌≡◌, refl}, Bool.{false}}
use lib.Dec.{eqb}
use Rattle.wire.specs.{declared.refusal.Refusal.{Refusal}, Refusals.{code_of, is_refused}}
use Rattle.wire.specs.declared.refusal.Refusal.TheVariants as R

-- as a test that comes out
pub refused : (e : Refusal) → eqb (code_of e) 0 ≡ false
refused = is_refused

pub not_accepted : (e : Refusal) → code_of e ≡ 0 → ⊥
not_accepted R.WrongState h = cc
not_accepted R.OutOfRange h = cc
not_accepted R.InvalidUnit h = cc
not_accepted R.InvalidControl h = cc
not_accepted R.InvalidRequest h = cc
not_accepted R.InvalidValue h = cc
not_accepted R.NoRoom h = cc
not_accepted R.MalformedRecord h = cc
not_accepted R.MalformedSnapshot h = cc
not_accepted R.Unknown h = cc
