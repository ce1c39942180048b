-- Settings, whichever control they are of.
use Rattle.std.specs.Prelude.{ℕ, zero, suc, eqb, Result, Ok, Err}
use mathlib.Core.{Option.{Option, none, some}, Bool.{cond}}
use Rattle.std.specs.declared.option.Option as Core
use Rattle.std.specs.declared.option.Option.TheVariants as H
use Rattle.wire.specs.{declared.refusal.Refusal.{Refusal}, Refusals.{code_of}}
use Rattle.controls.specs.declared.{Setting.{Setting}, EvSetting.{EvSetting}, ThrottleSetting.{ThrottleSetting}}

-- what one item of a SET or one record of a snapshot comes to: document 01's number, or a setting
pub data Item : Type 0 where
  Refused : ℕ → Item
  Given : Setting → Item

-- the code's result as an item
abbrev pub item_told : Result Setting Refusal → Item
item_told (Ok s) = Given s
item_told (Err e) = Refused (code_of e)

-- what an item comes to by the number that its tests give: 0 is acceptance
unfoldable pub item_of : ℕ → Setting → Item
item_of code s = cond (eqb code 0) (Given s) (Refused code)

-- an item's number, 0 where it is taken
unfoldable pub item_code : Item → ℕ
item_code (Refused code) = code
item_code (Given s) = 0

-- the settings held in a record, or none: a number's, exposure compensation's, the throttle's, and of a key
abbrev pub HeldNumber : Type 0
HeldNumber = Core.Option ℕ

abbrev pub HeldEv : Type 0
HeldEv = Core.Option EvSetting

abbrev pub HeldThrottle : Type 0
HeldThrottle = Core.Option ThrottleSetting

abbrev pub HeldSetting : Type 0
HeldSetting = Core.Option Setting

-- the setting held, or none
abbrev pub setting_held : HeldSetting → Option Setting
setting_held H.None = none
setting_held (H.Some s) = some s

-- the number held, or n while there is none
unfoldable pub number_or : ℕ → HeldNumber → ℕ
number_or n H.None = n
number_or n (H.Some m) = m

-- the first number that isn't 0, of the n from k on
unfoldable pub first_refusal : ℕ → ℕ → (ℕ → ℕ) → ℕ
first_refusal zero k code = 0
first_refusal (suc n) k code = cond (eqb (code k) 0) (first_refusal n (suc k) code) (code k)
