-- What a SET's seven flag bytes say of it. proofs/Theorems proves it.
use Rattle.std.specs.Prelude.{ℕ, ◌^◌}
use mathlib.Core.{Path.{◌≡◌}, List.{List}, Bool.{cond}, Logic.{◌↔◌}}
use Rattle.wire.specs.Uvc.{invalid_value, out_of_range}
use Rattle.wire.proofs.Laws.Numbers.{Bytes}
use Rattle.flags.specs.Theorems.{OnlyFlag, NoFlag}
use Rattle.controls.specs.Controls.{Refused, Given}
use Rattle.controls.specs.declared.Setting.TheVariants.{Ev}
use Rattle.exposure.specs.{declared.EvLimits.{EvLimits}, Exposure.{divisor, in_range, ev_value, ev_item}}

-- A SET is 0x08 exactly where its first seven bytes have no one flag that is offered. Where they have flag k, the value answers: it is in
-- range at the step of k, and the setting is that flag and the value, or 0x04.
pub record EvByFlags (l : EvLimits) (payload : List ℕ) : Type 0 where
  pub refused : (ev_item l payload ≡ Refused invalid_value) ↔ NoFlag payload 0 l.steps
  pub ranged : (k : ℕ) → OnlyFlag payload 0 l.steps k
      → ev_item l payload
      ≡ cond (in_range l (divisor k) (ev_value payload)) (Given (Ev (record { flags = 2 ^ k; value = ev_value payload }))) (Refused out_of_range)

abbrev pub AllEvByFlags : Type 0
AllEvByFlags = (l : EvLimits) (payload : List ℕ) → Bytes payload → EvByFlags l payload
