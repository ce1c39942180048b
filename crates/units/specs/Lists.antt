-- Lists of calls from a fresh unit: none is refused 0x21, and every record that isn't is left by one of them.
use Rattle.std.specs.Prelude.{ℕ, ◌^◌, ◌<◌}
use mathlib.Core.{Path.{◌≡◌}, List.{List, [], ◌∷◌}, Bool.{true, cond}}
use Rattle.std.specs.Prelude.{leb}
use Rattle.wire.proofs.Laws.Numbers.{Bytes}
use Rattle.peripheral.specs.{declared.record.Peripheral.{Peripheral}, Record.{fresh, record_well_formed}}
use Rattle.peripheral.specs.Calls.{Call, request, count, restart, outcome, run}

-- the record test is not too strict: it refuses nothing that a list of calls leaves
abbrev pub NeverMalformed : Type 0
NeverMalformed =
    (unit interface mask : ℕ) (calls : List Call) (call : Call) → (outcome (run (fresh unit interface mask) calls) call).code ≡ 0x21 → ⊥

-- a call that a program can make: its bytes are bytes, and a count has four
abbrev pub Makeable : Call → Type 0
Makeable (request setup payload reply) = Bytes setup × Bytes payload × Bytes reply
Makeable (count n) = n < 2 ^ 32
Makeable restart = Unit {0}

abbrev pub AllMakeable : List Call → Type 0
AllMakeable [] = Unit {0}
AllMakeable (call ∷ calls) = Makeable call × AllMakeable calls

-- what the types of a record say of one that a program holds
pub record Typed (p : Peripheral) : Type 0 where
  pub unit : p.unit < 2 ^ 8
  pub interface : p.interface < 2 ^ 8
  pub mode : p.mode < 2 ^ 64

-- nor is it too lax: some list of calls leaves just this record of a fresh unit with its ids and mask
pub record LeftByCalls (p : Peripheral) : Type 0 where
  pub calls : List Call
  pub makeable : AllMakeable calls
  pub leaves : run (fresh p.unit p.interface p.mask) calls ≡ p

abbrev pub AllLeftByCalls : Type 0
AllLeftByCalls = (p : Peripheral) → Typed p → record_well_formed p ≡ true → LeftByCalls p

-- the last count of a list that was taken, or the one before it where there is none; over 255 none is taken
abbrev pub last_count : ℕ → List Call → ℕ
last_count before [] = before
last_count before (request setup payload reply ∷ calls) = last_count before calls
last_count before (count n ∷ calls) = last_count (cond (leb n 255) n before) calls
last_count before (restart ∷ calls) = last_count before calls
