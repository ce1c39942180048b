-- Settings given one after the other, whatever their values are: the last that names a key holds, and a snapshot has what is held.
use Rattle.std.specs.Prelude.{ℕ}
use mathlib.Core.{Bool.{cond}, List.{List, [], ◌∷◌}, Option.{Option, none, some, map}}
use Rattle.std.specs.Prelude.{eqb}
use Rattle.snapshot.specs.Records.{encode}

-- the second, or where there is none the first
abbrev pub over : {A : Type 0} → Option A → Option A → Option A
over a none = a
over a (some r) = some r

-- key by key
abbrev pub overs : {A : Type 0} → (ℕ → Option A) → (ℕ → Option A) → ℕ → Option A
overs m n k = over (m k) (n k)

-- a setting that is given: its key, and its value
abbrev pub KeyedSetting : Type 0 → Type 0
KeyedSetting Value = ℕ × Value

-- the last that names k, or none
abbrev pub last_of : {Value : Type 0} → List (KeyedSetting Value) → ℕ → Option Value
last_of [] k = none
last_of (p ∷ l) k = over (cond (eqb p.0 k) (some p.1) none) (last_of l k)

-- the snapshot of the settings held, where `record_of v` is the record of the value v
abbrev pub snapshot_of : {Value : Type 0} → (Value → List ℕ) → (ℕ → Option Value) → List ℕ
snapshot_of record_of held = encode (λ k. map record_of (held k))
