-- What a well-formed record says of its fields, and what keeps it so. Assumes nothing.
use mathlib.Core.{Path.{◌≡◌, refl}, List.{List}, Bool.{Bool, true, false, cond, and-eq-true_iff}}
use Prim.Native.Nat.{ℕ}
use native.Mathlib.Omega.{arith}
use lib.Dec.{eqb, leb}
use Rattle.peripheral.specs.Selectors as selector
use Rattle.peripheral.specs.{declared.record.Peripheral.{Peripheral}, Record.{mode_valid, is_switch, most, record_well_formed}}
use Rattle.peripheral.specs.Values.{payload_mode, payload_switch, set_refusal}

pub record Formed (p : Peripheral) : Type 0 where
  pub mode : mode_valid p.mask p.mode ≡ true
  pub toggle : is_switch p.toggle ≡ true
  pub count : leb p.count most ≡ true
  pub reset : is_switch p.reset ≡ true

pub formed_fields : (p : Peripheral) → record_well_formed p ≡ true → Formed p
unfolding record_well_formed
formed_fields p w =
    let q = (and-eq-true_iff _ _).0 w in
    let r = (and-eq-true_iff _ _).0 q.0 in
    let s = (and-eq-true_iff _ _).0 r.0 in
    record { mode = s.0; toggle = s.1; count = r.1; reset = q.1 }

pub fields_formed : (p : Peripheral) → Formed p → record_well_formed p ≡ true
unfolding record_well_formed
fields_formed p f = rw (f.mode, f.toggle, f.count, f.reset)

-- a test that passes
pass : (b : Bool) (n : ℕ) → cond b 0 (Prim.Native.Nat.suc n) ≡ 0 → b ≡ true
pass true n e = refl
pass false n e = absurd (omega arith)

-- a mode, and a switch, that a SET takes
pub taken_mode : (mask : ℕ) (payload : List ℕ) → set_refusal mask selector.strategy payload ≡ 0
    → mode_valid mask (payload_mode payload) ≡ true
unfolding set_refusal
taken_mode mask payload e = pass _ 7 e

pub taken_switch : (mask s : ℕ) (payload : List ℕ) → eqb s selector.strategy ≡ false → set_refusal mask s payload ≡ 0
    → is_switch (payload_switch payload) ≡ true
unfolding set_refusal
taken_switch mask s payload n e = pass _ 3 (rw n at e)
