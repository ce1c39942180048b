-- Lists of calls from a fresh unit: none is refused 0x21, and every record that isn't is left by one of them. Assumes nothing.
use mathlib.Core.{Path.{◌≡◌, refl, ap, sym, ◌∙◌}, List.{List, [], ◌∷◌}, Bool.{Bool, true, false, cond}}
use Prim.Native.Nat.{ℕ, zero, suc, ◌/◌, ◌^◌, ◌<◌}
use native.Mathlib.{Nat.{mod-lt}, Omega.{arith}}
use lib.{Dec.{eqb, lit<}, ListN.{length}}
use borrow.Author.Tests.{eq-eqb, eqb-true, leb-true, not-true}
use Rattle.wire.specs.{Numbers.{number, le_at, bytes_of}, Uvc.{set_cur}}
use Rattle.wire.proofs.Laws.{Numbers.{Bytes}, Bytes.{length_bytes, number_bytes}}
use Rattle.flags.specs.Flags.{is_set}
use Rattle.request.specs.Table.{has_control}
use Rattle.request.proofs.Laws.Sets.{Sets, sets_code}
use Rattle.peripheral.specs.Selectors as selector
use Rattle.peripheral.specs.{declared.record.Peripheral.{Peripheral}, Record.{fresh, is_switch, most, record_well_formed}}
use Rattle.peripheral.specs.Record.{with_mode, with_toggle, with_count, with_reset}
use Rattle.peripheral.specs.{Values.{payload_length, is_settable, set_refusal, after_set}, Requests.{table, outcome_of, requested}}
use Rattle.peripheral.specs.Calls.{Call, request, count, next, run}
use Rattle.units.specs.Lists.{NeverMalformed, Typed, LeftByCalls, AllLeftByCalls}
use Rattle.units.proofs.Refusals.{refusals}
use Rattle.units.proofs.Laws.Formed.{Formed, formed_fields, fields_formed}
use Rattle.units.proofs.Laws.Steps.{count_next, run_leaves}

pub fresh_formed : (unit interface mask : ℕ) → record_well_formed (fresh unit interface mask) ≡ true
unfolding record_well_formed
fresh_formed unit interface mask = refl

pub never_malformed : NeverMalformed
never_malformed unit interface mask calls call =
    let p = fresh unit interface mask in
    (refusals (run p calls) call).formed (run_leaves p (fresh_formed unit interface mask) calls).formed

-- bytes, one by one
abbrev EachByte : List ℕ → Type 0
EachByte [] = Unit {0}
EachByte (b ∷ l) = (b < 2 ^ 8) × EachByte l

each_byte : (l : List ℕ) → EachByte l → Bytes l
each_byte [] h i = record { fits = lit< tt }
each_byte (b ∷ l) h zero = record { fits = h.0 }
each_byte (b ∷ l) h (suc i) = each_byte l h.1 i

number_each : (k n : ℕ) → EachByte (bytes_of k n)
unfolding bytes_of
number_each zero n = tt
number_each (suc k) n = (mod-lt n (lit< tt), number_each k (n / 256))

-- a SET of n bytes to the unit of the record d
abbrev setup : Peripheral → (s n : ℕ) → List ℕ
setup d s n = 0x21 ∷ set_cur ∷ 0 ∷ s ∷ d.interface ∷ d.unit ∷ n ∷ 0 ∷ []

-- one of the three that take a SET, where n is the length of its payload
module _ (d : Peripheral) (w : record_well_formed d ≡ true) (s n : ℕ) (payload : List ℕ) (there : has_control selector.presence s ≡ true)
    (settable : is_settable s ≡ true) (sized : length payload ≡ n) (fits : n ≡ payload_length s) where
  sets : Sets (table d) (setup d s n) payload
  unfolding le_at number
  sets = record {
    eight = refl;
    addresses = rw (eq-eqb d.unit d.unit refl, eq-eqb d.interface d.interface refl);
    present = there;
    low = refl;
    set = refl;
    settable = settable;
    sized = sized ∙ omega arith;
    fits = sized ∙ fits;
  }

  -- what it leaves if its value is taken
  set_next : set_refusal d.mask s payload ≡ 0 → next d (request (setup d s n) payload []) ≡ after_set d s payload
  unfolding requested
  set_next e =
      let r : eqb s selector.reading ≡ false = not-true _ settable in
      let z = sets_code (table d) (setup d s n) payload 0 w sets (rw r) ∙ e in
      ap (λ (k : ℕ). (cond (eqb k 0) (outcome_of 0 0 (after_set d s payload)) (outcome_of k 0 d)).peripheral) z

-- the calls that leave p: its count, and a SET of each of the other controls
module _ (p : Peripheral) (t : Typed p) (w : record_well_formed p ≡ true) where
  abbrev f : Formed p
  f = formed_fields p w

  abbrev clean : Peripheral
  clean = fresh p.unit p.interface p.mask

  abbrev counted : Peripheral
  counted = with_count clean p.count

  abbrev framed : Peripheral
  framed = with_mode counted p.mode

  abbrev toggled : Peripheral
  toggled = with_toggle framed p.toggle

  counted_formed : record_well_formed counted ≡ true
  counted_formed = fields_formed counted (record { mode = refl; toggle = refl; count = f.count; reset = refl })

  framed_formed : record_well_formed framed ≡ true
  framed_formed = fields_formed framed (record { mode = f.mode; toggle = refl; count = f.count; reset = refl })

  toggled_formed : record_well_formed toggled ≡ true
  toggled_formed = fields_formed toggled (record { mode = f.mode; toggle = f.toggle; count = f.count; reset = refl })

  abbrev mode_bytes : List ℕ
  mode_bytes = bytes_of 8 p.mode

  -- the mode's bytes read as it
  mode_back : le_at 8 mode_bytes 0 ≡ p.mode
  unfolding le_at bytes_of
  mode_back = number_bytes 8 p.mode t.mode

  abbrev set_mode : Call
  set_mode = request (setup clean selector.strategy 8) mode_bytes []

  abbrev set_toggle : Call
  set_toggle = request (setup clean selector.toggle 1) (p.toggle ∷ []) []

  abbrev set_reset : Call
  set_reset = request (setup clean selector.reset 1) (p.reset ∷ []) []

  first : next clean (count p.count) ≡ counted
  first = count_next clean (fresh_formed p.unit p.interface p.mask) p.count ∙ rw f.count

  second : next counted set_mode ≡ framed
  unfolding is_set set_refusal after_set
  second =
      set_next counted counted_formed selector.strategy 8 mode_bytes refl refl (length_bytes 8 p.mode) refl (rw (mode_back, f.mode))
      ∙ ap (with_mode counted) mode_back

  third : next framed set_toggle ≡ toggled
  unfolding is_set set_refusal after_set
  third = set_next framed framed_formed selector.toggle 1 (p.toggle ∷ []) refl refl refl refl (rw f.toggle)

  fourth : next toggled set_reset ≡ p
  unfolding is_set set_refusal after_set
  fourth =
      set_next toggled toggled_formed selector.reset 1 (p.reset ∷ []) refl refl refl refl (rw f.reset) ∙ go (eqb p.reset 0) refl
    where
      go : (b : Bool) → eqb p.reset 0 ≡ b → cond b toggled (with_reset toggled p.reset) ≡ p
      go true e = ap (with_reset toggled) (sym (eqb-true p.reset 0 e))
      go false e = refl

  leaves : run clean (count p.count ∷ set_mode ∷ set_toggle ∷ set_reset ∷ []) ≡ p
  leaves =
      ap (λ d. run d (set_mode ∷ set_toggle ∷ set_reset ∷ [])) first
      ∙ ap (λ d. run d (set_toggle ∷ set_reset ∷ [])) second
      ∙ ap (λ d. run d (set_reset ∷ [])) third
      ∙ fourth

  -- all of them makeable
  setup_bytes : (s n : ℕ) → s < 2 ^ 8 → n < 2 ^ 8 → Bytes (setup clean s n)
  setup_bytes s n h g = each_byte (setup clean s n) (lit< tt, (lit< tt, (lit< tt, (h, (t.interface, (t.unit, (g, (lit< tt, tt))))))))

  switch_byte : (n : ℕ) → is_switch n ≡ true → Bytes (n ∷ [])
  switch_byte n e = each_byte (n ∷ []) (omega (arith, leb-true n 1 e), tt)

  reached : LeftByCalls p
  reached = record {
    calls = count p.count ∷ set_mode ∷ set_toggle ∷ set_reset ∷ [];
    makeable = (
      omega (arith, leb-true p.count most f.count),
      (
        (setup_bytes selector.strategy 8 (lit< tt) (lit< tt), each_byte mode_bytes (number_each 8 p.mode), each_byte [] tt),
        (
          (setup_bytes selector.toggle 1 (lit< tt) (lit< tt), switch_byte p.toggle f.toggle, each_byte [] tt),
          ((setup_bytes selector.reset 1 (lit< tt) (lit< tt), switch_byte p.reset f.reset, each_byte [] tt), tt),
        ),
      ),
    );
    leaves = leaves;
  }

pub all_left_by_calls : AllLeftByCalls
all_left_by_calls = reached
