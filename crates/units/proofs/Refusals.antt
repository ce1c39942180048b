-- The owner's demand 1 on the peripheral unit's calls, all at once. Assumes nothing.
use mathlib.Core.{Path.{◌≡◌, refl, ap, sym, ◌∙◌}, List.{List}, Bool.{Bool, true, false, cond, not, ◌&&◌}}
use Prim.Native.Nat.{ℕ}
use native.Mathlib.Omega.{arith}
use lib.{Dec.{eqb, ltb}, ListN.{length}}
use Rattle.wire.specs.Uvc.{get_cur, wrong_state, malformed_record, out_of_range, invalid_value}
use Rattle.request.specs.{Setup.{setup_selector, setup_code}, Tests.{request_code}}
use Rattle.request.proofs.Laws.{Tests.{at_unformed, never_malformed}, Requests.{result_code, result_refused, done_code}}
use Rattle.request.proofs.Theorems as requests
use Rattle.peripheral.specs.Selectors as selector
use Rattle.peripheral.specs.declared.record.Peripheral.{Peripheral}
use Rattle.peripheral.specs.Outcomes.{Outcome}
use Rattle.peripheral.specs.Record.{mode_valid, is_switch, most, record_well_formed}
use Rattle.peripheral.specs.Values.{payload_mode, payload_switch, state_refusal, set_refusal, after_set}
use Rattle.peripheral.specs.{Requests.{table, outcome_of, requested}, Calls.{count_code, counted, restart_code, restarted}}
use Rattle.peripheral.specs.Calls.{Call, request, count, restart, outcome}
use Rattle.units.specs.Refusals.{Unchanged, AllRefusals}

abbrev code_of : Outcome → ℕ
code_of o = o.code

abbrev of_outcome : (n k : ℕ) (p : Peripheral) → code_of (outcome_of n k p) ≡ n
of_outcome n k p = refl

-- the number of each call's own tests
abbrev pub number : Peripheral → Call → ℕ
number p (request setup payload reply) = request_code (table p) setup payload (length reply)
number p (count n) = count_code p n
number p restart = restart_code p

pub code_is : (p : Peripheral) (call : Call) → (outcome p call).code ≡ number p call
unfolding requested counted restarted
code_is p (request setup payload reply) =
    result_code outcome_of code_of of_outcome (request_code (table p) setup payload (length reply)) p _
    (done_code outcome_of code_of of_outcome (table p) p (after_set p (setup_selector setup) payload) setup)
code_is p (count n) = result_code outcome_of code_of of_outcome (count_code p n) p _ refl
code_is p restart = result_code outcome_of code_of of_outcome (restart_code p) p _ refl

unchanged : (p : Peripheral) (call : Call) → ((outcome p call).code ≡ 0 → ⊥) → Unchanged p call
unfolding requested counted restarted
unchanged p (request setup payload reply) n =
    let done = done_code outcome_of code_of of_outcome (table p) p (after_set p (setup_selector setup) payload) setup in
    let r = result_refused outcome_of code_of of_outcome (request_code (table p) setup payload (length reply)) p _ done n in
    record {
      count = ap (λ o. o.count) r.1;
      peripheral = ap (λ o. o.peripheral) r.1;
      buffer = (requests.refusals (table p) setup payload reply r.0).buffer;
    }
unchanged p (count k) n =
    let r = result_refused outcome_of code_of of_outcome (count_code p k) p _ refl n in
    record { count = ap (λ o. o.count) r.1; peripheral = ap (λ o. o.peripheral) r.1; buffer = refl }
unchanged p restart n =
    let r = result_refused outcome_of code_of of_outcome (restart_code p) p _ refl n in
    record { count = ap (λ o. o.count) r.1; peripheral = ap (λ o. o.peripheral) r.1; buffer = refl }

malformed : (p : Peripheral) (call : Call) → record_well_formed p ≡ false → number p call ≡ malformed_record
unfolding count_code restart_code
malformed p (request setup payload reply) w = at_unformed (table p) setup payload (length reply) w
malformed p (count n) w = rw w
malformed p restart w = rw w

-- tests 7 and 8 never say 0x21
state_other : (toggle s code : ℕ) → state_refusal toggle s code ≡ malformed_record → ⊥
state_other toggle s code = go (eqb s selector.reading && eqb code get_cur && eqb toggle 0)
  where
    go : (b : Bool) → cond b wrong_state 0 ≡ malformed_record → ⊥
    go true e = omega arith
    go false e = omega arith

values_other : (mask s : ℕ) (payload : List ℕ) → set_refusal mask s payload ≡ malformed_record → ⊥
unfolding set_refusal
values_other mask s payload = go (eqb s selector.strategy) (mode_valid mask (payload_mode payload)) (is_switch (payload_switch payload))
  where
    go : (a b c : Bool) → cond {A = ℕ} a (cond b 0 invalid_value) (cond c 0 out_of_range) ≡ malformed_record → ⊥
    go true true c e = omega arith
    go true false c e = omega arith
    go false b true e = omega arith
    go false b false e = omega arith

formed : (p : Peripheral) (call : Call) → record_well_formed p ≡ true → number p call ≡ malformed_record → ⊥
unfolding count_code restart_code
formed p (request setup payload reply) w =
    never_malformed (table p) setup payload (length reply) w (state_other p.toggle (setup_selector setup) (setup_code setup))
    (values_other p.mask (setup_selector setup) payload)
formed p (count n) w = go (ltb most n)
  where
    go : (b : Bool) → cond (not (record_well_formed p)) malformed_record (cond b out_of_range 0) ≡ malformed_record → ⊥
    go true e = let z : out_of_range ≡ malformed_record = rw w at e in omega arith
    go false e = let z : ◌≡◌ {A = ℕ} 0 malformed_record = rw w at e in omega arith
formed p restart w = λ e. let z : ◌≡◌ {A = ℕ} 0 malformed_record = rw w at e in omega arith

pub refusals : AllRefusals
refusals p call = record {
  unchanged = unchanged p call;
  malformed = λ w. code_is p call ∙ malformed p call w;
  formed = λ w e. formed p call w (sym (code_is p call) ∙ e);
}
