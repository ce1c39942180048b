-- Tests 1 to 7 of a well-formed record, by what tests 2 to 6 come to over its unit and the selector's control. Assumes nothing.
use Rattle.std.proofs.Common.{◌≡◌, ℕ, List, true, sym, ◌∙◌}
use borrow.Author.Tests.{eq-eqb, ne_eqb}
use Rattle.wire.specs.Rows.{first_of}
use Rattle.request.specs.{declared.tests.Unit.{Unit}, Setup.{setup_selector, setup_code}, Table.{table_of}}
use Rattle.request.specs.Tests.{request_tests, admission}
use Rattle.request.proofs.Laws.Tests.{admission_unformed, admission_formed}
use Rattle.peripheral.specs.{Selectors.{presence}, declared.record.Peripheral.{Peripheral}, Record.{record_well_formed}}
use Rattle.peripheral.specs.{Values.{state_refusal}, Requests.{table}, Steps.{control_of}}

-- the unit, as the tests take it
abbrev pub unit_of : Peripheral → Unit
unit_of p = record { unit = p.unit; interface = p.interface; present = presence }

module _ (p : Peripheral) (setup payload : List ℕ) (formed : record_well_formed p ≡ true) (tests : ℕ)
    (is : tests ≡ first_of (request_tests (table_of (unit_of p) (control_of (setup_selector setup))) setup payload)) where
  pub admission_tests : (tests ≡ 0 → ⊥) → admission (table p) setup payload ≡ tests
  unfolding request_tests
  admission_tests n = admission_formed (table p) setup payload formed ∙ rw (sym is, ne_eqb tests 0 n)

  pub admission_state : tests ≡ 0 → admission (table p) setup payload ≡ state_refusal p.toggle (setup_selector setup) (setup_code setup)
  unfolding request_tests
  admission_state z = admission_formed (table p) setup payload formed ∙ rw (sym is, eq-eqb tests 0 z)

-- what the proof of `admit` goes by
pub ruleset admission_rules = (admission_unformed, admission_tests, admission_state)
