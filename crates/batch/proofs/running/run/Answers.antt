-- A batch is refused by its record, then by its bytes, the profile and the room; else all its requests are answered.
use Rattle.std.proofs.Common.{arith, rules, sym, ◌∙◌}
use Rattle.camera.proofs.Laws.Record.{formed_profile}
use Rattle.batch.proofs.Laws.Running.{batch_malformed, found_value, found_out, found_none}
use Rattle.batch.proofs.running.run.Goals as goal

pub returns-then-not-well_formed-clause-value : goal.returns-then-not-well_formed-clause-value
returns-then-not-well_formed-clause-value c =
    (batch_malformed _ c.args.packed.now c.args.out.now (sym c.well_formed-2.ensures ∙ c.if-not-well_formed.true)).0

pub returns-then-not-well_formed-clause-out_after : goal.returns-then-not-well_formed-clause-out_after
returns-then-not-well_formed-clause-out_after c =
    (batch_malformed c.args.camera c.args.packed.now _ (sym c.well_formed-2.ensures ∙ c.if-not-well_formed.true)).1

pub check-requires : goal.check-requires
check-requires c = (formed_profile c.args.camera (sym c.well_formed-2.ensures ∙ c.if-not-well_formed.false), omega arith)

pub returns-in_err-check-clause-value : goal.returns-in_err-check-clause-value
returns-in_err-check-clause-value c =
    let formed = sym c.well_formed-2.ensures ∙ c.if-not-well_formed.false in
    search (rules, found_value c.args.camera c.args.packed.now c.args.out.now formed c.in_err-check.field-0.0 c.in_err-check.ensures)

pub returns-in_err-check-clause-out_after : goal.returns-in_err-check-clause-out_after
returns-in_err-check-clause-out_after c =
    let formed = sym c.well_formed-2.ensures ∙ c.if-not-well_formed.false in
    found_out c.args.camera c.args.packed.now c.args.out.now formed c.in_err-check.field-0.0 c.in_err-check.ensures

pub answer_all-requires : goal.answer_all-requires
answer_all-requires c =
    let formed = sym c.well_formed-2.ensures ∙ c.if-not-well_formed.false in
    found_none c.args.camera c.args.packed.now c.args.out.now formed c.in_ok-check.ensures
