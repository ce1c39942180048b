-- `merge`: what it answers, outcome by outcome.
use Rattle.std.proofs.{Common.{sym, ap, ◌∙◌, Err}, lemmas.Result.{err_from_is_err_and}}
use borrow.Author.Tests.{leb-true, leb-false}
use Rattle.wire.specs.Refusals.{verdict, count_of}
use Rattle.wire.proofs.Laws.Writes.{fits_start}
use Rattle.snapshot.proofs.Laws.Form.{form_accepted}
use Rattle.merging.proofs.Laws.Answers.{first_refused, second_refused, short, accepted}
use Rattle.merging.proofs.merge.Goals as goal

pub returns-in_err-check : goal.returns-in_err-check
returns-in_err-check c =
    let p = err_from_is_err_and c.from_residual.result c.from_residual.ensures.1 in
    let a = first_refused _ c.args.second.now c.args.out.now _ c.in_err-check.ensures in
    record { code_value = ap verdict (p.1 ∙ ap Err p.2) ∙ a.0; len_value = ap count_of p.1 ∙ a.1.0; out_after = a.1.1 }

pub returns-in_err-check-2 : goal.returns-in_err-check-2
returns-in_err-check-2 c =
    let p = err_from_is_err_and c.from_residual-in_err-check-2.result c.from_residual-in_err-check-2.ensures.1 in
    let s = form_accepted _ c.in_ok-check.ensures in
    let a = second_refused _ _ c.args.out.now s _ c.in_err-check-2.ensures in
    record { code_value = ap verdict (p.1 ∙ ap Err p.2) ∙ a.0; len_value = ap count_of p.1 ∙ a.1.0; out_after = a.1.1 }

pub has_room-requires : goal.has_room-requires
has_room-requires c = (form_accepted _ c.in_ok-check.ensures, form_accepted _ c.in_ok-check-2.ensures)

pub returns-then-not-has_room : goal.returns-then-not-has_room
returns-then-not-has_room c =
    let h = leb-false _ _ (sym c.if-not-has_room.ensures) in
    let a = short _ _ _ (form_accepted _ c.in_ok-check.ensures) (form_accepted _ c.in_ok-check-2.ensures) h in
    record { code_value = a.0; len_value = a.1.0; out_after = a.1.1 }

pub write_merged-requires : goal.write_merged-requires
write_merged-requires c = (form_accepted _ c.in_ok-check.ensures, form_accepted _ c.in_ok-check-2.ensures)

pub returns : goal.returns
returns c =
    let h = leb-true _ _ (sym c.if-not-has_room.ensures) in
    let a = accepted _ _ _ (form_accepted _ c.in_ok-check.ensures) (form_accepted _ c.in_ok-check-2.ensures) h in
    let w = c.write_merged.ensures in
    record { code_value = a.0; len_value = w.value ∙ a.1.0; out_after = w.out_after ∙ fits_start _ _ h ∙ a.1.1 }
