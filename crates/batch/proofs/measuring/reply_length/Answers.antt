-- A GET that passes tests 2 to 6 sends its full answer up to wLength.
use Rattle.std.proofs.Common.{◌≡◌, arith, sym, ◌∙◌}
use Rattle.wire.specs.Refusals.{verdict}
use Rattle.batch.specs.Answers.{reply_length}
use Rattle.batch.proofs.Laws.Measuring.{measured_within, measured_get}
use Rattle.batch.proofs.Laws.Refusals.{no_error}
use Rattle.batch.proofs.measuring.reply_length.Goals as goal

pub returns : goal.returns
returns c =
    let a = c.args in
    let passed = no_error c.check.result (sym c.is_err.ensures.value ∙ c.if-is_err.false) in
    let sent =
    measured_get a.p a.setup.now a.payload.now c.requires (verdict c.check.result) (cc) passed
    (sym c.is_set_request.ensures ∙ c.if-is_set_request.false) in
    let is : c.min.result ≡ reply_length a.p (record { setup = a.setup.now; payload = a.payload.now }) = cc in
    (is, omega (arith, is, measured_within a.p a.setup.now a.payload.now c.requires))
