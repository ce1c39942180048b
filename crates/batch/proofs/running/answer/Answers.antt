-- The reply is laid over `out` first, and then what stands before it.
use Rattle.std.proofs.Common.{◌∙◌, sym}
use Rattle.wire.specs.Numbers.{bytes_of}
use Rattle.batch.proofs.Laws.Running.{front_laid, handed_on}
use Rattle.batch.proofs.running.answer.Goals as goal

pub returns-clause-out_after : goal.returns-clause-out_after
unfolding bytes_of
returns-clause-out_after c =
    let a = c.args in
    c.copy.ensures
    ∙ rw (c.bytes-length.ensures, c.status-code.ensures, c.unwrap_or-count.ensures)
    (front_laid a.camera a.setup.now a.payload.now a.out.now a.at c.requires c.request-done.result c.request-done.ensures.value
    c.request-done.ensures.reply_after)

pub returns-clause-value : goal.returns-clause-value
returns-clause-value c =
    let a = c.args in
    rw c.unwrap_or-count.ensures
    (handed_on a.camera a.setup.now a.payload.now a.out.now a.at c.requires c.request-done.result c.request-done.ensures.value)
