-- `put_record`: what is laid over `out` is the record.
use Rattle.std.proofs.Common.{◌+◌, length, take, ap, ◌∙◌}
use Rattle.wire.specs.Writes.{overlay}
use Rattle.encoding.proofs.Laws.Encoding.{framed_laid}
use Rattle.encoding.proofs.put_record.Goals as goal

pub returns : goal.returns
returns c =
    let a = c.args in
    c.copy-2.ensures
    ∙ ap (overlay a.out.now a.at)
    (c.head.ensures.bytes
    ∙ ap (take (4 + length a.payload.now)) c.copy.ensures
    ∙ framed_laid a.kind a.payload.now c.ranges.kind.fits c.requires)
