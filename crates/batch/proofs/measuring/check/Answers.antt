-- `check` walks through the batch, request by request.
use Rattle.batch.proofs.Laws.Walking.{measured_next, cut_here_lem, refused_cut, refused_room, accepted_here}
use Rattle.batch.proofs.measuring.check.Goals as goal

pub returns-then-packed-at : goal.returns-then-packed-at
returns-then-packed-at c =
    refused_cut _ _ _
    (cut_here_lem c.loop-at.invariant.walked c.setup_at-setup.ensures.bytes c.data_length-len.ensures.0 c.loop-at-test.true
    c.if-packed-at.true)

pub loop-at-preserved : goal.loop-at-preserved
loop-at-preserved c =
    measured_next c.loop-at.invariant c.setup_at-setup.ensures.bytes c.data_length-len.ensures.0 c.if-packed-at.false
    c.part_at-payload.ensures.bytes c.reply_length.ensures.0 c.min-needed.ensures

pub returns-then-room-needed : goal.returns-then-room-needed
returns-then-room-needed c = refused_room _ _ _ c.loop-at.invariant c.loop-at-test.false c.if-room-needed.true

pub returns : goal.returns
returns c = accepted_here _ _ _ c.loop-at.invariant c.loop-at-test.false c.if-room-needed.false
