-- Each turn lays one more answer over `out`, and there is room for it.
use Rattle.std.proofs.Common.{arith, refl}
use Rattle.batch.proofs.Laws.Running.{accepted, answered_none, same_long, room_here, count_here, answered_next, answered_all}
use Rattle.batch.proofs.running.answer_all.Goals as goal

pub loop-at-init : goal.loop-at-init
loop-at-init c = answered_none _ _ _

pub answer-done-requires : goal.answer-done-requires
answer-done-requires c =
    let t = accepted _ _ _ c.requires in
    let v = c.loop-at.invariant in
    omega (
      arith,
      same_long _ _ _ t v,
      room_here _ _ _ t v c.setup_at-setup.ensures.bytes c.data_length-len.ensures.0 c.loop-at-test.true c.part_at-payload.ensures.bytes,
    )

pub overflow_add-count : goal.overflow_add-count
overflow_add-count c =
    let t = accepted _ _ _ c.requires in
    let room =
    count_here _ _ _ t c.loop-at.invariant c.setup_at-setup.ensures.bytes c.data_length-len.ensures.0 c.loop-at-test.true
    c.part_at-payload.ensures.bytes refl in
    omega (arith, room, c.answer-done.ensures.value.0)

pub overflow_add-count-in-loop-at : goal.overflow_add-count-in-loop-at
overflow_add-count-in-loop-at c =
    let t = accepted _ _ _ c.requires in
    let room =
    count_here _ _ _ t c.loop-at.invariant c.setup_at-setup.ensures.bytes c.data_length-len.ensures.0 c.loop-at-test.true
    c.part_at-payload.ensures.bytes refl in
    omega (arith, room, c.answer-done.ensures.value.0)

pub loop-at-preserved : goal.loop-at-preserved
loop-at-preserved c =
    let t = accepted _ _ _ c.requires in
    rw (c.answer-done.ensures.value.0, c.answer-done.ensures.value.1)
    (answered_next _ _ _ t c.loop-at.invariant c.setup_at-setup.ensures.bytes c.data_length-len.ensures.0 c.loop-at-test.true
    c.part_at-payload.ensures.bytes refl c.answer-done.ensures.out_after)

pub returns-clause-value : goal.returns-clause-value
returns-clause-value c =
    (answered_all _ _ _ (accepted _ _ _ c.requires) c.loop-at.invariant c.requires c.loop-at-test.false).0

pub returns-clause-out_after : goal.returns-clause-out_after
returns-clause-out_after c =
    (answered_all _ _ _ (accepted _ _ _ c.requires) c.loop-at.invariant c.requires c.loop-at-test.false).1
