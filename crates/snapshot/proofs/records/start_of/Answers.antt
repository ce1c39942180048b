-- `start_of`: the cursor goes on while keys ascend and are below the key, and else is done.
use Rattle.std.proofs.Common.{arith, rules}
use Rattle.snapshot.proofs.Laws.Cursor.{start, cursor_on, cursor_below, cursor_above, cursor_over}
use Rattle.snapshot.proofs.records.start_of.Goals as goal

pub loop-k-init : goal.loop-k-init
loop-k-init c = record { below = omega arith; ends = start _ }

pub loop-k-preserved : goal.loop-k-preserved
loop-k-preserved c = record {
  below = omega arith;
  ends = rw c.record_length-at.ensures (cursor_on _ _ _ c.loop-k.invariant.ends _ c.in-Some.ensures c.if-low-k.true);
}

pub returns-in-loop-k : goal.returns-in-loop-k
returns-in-loop-k c = cursor_over _ _ _ c.loop-k.invariant.ends _ (search rules) c.loop-k.invariant.below

pub returns-else-low-k : goal.returns-else-low-k
returns-else-low-k c = cursor_below _ _ _ c.loop-k.invariant.ends _ c.in-Some.ensures _ c.if-low-k.false c.loop-k.invariant.below

pub returns-else-k-key : goal.returns-else-k-key
returns-else-k-key c = cursor_above _ _ _ c.loop-k.invariant.ends _ c.in-Some.ensures _ c.if-k-key.false c.loop-k.invariant.below
