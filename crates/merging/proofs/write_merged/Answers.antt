-- `write_merged`: each turn goes on past a record of the lesser key, or of equal keys past the first's.
use Rattle.std.proofs.Common.{arith, refl}
use Rattle.snapshot.proofs.Laws.Handed.{handed_none}
use Rattle.merging.proofs.Laws.Writing.{unwritten, both_written, both_above, first_written, first_above, second_written, second_above}
use Rattle.merging.proofs.Laws.Writing.{write_short, write_end}
use Rattle.merging.proofs.write_merged.Goals as goal

pub loop-key-init : goal.loop-key-init
loop-key-init c = record {
  written = unwritten _ _ _ c.requires.0 c.requires.1;
  first = c.key_at-x.ensures;
  second = c.key_at-y.ensures;
}

-- of equal keys
pub loop-key-preserved-then-eq : goal.loop-key-preserved-then-eq
loop-key-preserved-then-eq c =
    let i = c.loop-key.invariant in
    let e = c.in-Some.ensures _ _ i.first i.second in
    record {
      written = both_written i.written i.first i.second e c.record_length-len.ensures c.if-eq.ensures;
      first = c.key_at-x-then-eq.ensures;
      second = i.second;
    }

pub loop-key-smaller-then-eq : goal.loop-key-smaller-then-eq
loop-key-smaller-then-eq c =
    let i = c.loop-key.invariant in
    let e = c.in-Some.ensures _ _ i.first i.second in
    let w = both_written i.written i.first i.second e c.record_length-len.ensures c.if-eq.ensures in
    omega (arith, w.first.few, both_above i.written i.first i.second e c.record_length-len.ensures c.if-eq.ensures)

-- the first's record, where its key is the lesser
pub overflow_add-n : goal.overflow_add-n
overflow_add-n c =
    let i = c.loop-key.invariant in
    let e = c.in-Some.ensures _ _ i.first i.second in
    let w = first_written i.written i.first i.second e c.record_length-len.ensures c.if-eq.ensures c.if-eq-2.ensures refl refl in
    omega (arith, write_short w)

pub loop-key-preserved-then-eq-2 : goal.loop-key-preserved-then-eq-2
loop-key-preserved-then-eq-2 c =
    let i = c.loop-key.invariant in
    let e = c.in-Some.ensures _ _ i.first i.second in
    record {
      written =
          first_written i.written i.first i.second e c.record_length-len.ensures c.if-eq.ensures c.if-eq-2.ensures c.part_at.ensures.bytes
          c.copy.ensures;
      first = c.key_at-x-then-eq-2.ensures;
      second = i.second;
    }

pub loop-key-smaller-then-eq-2 : goal.loop-key-smaller-then-eq-2
loop-key-smaller-then-eq-2 c =
    let i = c.loop-key.invariant in
    let e = c.in-Some.ensures _ _ i.first i.second in
    let w = first_written i.written i.first i.second e c.record_length-len.ensures c.if-eq.ensures c.if-eq-2.ensures refl refl in
    omega (arith, w.first.few, first_above i.written i.first i.second e c.record_length-len.ensures c.if-eq.ensures c.if-eq-2.ensures)

-- the second's record, where its key is the lesser
pub overflow_add-n-else-eq-2 : goal.overflow_add-n-else-eq-2
overflow_add-n-else-eq-2 c =
    let i = c.loop-key.invariant in
    let e = c.in-Some.ensures _ _ i.first i.second in
    let w = second_written i.written i.first i.second e c.record_length-len.ensures c.if-eq.ensures c.if-eq-2.ensures refl refl in
    omega (arith, write_short w)

pub loop-key-preserved : goal.loop-key-preserved
loop-key-preserved c =
    let i = c.loop-key.invariant in
    let e = c.in-Some.ensures _ _ i.first i.second in
    record {
      written =
          second_written i.written i.first i.second e c.record_length-len.ensures c.if-eq.ensures c.if-eq-2.ensures
          c.part_at-else-eq-2.ensures.bytes c.copy-else-eq-2.ensures;
      first = i.first;
      second = c.key_at-y-else-eq-2.ensures;
    }

pub loop-key-smaller : goal.loop-key-smaller
loop-key-smaller c =
    let i = c.loop-key.invariant in
    let e = c.in-Some.ensures _ _ i.first i.second in
    let w = second_written i.written i.first i.second e c.record_length-len.ensures c.if-eq.ensures c.if-eq-2.ensures refl refl in
    omega (arith, w.second.few, second_above i.written i.first i.second e c.record_length-len.ensures c.if-eq.ensures c.if-eq-2.ensures)

pub returns-clause-value : goal.returns-clause-value
returns-clause-value c =
    let i = c.loop-key.invariant in
    (write_end i.written (handed_none _ (c.in_default.ensures _ _ i.first i.second))).0

pub returns-clause-out_after : goal.returns-clause-out_after
returns-clause-out_after c =
    let i = c.loop-key.invariant in
    (write_end i.written (handed_none _ (c.in_default.ensures _ _ i.first i.second))).1
