-- One key after the other is written.
use Rattle.std.proofs.Common.{arith}
use Rattle.encoding.proofs.Laws.Encoding.{progress_first, progress_some, progress_none, progress_all}
use Rattle.encoding.proofs.write.Goals.{in-Some, in_default}
use Rattle.encoding.proofs.write.Goals as goal

pub loop-key-init : goal.loop-key-init
loop-key-init c = (omega arith, progress_first _ _)

pub loop-key-preserved : goal.loop-key-preserved
loop-key-preserved c =
    let p = c.loop-key.invariant.1 in (
      omega arith,
      elim c.match-held.branch [
        | in-Some w ↦
            rw (w.out-is, w.at-is, w.record_length-at.ensures)
            (progress_some _ _ _ c.held.ensures _ w.in-Some.is p w.put_setting.ensures)
        | in_default w ↦ rw (w.out-is, w.at-is) (progress_none _ _ _ c.held.ensures w.in_default.is p)
      ],
    )

pub returns : goal.returns
returns c = progress_all c.args.s (omega arith) c.loop-key.invariant.1
