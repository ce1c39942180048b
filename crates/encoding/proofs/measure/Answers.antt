-- One key after the other is measured.
use Rattle.std.proofs.Common.{arith, sym, ◌∙◌}
use Rattle.encoding.proofs.Laws.Encoding.{measured_first, measured_held, measured_not, measured_all}
use Rattle.encoding.proofs.measure.Goals.{then-is_some, else-is_some}
use Rattle.encoding.proofs.measure.Goals as goal

pub loop-key-init : goal.loop-key-init
loop-key-init c = (omega arith, measured_first _)

pub loop-key-preserved : goal.loop-key-preserved
loop-key-preserved c =
    let m = c.loop-key.invariant.1 in (
      omega arith,
      elim c.if-is_some.branch [
        | then-is_some w ↦
            rw (w.n-is, w.record_length-n.ensures) (measured_held _ _ _ c.held.ensures (sym c.is_some.ensures ∙ w.if-is_some.true) m)
        | else-is_some w ↦ rw w.n-is (measured_not _ _ _ c.held.ensures (sym c.is_some.ensures ∙ w.if-is_some.false) m)
      ],
    )

pub returns : goal.returns
returns c = measured_all c.args.s (omega arith) c.loop-key.invariant.1
