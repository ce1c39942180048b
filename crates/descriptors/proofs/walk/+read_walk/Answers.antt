-- One turn of the loop of `walk`, by what `read` answered.
use Rattle.std.proofs.Common.{◌≡◌, ◌∙◌, Err, refl, arith}
use Rattle.descriptors.proofs.Laws.Walk.{goes_on, ends_here}
use Rattle.descriptors.proofs.walk.+read_walk.Goals as goal

pub walk-loop-at-preserved : goal.walk-loop-at-preserved
walk-loop-at-preserved t c =
    let e = c.in_ok-at.ensures in
    let next = goes_on _ _ _ _ (omega arith) (omega arith) _ e.told in
    let w = c.loop-at.invariant in
    (omega (arith, next), omega (arith, next), next.2 ∙ w.2, e.kept refl ∙ w.3)

pub walk-returns-in_err-at-clause-told : goal.walk-returns-in_err-at-clause-told
walk-returns-in_err-at-clause-told t c =
    let e : c.from_residual.result ≡ Err c.in_err-at.field-0.0 = grind arith in
    let here = ends_here _ _ _ _ (omega arith) (omega arith) _ c.in_err-at.ensures.told in
    rw e (here ∙ c.loop-at.invariant.2)
