-- `walk`: each step by what is met at its place; the lemmas are those of the walk.
use Rattle.std.proofs.Common.{◌≡◌, Err, arith}
use Rattle.std.proofs.lemmas.Grind.{common_steps}
use Rattle.wire.proofs.Laws.Parts.{rest}
use Rattle.frame.specs.Steps.{pass_item}
use Rattle.frame.proofs.Laws.Walk.{meets, stops, inside, goes_on}
use Rattle.frame.proofs.blocks.walk.Goals as goal

pub returns-in_err-id : goal.returns-in_err-id
returns-in_err-id c =
    let e : c.from_residual.result ≡ Err c.in_err-id.field-0.0 = grind arith in
    let m = meets c.args.block.now _ _ (omega arith) c.loop-at.invariant.left (omega arith) (rest c.tail.ensures) c.in_err-id.ensures.is in
    rw e (stops _ _ _ _ _ _ m)

pub loop-at-preserved : goal.loop-at-preserved
unfolding pass_item
loop-at-preserved c =
    let m = meets c.args.block.now _ _ (omega arith) c.loop-at.invariant.left (omega arith) (rest c.tail.ensures) c.in_ok-id.ensures.is in
    let i = inside _ _ _ _ _ _ _ m in
    record { inside = omega arith; few = omega arith; left = goes_on _ _ _ _ _ _ _ m _ (grind (arith, common_steps)) }
