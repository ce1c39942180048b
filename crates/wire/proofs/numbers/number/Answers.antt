-- `number` reads a byte more at each turn, and stays below 256 ^ k.
use Rattle.std.proofs.Common.{◌≡◌, ◌-◌, arith, ◌∙◌}
use Rattle.wire.specs.Numbers.{number, le_at}
use Rattle.wire.proofs.Laws.{Numbers.{lower, below, at-start}, Parts.{rest}}
use Rattle.wire.proofs.numbers.number.Goals as goal

pub loop-j-init : goal.loop-j-init
unfolding le_at number
loop-j-init c = let e : c.args.k - c.args.k ≡ 0 = omega arith in rw e

pub overflow_mul-n : goal.overflow_mul-n
overflow_mul-n c = omega (arith, below 7 (c.args.k - c.loop-j.j) c.tail-p.result.now c.loop-j.j c.type_inv.p (omega arith))

pub overflow_add-n : goal.overflow_add-n
overflow_add-n c =
    let j = c.loop-j.j in
    let p = c.tail-p.result.now in
    omega (
      arith,
      lower c.args.k p j (omega arith) (omega arith),
      below 8 (c.args.k - (j - 1)) p (j - 1) c.type_inv.p (omega arith),
    )

pub loop-j-preserved : goal.loop-j-preserved
loop-j-preserved c = omega (arith, lower c.args.k c.tail-p.result.now c.loop-j.j (omega arith) (omega arith))

pub returns : goal.returns
returns c =
    let k = c.args.k in
    let s = c.args.s.now in
    let z : c.loop-j.j ≡ 0 = omega arith in
    let f : k - 0 ≡ k = omega arith in
    let n : c.loop-j.n ≡ le_at k s c.args.i =
    rw (z, f) at c.loop-j.invariant ∙ rw (rest c.tail-p.ensures) (at-start k s c.args.i) in
    (n, rw n (below k k s c.args.i c.type_inv.s (omega arith)))
