-- A value in range is below 1024, so the product fits, whichever is divided.
use mathlib.Core.Path.{◌≡◌}
use lib.{Dec.{lit<}, IntN.{pos}, Signed.{mag}}
use Rattle.std.proofs.Common.{arith, ◌<◌}
use Rattle.exposure.specs.Exposure.{divisor}
use Rattle.exposure.proofs.Laws.Bounds.{small_held, quotient_small, small_product}
use Rattle.exposure.proofs.Laws.Exposure.{divisor_small, range_small, scaled_held}
use Rattle.exposure.proofs.EvLimits.scaled.Goals as goal

pub overflow_mul-result : goal.overflow_mul-result
overflow_mul-result c =
    let place = c.in-Some.place in
    let v : mag c.args.s.value < 1024 = range_small c.args.self (grind arith) place c.args.s.value (grind arith) in
    let k : c.from-then-in_range.result ≡ pos (divisor place) = grind arith in
    search (small_product, small_held, quotient_small, v, k, divisor_small place, lit<)

pub returns-then-in_range : goal.returns-then-in_range
returns-then-in_range c =
    scaled_held c.args.self c.args.s (grind arith) c.in-Some.place (grind arith) (grind arith) c.from-then-in_range.result (grind arith)
