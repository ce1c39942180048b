-- The limits in the wider type, each times d.
use mathlib.Core.Path.{◌∙◌}
use lib.IntN.{pos, ◌*ℤ◌}
use mir.Syntax.{w32}
use mir.Val.{SFits}
use Rattle.std.proofs.Common.{rules}
use Rattle.exposure.specs.Exposure.{in_range}
use Rattle.exposure.proofs.Laws.Bounds.{widened_is, limit_is, at_most}
use Rattle.exposure.proofs.EvLimits.in_range.Goals as goal

pub returns : goal.returns
unfolding in_range
returns c =
    let l = c.args.self in
    let d = c.args.d in
    let f : SFits w32 l.minimum = search rules in
    let g : SFits w32 l.maximum = search rules in
    let low = c.new.ensures.start ∙ limit_is l.minimum c.from.result f c.from.ensures d c.from-d.result c.ranges.d c.from-d.ensures in
    let high = c.new.ensures.end ∙ limit_is l.maximum c.from-2.result g c.from-2.ensures d c.from-d.result c.ranges.d c.from-d.ensures in
    let v = widened_is c.args.value c.from-3.result c.ranges.value c.from-3.ensures in
    c.contains.ensures.value
    ∙ rw (low, high, c.new.ensures.exhausted, v, at_most (l.minimum *ℤ pos d) c.args.value, at_most c.args.value (l.maximum *ℤ pos d))
