-- Before the loop by the header's test, and behind it by what the cursor found.
use Rattle.std.proofs.Common.{◌∙◌}
use Rattle.descriptors.proofs.Laws.Scan.{begins, none_such, found_there}
use Rattle.descriptors.proofs.properties.property.Goals as goal

pub loop-c-init : goal.loop-c-init
loop-c-init c = begins _ _ _ c.start-c.ensures c.in_ok-check_header.ensures

pub returns-in_default : goal.returns-in_default
returns-in_default c = none_such _ _ _ c.loop-c.invariant c.loop-c-test.false c.in_default.is

pub returns : goal.returns
returns c = c.found_at.ensures ∙ found_there _ _ _ c.loop-c.invariant c.loop-c-test.false _ _ c.in-Some.is
