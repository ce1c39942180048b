-- `place_of`: what `position` finds among the addresses listed.
use Rattle.std.proofs.Common.{rules, tests, ap, ◌∙◌}
use Rattle.std.proofs.lemmas.Iterator.{YieldsList-from_slice}
use Rattle.std.proofs.lemmas.Iterator.Search.{position_from_yields_List}
use lib.Dec.{eqb}
use Rattle.face.specs.Limits.{place_or_limit}
use Rattle.face.proofs.Laws.Limits.{place_found}
use Rattle.face.proofs.limits.place_of.Goals as goal

pub returns-clause-value : goal.returns-clause-value
returns-clause-value c =
    ap place_or_limit
    (position_from_yields_List (λ a. eqb a c.args.address) _ _ c.position.result c.position.ensures.ran
    (YieldsList-from_slice _ c.iter.ensures.rest) (λ x b q k. search (rules, tests)))
    ∙ place_found c.args.l c.args.address _ c.endpoints_of.ensures.0
