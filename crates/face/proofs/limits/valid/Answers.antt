-- `valid`: each place, in the order of a range.
use Rattle.std.proofs.Common.{rules, tests, refl, sym, ◌∙◌}
use Rattle.std.proofs.lemmas.Iterator.{YieldsList-from_range}
use Rattle.std.proofs.lemmas.Iterator.Search.{all_from_yields_List}
use Rattle.face.specs.Limits.{endpoint_valid}
use Rattle.face.proofs.Laws.Limits.{range_valid}
use Rattle.face.proofs.limits.valid.Goals as goal

pub returns-then-count_valid : goal.returns-then-count_valid
returns-then-count_valid c =
    all_from_yields_List (endpoint_valid c.args.l) _ _ _ c.all.ensures.ran (YieldsList-from_range 0 _ _ refl refl)
    (λ x b q k. search (rules, tests))
    ∙ range_valid c.args.l (sym c.count_valid.ensures ∙ c.if-count_valid.true)
