-- `zero_tail`: each byte of the tail is tested.
use Rattle.std.proofs.Common.{rules, eqb, ap, ◌∙◌}
use Rattle.std.proofs.lemmas.Iterator.{YieldsList-from_slice}
use Rattle.std.proofs.lemmas.Iterator.Search.{all_from_yields_List}
use Rattle.snapshot.specs.Form.{zeros}
use Rattle.snapshot.proofs.Laws.Told.{all_zeros}
use Rattle.snapshot.proofs.records.zero_tail.Goals as goal

pub returns : goal.returns
returns c =
    all_from_yields_List (λ b. eqb b 0) _ _ _ c.all.ensures.ran (YieldsList-from_slice c.part_at.result.now cc) (λ x b q k. search rules)
    ∙ all_zeros c.part_at.result.now ∙ ap zeros c.part_at.ensures.bytes
