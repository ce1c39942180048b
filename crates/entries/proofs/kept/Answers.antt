-- `kept`: what is judged by the table is what is judged by the addresses, at every place.
use Rattle.std.proofs.Common.{◌≡◌, rules, tests, ◌∙◌}
use Rattle.std.proofs.lemmas.Iterator.{YieldsList-from_slice, YieldsList-from_zip}
use Rattle.std.proofs.lemmas.Iterator.Search.{all_from_yields_List}
use Rattle.entries.specs.Entries.{flags_kept}
use Rattle.entries.proofs.Laws.Held.{kept_zip}
use Rattle.entries.proofs.kept.Goals as goal

pub returns : goal.returns
returns c =
    let a = c.args in
    let offers = c.offers_by_place-offers.result in
    let first : c.zip.result.a.rest.now ≡ offers = search rules in
    let second : c.zip.result.b.rest.now ≡ a.held = search rules in
    all_from_yields_List {s = c.zip.result} (λ p. flags_kept p.0 p.1) c.all.new.self _ _ c.all.ensures.ran
    (YieldsList-from_zip (YieldsList-from_slice offers first) (YieldsList-from_slice a.held second)) (λ x b q k. search (rules, tests))
    ∙ kept_zip a.present a.l a.held offers (search rules) (search rules) c.offers_by_place-offers.ensures
