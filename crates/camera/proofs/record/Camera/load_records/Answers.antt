-- Record by record, as the laws of loading have each turn. Assumes nothing.
use borrow.Author.Rules.{rules}
use mathlib.Core.Path.{ap, ◌∙◌}
use Rattle.wire.proofs.Laws.{Parts.{rest}, Refusals.{not_accepted}}
use Rattle.snapshot.specs.Records.{unread}
use Rattle.camera.proofs.Laws.Loading.{nothing_loaded, load_stops, load_next}
use Rattle.camera.proofs.record.Camera.load_records.Goals as goal

pub loop-key-init : goal.loop-key-init
loop-key-init c =
    let begins = ap unread c.into_iter-key-iterator.ensures.into_iter_gives ∙ c.records_in-key-items.ensures in
    nothing_loaded _ _ c.requires (ap (λ b. b.now) begins)

pub loop-key-preserved : goal.loop-key-preserved
loop-key-preserved c =
    let step = c.in-Some.ensures.steps in
    load_next _ _ c.loop-key.invariant step.0 step.1.bytes (rest step.2) c.in_ok-settings.ensures

-- the record is refused
pub returns-in_err-settings : goal.returns-in_err-settings
returns-in_err-settings c =
    let step = c.in-Some.ensures.steps in
    let stops =
    load_stops _ _ c.loop-key.invariant step.0 step.1.bytes (rest step.2) c.in_err-settings.ensures (not_accepted _) in
    search rules
