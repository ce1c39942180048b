-- A GET that is answered, by what the calls ensure. Assumes nothing.
use mathlib.Core.Path.{refl, sym}
use Rattle.camera.proofs.Laws.Requests.{get_sent}
use Rattle.camera.proofs.record.Camera.request.Goals as goal

pub returns-clause-value : goal.returns-clause-value
returns-clause-value c =
    get_sent c.args.self c.args.setup.now c.args.payload.now c.args.reply.now (sym c.in_ok-check.ensures) c.selector-selector.ensures
    c.extension_unit.ensures c.control-control.ensures c.in_ok-check-2.ensures refl c.code.ensures c.in_ok-check_state.ensures refl
    (sym c.if-is_set_request.ensures) c.get.ensures.value c.in_ok-count.was
