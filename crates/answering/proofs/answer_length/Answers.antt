-- The codes that answer by the control. Assumes nothing.
use Rattle.std.proofs.Common.{rules}
use Rattle.settings.specs.Settings.{no_settings}
use Rattle.answering.proofs.Laws.Answering.{length_by_lem}
use Rattle.answering.proofs.answer_length.Goals as goal

pub returns-in_default : goal.returns-in_default
returns-in_default c = rw (length_by_lem c.args.p no_settings c.args.selector c.args.code) (search rules)
