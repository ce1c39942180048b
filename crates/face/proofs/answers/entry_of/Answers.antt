-- `entry_of`: its flags are one byte.
use Rattle.std.proofs.Common.{sym}
use Rattle.face.proofs.Laws.Answers.{entry_small}
use Rattle.face.proofs.answers.entry_of.Goals as goal

pub returns : goal.returns
returns c = sym (entry_small _ _ c.ranges.flags.fits)
