-- What the loop of `answer_all` keeps true, and what falls.
use Rattle.std.proofs.Common.{◌-◌, length}
use Rattle.batch.proofs.Laws.Running.{Answered}
use Rattle.batch.proofs.running.answer_all.Given as goal

abbrev pub invariant-loop-at : goal.invariant-loop-at
invariant-loop-at l = Answered l.fn.camera l.packed l.initial.out l.out l.next l.count l.at

abbrev pub decreases-loop-at : goal.decreases-loop-at
decreases-loop-at l = length l.packed - l.at
