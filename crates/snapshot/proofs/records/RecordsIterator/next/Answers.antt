-- `next`: what is behind a record is shorter.
use Rattle.std.proofs.Common.{sym, ◌∙◌}
use Rattle.snapshot.proofs.Laws.Handed.{behind_shorter}
use Rattle.snapshot.proofs.records.RecordsIterator.next.Goals as goal

pub returns-clause-goes : goal.returns-clause-goes
returns-clause-goes c =
    let shorter = behind_shorter (sym c.in_ok-key.was ∙ c.key_here.ensures) c.record_length-len.ensures c.tail-self.ensures in
    record { on = λ f. (tt, tt, shorter); keeps = tt; rests = λ f. tt }
