-- What a call of the unit answers, in document 01's numbers, and what the code's results come to.
use Rattle.std.specs.Prelude.{ℕ, Result, Ok, Err}
use Rattle.wire.specs.{declared.refusal.Refusal.{Refusal}, Refusals.{code_of}}
use Rattle.request.specs.declared.reply.Done.{Done}
use Rattle.peripheral.specs.declared.record.Peripheral.{Peripheral}

-- document 01's number, how many bytes were written, and the next record
pub record Outcome : Type 0 where
  pub code : ℕ
  pub count : ℕ
  pub peripheral : Peripheral

-- what a call on the unit p comes to by its result: a refusal has a count of 0 and the record as it came in. A request's, and a notice's
abbrev pub of_request : Peripheral → Result (Done Peripheral) Refusal → Outcome
of_request p (Ok d) = record { code = 0; count = d.count; peripheral = d.next }
of_request p (Err e) = record { code = code_of e; count = 0; peripheral = p }

abbrev pub of_change : Peripheral → Result Peripheral Refusal → Outcome
of_change p (Ok next) = record { code = 0; count = 0; peripheral = next }
of_change p (Err e) = record { code = code_of e; count = 0; peripheral = p }
