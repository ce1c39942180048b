-- What the owner's demand 1 says of a refused call, whichever it is.
use Rattle.std.specs.Prelude.{◌≡◌}
use Rattle.wire.specs.{declared.refusal.Refusal.{Refusal}, Refusals.{code_of}}
use Rattle.batch.specs.declared.refusal.Refusal as Batch
use Rattle.batch.specs.Refusals as batch
use Rattle.camera.specs.{declared.record.Camera.{Camera}}
use Rattle.demands.specs.Calls.{Call, outcome, lent, left, next}

-- a call that changes nothing: no count, the record as it came in, every lent byte as it was
pub record Unchanged (c : Camera) (call : Call) : Type 0 where
  pub count : (outcome c call).count ≡ 0
  pub camera : next c call ≡ c
  pub buffer : left c call ≡ lent call

-- A refusal of the code is told from any other by its number: what a call answers is determined by what its promise equates it to. None has
-- the number of acceptance (`is_refused` of `wire` and `batch`).
pub record ToldApart : Type 0 where
  pub calls : (a b : Refusal) → code_of a ≡ code_of b → a ≡ b
  pub batches : (a b : Batch.Refusal) → batch.code_of a ≡ batch.code_of b → a ≡ b
