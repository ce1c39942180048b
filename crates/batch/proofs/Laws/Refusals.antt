-- No refusal of a batch has the number of acceptance. Assumes nothing.
use mathlib.Core.{Path.{◌≡◌, refl}, Bool.{false}}
use Prim.Native.Nat.{ℕ}
use lib.Dec.{eqb}
use Rattle.std.specs.Prelude.{Result, Ok, Err, is_err}
use Rattle.std.specs.Result.{result_unwrap_or}
use Rattle.wire.specs.Refusals.{verdict}
use Rattle.wire.specs.declared.refusal.Refusal as Wire
use Rattle.request.specs.declared.reply.Done.{Done}
use Rattle.camera.specs.{declared.record.Camera.{Camera}, Outcomes.{of_request}}
use Rattle.batch.specs.{declared.refusal.Refusal.{Refusal}, Refusals.{code_of}}
use Rattle.batch.specs.declared.refusal.Refusal.TheVariants as R

pub not_accepted : (e : Refusal) → code_of e ≡ 0 → ⊥
not_accepted R.NoRoom h = cc
not_accepted R.MalformedRecord h = cc
not_accepted R.Cut h = cc

-- what a request to the camera c comes to, by the number and the rest that are made of its result
module _ (c : Camera) where
  abbrev pub done : Result (Done Camera) Wire.Refusal → Done Camera
  done r = result_unwrap_or r (record { count = 0; next = c })

  pub told_code : (r : Result (Done Camera) Wire.Refusal) → (of_request c r).code ≡ verdict r
  told_code (Ok d) = refl
  told_code (Err e) = refl

  pub told_count : (r : Result (Done Camera) Wire.Refusal) → (of_request c r).count ≡ (done r).count
  told_count (Ok d) = refl
  told_count (Err e) = refl

  pub told_next : (r : Result (Done Camera) Wire.Refusal) → (of_request c r).camera ≡ (done r).next
  told_next (Ok d) = refl
  told_next (Err e) = refl

-- a result that is no error
pub no_error : {A : Type 0} (r : Result A Wire.Refusal) → is_err r ≡ false → verdict r ≡ 0
no_error (Ok a) h = refl
no_error (Err e) h = cc
