-- A batch counts as its single requests. Assumes nothing.
use mathlib.Core.{Path.{◌≡◌, refl, ap, sym, ◌∙◌}, List.{List, [], ◌∷◌, ◌++◌, map}, Bool.{Bool, true}}
use Prim.Native.Nat.{ℕ}
use lib.ListN.{length}
use borrow.Author.Tests.{eq-eqb}
use Rattle.wire.specs.Rows.{first_of}
use Rattle.profile.specs.declared.Profile.{Profile}
use Rattle.camera.specs.{declared.record.Camera.{Camera}, Record.{record_well_formed}, Requests.{request_gives}}
use Rattle.invariants.proofs.Laws.Requests.{request_next, request_stays}
use Rattle.batch.specs.{Packing.{Request}, Answers.{ample_room, sent, camera_after}, Batch.{batch_tests}}
use Rattle.batch.proofs.Theorems.{done}
use Rattle.demands.specs.{Calls.{batch}, Runs.{requests_give, gives, given, run}, Batches.{singles, BatchesCount}}
use Rattle.demands.proofs.{Refusals.{refusals}, Laws.Steps.{batch_answer, refused_none}}

-- what requests give, as a list and as calls
singles_given : (p : Profile) (f : Bool) (l : List (Request × List ℕ)) → requests_give p f (map (λ x. x.0) l) ≡ given p f (singles l)
unfolding gives
singles_given p f [] = refl
singles_given p f (x ∷ l) = ap (λ g. request_gives p f x.0.setup x.0.payload ++ g) (singles_given p f l)

-- the record that they leave goes by no room
singles_run : (c : Camera) → record_well_formed c ≡ true → (l : List (Request × List ℕ))
    → camera_after c (map (λ x. x.0) l) ≡ run c (singles l)
singles_run c w [] = refl
singles_run c w (x ∷ l) =
    let r = x.0 in
    let same = request_next c r.setup r.payload ample_room w ∙ sym (request_next c r.setup r.payload (length x.1) w) in
    singles_run (sent c r).camera (request_stays c r.setup r.payload ample_room w).formed l ∙ ap (λ d. run d (singles l)) same

pub batches_count : BatchesCount
unfolding gives
batches_count c w packed out = record {
  settings = λ z l e.
      rw (eq-eqb (first_of (batch_tests c.profile packed (length out))) 0 (sym (batch_answer c packed (length out) w) ∙ z))
      (ap (requests_give c.profile c.streaming) (sym e) ∙ singles_given c.profile c.streaming l);
  camera = λ z l e. ap (λ o. o.camera) (done c packed out z) ∙ ap (camera_after c) (sym e) ∙ singles_run c w l;
  none = λ n. (refused_none c w (batch packed out) n, (refusals c (batch packed out) n).camera);
}
