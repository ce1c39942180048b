-- What is proved of every camera that a program holds, with nothing asked of it but 01's own words: the theorems that ask for what a
-- record's types say, without it. `of_program` promises it of its parameter, so the types' facts are the checker's and not a reader's.
use Rattle.std.specs.Prelude.{ℕ}
use mathlib.Core.{Path.{◌≡◌}, List.{List}, Bool.{true}}
use Rattle.wire.proofs.Laws.Numbers.{Bytes}
use Rattle.request.specs.Setup.{is_set_request, setup_selector}
use Rattle.profile.specs.Profile.{profile_valid}
use Rattle.camera.specs.{declared.record.Camera.{Camera}, Record.{record_well_formed}, Loading.{loaded}}
use Rattle.demands.specs.Calls.{request, outcome, next}
use Rattle.demands.specs.{Cameras.{Ok, Typed}, Answers.{ReadsBack, SnapshotReadsBack}, Lists.{LoadsMerged, AcceptedInTurn, Restores}}
use Rattle.demands.specs.Loading.{KeepsSetRules}

pub record OfProgram (c : Camera) : Type 0 where
  pub typed : Typed c
  pub ok : record_well_formed c ≡ true → Ok c.profile c
  pub set_then_get : record_well_formed c ≡ true → (s payload reply : List ℕ) → Bytes payload → is_set_request s ≡ true
      → (outcome c (request s payload reply)).code ≡ 0 → ReadsBack c (next c (request s payload reply)) (setup_selector s) payload
  pub own_sets : profile_valid c.profile ≡ true → KeepsSetRules c
  pub snapshot_read_back : record_well_formed c ≡ true → SnapshotReadsBack c
  pub load_merged : (a b : List ℕ) → (loaded c a).code ≡ 0 → (loaded c b).code ≡ 0 → LoadsMerged c a b
  pub load_in_turn : (a b : List ℕ) → (loaded c a).code ≡ 0 → (loaded (loaded c a).camera b).code ≡ 0 → AcceptedInTurn c a b
  pub load_written : record_well_formed c ≡ true → Restores c
