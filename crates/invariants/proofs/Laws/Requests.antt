-- What a request leaves of a record that is not refused 0x21: the settings that it gives are put in, and the record is not refused either.
-- Assumes nothing.
use mathlib.Core.{Path.{◌≡◌, refl, ap, sym, ◌∙◌}, List.{List, [], ◌++◌}, Bool.{Bool, true, false, cond}}
use Prim.Native.Nat.{ℕ}
use lib.Dec.{eqb}
use borrow.Author.Tests.{eqb-true}
use Rattle.wire.specs.Rows.{Row, first_of}
use Rattle.request.specs.{Setup.{is_set_request, setup_selector}, Tests.{request_tests, value_tests, set_accepted}}
use Rattle.request.proofs.Laws.{Requests.{result_code}, Sets.{accepted_control, next_record}}
use Rattle.request.proofs.Laws.Sets as sets
use Rattle.controls.specs.declared.Setting.{Setting}
use Rattle.profile.specs.{declared.Profile.{Profile}, Profile.{profile_valid, profile_refusal}, Items.{item_count, profile_item}}
use Rattle.profile.proofs.Laws.{Profile.{valid_presence}, KnownControl.{control_known}}
use Rattle.settings.specs.Items.{given_of, set_gives, put_all}
use Rattle.settings.proofs.Laws.Kept.{control_kept}
use Rattle.camera.specs.declared.record.Camera.{Camera}
use Rattle.camera.specs.Outcomes.{Outcome}
use Rattle.camera.specs.Record.{record_well_formed, puts}
use Rattle.camera.specs.Requests.{rules, table, accepts_set, request_gives, requested_code, outcome_of, outcome_by, request_done, requested}
use Rattle.camera.proofs.Laws.Record.{formed_profile}
use Rattle.invariants.proofs.Laws.{Held.{Each}, Kept.{Good, item_good, given_good, all_good, puts_formed}}

-- tests 2 to 8
abbrev tests_of : Profile → Bool → List ℕ → List ℕ → List Row
tests_of p streaming s payload = request_tests (rules p streaming) s payload ++ value_tests (rules p streaming) s payload

-- the number of a SET, on a well-formed record
set-code : (c : Camera) (s payload : List ℕ) (room : ℕ) → record_well_formed c ≡ true → is_set_request s ≡ true
    → requested_code c s payload room ≡ first_of (tests_of c.profile c.streaming s payload)
unfolding request_tests value_tests
set-code c = sets.set-code (table c)

-- a call's number is that of its tests
pub outcome_code : (code : ℕ) (c : Camera) (done : Outcome) → done.code ≡ 0 → (outcome_by code c done).code ≡ code
outcome_code = result_code outcome_of (λ o. o.code) (λ code count c. refl)

-- a SET is accepted where the request answers 0
pub set_answer : (c : Camera) (s payload : List ℕ) (room : ℕ) → record_well_formed c ≡ true → is_set_request s ≡ true
    → accepts_set c.profile c.streaming s payload ≡ eqb (requested c s payload room).code 0
unfolding requested request_done set_accepted
set_answer c s payload room w e =
    let done : Outcome = record { code = 0; count = 0; camera = puts c (set_gives c.profile (setup_selector s) payload) } in
    rw e (ap (λ (n : ℕ). eqb n 0) (sym (outcome_code (requested_code c s payload room) c done refl ∙ set-code c s payload room w e)))

-- what a request leaves of the record
pub request_next : (c : Camera) (s payload : List ℕ) (room : ℕ) → record_well_formed c ≡ true
    → (requested c s payload room).camera ≡ puts c (request_gives c.profile c.streaming s payload)
unfolding requested request_done request_gives put_all request_tests value_tests set_accepted
request_next c s payload room w =
    next_record outcome_of (λ o. o.camera) (λ code count c. refl) (table c) c (puts c set) s payload room w
    ∙ go (accepts_set c.profile c.streaming s payload)
  where
    set : List (ℕ × Setting)
    set = set_gives c.profile (setup_selector s) payload

    go : (b : Bool) → cond b (puts c set) c ≡ puts c (cond b set [])
    go true = refl
    go false = refl

-- what an accepted SET gives is good
module _ (p : Profile) (streaming : Bool) (s payload : List ℕ) where
  abbrev selector : ℕ
  selector = setup_selector s

  pub set_control : accepts_set p streaming s payload ≡ true → profile_refusal p selector ≡ 0
  set_control a =
      let q = accepted_control (rules p streaming) s payload a in
      eqb-true _ 0 (control_kept p selector ∙ rw (q.0, q.1))

  pub request_good : profile_valid p ≡ true → Each (Good p) (request_gives p streaming s payload)
  unfolding request_gives set_gives
  request_good v = go (accepts_set p streaming s payload) refl
    where
      go : (b : Bool) → accepts_set p streaming s payload ≡ b → Each (Good p) (cond b (set_gives p selector payload) [])
      go true a =
          let k = control_known p.controls selector (valid_presence p v) (accepted_control (rules p streaming) s payload a).0 in
          all_good p (item_count selector payload) 0 (λ i. given_of (profile_item p selector payload i))
          (λ i. given_good p (profile_item p selector payload i) (λ t e. item_good p v payload i t selector k (set_control a) e))
      go false a = tt

-- a record of the same profile and flag that is not refused 0x21
pub record Stays (c d : Camera) : Type 0 where
  pub profile : d.profile ≡ c.profile
  pub streaming : d.streaming ≡ c.streaming
  pub formed : record_well_formed d ≡ true

pub request_stays : (c : Camera) (s payload : List ℕ) (room : ℕ) → record_well_formed c ≡ true → Stays c (requested c s payload room).camera
request_stays c s payload room w =
    let e = request_next c s payload room w in
    record {
      profile = ap (λ d. d.profile) e;
      streaming = ap (λ d. d.streaming) e;
      formed =
          rw e (puts_formed c.profile c.settings w (request_gives c.profile c.streaming s payload)
          (request_good c.profile c.streaming s payload (formed_profile c w)));
    }
