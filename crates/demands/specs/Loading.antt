-- Document 01 on what is tested as a SET: a snapshot's records, whose load counts as those SETs, and the settings that a record holds.
use Rattle.std.specs.Prelude.{ℕ}
use mathlib.Core.{Path.{◌≡◌}, List.{List, [], ◌∷◌, ◌++◌}, Option.{some}, Bool.{Bool, true, cond}}
use lib.{Dec.{eqb}, ListN.{length, drop}}
use Rattle.wire.specs.{Numbers.{bytes_of}, Rows.{first_of}, Uvc.{set_cur}}
use Rattle.request.specs.Tests.{request_tests, value_tests}
use Rattle.snapshot.specs.Records.{KeyedRecord, records_of, Each}
use Rattle.controls.specs.{declared.Setting.{Setting}, Controls.{item_code}}
use Rattle.profile.specs.declared.Profile.{Profile}
use Rattle.settings.specs.Items.{given_of}
use Rattle.camera.specs.{declared.record.Camera.{Camera}, Record.{held, record_well_formed}, Requests.{rules, accepts_set}}
use Rattle.camera.specs.Loading.{selector_at, record_item, loaded}
use Rattle.encoding.specs.Encoding.{record_of}
use Rattle.demands.specs.Calls.{Call, request, load}
use Rattle.demands.specs.Runs.{gives, given, run}

-- the setup of a record's SET: SET_CUR of the control of the key k, to the profile's interface and unit, which are bytes, with the length
-- of the record's payload, which is all behind its four bytes of length and kind
abbrev pub record_set : Profile → ℕ → List ℕ → List ℕ
record_set p k r = 0x21 ∷ set_cur ∷ 0 ∷ selector_at k ∷ p.interface ∷ p.unit ∷ bytes_of 2 (length (drop 4 r))

-- the number that tests 2 to 8 give that SET
abbrev pub set_code : Profile → Bool → ℕ → List ℕ → ℕ
set_code p streaming k r =
    first_of (request_tests (rules p streaming) (record_set p k r) (drop 4 r) ++ value_tests (rules p streaming) (record_set p k r) (drop 4 r))

-- Loading tests a record of the key k as its SET is tested, and takes from it what the SET gives.
pub record AsSet (p : Profile) (streaming : Bool) (k : ℕ) (r : List ℕ) : Type 0 where
  pub code : set_code p streaming k r ≡ item_code (record_item p streaming k r)
  pub settings : (reply : List ℕ) → gives p streaming (request (record_set p k r) (drop 4 r) reply) ≡ given_of (record_item p streaming k r)

-- the SETs of records, one after the other; none is lent a reply buffer
abbrev pub record_sets : Profile → List KeyedRecord → List Call
record_sets p [] = []
record_sets p (e ∷ l) = request (record_set p e.0 e.1) (drop 4 e.1) [] ∷ record_sets p l

-- the first of their numbers that isn't 0
abbrev pub first_fault : Profile → Bool → List KeyedRecord → ℕ
first_fault p streaming [] = 0
first_fault p streaming (e ∷ l) =
    cond (eqb (set_code p streaming e.0 e.1) 0) (first_fault p streaming l) (set_code p streaming e.0 e.1)

-- a camera with profile p and this flag accepts the SET of each record
abbrev pub EachAccepted : Profile → Bool → List KeyedRecord → Type 0
EachAccepted p streaming = Each (λ k r. accepts_set p streaming (record_set p k r) (drop 4 r) ≡ true)

-- Loading a snapshot without a form fault, on a camera that is not refused 0x21: it counts as the SETs of its records, in ascending order
-- of their keys, as `records_of` has them.
pub record CountsAsSets (c : Camera) (s : List ℕ) : Type 0 where
  -- the first fault of any of them answers
  pub answer : (loaded c s).code ≡ first_fault c.profile c.streaming (records_of s)
  -- so a load is accepted exactly where each of them is
  pub accepted_each : (loaded c s).code ≡ 0 → EachAccepted c.profile c.streaming (records_of s)
  pub each_accepted : EachAccepted c.profile c.streaming (records_of s) → (loaded c s).code ≡ 0
  -- and then gives the settings that they give, and leaves the record that they leave
  pub settings : (loaded c s).code ≡ 0
      → gives c.profile c.streaming (load s) ≡ given c.profile c.streaming (record_sets c.profile (records_of s))
  pub camera : (loaded c s).code ≡ 0 → (loaded c s).camera ≡ run c (record_sets c.profile (records_of s))

-- the SET of the record of a setting s of the key k gives that setting to a camera that streams
abbrev pub OwnSet : Profile → ℕ → Setting → Type 0
OwnSet p k s = gives p true (request (record_set p k (record_of s)) (drop 4 (record_of s)) []) ≡ (k, s) ∷ []

-- The record test goes by the own SET of each setting: a record of a valid profile is well formed exactly where, if streaming,
-- the own SET of each setting held gives it.
pub record KeepsSetRules (c : Camera) : Type 0 where
  pub formed_sets : record_well_formed c ≡ true → (k : ℕ) (s : Setting) → held c k ≡ some s → OwnSet c.profile k s
  pub sets_formed : ((k : ℕ) (s : Setting) → held c k ≡ some s → OwnSet c.profile k s) → record_well_formed c ≡ true
