-- Document 01, "Settings sheet": loading a snapshot, its form and then record by record, each as a SET; all or nothing.
use Rattle.std.specs.Prelude.{ℕ}
use mathlib.Core.{List.{List, [], ◌∷◌, ◌++◌}, Option.{Option, map, Option-elim}, Bool.{Bool, cond, not}}
use lib.{Dec.{leb, eqb}, ListN.{drop}}
use Rattle.wire.specs.{Rows.{Row, ◌⇒◌, answers, first_of}, Endpoints.{places, endpoint_limit}, Uvc.{malformed_record, malformed_snapshot}}
use Rattle.wire.specs.Selectors as selector
use Rattle.snapshot.specs.{Keys.{ev_key, hdr_key, keys, metadata_key}, Form.{well_formed}, Records.{decode}}
use Rattle.controls.specs.Controls.{Item, Refused, item_code, first_refusal}
use Rattle.controls.specs.declared.Setting.{Setting}
use Rattle.profile.specs.{declared.Profile.{Profile}, Items.{profile_item}}
use Rattle.settings.specs.Items.{given_of, all_given}
use Rattle.camera.specs.declared.record.Camera.{Camera}
use Rattle.camera.specs.Outcomes.{Outcome}
use Rattle.camera.specs.Record.{puts, record_well_formed_under}
use Rattle.camera.specs.Requests.{control_refusal, outcome_by}

-- the selector of a key, which is the kind of its records
abbrev pub selector_at : ℕ → ℕ
selector_at k =
    cond (eqb k ev_key) selector.ev
    (cond (leb k places) selector.face
    (cond (eqb k metadata_key) selector.metadata
    (cond (eqb k hdr_key) selector.hdr
    selector.throttle)))

-- a record of a key as a SET: the control's tests, then the value tests of its payload
unfoldable pub record_item : Profile → Bool → ℕ → List ℕ → Item
record_item p streaming k r =
    let code = control_refusal p streaming (selector_at k) in
    cond (eqb code 0) (profile_item p (selector_at k) (drop 4 r) 0) (Refused code)

-- the record of key k in a snapshot as a SET, or none
abbrev pub load_item : Profile → Bool → List ℕ → ℕ → Option Item
load_item p streaming s k = map (record_item p streaming k) (decode s k)

-- the first refusal of its records, in ascending order of their keys
unfoldable pub load_refusal : Profile → Bool → List ℕ → ℕ
load_refusal p streaming s = first_refusal keys 0 (λ k. Option-elim (load_item p streaming s k) 0 item_code)

-- the form of the whole snapshot, then record by record; first fault answering
unfoldable pub load_tests : Profile → Bool → List ℕ → List Row
load_tests p streaming s =
    (not (well_formed s) ⇒ malformed_snapshot)
    ∷ answers (load_refusal p streaming s)
    ∷ []

unfoldable pub load_code_under : ℕ → Camera → List ℕ → ℕ
load_code_under limit c s =
    first_of (((not (record_well_formed_under limit c) ⇒ malformed_record) ∷ []) ++ load_tests c.profile c.streaming s)

abbrev pub load_code : Camera → List ℕ → ℕ
load_code = load_code_under endpoint_limit

-- the settings that an accepted load gives: its records', in order
unfoldable pub load_gives : Profile → Bool → List ℕ → List (ℕ × Setting)
load_gives p streaming s = all_given keys 0 (λ k. Option-elim (load_item p streaming s k) [] given_of)

-- a load under a limit of endpoints, which only the record test looks at
unfoldable pub loaded_under : ℕ → Camera → List ℕ → Outcome
loaded_under limit c s =
    outcome_by (load_code_under limit c s) c
    (record { code = 0; count = 0; camera = puts c (load_gives c.profile c.streaming s) })

abbrev pub loaded : Camera → List ℕ → Outcome
loaded = loaded_under endpoint_limit
