-- Document 01, "Requests and the order of tests", on a camera: `request` has the tests, over the camera's table.
use Rattle.std.specs.Prelude.{ℕ}
use mathlib.Core.{List.{List, []}, Bool.{Bool, cond, not, ◌&&◌}}
use Rattle.std.specs.Prelude.{eqb}
use Rattle.wire.specs.{Selectors.{throttle}, Uvc.{set_cur, wrong_state}}
use Rattle.request.specs.{Setup.{setup_selector}, Table.{Table}, Tests.{full_answer, table_refusal, request_code, set_accepted}}
use Rattle.request.specs.Requests.{replied, result_by, done_by}
use Rattle.controls.specs.declared.Setting.{Setting}
use Rattle.profile.specs.{declared.Profile.{Profile}, Profile.{has, is_settable, set_length, payload_length}, Items.{set_refusal}}
use Rattle.settings.specs.{declared.settings.Settings.{Settings}, Settings.{no_settings}, Kept.{settings_well_formed}, Items.{set_gives}}
use Rattle.answering.specs.Answering.{info_of, value_of}
use Rattle.camera.specs.declared.record.Camera.{Camera}
use Rattle.camera.specs.Outcomes.{Outcome}
use Rattle.camera.specs.Record.{puts}

-- test 7: a SET of the throttle while the stream is stopped
abbrev pub state_refusal : (streaming : Bool) → (selector code : ℕ) → ℕ
state_refusal streaming selector code = cond (eqb selector throttle && eqb code set_cur && not streaming) wrong_state 0

-- the table of a camera's controls
abbrev pub table_with : Profile → Bool → Settings → Table
table_with p streaming s = record {
  formed = settings_well_formed p s;
  unit = p.unit;
  interface = p.interface;
  present = has p;
  settable = is_settable p;
  set_length = set_length p;
  state = state_refusal streaming;
  values = set_refusal p;
  len = payload_length p;
  info = info_of p;
  value = value_of p s;
}

abbrev pub table : Camera → Table
table c = table_with c.profile c.streaming c.settings

-- as far as tests 2 to 8 go, which look at no setting that is held
abbrev pub rules : Profile → Bool → Table
rules p streaming = table_with p streaming no_settings

-- the full answer to a GET
abbrev pub camera_answer : Camera → ℕ → ℕ → List ℕ
camera_answer c = full_answer (table c)

-- the number of a SET before its payload is looked at: the control is there, takes a SET, and streams if it is the throttle
abbrev pub control_refusal : Profile → Bool → ℕ → ℕ
control_refusal p streaming = table_refusal (rules p streaming)

-- a SET is accepted by tests 2 to 8, with the profile and the flag at that place; they look at no setting that is held
abbrev pub accepts_set : Profile → Bool → List ℕ → List ℕ → Bool
accepts_set p streaming = set_accepted (rules p streaming)

-- the settings that a request gives: an accepted SET's; none where it is refused or sets nothing
unfoldable pub request_gives : Profile → Bool → List ℕ → List ℕ → List (ℕ × Setting)
request_gives p streaming setup payload = cond (accepts_set p streaming setup payload) (set_gives p (setup_selector setup) payload) []

-- the number of a request; `room` is the length of the reply buffer
abbrev pub requested_code : Camera → List ℕ → List ℕ → ℕ → ℕ
requested_code c = request_code (table c)

-- what a call hands back
abbrev pub outcome_of : (code count : ℕ) → Camera → Outcome
outcome_of code count c = record { code = code; count = count; camera = c }

-- a refusal: its number, no count, and the record as it came in
abbrev pub refused : ℕ → Camera → Outcome
refused code c = outcome_of code 0 c

-- by its number, a call is refused or comes to what it does
abbrev pub outcome_by : ℕ → Camera → Outcome → Outcome
outcome_by = result_by outcome_of

-- what an accepted request does: a SET puts its settings in, a GET sends its answer
unfoldable pub request_done : Camera → List ℕ → List ℕ → Outcome
request_done c s payload = done_by outcome_of (table c) c (puts c (set_gives c.profile (setup_selector s) payload)) s

unfoldable pub requested : Camera → List ℕ → List ℕ → ℕ → Outcome
requested c s payload room = outcome_by (requested_code c s payload room) c (request_done c s payload)

-- the reply buffer afterwards
abbrev pub requested_reply : Camera → List ℕ → List ℕ → List ℕ → List ℕ
requested_reply c = replied (table c)
