-- What the code's steps go by, which its private functions' promises cite. No statement and no public promise depends on this file.
use Rattle.std.specs.Prelude.{ℕ, List}
use Rattle.profile.specs.Items.{set_refusal}
use Rattle.controls.specs.Controls.{Item, item_code}
use Rattle.settings.specs.{declared.settings.Settings.{Settings}, Items.{SetTaken, given_of, put_all, set_gives}}
use Rattle.camera.specs.declared.record.Camera.{Camera}
use Rattle.camera.specs.Outcomes.{Outcome}
use Rattle.camera.specs.Record.{puts}
use Rattle.camera.specs.Requests.{outcome_by}
use Rattle.camera.specs.Loading.{load_refusal, load_gives}

-- past test 7: a SET of a selector
unfoldable pub set_done : Camera → ℕ → List ℕ → Outcome
set_done c selector payload =
    outcome_by (set_refusal c.profile selector payload) c
    (record { code = 0; count = 0; camera = puts c (set_gives c.profile selector payload) })

-- an item taken as a SET: its number, and the settings with it or as they were
unfoldable pub item_taken : Settings → Item → SetTaken
item_taken h i = record { code = item_code i; settings = put_all h (given_of i) }

-- past the form: a load of the records
unfoldable pub load_done : Camera → List ℕ → Outcome
load_done c s =
    outcome_by (load_refusal c.profile c.streaming s) c
    (record { code = 0; count = 0; camera = puts c (load_gives c.profile c.streaming s) })
