-- What a SET's payload comes to, item by item: the first refusal answers, or all are taken.
use Rattle.std.specs.Prelude.{ℕ, zero, suc, Result, Ok, Err}
use mathlib.Core.{List.{List, [], ◌∷◌, ◌++◌}, Bool.{cond}}
use Rattle.std.specs.Prelude.{eqb}
use Rattle.wire.specs.{declared.refusal.Refusal.{Refusal}, Refusals.{code_of}}
use Rattle.controls.specs.Controls.{Item, Refused, Given}
use Rattle.controls.specs.declared.Setting.{Setting}
use Rattle.profile.specs.{declared.Profile.{Profile}, Items.{item_count, profile_item, set_refusal}}
use Rattle.settings.specs.declared.settings.Settings.{Settings}
use Rattle.settings.specs.Settings.{setting_key, put}

-- the settings that an item gives, each with its key
unfoldable pub given_of : Item → List (ℕ × Setting)
given_of (Refused code) = []
given_of (Given s) = (setting_key s, s) ∷ []

-- the settings that the n from k on give, in order
unfoldable pub all_given : ℕ → ℕ → (ℕ → List (ℕ × Setting)) → List (ℕ × Setting)
all_given zero k given = []
all_given (suc n) k given = given k ++ all_given n (suc k) given

-- settings put in one after the other
unfoldable pub put_all : Settings → List (ℕ × Setting) → Settings
put_all h [] = h
put_all h (s ∷ rest) = put_all (put h s.1) rest

-- the settings that a SET gives once it is accepted
unfoldable pub set_gives : Profile → ℕ → List ℕ → List (ℕ × Setting)
set_gives p selector payload = all_given (item_count selector payload) 0 (λ i. given_of (profile_item p selector payload i))

-- document 01's number, and the settings; on a refusal they are as they came in
pub record SetTaken : Type 0 where
  pub code : ℕ
  pub settings : Settings

-- what the code's result comes to, where h are the settings that came in
abbrev pub set_told : Settings → Result Settings Refusal → SetTaken
set_told h (Ok s) = record { code = 0; settings = s }
set_told h (Err e) = record { code = code_of e; settings = h }

-- a SET's number, and the settings with all of it or as they were
unfoldable pub set_taken : Profile → Settings → ℕ → List ℕ → SetTaken
set_taken p h selector payload =
    let code = set_refusal p selector payload in
    record { code = code; settings = cond (eqb code 0) (put_all h (set_gives p selector payload)) h }
