-- How many bytes of reply a request sends, by what its setup's type and tests 2 to 6 come to. Assumes nothing.
use Rattle.std.proofs.Common.{◌≡◌, ℕ, ◌≤◌, List, true, false, min, sym, ◌∙◌}
use Rattle.wire.specs.Rows.{first_of}
use Rattle.request.specs.{Setup.{setup_code, setup_selector, setup_w_length, is_set_request}, Table.{table_of}, Tests.{request_tests}}
use Rattle.request.specs.Answers.{longest_answer}
use Rattle.profile.specs.{declared.Profile.{Profile}, Profile.{profile_valid, extension_unit, profile_control}}
use Rattle.answering.specs.Answering.{answer_length}
use Rattle.batch.specs.{Packing.{Request}, Answers.{reply_length}}
use Rattle.batch.proofs.Laws.Answers.{tests, reply_refused, reply_set, reply_get, reply_within}

module _ (p : Profile) (setup payload : List ℕ) (v : profile_valid p ≡ true) where
  abbrev asked : Request
  asked = record { setup = setup; payload = payload }

  pub measured_within : reply_length p (record { setup = setup; payload = payload }) ≤ longest_answer
  measured_within = reply_within p v asked

  pub measured_set : is_set_request setup ≡ true → reply_length p (record { setup = setup; payload = payload }) ≡ 0
  measured_set e = sym (reply_set p v asked e)

  module _ (number : ℕ)
      (is : number ≡ first_of (request_tests (table_of (extension_unit p) (profile_control p (setup_selector setup) payload)) setup payload))
    where
      -- tests 2 to 6 over the profile's table
      number_is : number ≡ tests p v asked
      unfolding request_tests extension_unit profile_control
      number_is = is

      pub measured_refused : (number ≡ 0 → ⊥) → reply_length p (record { setup = setup; payload = payload }) ≡ 0
      measured_refused n = sym (reply_refused p v asked (λ z. n (number_is ∙ z)))

      pub measured_get : number ≡ 0 → is_set_request setup ≡ false → reply_length p (record { setup = setup; payload = payload })
          ≡ min (setup_w_length setup) (answer_length p (setup_selector setup) (setup_code setup))
      measured_get z e = sym (reply_get p v asked (sym number_is ∙ z) e)

-- what the proof of `reply_length` goes by
pub ruleset measuring_rules = (measured_within, measured_set, measured_refused, measured_get)
