-- What a request comes to and leaves in the reply buffer, by tests 1 to 7 and its type. Assumes nothing.
use Rattle.std.proofs.Common.{◌≡◌, ℕ, List, length, true, false, sym, ◌∙◌}
use Rattle.request.specs.{Setup.{setup_selector, setup_w_length, is_set_request}, Reply.{Sent, sent_of, reply_of}}
use Rattle.request.specs.Tests.{admission, asked}
use Rattle.request.proofs.Laws.Requests.{not_admitted, admitted_set, admitted_get}
use Rattle.peripheral.specs.{declared.record.Peripheral.{Peripheral}, Values.{after_set}, Calls.{refused}, Steps.{set_done}}
use Rattle.peripheral.specs.Requests.{table, outcome_of, requested, requested_reply}

module _ (p : Peripheral) (setup payload reply : List ℕ) where
  -- the record that an accepted SET would leave
  abbrev after : Peripheral
  after = after_set p (setup_selector setup) payload

  module _ (code : ℕ) (is : code ≡ admission (table p) setup payload) where
    pub refused_is : (code ≡ 0 → ⊥) → requested p setup payload (length reply) ≡ refused code p
    unfolding requested
    refused_is n = rw is (sym (not_admitted outcome_of (table p) p after setup payload reply (λ z. n (is ∙ z))).0)

    pub refused_leaves : (code ≡ 0 → ⊥) → requested_reply p setup payload reply ≡ reply
    refused_leaves n = sym (not_admitted outcome_of (table p) p after setup payload reply (λ z. n (is ∙ z))).1

    module _ (z : code ≡ 0) where
      pub set_is : is_set_request setup ≡ true → requested p setup payload (length reply) ≡ set_done p (setup_selector setup) payload
      unfolding requested set_done
      set_is e = sym (admitted_set outcome_of (table p) p after setup payload reply (sym is ∙ z) e).0

      pub set_leaves : is_set_request setup ≡ true → requested_reply p setup payload reply ≡ reply
      set_leaves e = sym (admitted_set outcome_of (table p) p after setup payload reply (sym is ∙ z) e).1

      pub get_is : is_set_request setup ≡ false → (s : Sent) → s ≡ sent_of (asked (table p) setup) (setup_w_length setup) (length reply)
          → requested p setup payload (length reply) ≡ outcome_of s.code s.count p
      unfolding requested
      get_is e s f = rw f (sym (admitted_get outcome_of (table p) p after setup payload reply (sym is ∙ z) e).0)

      pub get_leaves : is_set_request setup ≡ false
          → requested_reply p setup payload reply ≡ reply_of (asked (table p) setup) (setup_w_length setup) reply
      get_leaves e = sym (admitted_get outcome_of (table p) p after setup payload reply (sym is ∙ z) e).1

-- what the proof of `request` goes by
pub ruleset request_rules = (refused_is, refused_leaves, set_is, set_leaves, get_is, get_leaves)
