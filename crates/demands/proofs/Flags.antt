-- What the seven flag bytes of a SET answer, by what they choose (`flags`' theorem). Assumes nothing.
use Prim.Native.Nat.{ℕ}
use mathlib.Core.{Path.{◌≡◌, refl, ap, sym, ◌∙◌}, List.{List}, Bool.{Bool, true, false, cond}}
use native.Mathlib.Omega.{arith}
use lib.ListN.{length, get_or}
use borrow.Author.Tests.{ne_eqb}
use Rattle.wire.specs.Uvc.{invalid_value, out_of_range}
use Rattle.wire.specs.Selectors as selectors
use Rattle.request.specs.Setup.{setup_selector, setup_code}
use Rattle.request.proofs.Laws.Tests.{at_set}
use Rattle.controls.specs.declared.Setting.{Setting}
use Rattle.controls.specs.Controls.{Item, Refused, Given, item_code, first_refusal}
use Rattle.controls.proofs.Laws.Items.{stops, passes, none_refused}
use Rattle.exposure.specs.Exposure.{divisor, in_range, ev_value, ev_item}
use Rattle.exposure.proofs.Theorems.{ev_by_flags}
use Rattle.entries.specs.Entries.{entry_refusal}
use Rattle.entries.proofs.Theorems.{entry_by_flags}
use Rattle.profile.specs.Items.{profile_item, set_refusal}
use Rattle.settings.specs.{Settings.{no_settings}, Items.{set_taken}}
use Rattle.settings.proofs.Laws.Items.{one_item, face_refusal_lem}
use Rattle.camera.specs.{declared.record.Camera.{Camera}, Requests.{request_done, requested, table, state_refusal}}
use Rattle.invariants.proofs.Laws.Requests.{outcome_code}
use Rattle.demands.specs.Calls.{request, outcome}
use Rattle.demands.specs.Flags.{Judged, EvSetsByFlags, FaceSetsByFlags}

-- past tests 1 to 6 a SET of another control than the throttle answers by its payload
module _ (c : Camera) (control : ℕ) (s payload reply : List ℕ) (j : Judged c control s payload) where
  set_number : (control ≡ selectors.throttle → ⊥) → (outcome c (request s payload reply)).code ≡ set_refusal c.profile control payload
  unfolding requested request_done
  set_number n =
      let z : (request_done c s payload).code ≡ 0 = rw j.sets in
      let other : setup_selector s ≡ selectors.throttle → ⊥ = λ e. n (sym j.selects ∙ e) in
      let state : state_refusal c.streaming (setup_selector s) (setup_code s) ≡ 0 = rw (ne_eqb _ _ other) in
      outcome_code _ c (request_done c s payload) z
      ∙ at_set (table c) s payload (length reply) j.formed j.passes state j.sets
      ∙ ap (λ (n : ℕ). set_refusal c.profile n payload) j.selects

-- an item of number 0x08 is refused with it
refused_by : (i : Item) → item_code i ≡ invalid_value → i ≡ Refused invalid_value
unfolding item_code
refused_by (Refused code) e = ap Refused e
refused_by (Given s) e = absurd (omega arith)

-- the number of an item by whether its value is in range
value_number : (s : Setting) (r : Bool) → item_code (cond r (Given s) (Refused out_of_range)) ≡ cond r 0 out_of_range
unfolding item_code
value_number s true = refl
value_number s false = refl

pub ev_set_by_flags : EvSetsByFlags
unfolding item_code profile_item set_taken
ev_set_by_flags c s payload reply j b =
    let item = ev_by_flags c.profile.ev payload b in
    let number : (outcome c (request s payload reply)).code ≡ item_code (ev_item c.profile.ev payload) =
    set_number c selectors.ev s payload reply j (λ e. absurd (omega arith))
    ∙ sym (ap (λ t. t.code) (one_item c.profile no_settings selectors.ev payload (λ e. absurd (omega arith)))) in
    record {
      refused = (λ e. item.refused.0 (refused_by _ (sym number ∙ e)), λ none. number ∙ ap item_code (item.refused.1 none));
      ranged = λ k o.
          number ∙ ap item_code (item.ranged k o) ∙ value_number _ (in_range c.profile.ev (divisor k) (ev_value payload));
    }

pub face_set_by_flags : FaceSetsByFlags
face_set_by_flags c s payload reply j b =
    let code : ℕ → ℕ = entry_refusal c.profile.face payload in
    let number : (outcome c (request s payload reply)).code ≡ first_refusal (get_or payload 0 0) 0 code =
    set_number c selectors.face s payload reply j (λ e. absurd (omega arith)) ∙ face_refusal_lem c.profile payload in
    let entry = entry_by_flags c.profile.face payload b in
    record {
      accepted = (
        λ e i h. (entry i).taken.0 (none_refused code _ (sym number ∙ e) i h),
        λ all. number ∙ passes code _ (λ i h. (entry i).taken.1 (all i h)),
      );
      refused = λ i h before new none.
          let e = ((entry i).refused new).1 none in
          number ∙ stops code _ i (λ j g. (entry j).taken.1 (before j g)) h (λ z. absurd (omega arith)) ∙ e;
    }
