-- What one call, and a list of calls, leaves of a well-formed record. Assumes nothing.
use mathlib.Core.{Path.{◌≡◌, refl, ap, sym, ◌∙◌, subst}, List.{List, [], ◌∷◌}, Bool.{Bool, true, false, cond}}
use Prim.Native.Nat.{ℕ}
use lib.{Dec.{eqb, leb, ltb}, ListN.{length}}
use borrow.Author.Tests.{eqb-true, le-ltb, lt-ltb, leb-true, leb-false}
use Rattle.request.specs.{Setup.{setup_selector}, Tests.{set_accepted}}
use Rattle.request.proofs.Laws.Sets.{next_record, accepted_values}
use Rattle.peripheral.specs.Selectors as selector
use Rattle.peripheral.specs.declared.record.Peripheral.{Peripheral}
use Rattle.peripheral.specs.Record.{most, record_well_formed, with_mode, with_toggle, with_count, with_reset}
use Rattle.peripheral.specs.{Values.{payload_mode, payload_switch, set_refusal, after_set}, Requests.{table, outcome_of, requested}}
use Rattle.peripheral.specs.Calls.{count_code, counted, restart_code, restarted, Call, request, count, restart, next, run}
use Rattle.units.specs.{Lists.{last_count}, Answers.{SameUnit}}
use Rattle.units.proofs.Laws.Formed.{Formed, formed_fields, fields_formed, taken_mode, taken_switch}

-- a record that a call leaves of p: well formed, of the same unit, and with this count
pub record Leaves (p : Peripheral) (n : ℕ) (d : Peripheral) : Type 0 where
  pub formed : record_well_formed d ≡ true
  pub same : SameUnit d p
  pub count : d.count ≡ n

module _ (p : Peripheral) (w : record_well_formed p ≡ true) where
  abbrev f : Formed p
  f = formed_fields p w

  unchanged : Leaves p p.count p
  unchanged = record { formed = w; same = record { unit = refl; interface = refl; mask = refl }; count = refl }

  -- what an accepted SET leaves
  set_leaves : (s : ℕ) (payload : List ℕ) → set_refusal p.mask s payload ≡ 0 → Leaves p p.count (after_set p s payload)
  unfolding after_set
  set_leaves s payload e = go (eqb s selector.strategy) (eqb s selector.toggle) (eqb (payload_switch payload) 0) refl
    where
      kept : (d : Peripheral) → Formed d → SameUnit d p → d.count ≡ p.count → Leaves p p.count d
      kept d g same n = record { formed = fields_formed d g; same = same; count = n }

      go : (a b c : Bool) → eqb s selector.strategy ≡ a
          → Leaves p p.count
          (cond a (with_mode p (payload_mode payload))
          (cond b (with_toggle p (payload_switch payload)) (cond c p (with_reset p (payload_switch payload)))))
      go true b c q =
          let r = ap (λ (n : ℕ). set_refusal p.mask n payload) (sym (eqb-true s selector.strategy q)) ∙ e in
          let v = taken_mode p.mask payload r in
          kept (with_mode p (payload_mode payload)) (record { mode = v; toggle = f.toggle; count = f.count; reset = f.reset })
          (record { unit = refl; interface = refl; mask = refl }) refl
      go false true c q =
          kept (with_toggle p (payload_switch payload))
          (record { mode = f.mode; toggle = taken_switch p.mask s payload q e; count = f.count; reset = f.reset })
          (record { unit = refl; interface = refl; mask = refl }) refl
      go false false true q = unchanged
      go false false false q =
          kept (with_reset p (payload_switch payload))
          (record { mode = f.mode; toggle = f.toggle; count = f.count; reset = taken_switch p.mask s payload q e })
          (record { unit = refl; interface = refl; mask = refl }) refl

  -- a request leaves what an accepted SET does, or the record
  pub request_next : (setup payload : List ℕ) (room : ℕ)
      → (requested p setup payload room).peripheral
      ≡ cond (set_accepted (table p) setup payload) (after_set p (setup_selector setup) payload) p
  unfolding requested
  request_next setup payload room =
      next_record outcome_of (λ o. o.peripheral) (λ code n d. refl) (table p) p (after_set p (setup_selector setup) payload) setup payload
      room w

  -- a count of the detector's is taken, or not
  pub count_next : (n : ℕ) → (counted p n).peripheral ≡ cond (leb n most) (with_count p n) p
  unfolding counted count_code
  count_next n = rw w (go (leb n most) refl)
    where
      go : (b : Bool) → leb n most ≡ b
          → (cond (eqb (cond (ltb most n) 0x04 0) 0) (outcome_of 0 0 (with_count p n)) (outcome_of (cond (ltb most n) 0x04 0) 0 p)).peripheral
          ≡ cond b (with_count p n) p
      go true e = rw (le-ltb most n (leb-true n most e))
      go false e = rw (lt-ltb most n (leb-false n most e))

  restart_next : (restarted p).peripheral ≡ with_reset p 0
  unfolding restarted restart_code
  restart_next = rw w

  pub step : (call : Call) → Leaves p (last_count p.count (call ∷ [])) (next p call)
  step (request setup payload reply) =
      subst (Leaves p p.count) (sym (request_next setup payload (length reply))) (go (set_accepted (table p) setup payload) refl)
    where
      go : (b : Bool) → set_accepted (table p) setup payload ≡ b
          → Leaves p p.count (cond b (after_set p (setup_selector setup) payload) p)
      go true a = set_leaves (setup_selector setup) payload (accepted_values (table p) setup payload a)
      go false a = unchanged
  step (count n) = subst (Leaves p (cond (leb n most) n p.count)) (sym (count_next n)) (go (leb n most) refl)
    where
      go : (b : Bool) → leb n most ≡ b → Leaves p (cond b n p.count) (cond b (with_count p n) p)
      go true e = record {
        formed = fields_formed (with_count p n) (record { mode = f.mode; toggle = f.toggle; count = e; reset = f.reset });
        same = record { unit = refl; interface = refl; mask = refl };
        count = refl;
      }
      go false e = unchanged
  step restart = subst (Leaves p p.count) (sym restart_next) (record {
    formed = fields_formed (with_reset p 0) (record { mode = f.mode; toggle = f.toggle; count = f.count; reset = refl });
    same = record { unit = refl; interface = refl; mask = refl };
    count = refl;
  })

-- a list of calls
after_first : (n : ℕ) (call : Call) (calls : List Call) → last_count (last_count n (call ∷ [])) calls ≡ last_count n (call ∷ calls)
after_first n (request setup payload reply) calls = refl
after_first n (count m) calls = refl
after_first n restart calls = refl

pub run_leaves : (p : Peripheral) → record_well_formed p ≡ true → (calls : List Call) → Leaves p (last_count p.count calls) (run p calls)
run_leaves p w [] = unchanged p w
run_leaves p w (call ∷ calls) =
    let s = step p w call in
    let r = run_leaves (next p call) s.formed calls in
    record {
      formed = r.formed;
      same = record {
        unit = r.same.unit ∙ s.same.unit;
        interface = r.same.interface ∙ s.same.interface;
        mask = r.same.mask ∙ s.same.mask;
      };
      count = r.count ∙ ap (λ (n : ℕ). last_count n calls) s.count ∙ after_first p.count call calls;
    }
