-- Answers of the peripheral unit: what is set reads back, what the reading reads, and what no setting touches. Assumes nothing.
use mathlib.Core.{Path.{◌≡◌, refl, ap, ap₂, sym, ◌∙◌, subst}, List.{List, []}, Bool.{Bool, true, false, cond, not, ◌&&◌, ◌||◌, false≢true}}
use Prim.Native.Nat.{ℕ, zero, suc, ◌-◌, ◌≤◌}
use native.Mathlib.Omega.{arith}
use lib.{Dec.{eqb, lit<}, ListN.{length, get_or}, Seq.{take_all}}
use borrow.Author.Tests.{eq-eqb, ne_eqb, eqb-true, le-leb, not-true}
use Rattle.wire.specs.{Numbers.{number, le_at, bytes_of}, Uvc.{get_cur, wrong_state}}
use Rattle.wire.proofs.Laws.{Numbers.{Bytes, front}, Bytes.{length_bytes, bytes-at}}
use Rattle.flags.specs.Flags.{is_set}
use Rattle.flags.proofs.Laws.Bits.{high_clear}
use Rattle.request.specs.{Setup.{setup_selector, setup_code, is_set_request}, Table.{has_control}, Answers.{answer_by}}
use Rattle.request.specs.Requests.{request_count}
use Rattle.request.specs.Tests.{request_tests, full_answer, asked, sent_count, request_code, set_accepted}
use Rattle.request.proofs.Laws.Tests.{at_unformed, at_state}
use Rattle.request.proofs.Laws.{Requests.{requested_count, same_code, same_count, same_replied}}
use Rattle.request.proofs.Laws.Sets.{set_answer, accepted_control, accepted_length}
use Rattle.request.proofs.Theorems as requests
use Rattle.peripheral.specs.Selectors as selector
use Rattle.peripheral.specs.{declared.record.Peripheral.{Peripheral}, Record.{fresh, record_well_formed}}
use Rattle.peripheral.specs.Values.{payload_mode, payload_switch, payload_length, info_of, is_settable, state_refusal, after_set, current}
use Rattle.peripheral.specs.Values.{attribute}
use Rattle.peripheral.specs.{Requests.{table, outcome_of, requested}, Calls.{refused, request, outcome, left, next, run}}
use Rattle.peripheral.specs.Steps.{answer_number, answer_length}
use Rattle.peripheral.proofs.Laws.Answers.{answer_bytes_lem, answer_most}
use Rattle.units.specs.Answers.{FourControls, GetsCurrent, SendsAnswer, Answers, ReadsBack, SetThenGet, EightSuffice, ReadingAfter}
use Rattle.units.specs.Answers.{SameUnit, AnsweredAlike, FixedAnswers}
use Rattle.units.specs.Lists.{last_count}
use Rattle.units.proofs.{Refusals.{code_is}, Lists.{fresh_formed}}
use Rattle.units.proofs.Laws.Steps.{request_next, step, run_leaves}

pub four_controls : FourControls
unfolding is_set
four_controls zero = refl
four_controls (suc zero) = refl
four_controls (suc (suc zero)) = refl
four_controls (suc (suc (suc zero))) = refl
four_controls (suc (suc (suc (suc zero)))) = refl
four_controls (suc (suc (suc (suc (suc zero))))) = refl
four_controls (suc (suc (suc (suc (suc (suc zero)))))) = refl
four_controls (suc (suc (suc (suc (suc (suc (suc n))))))) = above (suc (suc (suc (suc (suc (suc (suc n))))))) (omega arith)
  where
    above : (s : ℕ) → 7 ≤ s → has_control selector.presence s ≡ eqb s 1 || eqb s 3 || eqb s 4 || eqb s 6
    above s h =
        let clear : is_set selector.presence (s - 1) ≡ false = high_clear 6 selector.presence (s - 1) (lit< tt) (omega arith) in
        rw (
          le-leb 1 s (omega arith),
          clear,
          ne_eqb s 1 (λ e. omega arith),
          ne_eqb s 3 (λ e. omega arith),
          ne_eqb s 4 (λ e. omega arith),
          ne_eqb s 6 (λ e. omega arith),
        )

pub eight_suffice : EightSuffice
eight_suffice p setup payload reply h e =
    let s = setup_selector setup in
    let code = setup_code setup in
    let n : length (asked (table p) setup) ≡ answer_length s code =
    ap length (sym (answer_bytes_lem p s code)) ∙ length_bytes (answer_length s code) (answer_number p s code) in
    omega (arith, (requests.ninth (table p) setup payload (length reply) e).1, n, answer_most s code)

-- GET_CUR's full answer is the number that is current
current_answer : (p : Peripheral) (s : ℕ) → full_answer (table p) s get_cur ≡ bytes_of (payload_length s) (current p s)
unfolding full_answer answer_by
current_answer p s = refl

-- and past test 7, with room, it is sent
module _ (p : Peripheral) (w : record_well_formed p ≡ true) (s : ℕ) (y : state_refusal p.toggle s get_cur ≡ 0) where
  sends : (g reply : List ℕ) → GetsCurrent p s g → sent_count (table p) g ≤ length reply → SendsAnswer p g reply (asked (table p) g)
  unfolding requested
  sends g reply x h =
      let i = requests.get_no_set g x.gets.get in
      let state = ap₂ (state_refusal p.toggle) x.control x.current ∙ y in
      let z = requests.get_accepted (table p) g (length reply) w x.gets state h in
      record { answer = rw (z, i); buffer = (requests.get_sends (table p) g [] reply i z).buffer }

  current_sends : Answers p s (bytes_of (payload_length s) (current p s))
  current_sends g reply x h =
      let a : asked (table p) g ≡ bytes_of (payload_length s) (current p s) =
      ap₂ (full_answer (table p)) x.control x.current ∙ current_answer p s in
      subst (λ l. SendsAnswer p g reply l) a (sends g reply x (rw a h))

-- test 7 is of the reading alone
other_state : (toggle s : ℕ) → eqb s selector.reading ≡ false → state_refusal toggle s get_cur ≡ 0
other_state toggle s e = rw e

-- a payload of one byte, and of eight
switch_bytes : (payload : List ℕ) → length payload ≡ 1 → Bytes payload → bytes_of 1 (payload_switch payload) ≡ payload
unfolding le_at number
switch_bytes payload n b =
    let none : le_at 0 payload 1 ≡ 0 = refl in
    let e : le_at 1 payload 0 ≡ get_or payload 0 0 = omega (arith, front 0 payload 0, none) in
    ap (bytes_of 1) (sym e) ∙ bytes-at 1 payload 0 (omega arith) b ∙ take_all 1 payload (omega arith)

mode_bytes : (payload : List ℕ) → length payload ≡ 8 → Bytes payload → bytes_of 8 (payload_mode payload) ≡ payload
mode_bytes payload n b = bytes-at 8 payload 0 (omega arith) b ∙ take_all 8 payload (omega arith)

-- what an accepted SET leaves reads as its payload; a reset of 0 leaves all as it was
module _ (p : Peripheral) (payload : List ℕ) (b : Bytes payload) where
  read_back : (s : ℕ) → is_settable s ≡ true → has_control selector.presence s ≡ true → length payload ≡ payload_length s
      → (s ≡ selector.reset → payload_switch payload ≡ 0 → ⊥)
      → bytes_of (payload_length s) (current (after_set p s payload) s) ≡ payload
  unfolding after_set
  read_back s k h n r = go (eqb s 1) (eqb s 3) (eqb s 4) (eqb s 6) refl refl refl refl (sym (four_controls s) ∙ h)
    where
      Back : ℕ → Type 0
      Back c = length payload ≡ payload_length c → (c ≡ selector.reset → payload_switch payload ≡ 0 → ⊥)
          → bytes_of (payload_length c) (current (after_set p c payload) c) ≡ payload

      at : (c : ℕ) → s ≡ c → Back c → bytes_of (payload_length s) (current (after_set p s payload) s) ≡ payload
      at c e f = subst (λ d. Back d) (sym e) f n r

      go : (a c d e : Bool) → eqb s 1 ≡ a → eqb s 3 ≡ c → eqb s 4 ≡ d → eqb s 6 ≡ e → a || c || d || e ≡ true
          → bytes_of (payload_length s) (current (after_set p s payload) s) ≡ payload
      go true c d e q u v x t = at 1 (eqb-true s 1 q) (λ m z. mode_bytes payload m b)
      go false true d e q u v x t = at 3 (eqb-true s 3 u) (λ m z. switch_bytes payload m b)
      go false false true e q u v x t = absurd (false≢true (sym (ap not v) ∙ k))
      go false false false true q u v x t =
          at 6 (eqb-true s 6 x) (λ m z. rw (ne_eqb (payload_switch payload) 0 (z refl)) (switch_bytes payload m b))
      go false false false false q u v x t = absurd (false≢true t)

  reset_zero : (s : ℕ) → s ≡ selector.reset → payload_switch payload ≡ 0 → after_set p s payload ≡ p
  unfolding after_set
  reset_zero s e z = rw (e, z)

-- the reading takes no SET
no_reading : (s : ℕ) → is_settable s ≡ true → s ≡ selector.reading → ⊥
no_reading s k e = false≢true (sym (ap not (eq-eqb s selector.reading e)) ∙ k)

-- an accepted SET: the record was well formed, and its tests say what they say
module _ (p : Peripheral) (setup payload reply : List ℕ) (i : is_set_request setup ≡ true)
    (e : (outcome p (request setup payload reply)).code ≡ 0) where
  zero_code : request_code (table p) setup payload (length reply) ≡ 0
  zero_code = sym (code_is p (request setup payload reply)) ∙ e

  formed : record_well_formed p ≡ true
  formed = go (record_well_formed p) refl
    where
      go : (b : Bool) → record_well_formed p ≡ b → b ≡ true
      go true w = refl
      go false w = absurd (omega (arith, sym (at_unformed (table p) setup payload (length reply) w) ∙ zero_code))

  accepted : set_accepted (table p) setup payload ≡ true
  accepted = set_answer (table p) setup payload (length reply) formed i ∙ eq-eqb _ 0 zero_code

  after : next p (request setup payload reply) ≡ after_set p (setup_selector setup) payload
  after = request_next p formed setup payload (length reply) ∙ rw accepted

  -- the record that it leaves
  pub set_reads_back : Bytes payload → ReadsBack p setup payload reply
  set_reads_back b =
      let s = setup_selector setup in
      let d = next p (request setup payload reply) in
      let w = (step p formed (request setup payload reply)).formed in
      let c = accepted_control (table p) setup payload accepted in
      let y = other_state d.toggle s (not-true _ c.1) in
      let back = read_back p payload b s c.1 c.0 (accepted_length (table p) setup payload accepted) in
      record {
        answers = λ r. subst (Answers d s) (ap (λ x. bytes_of (payload_length s) (current x s)) after ∙ back r) (current_sends d w s y);
        no_reset = λ q z. after ∙ reset_zero p payload b s q z;
        no_reading = no_reading s c.1;
      }

pub set_then_get : SetThenGet
set_then_get p setup payload reply b i e = set_reads_back p setup payload reply i e b

-- the reading of a well-formed record whose count is n
module _ (p : Peripheral) (w : record_well_formed p ≡ true) (n : ℕ) (is-count : p.count ≡ n) where
  counting : p.toggle ≡ 1 → Answers p selector.reading (bytes_of 2 n)
  counting t = subst (λ (m : ℕ). Answers p selector.reading (bytes_of 2 m)) is-count (current_sends p w selector.reading (rw t))

  disabled : p.toggle ≡ 0 → (g reply : List ℕ) → GetsCurrent p selector.reading g
      → (outcome p (request g [] reply) ≡ refused wrong_state p) × (left p (request g [] reply) ≡ reply)
  unfolding requested
  disabled t g reply x =
      let y : state_refusal p.toggle (setup_selector g) (setup_code g) ≡ wrong_state = rw (x.control, x.current, t) in
      let first = requests.gets_tests (table p) g x.gets in
      let z : request_code (table p) g [] (length reply) ≡ wrong_state =
      at_state (table p) g [] (length reply) w first (λ q. omega (arith, sym y ∙ q)) ∙ y in
      (rw z, (requests.refusals (table p) g [] reply (λ q. omega (arith, sym z ∙ q))).buffer)

pub reading_after : ReadingAfter
reading_after unit interface mask calls =
    let r = run_leaves (fresh unit interface mask) (fresh_formed unit interface mask) calls in
    let p = run (fresh unit interface mask) calls in
    record {
      counting = counting p r.formed (last_count 0 calls) r.count;
      disabled = disabled p r.formed (last_count 0 calls) r.count;
    }

-- of the controls' numbers only CUR goes by what is set
fixed_attribute : (p q : Peripheral) (s code : ℕ) → p.mask ≡ q.mask → (code ≡ get_cur → ⊥) → attribute p s code ≡ attribute q s code
fixed_attribute p q s code e n = rw (ne_eqb code get_cur n, e)

-- nor does test 7 of another code
fixed_state : (toggle s code : ℕ) → (code ≡ get_cur → ⊥) → state_refusal toggle s code ≡ 0
fixed_state toggle s code n = rw (ne_eqb code get_cur n) (go (eqb s selector.reading))
  where
    go : (b : Bool) → cond {A = ℕ} (b && false && eqb toggle 0) wrong_state 0 ≡ 0
    go true = refl
    go false = refl

module _ (p q : Peripheral) (w : record_well_formed p ≡ true) (v : record_well_formed q ≡ true) (same : SameUnit p q)
    (setup payload reply : List ℕ) (i : is_set_request setup ≡ false) (n : setup_code setup ≡ get_cur → ⊥) where
  abbrev s : ℕ
  s = setup_selector setup

  abbrev code : ℕ
  code = setup_code setup

  tests : request_tests (table p) setup payload ≡ request_tests (table q) setup payload
  unfolding request_tests
  tests = rw (same.unit, same.interface)

  state : state_refusal p.toggle s code ≡ state_refusal q.toggle s code
  state = fixed_state p.toggle s code n ∙ sym (fixed_state q.toggle s code n)

  answer : asked (table p) setup ≡ asked (table q) setup
  unfolding full_answer
  answer =
      ap (λ (m : ℕ). answer_by code (payload_length s) (info_of s) (bytes_of (payload_length s) m))
      (fixed_attribute p q s code same.mask n)

  count-is : (d : Peripheral)
      → (outcome d (request setup payload reply)).count ≡ request_count (table d) setup payload (length reply)
  unfolding requested
  count-is d = requested_count outcome_of (λ o. o.count) (λ a b c. refl) (table d) d (after_set d s payload) setup payload (length reply)

  alike : AnsweredAlike p q setup payload reply
  alike = record {
    code = code_is p (request setup payload reply)
        ∙ same_code (table p) (table q) setup payload i (w ∙ sym v) tests state answer (length reply)
        ∙ sym (code_is q (request setup payload reply));
    count = count-is p ∙ same_count (table p) (table q) setup payload i (w ∙ sym v) tests state answer (length reply) ∙ sym (count-is q);
    buffer = same_replied (table p) (table q) setup payload i (w ∙ sym v) tests state answer reply;
  }

pub fixed_answers : FixedAnswers
fixed_answers = alike
