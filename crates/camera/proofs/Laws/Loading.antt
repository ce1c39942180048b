-- Loading a snapshot record by record, and what a load answers. Assumes nothing.
use mathlib.Core.{Path.{◌≡◌, refl, ap, ap₂, sym, ◌∙◌}, List.{List, [], ◌++◌, append-nil}, Option.{Option, none, some, map, Option-elim}}
use mathlib.Core.Bool.{Bool, true, false, cond, not}
use Prim.Native.Nat.{ℕ, zero, suc, ◌+◌, ◌-◌, ◌≤◌, ◌<◌}
use native.Mathlib.{Nat.{zero-add}, Omega.{arith}}
use lib.{Dec.{eqb, leb}, ListN.{take, drop}}
use borrow.Author.{Tests.{eq-eqb, ne_eqb, leb-true, leb-false}, Count.{below_more}}
use Rattle.std.specs.declared.option.Option.TheVariants.{Some, None}
use Rattle.std.specs.Borrow.{Bor}
use Rattle.wire.specs.{Uvc.{malformed_snapshot}, Parts.{all_from, PartOf}}
use Rattle.wire.proofs.Laws.{Parts.{rest}, Refusals.{not_accepted}}
use Rattle.snapshot.specs.{Keys.{keys, record_length}, Form.{form_code, well_formed}, Records.{key_at, some_key, decode}}
use Rattle.snapshot.proofs.Laws.Walk.{Ahead, first_ahead, none_ahead, record_ahead, next_ahead, above_ahead, gap_ahead}
use Rattle.snapshot.proofs.Laws.Handed.{handed_some, handed_none}
use Rattle.controls.specs.Controls.{Item, Refused, Given, item_code}
use Rattle.controls.specs.declared.Setting.{Setting}
use Rattle.controls.proofs.Laws.Items.{stops, passes}
use Rattle.profile.specs.{declared.Profile.{Profile}, Items.{profile_item}}
use Rattle.settings.specs.{declared.settings.Settings.{Settings}, Settings.{put}, Items.{SetTaken, given_of, all_given, put_all}}
use Rattle.settings.proofs.Laws.Items.{given_next, puts_next}
use Rattle.camera.specs.declared.record.Camera.{Camera}
use Rattle.camera.specs.Outcomes.{Outcome}
use Rattle.camera.specs.Record.{with_settings}
use Rattle.camera.specs.Requests.{control_refusal, refused, outcome_by}
use Rattle.camera.specs.Loading.{selector_at, record_item, load_refusal, load_tests, load_code_under, load_gives, loaded, loaded_under}
use Rattle.camera.specs.{Calls.{record_code}, Steps.{item_taken, load_done}}
use Rattle.camera.proofs.Laws.Record.{record_good, record_bad}

-- a record of key k as a SET, by what the calls ensure
module _ (p : Profile) (streaming : Bool) (k : ℕ) {selector code : ℕ} (is-selector : selector ≡ selector_at k)
    (is_code : code ≡ control_refusal p streaming selector) where
  code_is : code ≡ control_refusal p streaming (selector_at k)
  code_is = is_code ∙ ap (control_refusal p streaming) is-selector

  pub record_refused : (r : List ℕ) → (code ≡ 0 → ⊥) → Refused code ≡ record_item p streaming k r
  unfolding record_item
  record_refused r bad = rw (← code_is, ne_eqb code 0 bad)

  pub record_tested : {s r : Bor (List ℕ)} {i : Item} → code ≡ 0 → PartOf s (all_from s.now 4) r → i ≡ profile_item p selector r.now 0
      → i ≡ record_item p streaming k s.now
  unfolding record_item
  record_tested z e f =
      f
      ∙ ap₂ (λ (j : ℕ) (m : List ℕ). profile_item p j m 0) is-selector (rest e)
      ∙ rw (eq-eqb (control_refusal p streaming (selector_at k)) 0 (sym code_is ∙ z))

-- what `record_item` goes by
pub ruleset as_set = (record_refused, record_tested, not_accepted)

-- an item of it, as the settings with it
module _ (h : Settings) {i : Item} where
  pub taken_refused : {code : ℕ} → Refused code ≡ i → ◌≡◌ {A = SetTaken} (record { code = code; settings = h }) (item_taken h i)
  unfolding item_taken item_code given_of put_all
  taken_refused e = ap (item_taken h) e

  pub taken_given : {s : Setting} → Given s ≡ i → ◌≡◌ {A = SetTaken} (record { code = 0; settings = put h s }) (item_taken h i)
  unfolding item_taken item_code given_of put_all
  taken_given e = ap (item_taken h) e

-- what `take_record` goes by
pub ruleset taking = (taken_refused, taken_given)

-- keys without a record give nothing
module _ (given : ℕ → List (ℕ × Setting)) where
  given_skip : (d n : ℕ) → ((j : ℕ) → n ≤ j → j < d + n → given j ≡ []) → all_given (d + n) 0 given ≡ all_given n 0 given
  given_skip zero n h = rw zero-add
  given_skip (suc d) n h =
      let e : suc d + n ≡ suc (d + n) = omega arith in
      ap (λ (m : ℕ). all_given m 0 given) e
      ∙ given_next (d + n) given
      ∙ ap (λ l. all_given (d + n) 0 given ++ l) (h (d + n) (omega arith) (omega arith))
      ∙ append-nil (all_given (d + n) 0 given)
      ∙ given_skip d n (λ j l u. h j l (omega arith))

  given_between : (n m : ℕ) → n ≤ m → ((j : ℕ) → n ≤ j → j < m → given j ≡ []) → all_given m 0 given ≡ all_given n 0 given
  given_between n m l h =
      let e : m - n + n ≡ m = omega arith in
      ap (λ (k : ℕ). all_given k 0 given) (sym e) ∙ given_skip (m - n) n (λ j a b. h j a (omega arith))

-- the number of a record of key k, and what it gives: 0 and nothing where there is none
abbrev pub code_by : Profile → Bool → ℕ → Option (List ℕ) → ℕ
code_by p streaming k o = Option-elim (map (record_item p streaming k) o) 0 item_code

abbrev pub given_by : Profile → Bool → ℕ → Option (List ℕ) → List (ℕ × Setting)
given_by p streaming k o = Option-elim (map (record_item p streaming k) o) [] given_of

module _ (c : Camera) (s : List ℕ) where
  abbrev code_at : ℕ → ℕ
  code_at k = code_by c.profile c.streaming k (decode s k)

  abbrev given_at : ℕ → List (ℕ × Setting)
  given_at k = given_by c.profile c.streaming k (decode s k)

  absent_code : (j : ℕ) → decode s j ≡ none → code_at j ≡ 0
  unfolding Option-elim
  absent_code j e = ap (code_by c.profile c.streaming j) e

  absent_given : (j : ℕ) → decode s j ≡ none → given_at j ≡ []
  unfolding Option-elim
  absent_given j e = ap (given_by c.profile c.streaming j) e

  -- with t left, at the record of key k: those below it are taken
  pub record Loads (h : Settings) (t : List ℕ) (k : ℕ) : Type 0 where
    pub ahead : Ahead s t k
    pub is : h ≡ put_all c.settings (all_given k 0 given_at)
    pub taken : (j : ℕ) → j < k → code_at j ≡ 0

  pub nothing_loaded : {t : List ℕ} → well_formed s ≡ true → t ≡ s → Loads c.settings t (key_at t)
  unfolding put_all all_given
  nothing_loaded w e = rw e (record {
    ahead = first_ahead s w;
    is = sym (ap (put_all c.settings) (given_between given_at 0 (key_at s) (omega arith) (λ j l u. absent_given j (none_ahead s w j u))));
    taken = λ j l. absent_code j (none_ahead s w j l);
  })

  -- a turn, by what a step of the walk gives: the key k, its record r and what is left behind it
  module _ {h : Settings} {t t' r : List ℕ} {k : ℕ} (w : Loads h t (key_at t)) (is-key : Some k ≡ some_key (key_at t))
      (is-record : r ≡ take (record_length k) t) (is-rest : t' ≡ drop (record_length k) t) where
    here : Loads h t k
    here = rw (handed_some _ _ is-key).0 w

    l : k < keys
    l = (handed_some _ _ is-key).1

    abbrev item : Item
    item = record_item c.profile c.streaming k r

    decoded : decode s k ≡ some r
    decoded = record_ahead here.ahead l ∙ ap some (sym is-record)

    code_here : item_code item ≡ code_at k
    unfolding Option-elim
    code_here = sym (ap (code_by c.profile c.streaming k) decoded)

    given_here : given_of item ≡ given_at k
    unfolding Option-elim
    given_here = sym (ap (given_by c.profile c.streaming k) decoded)

    stops_here : (item_code item ≡ 0 → ⊥) → refused (item_code item) c ≡ load_done c s
    unfolding load_done load_refusal
    stops_here bad =
        let e = code_here ∙ sym (stops code_at keys k here.taken l (λ z. bad (code_here ∙ z))) in
        rw (← e, ne_eqb (item_code item) 0 bad)

    next_here : item_code item ≡ 0 → Loads (put_all h (given_of item)) t' (key_at t')
    next_here z =
        let u = drop (record_length k) t in
        let above : k < key_at u = above_ahead here.ahead l in
        let gap : (i : ℕ) → k + 1 ≤ i → i < key_at u → decode s i ≡ none = λ i a b. gap_ahead here.ahead l i (omega arith) b in
        rw is-rest (record {
          ahead = next_ahead here.ahead l;
          is = ap₂ put_all here.is given_here
              ∙ sym (puts_next c.settings k given_at)
              ∙ ap (put_all c.settings)
              (sym (given_between given_at (k + 1) (key_at u) (omega (arith, above)) (λ i a b. absent_given i (gap i a b))));
          taken = λ i b. go i (leb (k + 1) i) refl (λ a. gap i a b);
        })
      where
        go : (i : ℕ) (b : Bool) → leb (k + 1) i ≡ b → (k + 1 ≤ i → decode s i ≡ none) → code_at i ≡ 0
        go i true p gap = absent_code i (gap (leb-true (k + 1) i p))
        go i false p gap =
            let u = leb-false (k + 1) i p in below_more (λ j. code_at j ≡ 0) k here.taken (sym code_here ∙ z) i (omega arith)

    -- the record is refused, or taken
    pub load_stops : {code : ℕ} → ◌≡◌ {A = SetTaken} (record { code = code; settings = h }) (item_taken h item) → (code ≡ 0 → ⊥)
        → refused code c ≡ load_done c s
    unfolding item_taken
    load_stops e bad =
        let told = ap (λ (t : SetTaken). t.code) e in
        rw told (stops_here (λ z. bad (told ∙ z)))

    pub load_next : {next : Settings} → ◌≡◌ {A = SetTaken} (record { code = 0; settings = next }) (item_taken h item)
        → Loads next t' (key_at t')
    unfolding item_taken
    load_next e = rw (ap (λ (t : SetTaken). t.settings) e) (next_here (sym (ap (λ (t : SetTaken). t.code) e)))

  pub load_end : {h : Settings} {t : List ℕ} → Loads h t (key_at t) → None ≡ some_key (key_at t)
      → ◌≡◌ {A = Outcome} (record { code = 0; count = 0; camera = with_settings c h }) (load_done c s)
  unfolding load_done load_refusal load_gives
  load_end {h} {t} w over =
      let k = key_at t in
      let q : k ≡ keys = omega (arith, w.ahead.few, handed_none k over) in
      let z = passes code_at keys (λ j u. w.taken j (omega arith)) in
      rw (w.is, q, z)

-- what a load answers, by its form
pub form_good : (s : List ℕ) → form_code s ≡ 0 → well_formed s ≡ true
unfolding form_code
form_good s e = go (well_formed s) e
  where
    go : (b : Bool) → cond {A = ℕ} b 0 malformed_snapshot ≡ 0 → b ≡ true
    go true q = refl
    go false q = absurd (omega arith)

form_bad : (s : List ℕ) → (form_code s ≡ 0 → ⊥) → (well_formed s ≡ false) × (form_code s ≡ malformed_snapshot)
unfolding form_code
form_bad s bad = go (well_formed s) bad
  where
    go : (b : Bool) → (cond {A = ℕ} b 0 malformed_snapshot ≡ 0 → ⊥)
        → (b ≡ false) × (cond {A = ℕ} b 0 malformed_snapshot ≡ malformed_snapshot)
    go true z = absurd (z refl)
    go false z = (refl, refl)

module _ (c : Camera) (s : List ℕ) where
  pub load_unformed : {n : ℕ} → n ≡ record_code c → (n ≡ 0 → ⊥) → refused n c ≡ loaded c s
  unfolding loaded_under load_code_under
  load_unformed e bad = let w = record_bad c e bad in rw (w.0, w.1)

  module _ (good : record_code c ≡ 0) where
    pub load_malformed : {n : ℕ} → n ≡ form_code s → (n ≡ 0 → ⊥) → refused n c ≡ loaded c s
    unfolding loaded_under load_code_under load_tests
    load_malformed e bad = let f = form_bad s (λ z. bad (e ∙ z)) in rw (e ∙ f.1, record_good c good, f.0)

    pub load_formed : form_code s ≡ 0 → load_done c s ≡ loaded c s
    unfolding loaded_under load_code_under load_tests load_done
    load_formed f = rw (record_good c good, form_good s f) (go (eqb code 0) refl)
      where
        code : ℕ
        code = load_refusal c.profile c.streaming s

        done : Outcome
        done = record { code = 0; count = 0; camera = with_settings c (put_all c.settings (load_gives c.profile c.streaming s)) }

        go : (b : Bool) → eqb code 0 ≡ b → cond b done (refused code c) ≡ outcome_by (cond (not b) code 0) c done
        go true e = refl
        go false e = rw e

-- what `load` goes by
pub ruleset loading = (form_good, load_unformed, load_malformed, load_formed, not_accepted)
