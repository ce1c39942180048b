-- Loading a snapshot: what it answers and gives, record by record. Assumes nothing.
use mathlib.Core.{Path.{◌≡◌, refl, ap, ap₂, sym, ◌∙◌}, List.{List, [], ◌∷◌}, Option.{Option, none, some, Option-elim}}
use mathlib.Core.Bool.{Bool, true, false, cond, not, true≢false}
use Prim.Native.Nat.{ℕ, zero, suc, ◌+◌, ◌-◌, ◌≤◌, ◌<◌}
use native.Mathlib.Omega.{arith}
use lib.{Dec.{eqb, leb}, ListN.{get_or, drop}, Seq.{get_or-drop}}
use borrow.Author.Tests.{eq-eqb, ne_eqb, eqb-true, eqb-false, leb-true, leb-false, not-false}
use Rattle.wire.specs.{Endpoints.{first_address}, Rows.{◌⇒◌, answers, first_of}, Uvc.{malformed_snapshot}}
use Rattle.wire.proofs.Laws.Rows.{quiet, answers_number}
use Rattle.snapshot.specs.{Keys.{keys, key_for}, Form.{stated_key, well_formed}, Records.{decode, GoodAt, IsRecord}, Given.{over, last_of}}
use Rattle.merging.specs.Merging.{merged}
use Rattle.snapshot.proofs.Laws.{Sound.{stands_sound}, Maps.{decode_good, none_above}, Given.{over_none, last_append}}
use Rattle.merging.proofs.Laws.Merging.{decode_merged, merged_formed}
use Rattle.controls.specs.Controls.{Item, Refused, Given, item_of, item_code}
use Rattle.controls.specs.declared.Setting.{Setting}
use Rattle.exposure.specs.Exposure.{ev_item}
use Rattle.entries.specs.Entries.{face_item}
use Rattle.metadata.specs.Metadata.{metadata_item}
use Rattle.hdr.specs.Hdr.{hdr_item}
use Rattle.throttle.specs.Throttle.{throttle_item}
use Rattle.controls.proofs.Laws.{Controls.{item_given, item_code_lem, given_is}, Items.{passes, none_refused}}
use Rattle.profile.specs.{declared.Profile.{Profile}, Items.{profile_item}, KnownControl.{KnownControl, ev, face, metadata, hdr, throttle}}
use Rattle.settings.specs.{Settings.{setting_key}, Items.{given_of, all_given}}
use Rattle.camera.specs.{Requests.{control_refusal}, Loading.{selector_at, record_item, load_refusal, load_tests, load_gives}}
use Rattle.camera.proofs.Laws.Loading.{code_by, given_by}
use Rattle.demands.proofs.Laws.{Sets.{is_kind}, Steps.{is_given, key_control}}

-- settings under the number of what gives them
abbrev Keyed : (ℕ → List (ℕ × Setting)) → Type 0
Keyed given = (k j : ℕ) → (k ≡ j → ⊥) → last_of (given k) j ≡ none

-- the last setting of a key that n of them give, from k on
module _ (given : ℕ → List (ℕ × Setting)) (keyed : Keyed given) where
  last_below : (n k j : ℕ) → j < k → last_of (all_given n k given) j ≡ none
  unfolding all_given
  last_below zero k j h = refl
  last_below (suc n) k j h =
      last_append (given k) (all_given n (suc k) given) j ∙ ap₂ over (keyed k j (omega arith)) (last_below n (suc k) j (omega arith))

  last_all : (n k j : ℕ) → k ≤ j → j < n + k → last_of (all_given n k given) j ≡ last_of (given j) j
  unfolding all_given
  last_all zero k j h l = absurd (omega arith)
  last_all (suc n) k j h l =
      last_append (given k) (all_given n (suc k) given) j ∙ go (eqb k j) refl (λ p. last_all n (suc k) j p (omega arith))
    where
      go : (b : Bool) → eqb k j ≡ b → (suc k ≤ j → last_of (all_given n (suc k) given) j ≡ last_of (given j) j)
          → over (last_of (given k) j) (last_of (all_given n (suc k) given) j) ≡ last_of (given j) j
      go true e ih =
          let q : k ≡ j = eqb-true k j e in
          ap₂ over (ap (λ i. last_of (given i) j) q) (last_below n (suc k) j (omega arith))
      go false e ih =
          let q : k ≡ j → ⊥ = eqb-false k j e in
          ap₂ over (keyed k j q) (ih (omega arith)) ∙ over_none _

  last_above : (n k j : ℕ) → n + k ≤ j → last_of (all_given n k given) j ≡ none
  unfolding all_given
  last_above zero k j h = refl
  last_above (suc n) k j h =
      last_append (given k) (all_given n (suc k) given) j ∙ ap₂ over (keyed k j (omega arith)) (last_above n (suc k) j (omega arith))

-- an item whose number is 0 gives the setting
pub taken : (code : ℕ) (s : Setting) → item_code (item_of code s) ≡ 0 → item_of code s ≡ Given s
taken code s e = item_given code s (sym (item_code_lem code s) ∙ e)

-- the setting that a control's payload gives stands under the key of its kind and address
item_key : (p : Profile) (r : List ℕ) (s : Setting) (selector : ℕ) → KnownControl selector → profile_item p selector (drop 4 r) 0 ≡ Given s
    → setting_key s ≡ key_for selector (get_or r 5 0)
unfolding profile_item ev_item face_item metadata_item hdr_item throttle_item
item_key p r s _ ev e = ap setting_key (sym (given_is _ _ s e).1)
item_key p r s _ face e = ap setting_key (sym (given_is _ _ s e).1) ∙ ap (λ (a : ℕ). a - (first_address - 1)) (get_or-drop 4 r 1 0)
item_key p r s _ metadata e = ap setting_key (sym (given_is _ _ s e).1)
item_key p r s _ hdr e = ap setting_key (sym (given_is _ _ s e).1)
item_key p r s _ throttle e = ap setting_key (sym (given_is _ _ s e).1)

-- so the setting that a record gives stands under the record's key
record_keyed : (p : Profile) (k : ℕ) (r : List ℕ) (s : Setting) → IsRecord k r → profile_item p (selector_at k) (drop 4 r) 0 ≡ Given s
    → setting_key s ≡ k
unfolding stated_key
record_keyed p k r s q e =
    item_key p r s (selector_at k) (key_control k) e
    ∙ ap (λ (n : ℕ). key_for n (get_or r 5 0)) (is_kind k r q)
    ∙ (stands_sound k r q.is).1

-- a control's item is by its tests' number
item_taken : (p : Profile) (selector : ℕ) (payload : List ℕ) (i : ℕ) → KnownControl selector
    → item_code (profile_item p selector payload i) ≡ 0 → is_given (profile_item p selector payload i) ≡ true
unfolding profile_item ev_item face_item metadata_item hdr_item throttle_item is_given
item_taken p _ payload i ev e = ap is_given (taken _ _ e)
item_taken p _ payload i face e = ap is_given (taken _ _ e)
item_taken p _ payload i metadata e = ap is_given (taken _ _ e)
item_taken p _ payload i hdr e = ap is_given (taken _ _ e)
item_taken p _ payload i throttle e = ap is_given (taken _ _ e)

module _ (p : Profile) (streaming : Bool) where
  -- so is a record's
  record_taken : (k : ℕ) (r : List ℕ) → item_code (record_item p streaming k r) ≡ 0 → is_given (record_item p streaming k r) ≡ true
  unfolding record_item item_code
  record_taken k r e = go (eqb (control_refusal p streaming (selector_at k)) 0) refl e
    where
      go : (b : Bool) → eqb (control_refusal p streaming (selector_at k)) 0 ≡ b
          → item_code (cond b (profile_item p (selector_at k) (drop 4 r) 0) (Refused (control_refusal p streaming (selector_at k)))) ≡ 0
          → is_given (cond b (profile_item p (selector_at k) (drop 4 r) 0) (Refused (control_refusal p streaming (selector_at k)))) ≡ true
      go true q z = item_taken p (selector_at k) (drop 4 r) 0 (key_control k) z
      go false q z = absurd (eqb-false _ 0 q z)

  -- the setting that a record gives stands under its key
  record_key : (k : ℕ) (r : List ℕ) → IsRecord k r → (t : Setting) → record_item p streaming k r ≡ Given t → setting_key t ≡ k
  unfolding record_item is_given
  record_key k r g t e = go (eqb (control_refusal p streaming (selector_at k)) 0) e
    where
      go : (b : Bool) → cond b (profile_item p (selector_at k) (drop 4 r) 0) (Refused (control_refusal p streaming (selector_at k))) ≡ Given t
          → setting_key t ≡ k
      go true i = record_keyed p k r t g i
      go false i = absurd (true≢false (sym (ap is_given i)))

  load_keyed : (s : List ℕ) → Keyed (λ k. given_by p streaming k (decode s k))
  unfolding Option-elim given_of
  load_keyed s k j n = go (decode s k) (decode_good s k)
    where
      one : (i : Item) → ((t : Setting) → i ≡ Given t → setting_key t ≡ k) → last_of (given_of i) j ≡ none
      one (Refused code) h = refl
      one (Given t) h = rw (h t refl, ne_eqb k j n)

      go : (o : Option (List ℕ)) → GoodAt k o → last_of (given_by p streaming k o) j ≡ none
      go none g = refl
      go (some r) g = one (record_item p streaming k r) (record_key k r g)

  -- behind the last key there is no record
  load_end : (s : List ℕ) (k : ℕ) → keys ≤ k → decode s k ≡ none
  load_end s = none_above (decode s) (decode_good s)

  -- what a load gives: each record's setting
  pub load_settings : (s : List ℕ) (k : ℕ) → last_of (load_gives p streaming s) k ≡ last_of (given_by p streaming k (decode s k)) k
  unfolding load_gives Option-elim
  load_settings s k = go (leb keys k) refl
    where
      go : (b : Bool) → leb keys k ≡ b
          → last_of (all_given keys 0 (λ j. given_by p streaming j (decode s j))) k ≡ last_of (given_by p streaming k (decode s k)) k
      go true e =
          let h = leb-true keys k e in
          last_above _ (load_keyed s) keys 0 k (omega arith) ∙ sym (ap (λ o. last_of (given_by p streaming k o) k) (load_end s k h))
      go false e = let h = leb-false keys k e in last_all _ (load_keyed s) keys 0 k (omega arith) (omega arith)

  -- an accepted load: well formed, and no record is refused
  pub record Accepted (s : List ℕ) : Type 0 where
    pub formed : well_formed s ≡ true
    pub each : (k : ℕ) → code_by p streaming k (decode s k) ≡ 0

  pub load_accepted : (s : List ℕ) → first_of (load_tests p streaming s) ≡ 0 → Accepted s
  unfolding load_tests load_refusal Option-elim
  load_accepted s e =
      let n = load_refusal p streaming s in
      let q = quiet ((not (well_formed s) ⇒ malformed_snapshot) ∷ []) (answers n ∷ []) refl e in
      record { formed = not-false (well_formed s) q.0.0; each = λ k. go (sym (answers_number n) ∙ q.1) k (leb keys k) refl }
    where
      go : load_refusal p streaming s ≡ 0 → (k : ℕ) (b : Bool) → leb keys k ≡ b → code_by p streaming k (decode s k) ≡ 0
      go z k true q = ap (code_by p streaming k) (load_end s k (leb-true keys k q))
      go z k false q = none_refused (λ j. code_by p streaming j (decode s j)) keys z k (leb-false keys k q)

  pub accepted_load : (s : List ℕ) → Accepted s → first_of (load_tests p streaming s) ≡ 0
  unfolding load_tests load_refusal
  accepted_load s a = rw (a.formed, passes (λ j. code_by p streaming j (decode s j)) keys (λ j h. a.each j))

  -- of two records that are taken, the merge has one
  over_taken : (k : ℕ) (x y : Option (List ℕ)) → code_by p streaming k x ≡ 0 → code_by p streaming k y ≡ 0
      → code_by p streaming k (over x y) ≡ 0
  over_taken k x none a b = a
  over_taken k x (some r) a b = b

  over_setting : (k : ℕ) (x y : Option (List ℕ)) → GoodAt k y → code_by p streaming k y ≡ 0
      → last_of (given_by p streaming k (over x y)) k ≡ over (last_of (given_by p streaming k x) k) (last_of (given_by p streaming k y) k)
  unfolding Option-elim given_of is_given
  over_setting k x none g b = refl
  over_setting k x (some r) g b = go (record_item p streaming k r) (record_key k r g) (record_taken k r b)
    where
      go : (i : Item) → ((t : Setting) → i ≡ Given t → setting_key t ≡ k) → is_given i ≡ true
          → last_of (given_of i) k ≡ over (last_of (given_by p streaming k x) k) (last_of (given_of i) k)
      go (Refused code) h e = absurd (true≢false (sym e))
      go (Given t) h e = rw (h t refl, eq-eqb k k refl)

  -- a camera that accepts two snapshots accepts their merge
  pub merged_accepted : (a b : List ℕ) → Accepted a → Accepted b → Accepted (merged a b)
  merged_accepted a b x y = record {
    formed = merged_formed a b;
    each = λ k. rw (decode_merged a b) (over_taken k (decode a k) (decode b k) (x.each k) (y.each k));
  }

  -- which gives what the two give in turn
  pub merged_settings : (a b : List ℕ) → Accepted b
      → (k : ℕ)
      → last_of (load_gives p streaming (merged a b)) k ≡ over (last_of (load_gives p streaming a) k) (last_of (load_gives p streaming b) k)
  merged_settings a b y k =
      load_settings (merged a b) k
      ∙ ap (λ m. last_of (given_by p streaming k (m k)) k) (decode_merged a b)
      ∙ over_setting k (decode a k) (decode b k) (decode_good b k) (y.each k)
      ∙ sym (ap₂ over (load_settings a k) (load_settings b k))
