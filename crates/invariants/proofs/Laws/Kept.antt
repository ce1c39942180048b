-- Settings that a SET gives keep the record's rules. Assumes nothing.
use mathlib.Core.{Path.{◌≡◌, refl, ap, sym, ◌∙◌, subst}, List.{List, [], ◌∷◌, ◌++◌}, Option.{some}}
use mathlib.Core.Bool.{Bool, true, false, cond, not, ◌&&◌, true≢false, and-eq-true_iff}
use Prim.Native.Nat.{ℕ, zero, suc, ◌+◌, ◌-◌, ◌≤◌, ◌<◌}
use native.Mathlib.Omega.{arith}
use lib.{Dec.{eqb, leb, ltb}, ListN.{length, get_or, get_or-eq_default}}
use borrow.Author.Tests.{eq-eqb, ne_eqb, eqb-true, eqb-false, leb-true, leb-false, ltb-true, ltb-false}
use Rattle.wire.specs.{Endpoints.{first_address}, Numbers.{le_at}, Rows.{Row, ◌⇒◌, Quiet, all_below}}
use Rattle.wire.specs.Uvc.{out_of_range, invalid_value, wrong_state}
use Rattle.flags.specs.Flags.{bits_of, count, one_flag}
use Rattle.wire.specs.Selectors as selectors
use Rattle.wire.proofs.Laws.{Rows.{quiet}, Below.{all-at, all_of}}
use Rattle.snapshot.specs.Keys.{keys}
use Rattle.controls.specs.Controls.{Item, Refused, Given, item_of}
use Rattle.controls.specs.declared.Setting.{Setting}
use Rattle.controls.specs.declared.Setting.TheVariants as S
use Rattle.exposure.specs.Exposure.{ev_item, ev_flags, ev_value}
use Rattle.face.specs.Limits.{face_valid, offers_of}
use Rattle.entries.specs.Entries.{entry_address, entry_flags, seen_before, is_choice, entry_refusal, setting_refusal, face_item, put_face}
use Rattle.entries.proofs.Laws.Held.{put-at, length-put}
use Rattle.metadata.specs.Metadata.{metadata_item}
use Rattle.hdr.specs.Hdr.{hdr_item}
use Rattle.throttle.specs.Throttle.{throttle_item}
use Rattle.controls.proofs.Laws.Controls.{given_is}
use Rattle.face.proofs.Laws.Limits.{listed}
use Rattle.profile.specs.{declared.Profile.{Profile}, Profile.{has, is_settable, profile_valid, profile_refusal}, Items.{profile_item}}
use Rattle.profile.specs.KnownControl.{KnownControl, ev, face, metadata, hdr, throttle}
use Rattle.settings.specs.{declared.settings.Settings.{Settings}, Settings.{no_settings, setting_key, setting_selector, put}}
use Rattle.settings.specs.Held.{face_held, settings_held}
use Rattle.settings.specs.{Kept.{value_refusal, kept, settings_well_formed, settings_well_formed_under}, Items.{given_of, all_given, put_all}}
use Rattle.profile.proofs.Laws.Profile.{valid_face}
use Rattle.settings.proofs.Laws.Kept.{control_kept}
use Rattle.camera.specs.Requests.{control_refusal}
use Rattle.camera.proofs.Laws.Requests.{control_refused, control_state}
use Rattle.invariants.proofs.Laws.Held.{Proper, Each, held_face, held_none, held_named, none_held, put_other}

-- a setting that its SET takes if streaming, and that can be held
pub record Good (p : Profile) (s : Setting) : Type 0 where
  pub control : profile_refusal p (setting_selector s) ≡ 0
  pub value : value_refusal p s ≡ 0
  pub proper : Proper s

pub good_kept : (p : Profile) (s : Setting) → Good p s → kept p (some s) ≡ true
unfolding kept
good_kept p s g = rw (eq-eqb (profile_refusal p (setting_selector s)) 0 g.control, eq-eqb (value_refusal p s) 0 g.value)

-- a control whose tests before the values hold is there, and takes a SET
module _ (p : Profile) (selector : ℕ) (e : profile_refusal p selector ≡ 0) where
  there : (has p selector ≡ true) × (is_settable p selector ≡ true)
  there = (and-eq-true_iff (has p selector) (is_settable p selector)).0 (sym (control_kept p selector) ∙ eq-eqb _ 0 e)

  pub control_there : has p selector ≡ true
  control_there = there.0

  pub control_settable : is_settable p selector ≡ true
  control_settable = there.1

-- test 7 aside, they hold at either flag; and streaming, that passes
module _ (p : Profile) (selector : ℕ) where
  pub control_streaming : (streaming : Bool) → control_refusal p streaming selector ≡ 0 → profile_refusal p selector ≡ 0
  control_streaming streaming e = go (eqb (profile_refusal p selector) 0) refl
    where
      go : (b : Bool) → eqb (profile_refusal p selector) 0 ≡ b → profile_refusal p selector ≡ 0
      go true q = eqb-true _ 0 q
      go false q = control_refused p streaming selector refl (eqb-false _ 0 q) ∙ e

  pub streaming_control : profile_refusal p selector ≡ 0 → control_refusal p true selector ≡ 0
  streaming_control z = sym (control_state p true selector refl z) ∙ go (eqb selector selectors.throttle)
    where
      go : (b : Bool) → cond {A = ℕ} (b && true && false) wrong_state 0 ≡ 0
      go true = refl
      go false = refl

-- some flag is chosen only where one is set
choice_some : (offers flags : ℕ) → not (is_choice (one_flag offers flags)) ≡ false → 0 < flags
unfolding one_flag is_choice bits_of count
choice_some offers zero e = absurd (true≢false e)
choice_some offers (suc n) e = omega arith

-- an accepted entry of face authentication
module _ (p : Profile) (payload : List ℕ) (i : ℕ) (e : entry_refusal p.face payload i ≡ 0) where
  abbrev offers : ℕ
  offers = offers_of p.face (entry_address payload i)

  abbrev rows : List Row
  rows =
      (eqb offers 0 ⇒ out_of_range) ∷ (seen_before payload i ⇒ invalid_value) ∷
      (not (is_choice (one_flag offers (entry_flags payload i))) ⇒ invalid_value) ∷ []

  entry_tests_lem : Quiet rows
  unfolding entry_refusal
  entry_tests_lem = (quiet rows [] refl e).0

  entry_value : value_refusal p (S.Face (entry_address payload i) (entry_flags payload i)) ≡ 0
  unfolding value_refusal setting_refusal
  entry_value = rw (entry_tests_lem.0, entry_tests_lem.1.1.0)

  entry_proper : face_valid p.face ≡ true → Proper (S.Face (entry_address payload i) (entry_flags payload i))
  entry_proper f =
      let l = listed _ p.face f (entry_address payload i) (eqb-false offers 0 entry_tests_lem.0) in
      (l.first, l.last, choice_some offers (entry_flags payload i) entry_tests_lem.1.1.0)

-- what an item gives is good, where the control's own tests hold
module _ (p : Profile) (v : profile_valid p ≡ true) (payload : List ℕ) (i : ℕ) (s : Setting) where
  one_good : (code : ℕ) (t : Setting) → profile_refusal p (setting_selector t) ≡ 0 → (code ≡ 0 → value_refusal p t ≡ 0)
      → (code ≡ 0 → Proper t) → item_of code t ≡ Given s → Good p s
  one_good code t c a b e =
      let g = given_is code t s e in
      subst (Good p) g.1 (record { control = c; value = a g.0; proper = b g.0 })

  pub item_good : (selector : ℕ) → KnownControl selector → profile_refusal p selector ≡ 0 → profile_item p selector payload i ≡ Given s
      → Good p s
  unfolding profile_item ev_item face_item metadata_item hdr_item throttle_item value_refusal
  item_good _ ev c e = one_good _ (S.Ev (record { flags = ev_flags payload; value = ev_value payload })) c (λ z. z) (λ z. tt) e
  item_good _ face c e =
      one_good _ (S.Face (entry_address payload i) (entry_flags payload i)) c (λ z. entry_value p payload i z)
      (λ z. entry_proper p payload i z (valid_face p v (control_there p selectors.face c))) e
  item_good _ metadata c e = one_good _ (S.Metadata (le_at 4 payload 0)) c (λ z. z) (λ z. tt) e
  item_good _ hdr c e = one_good _ (S.Hdr (le_at 4 payload 0)) c (λ z. z) (λ z. tt) e
  item_good _ throttle c e = one_good _ (S.Throttle (record { mode = le_at 4 payload 0; percent = le_at 4 payload 4 })) c (λ z. z) (λ z. tt) e

pub given_good : (p : Profile) (item : Item) → ((s : Setting) → item ≡ Given s → Good p s) → Each (Good p) (given_of item)
unfolding given_of
given_good p (Refused code) h = tt
given_good p (Given s) h = (refl, h s refl, tt)

pub each_append : (P : Setting → Type 0) (a b : List (ℕ × Setting)) → Each P a → Each P b → Each P (a ++ b)
each_append P [] b p q = q
each_append P (x ∷ a) b p q = (p.0, p.1, each_append P a b p.2 q)

-- and so are all that several give
pub all_good : (p : Profile) (n k : ℕ) (given : ℕ → List (ℕ × Setting)) → ((j : ℕ) → Each (Good p) (given j))
    → Each (Good p) (all_given n k given)
unfolding all_given
all_good p zero k given h = tt
all_good p (suc n) k given h = each_append (Good p) (given k) (all_given n (suc k) given) (h k) (all_good p n (suc k) given h)

pub each_proper : (p : Profile) (l : List (ℕ × Setting)) → Each (Good p) l → Each Proper l
each_proper p [] g = tt
each_proper p (x ∷ l) g = (g.0, g.1.proper, each_proper p l g.2)

-- settings that are well formed, key by key
module _ (p : Profile) (h : Settings) where
  formed_kept : settings_well_formed p h ≡ true → (k : ℕ) → kept p (settings_held h k) ≡ true
  unfolding settings_well_formed_under kept
  formed_kept w k = let q = simp and-eq-true_iff at w in go (leb keys k) refl q.1
    where
      go : (b : Bool) → leb keys k ≡ b → all_below keys (λ k. kept p (settings_held h k)) ≡ true → kept p (settings_held h k) ≡ true
      go true e a = rw (held_none h k (leb-true keys k e))
      go false e a = all-at keys (λ k. kept p (settings_held h k)) a k (leb-false keys k e)

  pub kept_formed : profile_valid p ≡ true → ((k : ℕ) → kept p (settings_held h k) ≡ true) → settings_well_formed p h ≡ true
  unfolding settings_well_formed_under
  kept_formed v f = rw (v, all_of keys (λ k. kept p (settings_held h k)) (λ k l. f k))

-- A good setting is kept under its own key: of face authentication at a place that there is, else nothing is held there.
face_kept_lem : (p : Profile) (h : Settings) (address flags : ℕ) → Good p (S.Face address flags)
    → kept p (settings_held (put h (S.Face address flags)) (setting_key (S.Face address flags))) ≡ true
unfolding put kept
face_kept_lem p h address flags g =
    ap (kept p) (held_face (put h (S.Face address flags)) k (omega (arith, g.proper)) (omega (arith, g.proper)))
    ∙ go (ltb (k - 1) (length h.face)) refl
  where
    k : ℕ
    k = setting_key (S.Face address flags)

    go : (b : Bool) → ltb (k - 1) (length h.face) ≡ b
        → kept p (face_held (first_address + (k - 1)) (get_or (put_face h.face address flags) (k - 1) 0)) ≡ true
    go true e =
        let a : first_address + (k - 1) ≡ address = omega (arith, g.proper) in
        let v : get_or (put_face h.face address flags) (k - 1) 0 ≡ flags =
        put-at h.face address flags (k - 1) (ltb-true _ _ e) ∙ rw (eq-eqb address (first_address + (k - 1)) (sym a)) in
        rw (v, a, ne_eqb flags 0 (omega (arith, g.proper))) (good_kept p (S.Face address flags) g)
    go false e =
        let past : length (put_face h.face address flags) ≤ k - 1 =
        omega (arith, length-put h.face address flags, ltb-false (k - 1) (length h.face) e) in
        rw (get_or-eq_default (put_face h.face address flags) 0 past)

own_kept : (p : Profile) (h : Settings) (s : Setting) → Good p s → kept p (settings_held (put h s) (setting_key s)) ≡ true
unfolding settings_held put
own_kept p h (S.Ev s) g = good_kept p (S.Ev s) g
own_kept p h (S.Face address flags) g = face_kept_lem p h address flags g
own_kept p h (S.Metadata n) g = good_kept p (S.Metadata n) g
own_kept p h (S.Hdr n) g = good_kept p (S.Hdr n) g
own_kept p h (S.Throttle s) g = good_kept p (S.Throttle s) g

-- and every other setting stays
put_kept : (p : Profile) (h : Settings) (s : Setting) → Good p s → (k : ℕ) → kept p (settings_held h k) ≡ true
    → kept p (settings_held (put h s) k) ≡ true
put_kept p h s g k e = go (eqb (setting_key s) k) refl
  where
    go : (b : Bool) → eqb (setting_key s) k ≡ b → kept p (settings_held (put h s) k) ≡ true
    go true q = rw (← (eqb-true (setting_key s) k q)) (own_kept p h s g)
    go false q = rw (put_other h s g.proper k (eqb-false (setting_key s) k q)) e

puts_kept : (p : Profile) (h : Settings) (l : List (ℕ × Setting)) → Each (Good p) l → ((k : ℕ) → kept p (settings_held h k) ≡ true) → (k : ℕ)
    → kept p (settings_held (put_all h l) k) ≡ true
unfolding put_all
puts_kept p h [] g f k = f k
puts_kept p h (x ∷ l) g f k = puts_kept p (put h x.1) l g.2 (λ j. put_kept p h x.1 g.1 j (f j)) k

module _ (p : Profile) (h : Settings) (w : settings_well_formed p h ≡ true) where
  formed_valid : profile_valid p ≡ true
  unfolding settings_well_formed_under
  formed_valid = let q = simp and-eq-true_iff at w in q.0

  -- good settings leave them well formed
  pub puts_formed : (l : List (ℕ × Setting)) → Each (Good p) l → settings_well_formed p (put_all h l) ≡ true
  puts_formed l g = kept_formed p (put_all h l) formed_valid (puts_kept p h l g (formed_kept p h w))

  -- and what is held of a key is good
  pub held_good : (k : ℕ) (s : Setting) → settings_held h k ≡ some s → (setting_key s ≡ k) × Good p s
  unfolding kept
  held_good k s e =
      let n = held_named h k s e in
      let q : eqb (profile_refusal p (setting_selector s)) 0 && eqb (value_refusal p s) 0 ≡ true = ap (kept p) (sym e) ∙ formed_kept p h w k in
      let r = simp and-eq-true_iff at q in
      (n.0, record { control = eqb-true _ 0 r.0; value = eqb-true _ 0 r.1; proper = n.1 })

-- no settings are well formed
pub none_formed : (p : Profile) → profile_valid p ≡ true → settings_well_formed p no_settings ≡ true
unfolding kept
none_formed p v = kept_formed p no_settings v (λ k. rw (none_held k))
