-- Settings that keep their rules, as the code tests them: control by control. Assumes nothing.
use mathlib.Core.{Path.{◌≡◌, refl, ap, sym, ◌∙◌}, List.{[], ◌∷◌}, Option.{none, some}}
use mathlib.Core.Bool.{Bool, true, false, cond, not, ◌&&◌, ◌||◌, and-true}
use Prim.Native.Nat.{ℕ, suc, ◌+◌, ◌<◌}
use native.Mathlib.{Numerals.{sub-one}, Omega.{arith}}
use lib.{Dec.{eqb}, ListN.{get_or}}
use borrow.Author.Tests.{ne_eqb, le-leb}
use Rattle.std.specs.Prelude.{Result, Ok, Err, is_ok}
use Rattle.wire.specs.{Uvc.{invalid_control, invalid_request}, Endpoints.{first_address, places}, Rows.{◌⇒◌, first_of, all_below}}
use Rattle.wire.specs.{declared.refusal.Refusal.{Refusal}, Refusals.{verdict}, Selectors.{ev, face, metadata, hdr, throttle}}
use Rattle.wire.proofs.Laws.{Refusals.{refused}, Below.{all_same, below_front}}
use Rattle.snapshot.specs.Keys.{ev_key, metadata_key, hdr_key, throttle_key}
use Rattle.std.specs.declared.option.Option.TheVariants.{Some, None}
use Rattle.controls.specs.Controls.{HeldNumber, HeldEv, HeldThrottle}
use Rattle.controls.specs.declared.Setting.{Setting}
use Rattle.exposure.specs.Exposure.{ev_refusal}
use Rattle.metadata.specs.Metadata.{metadata_refusal}
use Rattle.hdr.specs.Hdr.{hdr_refusal}
use Rattle.throttle.specs.Throttle.{throttle_refusal}
use Rattle.controls.specs.declared.Setting.TheVariants as S
use Rattle.entries.specs.Entries.{setting_refusal, face_kept, faces_kept}
use Rattle.profile.specs.{declared.Profile.{Profile}, Profile.{has, is_settable, profile_valid, profile_refusal}}
use Rattle.settings.specs.{declared.settings.Settings.{Settings}, Settings.{setting_selector}}
use Rattle.settings.specs.Held.{ev_held, metadata_held, hdr_held, throttle_held, settings_held}
use Rattle.settings.specs.Kept.{value_refusal, kept, kept_by, settings_well_formed, settings_well_formed_under}

module _ (p : Profile) where
  -- a control that no SET is refused for is there and takes one
  pub control_kept : (selector : ℕ) → eqb (profile_refusal p selector) 0 ≡ has p selector && is_settable p selector
  unfolding profile_refusal
  control_kept selector = go (has p selector) (is_settable p selector)
    where
      go : (h t : Bool) → eqb (first_of ((not h ⇒ invalid_control) ∷ (not t ⇒ invalid_request) ∷ [])) 0 ≡ h && t
      go true true = refl
      go true false = refl
      go false t = refl

  -- all but metadata take one
  kept_settable : (s : Setting) → is_settable p (setting_selector s) ≡ true
      → has p (setting_selector s) && eqb (value_refusal p s) 0 ≡ kept p (some s)
  unfolding kept
  kept_settable s t = rw (control_kept (setting_selector s), t, and-true (has p (setting_selector s)))

-- a test's result, as its number says it
pub accepted : {A : Type 0} (r : Result A Refusal) → is_ok r ≡ eqb (verdict r) 0
accepted (Ok a) = refl
accepted (Err e) = sym (refused e)

-- one setting by its control's limits
module _ (p : Profile) where
  ev_by : (s : HeldEv) → kept p (ev_held s) ≡ kept_by (profile_refusal p ev) (λ e. ev_refusal p.ev e.flags e.value) s
  unfolding kept kept_by value_refusal
  ev_by None = refl
  ev_by (Some e) = refl

  metadata_by : (n : HeldNumber) → kept p (metadata_held n) ≡ kept_by (profile_refusal p metadata) (metadata_refusal p.metadata) n
  unfolding kept kept_by value_refusal
  metadata_by None = refl
  metadata_by (Some n) = refl

  hdr_by : (n : HeldNumber) → kept p (hdr_held n) ≡ kept_by (profile_refusal p hdr) (hdr_refusal p.hdr) n
  unfolding kept kept_by value_refusal
  hdr_by None = refl
  hdr_by (Some n) = refl

  throttle_by : (s : HeldThrottle)
      → kept p (throttle_held s) ≡ kept_by (profile_refusal p throttle) (λ t. throttle_refusal p.throttle t.mode t.percent) s
  unfolding kept kept_by value_refusal
  throttle_by None = refl
  throttle_by (Some t) = refl

-- the record test: the five controls in turn
abbrev keeps : Profile → Settings → ℕ → Bool
keeps p s k = kept p (settings_held s k)

-- the keys from 1 on are the places
keeps_place : (p : Profile) (s : Settings) (i : ℕ) → i < places → keeps p s (suc i) ≡ face_kept (has p face) p.face s.face i
unfolding settings_held face_kept value_refusal kept
keeps_place p s i h = rw (ne_eqb (suc i) 0 (omega arith), le-leb (suc i) places (omega arith), sub-one) (go (eqb (get_or s.face i 0) 0))
  where
    address : ℕ
    address = first_address + i

    flags : ℕ
    flags = get_or s.face i 0

    of : has p face && eqb (setting_refusal p.face address flags) 0 ≡ kept p (some (S.Face address flags))
    of = kept_settable p (S.Face address flags) refl

    go : (b : Bool)
        → kept p (cond b none (some (S.Face address flags))) ≡ b || (has p face && eqb (setting_refusal p.face address flags) 0)
    go true = refl
    go false = sym of

in-turn : (v e f m h t : Bool) → v && e && f && m && h && t ≡ v && (e && f && m && h && t)
in-turn true e f m h t = refl
in-turn false e f m h t = refl

module _ (p : Profile) (s : Settings) where
  in_turn_held : settings_well_formed p s
      ≡ profile_valid p && kept p (ev_held s.ev) && faces_kept (has p face) p.face s.face && kept p (metadata_held s.metadata)
      && kept p (hdr_held s.hdr) && kept p (throttle_held s.throttle)
  unfolding settings_well_formed_under faces_kept all_below settings_held
  in_turn_held =
      sym
      (in-turn (profile_valid p) _ _ _ _ _
      ∙ ap (λ b. profile_valid p && (b && keeps p s metadata_key && keeps p s hdr_key && keeps p s throttle_key))
      (ap (λ b. keeps p s ev_key && b) (sym (all_same places _ _ (keeps_place p s))) ∙ sym (below_front places (keeps p s))))

  pub formed_controls : settings_well_formed p s
      ≡ profile_valid p && kept_by (profile_refusal p ev) (λ e. ev_refusal p.ev e.flags e.value) s.ev
      && faces_kept (has p face) p.face s.face
      && kept_by (profile_refusal p metadata) (metadata_refusal p.metadata) s.metadata
      && kept_by (profile_refusal p hdr) (hdr_refusal p.hdr) s.hdr
      && kept_by (profile_refusal p throttle) (λ t. throttle_refusal p.throttle t.mode t.percent) s.throttle
  formed_controls =
      rw (sym (ev_by p s.ev), sym (metadata_by p s.metadata), sym (hdr_by p s.hdr), sym (throttle_by p s.throttle)) in_turn_held
