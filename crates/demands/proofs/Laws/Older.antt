-- Loading on a record of the old shape, without the places that are zero. Assumes nothing.
use mathlib.Core.{Path.{◌≡◌, refl, ap, fun_ext}, List.{List, []}, Option.{Option, none, some, map, Option-elim}}
use mathlib.Core.Bool.{Bool, true, false, cond}
use Prim.Native.Nat.{ℕ}
use native.Mathlib.Omega.{arith}
use lib.Dec.{eqb}
use Rattle.wire.proofs.Laws.Below.{all_same}
use Rattle.request.specs.Tests.{table_refusal}
use Rattle.snapshot.specs.{Keys.{keys}, Records.{decode}}
use Rattle.controls.specs.Controls.{Item, item_code, first_refusal}
use Rattle.controls.specs.declared.Setting.{Setting}
use Rattle.controls.specs.declared.Setting.TheVariants as S
use Rattle.face.specs.{Limits.{offers_of}, Theorems.{ZerosFrom, SameInFirst}}
use Rattle.face.proofs.Theorems.{zeros_left_out, zeros_behind}
use Rattle.entries.specs.Entries.{entry_address, entry_refusal, face_item, setting_refusal}
use Rattle.profile.specs.{declared.Profile.{Profile}, Profile.{profile_valid_under, profile_refusal}, Items.{profile_item}}
use Rattle.settings.specs.{declared.settings.Settings.{Settings}, Held.{settings_held}, Kept.{value_refusal, kept, settings_well_formed_under}}
use Rattle.settings.specs.Items.{given_of, all_given}
use Rattle.camera.specs.declared.record.Camera.{Camera}
use Rattle.camera.specs.Outcomes.{Outcome}
use Rattle.camera.specs.Record.{puts}
use Rattle.camera.specs.Requests.{refused}
use Rattle.camera.specs.Loading.{record_item, load_refusal, load_tests, load_code_under, load_gives, loaded_under}
use Rattle.demands.specs.Endpoints.{old_limit, old_places, old_profile, old_record, old_outcome}

-- a profile without those places: the same rules, settings that keep them, and items of a SET
module _ (p : Profile) (z : ZerosFrom old_limit p.face) where
  abbrev old : Profile
  old = old_profile p

  list_same : SameInFirst old_places p.face
  list_same = zeros_left_out old_places p.face (zeros_behind old_limit p.face z old_places (omega arith))

  offers_same : (address : ℕ) → offers_of old.face address ≡ offers_of p.face address
  offers_same = list_same.offers

  item_same : (selector : ℕ) (payload : List ℕ) (i : ℕ) → profile_item old selector payload i ≡ profile_item p selector payload i
  unfolding profile_item face_item entry_refusal
  item_same selector payload i = rw (offers_same (entry_address payload i))

  value_same : (s : Setting) → value_refusal old s ≡ value_refusal p s
  unfolding value_refusal setting_refusal
  value_same (S.Ev s) = refl
  value_same (S.Face address flags) = rw (offers_same address)
  value_same (S.Metadata n) = refl
  value_same (S.Hdr n) = refl
  value_same (S.Throttle s) = refl

  kept_same : (o : Option Setting) → kept old o ≡ kept p o
  unfolding kept profile_refusal
  kept_same none = refl
  kept_same (some s) = rw (value_same s)

  formed_same : (s : Settings) → settings_well_formed_under old_limit old s ≡ settings_well_formed_under old_limit p s
  unfolding settings_well_formed_under profile_valid_under
  formed_same s =
      rw (
        list_same.valid old_limit,
        all_same keys (λ k. kept old (settings_held s k)) (λ k. kept p (settings_held s k)) (λ k h. kept_same (settings_held s k)),
      )

  -- and the records of a snapshot
  module _ (streaming : Bool) (s : List ℕ) where
    record_same : (k : ℕ) (r : List ℕ) → record_item old streaming k r ≡ record_item p streaming k r
    unfolding record_item table_refusal
    record_same k r = rw (item_same _ _ _)

    each_same : {A : Type 0} (read : Option Item → A) (k : ℕ)
        → read (map (record_item old streaming k) (decode s k)) ≡ read (map (record_item p streaming k) (decode s k))
    each_same read k = ap (λ g. read (map g (decode s k))) (fun_ext λ r. record_same k r)

    refusal_same : load_refusal old streaming s ≡ load_refusal p streaming s
    unfolding load_refusal
    refusal_same = ap (first_refusal keys 0) (fun_ext λ k. each_same (λ o. Option-elim o 0 item_code) k)

    gives_same : load_gives old streaming s ≡ load_gives p streaming s
    unfolding load_gives
    gives_same = ap (all_given keys 0) (fun_ext λ k. each_same (λ o. Option-elim o [] given_of) k)

-- so a load comes to the same
module _ (c : Camera) (z : ZerosFrom old_limit c.profile.face) (s : List ℕ) where
  code_same : load_code_under old_limit (old_record c) s ≡ load_code_under old_limit c s
  unfolding load_code_under load_tests
  code_same = rw (formed_same c.profile z c.settings, refusal_same c.profile z c.streaming s)

  pub load_narrow : loaded_under old_limit (old_record c) s ≡ old_outcome (loaded_under old_limit c s)
  unfolding loaded_under
  load_narrow = rw (code_same, gives_same c.profile z c.streaming s) (go (eqb (load_code_under old_limit c s) 0))
    where
      done : Outcome
      done = record { code = 0; count = 0; camera = puts c (load_gives c.profile c.streaming s) }

      go : (b : Bool) → cond b (old_outcome done) (refused (load_code_under old_limit c s) (old_record c))
          ≡ old_outcome (cond b done (refused (load_code_under old_limit c s) c))
      go true = refl
      go false = refl
