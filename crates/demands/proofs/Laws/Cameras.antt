-- The records of settings: each is a record of its key, and read as a SET gives its setting back. Assumes nothing.
use mathlib.Core.{Path.{◌≡◌, refl, sym, ◌∙◌, subst}, List.{List, [], ◌∷◌}, Option.{Option, none, some, map}, Bool.{true}}
use Prim.Native.Nat.{ℕ, ◌+◌, ◌-◌}
use native.Mathlib.Omega.{arith}
use borrow.Author.Tests.{eq-eqb, ne_eqb, le-leb}
use lib.ListN.{drop}
use Rattle.wire.specs.{Endpoints.{first_address, places}, Numbers.{bytes_of}}
use Rattle.wire.specs.Selectors as selector
use Rattle.snapshot.specs.Records.{IsRecord, GoodAt}
use Rattle.snapshot.specs.Records as records
use Rattle.snapshot.proofs.Laws.{Given.{EachRecord}, Controls.{record_ev, record_face, record_metadata, record_hdr, record_throttle}}
use Rattle.controls.specs.declared.Setting.{Setting}
use Rattle.controls.specs.Controls.{Given, item_of}
use Rattle.controls.specs.declared.Setting.TheVariants as S
use Rattle.exposure.specs.Exposure.{ev_bytes}
use Rattle.face.specs.Answers.{entry_of}
use Rattle.entries.specs.Entries.{setting_refusal}
use Rattle.throttle.specs.Throttle.{throttle_bytes}
use Rattle.exposure.proofs.Laws.Exposure.{ev_read}
use Rattle.entries.proofs.Laws.Payload.{one_entry}
use Rattle.metadata.proofs.Laws.Metadata.{metadata_read}
use Rattle.hdr.proofs.Laws.Hdr.{hdr_read}
use Rattle.throttle.proofs.Laws.Throttle.{throttle_read}
use Rattle.profile.specs.{declared.Profile.{Profile}, Items.{profile_item}}
use Rattle.settings.specs.{Settings.{setting_key, setting_selector}, Kept.{value_refusal}}
use Rattle.camera.specs.{declared.record.Camera.{Camera}, Requests.{control_refusal}, Record.{held, record_well_formed}}
use Rattle.camera.specs.Loading.{selector_at, record_item}
use Rattle.encoding.specs.Encoding.{record_of, no_limits}
use Rattle.invariants.proofs.Laws.{Held.{Proper, Each}, Kept.{Good, held_good, streaming_control}}
use Rattle.demands.proofs.Laws.Fits.{Fitting}

-- a setting's record, under its key
pub record_of_lem : (k : ℕ) (s : Setting) → setting_key s ≡ k → Proper s → IsRecord k (record_of s)
unfolding record_of ev_bytes throttle_bytes bytes_of
record_of_lem k (S.Ev s) e p = subst (λ j. IsRecord j (record_of (S.Ev s))) e (record_ev _ _ _ _ _ _ _ _ _ _ _)
record_of_lem k (S.Face address flags) e p =
    let f : first_address - 1 + (address - (first_address - 1)) ≡ address = omega arith in
    subst (λ j. IsRecord j (record_of (S.Face address flags))) e
    (subst (λ a. IsRecord (address - (first_address - 1)) (13 ∷ 0 ∷ selector.face ∷ 0 ∷ 1 ∷ entry_of a flags)) f
    (record_face (address - (first_address - 1)) _ _ _ _ _ _ _ (omega arith) (omega arith)))
record_of_lem k (S.Metadata n) e p = subst (λ j. IsRecord j (record_of (S.Metadata n))) e (record_metadata _ _ _ _)
record_of_lem k (S.Hdr n) e p = subst (λ j. IsRecord j (record_of (S.Hdr n))) e (record_hdr _ _ _ _)
record_of_lem k (S.Throttle s) e p = subst (λ j. IsRecord j (record_of (S.Throttle s))) e (record_throttle _ _ _ _ _ _ _ _)

pub each_record : (p : Profile) (l : List (ℕ × Setting)) → Each (Good p) l → EachRecord record_of l
each_record p [] g = tt
each_record p (x ∷ l) g = (record_of_lem x.0 x.1 (sym g.0) g.1.proper, each_record p l g.2)

-- the records of what a well-formed camera holds are records of their keys
pub held_records : (c : Camera) → record_well_formed c ≡ true → records.Good (λ k. map record_of (held c k))
held_records c w k = go (held c k) refl
  where
    go : (o : Option Setting) → held c k ≡ o → GoodAt k (map record_of o)
    go none e = tt
    go (some s) e = let g = held_good c.profile c.settings w k s e in record_of_lem k s g.0 g.1.proper

-- the record's payload, read as a SET, comes to its setting by the value tests of that setting
record_of_item : (p : Profile) (k : ℕ) (s : Setting) → Fitting s
    → profile_item p (setting_selector s) (drop 4 (record_of s)) 0 ≡ item_of (value_refusal p s) s
unfolding profile_item value_refusal setting_refusal record_of bytes_of
record_of_item p k (S.Ev s) f = ev_read s f.0 f.1 p.ev
record_of_item p k (S.Face address flags) f = one_entry p.face address flags f
record_of_item p k (S.Metadata n) f = metadata_read p.metadata n f
record_of_item p k (S.Hdr n) f = hdr_read p.hdr n f
record_of_item p k (S.Throttle s) f = throttle_read s no_limits p.throttle f.0 f.1

-- the selector of a setting's key is the setting's
key_selector : (k : ℕ) (s : Setting) → setting_key s ≡ k → Proper s → selector_at k ≡ setting_selector s
key_selector k (S.Ev s) e p = rw (← e)
key_selector k (S.Face address flags) e p = rw (ne_eqb k 0 (omega arith), le-leb k places (omega arith))
key_selector k (S.Metadata n) e p = rw (← e)
key_selector k (S.Hdr n) e p = rw (← e)
key_selector k (S.Throttle s) e p = rw (← e)

-- so a setting's record is taken by a camera that streams, and gives the setting back
pub record_of_taken : (p : Profile) (k : ℕ) (s : Setting) → Fitting s → setting_key s ≡ k → Good p s
    → record_item p true k (record_of s) ≡ Given s
unfolding record_item item_of
record_of_taken p k s f e g =
    rw (
      key_selector k s e g.proper,
      eq-eqb (control_refusal p true (setting_selector s)) 0
          (streaming_control p (setting_selector s) g.control),
    )
    (record_of_item p k s f ∙ rw (eq-eqb (value_refusal p s) 0 g.value))
