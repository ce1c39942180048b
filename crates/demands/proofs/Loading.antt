-- Loading a snapshot counts as its records' SETs, and a record is well formed by its settings' own. Assumes nothing.
use mathlib.Core.{Path.{◌≡◌, refl, ap, ap₂, sym, ◌∙◌, subst}, List.{List, [], ◌∷◌, ◌++◌}, Option.{Option, none, some, Option-elim}}
use mathlib.Core.Bool.{Bool, true, false, cond}
use Prim.Native.Nat.{ℕ, zero, suc}
use lib.{Dec.{eqb}, ListN.{drop}}
use borrow.Author.Tests.{eq-eqb, eqb-false}
use Rattle.wire.specs.Rows.{first_of}
use Rattle.request.specs.Tests.{set_accepted}
use Rattle.snapshot.specs.{Keys.{keys}, Form.{well_formed}, Records.{decode, GoodAt, IsRecord, KeyedRecord, records_of}}
use Rattle.snapshot.specs.Records as records
use Rattle.snapshot.proofs.Laws.{Maps.{decode_good}, Entries.{entry_at, entries, records_entries}}
use Rattle.controls.specs.{declared.Setting.{Setting}, Controls.{first_refusal}}
use Rattle.profile.specs.{declared.Profile.{Profile}, Profile.{profile_valid}}
use Rattle.settings.specs.{Kept.{kept}, Items.{put_all, given_of, all_given}}
use Rattle.settings.proofs.Laws.Items.{puts_append}
use Rattle.camera.specs.{declared.record.Camera.{Camera}, Record.{held, record_well_formed, puts, with_settings}}
use Rattle.camera.specs.Loading.{load_refusal, load_tests, load_gives, loaded}
use Rattle.encoding.specs.Encoding.{record_of}
use Rattle.camera.proofs.Laws.{Record.{formed_profile}, Loading.{code_by, given_by}}
use Rattle.demands.specs.Calls.{request, load, next}
use Rattle.demands.specs.{Runs.{gives, given, run}, Cameras.{Ok, Typed}}
use Rattle.demands.specs.Loading.{record_set, set_code, AsSet, record_sets, first_fault, EachAccepted, CountsAsSets, OwnSet}
use Rattle.demands.specs.Loading.{KeepsSetRules}
use Rattle.invariants.proofs.Laws.{Held.{Each}, Kept.{Good, good_kept, kept_formed, held_good}}
use Rattle.invariants.proofs.Laws.Requests.{request_next}
use Rattle.demands.proofs.Laws.Fits.{held_fitting}
use Rattle.demands.proofs.Laws.{Cameras.{record_of_lem, record_of_taken}, Steps.{step, load_answer, load_next, gives_good}}
use Rattle.demands.proofs.Laws.Sets as sets
use Rattle.wire.proofs.Laws.Rows.{answers_number}

-- every record in form, of any key
pub record_as_set : (p : Profile) → profile_valid p ≡ true → (streaming : Bool) (k : ℕ) (r : List ℕ) → IsRecord k r → AsSet p streaming k r
record_as_set p v streaming k r g = sets.record_as_set k r g p v streaming

-- the records of a snapshot, in order
module _ (p : Profile) (v : profile_valid p ≡ true) (f : Bool) (m : ℕ → Option (List ℕ)) (g : records.Good m) where
  fault_entries : (n k : ℕ) → first_fault p f (entries n k m) ≡ first_refusal n k (λ j. code_by p f j (m j))
  unfolding entries first_refusal Option-elim
  fault_entries zero k = refl
  fault_entries (suc n) k = go (m k) (g k) (fault_entries n (suc k))
    where
      go : (o : Option (List ℕ)) → GoodAt k o → first_fault p f (entries n (suc k) m) ≡ first_refusal n (suc k) (λ j. code_by p f j (m j))
          → first_fault p f (entry_at k o ++ entries n (suc k) m)
          ≡ cond (eqb (code_by p f k o) 0) (first_refusal n (suc k) (λ j. code_by p f j (m j))) (code_by p f k o)
      go none q e = e
      go (some r) q e = ap₂ (λ (x y : ℕ). cond (eqb x 0) y x) (record_as_set p v f k r q).code e

  given_entries : (n k : ℕ) → given p f (record_sets p (entries n k m)) ≡ all_given n k (λ j. given_by p f j (m j))
  unfolding entries all_given Option-elim
  given_entries zero k = refl
  given_entries (suc n) k = go (m k) (g k) (given_entries n (suc k))
    where
      go : (o : Option (List ℕ)) → GoodAt k o
          → given p f (record_sets p (entries n (suc k) m)) ≡ all_given n (suc k) (λ j. given_by p f j (m j))
          → given p f (record_sets p (entry_at k o ++ entries n (suc k) m)) ≡ given_by p f k o ++ all_given n (suc k) (λ j. given_by p f j (m j))
      go none q e = e
      go (some r) q e = ap₂ ◌++◌ ((record_as_set p v f k r q).settings []) e

-- no fault is every SET's acceptance
module _ (p : Profile) (f : Bool) where
  fault_none : (l : List KeyedRecord) → first_fault p f l ≡ 0 → EachAccepted p f l
  unfolding set_accepted
  fault_none [] e = tt
  fault_none (x ∷ l) e = go (eqb (set_code p f x.0 x.1) 0) refl e (fault_none l)
    where
      go : (b : Bool) → eqb (set_code p f x.0 x.1) 0 ≡ b → cond b (first_fault p f l) (set_code p f x.0 x.1) ≡ 0
          → (first_fault p f l ≡ 0 → EachAccepted p f l) → EachAccepted p f (x ∷ l)
      go true q z ih = (q, ih z)
      go false q z ih = absurd (eqb-false _ 0 q z)

  none_fault : (l : List KeyedRecord) → EachAccepted p f l → first_fault p f l ≡ 0
  unfolding set_accepted
  none_fault [] a = refl
  none_fault (x ∷ l) a = let q : eqb (set_code p f x.0 x.1) 0 ≡ true = a.0 in rw q (none_fault l a.1)

-- SETs one after the other put in what they give
run_sets : (p : Profile) (c : Camera) → Ok p c → (l : List KeyedRecord)
    → run c (record_sets p l) ≡ puts c (given p c.streaming (record_sets p l))
unfolding put_all gives
run_sets p c o [] = refl
run_sets p c o (e ∷ l) =
    let call = request (record_set p e.0 e.1) (drop 4 e.1) [] in
    let s = step p c o call in
    let d : next c call ≡ puts c (gives p c.streaming call) =
    request_next c (record_set p e.0 e.1) (drop 4 e.1) 0 o.formed
    ∙ ap (λ q. puts c (gives q c.streaming call)) o.profile in
    run_sets p (next c call) s.ok l
    ∙ ap₂ (λ b f. puts b (given p f (record_sets p l))) d s.streaming_after
    ∙ ap (with_settings c) (sym (puts_append c.settings (gives p c.streaming call) (given p c.streaming (record_sets p l))))

-- a snapshot without a form fault, on a camera that is not refused 0x21
pub load_fault : (c : Camera) → record_well_formed c ≡ true → (s : List ℕ) → well_formed s ≡ true
    → (loaded c s).code ≡ first_fault c.profile c.streaming (records_of s)
unfolding load_tests load_refusal
load_fault c formed s w =
    let p = c.profile in
    let f = c.streaming in
    load_answer c s formed
    ∙ rw w (answers_number (load_refusal p f s))
    ∙ sym (ap (first_fault p f) (records_entries s w) ∙ fault_entries p (formed_profile c formed) f (decode s) (decode_good s) keys 0)

module _ (c : Camera) (o : Ok c.profile c) (s : List ℕ) (w : well_formed s ≡ true) where
  load_given : (loaded c s).code ≡ 0
      → gives c.profile c.streaming (load s) ≡ given c.profile c.streaming (record_sets c.profile (records_of s))
  unfolding gives load_gives
  load_given e =
      let p = c.profile in
      let f = c.streaming in
      rw (eq-eqb (first_of (load_tests p f s)) 0 (sym (load_answer c s o.formed) ∙ e))
      (sym (ap (λ l. given p f (record_sets p l)) (records_entries s w) ∙ given_entries p (formed_profile c o.formed) f (decode s)
      (decode_good s) keys 0))

  pub load_counts : CountsAsSets c s
  load_counts = record {
    answer = load_fault c o.formed s w;
    accepted_each = λ e. fault_none c.profile c.streaming (records_of s) (sym (load_fault c o.formed s w) ∙ e);
    each_accepted = λ a. load_fault c o.formed s w ∙ none_fault c.profile c.streaming (records_of s) a;
    settings = load_given;
    camera = λ e. load_next c s o.formed ∙ ap (puts c) (load_given e) ∙ sym (run_sets c.profile c o (records_of s));
  }

-- a record of a valid profile, and its settings' own SETs
module _ (c : Camera) (v : profile_valid c.profile ≡ true) where
  own_given : record_well_formed c ≡ true → Typed c → (k : ℕ) (s : Setting) → held c k ≡ some s → OwnSet c.profile k s
  unfolding given_of
  own_given w t k s e =
      let g = held_good c.profile c.settings w k s e in
      (record_as_set c.profile v true k (record_of s) (record_of_lem k s g.0 g.1.proper)).settings []
      ∙ ap given_of (record_of_taken c.profile k s (held_fitting c w t k s e) g.0 g.1)
      ∙ ap (λ (j : ℕ). (j, s) ∷ []) g.0

  own_kept : (k : ℕ) (s : Setting) → OwnSet c.profile k s → kept c.profile (some s) ≡ true
  own_kept k s e =
      let g = gives_good c.profile v true (request (record_set c.profile k (record_of s)) (drop 4 (record_of s)) []) in
      good_kept c.profile s (subst (Each (Good c.profile)) e g).1

  pub own_sets : Typed c → KeepsSetRules c
  unfolding kept
  own_sets t = record {
    formed_sets = λ w. own_given w t;
    sets_formed = λ h. kept_formed c.profile c.settings v (λ k. go k (held c k) (h k));
  }
    where
      go : (k : ℕ) (o : Option Setting) → ((s : Setting) → o ≡ some s → OwnSet c.profile k s) → kept c.profile o ≡ true
      go k none h = refl
      go k (some s) h = own_kept k s (h s refl)
