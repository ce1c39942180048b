-- The owner's demand 3. Assumes nothing.
use mathlib.Core.{Path.{◌≡◌, refl, ap, ap₂, sym, ◌∙◌, subst}, List.{List, [], ◌∷◌, ◌++◌}}
use mathlib.Core.{Option.{Option, none, some, map, Option-elim}, Bool.{Bool, true, not}}
use Prim.Native.Nat.{ℕ, ◌≤◌}
use lib.{ListN.{length, take, drop}, Seq.{take_at}}
use borrow.Author.Tests.{eq-eqb, le-ltb, not-false}
use Rattle.wire.specs.{Endpoints.{places}, Rows.{◌⇒◌, first_of}, Uvc.{malformed_record}}
use Rattle.wire.proofs.Laws.Rows.{quiet}
use Rattle.snapshot.specs.{Form.{well_formed}, Records.{decode}, Given.{over, last_of, snapshot_of}}
use Rattle.merging.specs.Merging.{merged}
use Rattle.snapshot.proofs.Laws.{Maps.{decode_encode}, Form.{encode_formed}, Given.{over_assoc, over_none, EachRecord, records_append}}
use Rattle.merging.proofs.Laws.{Answers.{Answer}, Given.{snapshot_append}}
use Rattle.merging.proofs.Laws.Answers as answers
use Rattle.controls.specs.declared.Setting.{Setting}
use Rattle.controls.specs.Controls.{Given, item_code}
use Rattle.settings.specs.Items.{given_of}
use Rattle.profile.specs.{declared.Profile.{Profile}, Profile.{profile_valid}}
use Rattle.camera.specs.declared.record.Camera.{Camera}
use Rattle.camera.specs.Outcomes.{Outcome}
use Rattle.camera.specs.Record.{fresh, held, record_well_formed, puts}
use Rattle.camera.specs.Loading.{record_item, load_tests, load_code, load_code_under, load_gives, loaded, loaded_under}
use Rattle.camera.specs.Writing.{snapshot, write_code, written, written_out}
use Rattle.encoding.specs.Encoding.{record_of}
use Rattle.demands.specs.Calls.{Call, load}
use Rattle.demands.specs.{Runs.{gives, leaves, flag_after, given, snapshot_after, run}, Cameras.{Ok, Typed, handed_snapshot, Written}}
use Rattle.demands.specs.Lists.{MergesTo, Whole, LoadsMerged, AcceptedInTurn, Restores}
use Rattle.invariants.proofs.Laws.{Held.{none_held}, Kept.{held_good}, Requests.{outcome_code}}
use Rattle.demands.proofs.Laws.{Fits.{held_fitting}, Steps.{step, gives_good}}
use Rattle.demands.proofs.Laws.Lists.{given_append, run_ok, fresh_ok, held_after, flag_after_lem}
use Rattle.demands.proofs.Laws.Cameras.{each_record, held_records, record_of_taken}
use Rattle.demands.proofs.Laws.Loads.{Accepted, load_settings, load_accepted, accepted_load, merged_accepted, merged_settings}
use Rattle.camera.proofs.Laws.{Record.{formed_profile}, Loading.{code_by, given_by}}

-- writing, where there is room
pub writes : (c : Camera) (out : List ℕ) → record_well_formed c ≡ true → length (snapshot c) ≤ length out → Written c (snapshot c) out
unfolding written written_out write_code
writes c out w h =
    record { outcome = rw (w, le-ltb (length out) (length (snapshot c)) h); buffer = rw (w, le-ltb (length out) (length (snapshot c)) h) }

-- a camera's snapshot decodes to its settings' records
module _ (c : Camera) (w : record_well_formed c ≡ true) where
  pub snapshot_decodes : decode (snapshot c) ≡ (λ k. map record_of (held c k))
  unfolding snapshot
  snapshot_decodes = decode_encode _ (held_records c w)

  pub snapshot_formed : well_formed (snapshot c) ≡ true
  unfolding snapshot
  snapshot_formed = encode_formed _ (held_records c w)

-- the program's merge of two snapshots in form
merges_to : (a b s : List ℕ) → well_formed a ≡ true → well_formed b ≡ true → s ≡ merged a b → MergesTo a b s
merges_to a b s w v e =
    let t : (out : List ℕ) → length s ≤ length out → Answer a b out 0 (length s) (s ++ drop (length s) out) =
    λ out h. rw e (answers.accepted a b out w v (rw e at h)) in
    record {
      first_formed = w;
      second_formed = v;
      code = λ out h. sym (t out h).0;
      count = λ out h. sym (t out h).1.0;
      buffer = λ out h. sym (t out h).1.1;
    }

module _ (p : Profile) (v : profile_valid p ≡ true) where
  given_records : (f : Bool) (cs : List Call) → EachRecord record_of (given p f cs)
  given_records f [] = tt
  given_records f (c ∷ cs) =
      records_append record_of (gives p f c) _ (each_record p (gives p f c) (gives_good p v f c)) (given_records (leaves f c) cs)

  snapshot_after_lem : (f : Bool) (cs : List Call) → snapshot (run (fresh p f) cs) ≡ snapshot_after p f cs
  unfolding snapshot
  snapshot_after_lem f cs = ap (snapshot_of record_of) (held_after p v f cs)

  cut : (f : Bool) (xs ys : List Call) → snapshot_after p f (xs ++ ys) ≡ merged (snapshot_after p f xs) (snapshot_after p (flag_after f xs) ys)
  cut f xs ys =
      let g = flag_after f xs in
      ap (λ l. snapshot_of record_of (last_of l)) (given_append p f xs ys)
      ∙ snapshot_append record_of (given p f xs) (given p g ys) (given_records f xs) (given_records g ys)

  -- every list of calls, from a fresh camera of a valid profile, streaming or not, wherever it is cut
  pub whole : (f : Bool) (xs ys : List Call) → Whole p f xs ys
  whole f xs ys =
      let s = snapshot_after_lem f (xs ++ ys) in
      let formed : (g : Bool) (cs : List Call) → record_well_formed (run (fresh p g) cs) ≡ true =
      λ g cs. (run_ok p (fresh p g) (fresh_ok p v g) cs).formed in
      let w = formed f (xs ++ ys) in
      let first = run (fresh p f) xs in
      let second = run (fresh p first.streaming) ys in
      let m : snapshot (run (fresh p f) (xs ++ ys)) ≡ merged (snapshot first) (snapshot second) =
      s ∙ cut f xs ys
      ∙ sym (ap₂ merged (snapshot_after_lem f xs)
      (ap (λ g. snapshot (run (fresh p g) ys)) (flag_after_lem p v f xs) ∙ snapshot_after_lem (flag_after f xs) ys)) in
      record {
        is_held = held_after p v f (xs ++ ys);
        is_streaming = flag_after_lem p v f (xs ++ ys);
        is_formed = w;
        is_snapshot = s;
        is_written =
            λ out h. subst (λ l. Written (run (fresh p f) (xs ++ ys)) l out) s (writes (run (fresh p f) (xs ++ ys)) out w (rw s h));
        parts_merge = m;
        program_merges_parts =
            merges_to _ _ _ (snapshot_formed first (formed f xs)) (snapshot_formed second (formed first.streaming ys)) m;
      }

-- what an accepted load says of the camera and of the snapshot
record Load (c : Camera) (s : List ℕ) : Type 0 where
  formed : record_well_formed c ≡ true
  tests : first_of (load_tests c.profile c.streaming s) ≡ 0

load_says : (c : Camera) (s : List ℕ) → (loaded c s).code ≡ 0 → Load c s
unfolding loaded_under load_code_under
load_says c s e =
    let done : Outcome = record { code = 0; count = 0; camera = puts c (load_gives c.profile c.streaming s) } in
    let z = sym (outcome_code (load_code c s) c done refl) ∙ e in
    let q = quiet ((not (record_well_formed c) ⇒ malformed_record) ∷ []) (load_tests c.profile c.streaming s) refl z in
    record { formed = not-false (record_well_formed c) q.0.0; tests = q.1 }

says_load : (c : Camera) (s : List ℕ) → Load c s → (loaded c s).code ≡ 0
unfolding loaded_under load_code_under
says_load c s l = rw (l.formed, eq-eqb (first_of (load_tests c.profile c.streaming s)) 0 l.tests)

-- a record as the steps take it
record_ok : (c : Camera) → record_well_formed c ≡ true → length c.settings.face ≡ places → Ok c.profile c
record_ok c w h = record { profile = refl; formed = w; places = h }

-- what an accepted load leaves
module _ (c : Camera) (w : record_well_formed c ≡ true) (h : length c.settings.face ≡ places) (s : List ℕ) (l : Load c s) where
  load_step : Ok c.profile (loaded c s).camera
  load_step = (step c.profile c (record_ok c w h) (load s)).ok

  load_streaming : (loaded c s).camera.streaming ≡ c.streaming
  load_streaming = (step c.profile c (record_ok c w h) (load s)).streaming_after

  load_held : (k : ℕ) → held (loaded c s).camera k ≡ over (held c k) (last_of (load_gives c.profile c.streaming s) k)
  unfolding gives
  load_held k =
      (step c.profile c (record_ok c w h) (load s)).held_after k
      ∙ rw (eq-eqb (first_of (load_tests c.profile c.streaming s)) 0 l.tests)

-- whichever two snapshots a camera accepts: their merge leaves the same camera as the two in turn
pub load_merged : (c : Camera) → length c.settings.face ≡ places → (a b : List ℕ) → (loaded c a).code ≡ 0 → (loaded c b).code ≡ 0
    → LoadsMerged c a b
load_merged c h a b ea eb =
    let la = load_says c a ea in
    let lb = load_says c b eb in
    let w = la.formed in
    let p = c.profile in
    let f = c.streaming in
    let x = load_accepted p f a la.tests in
    let y = load_accepted p f b lb.tests in
    let lm : Load c (merged a b) = record { formed = w; tests = accepted_load p f (merged a b) (merged_accepted p f a b x y) } in
    let d = (loaded c a).camera in
    let o = load_step c w h a la in
    let st = load_streaming c w h a la in
    let lt : Load d b = record { formed = o.formed; tests = rw (o.profile, st) lb.tests } in
    record {
      merge = merges_to a b _ x.formed y.formed refl;
      merge_accepted = says_load c (merged a b) lm;
      turn_accepted = says_load d b lt;
      same = record {
        profile = (load_step c w h (merged a b) lm).profile ∙ sym ((load_step d o.formed o.places b lt).profile ∙ o.profile);
        streaming = load_streaming c w h (merged a b) lm ∙ sym (load_streaming d o.formed o.places b lt ∙ st);
        settings = λ k.
            load_held c w h (merged a b) lm k
            ∙ ap (over (held c k)) (merged_settings p f a b y k)
            ∙ sym (over_assoc (held c k) (last_of (load_gives p f a) k) (last_of (load_gives p f b) k))
            ∙ sym (load_held d o.formed o.places b lt k ∙ ap₂ over (load_held c w h a la k)
            (ap₂ (λ q g. last_of (load_gives q g b) k) o.profile st));
      };
    }

-- the second accepted after the first: the camera in between has the profile and the flag of the one before, by which acceptance goes
pub load_in_turn : (c : Camera) → length c.settings.face ≡ places → (a b : List ℕ) → (loaded c a).code ≡ 0
    → (loaded (loaded c a).camera b).code ≡ 0
    → AcceptedInTurn c a b
load_in_turn c h a b ea eb =
    let la = load_says c a ea in
    let w = la.formed in
    let o = load_step c w h a la in
    let lb = load_says (loaded c a).camera b eb in
    let l : Load c b = record { formed = w; tests = rw (o.profile, load_streaming c w h a la) at lb.tests } in
    let z = says_load c b l in
    record { second_accepted = z; merges = load_merged c h a b ea z }

-- the record of what a well-formed camera holds of a key
module _ (c : Camera) (w : record_well_formed c ≡ true) (t : Typed c) where
  pub written_item : (k : ℕ) (o : Option Setting) → held c k ≡ o
      → map (record_item c.profile true k) (map record_of o) ≡ map Given o
  written_item k none e = refl
  written_item k (some s) e =
      let g = held_good c.profile c.settings w k s e in
      ap some (record_of_taken c.profile k s (held_fitting c w t k s e) g.0 g.1)

  written_code : (k : ℕ) → code_by c.profile true k (map record_of (held c k)) ≡ 0
  unfolding Option-elim item_code
  written_code k = ap (λ o. Option-elim o 0 item_code) (written_item k (held c k) refl) ∙ go (held c k)
    where
      go : (o : Option Setting) → Option-elim (map Given o) 0 item_code ≡ 0
      go none = refl
      go (some s) = refl

  written_given : (k : ℕ) → last_of (given_by c.profile true k (map record_of (held c k))) k ≡ held c k
  unfolding Option-elim given_of
  written_given k = ap (λ o. last_of (Option-elim o [] given_of) k) (written_item k (held c k) refl) ∙ go (held c k) refl
    where
      go : (o : Option Setting) → held c k ≡ o → last_of (Option-elim (map Given o) [] given_of) k ≡ o
      go none e = refl
      go (some s) e = rw ((held_good c.profile c.settings w k s e).0, eq-eqb k k refl)

-- the bytes that writing hands over are the snapshot
handed_snapshot_lem : (c : Camera) (out : List ℕ) → record_well_formed c ≡ true → length (snapshot c) ≤ length out
    → handed_snapshot c out ≡ snapshot c
handed_snapshot_lem c out w h =
    let r = writes c out w h in
    ap₂ take (ap (λ o. o.count) r.outcome) r.buffer
    ∙ take_at (snapshot c) (drop (length (snapshot c)) out) (length (snapshot c)) refl

-- a fresh streaming camera accepts every snapshot that a camera of its profile wrote, and then holds the settings that camera held
module _ (c : Camera) (w : record_well_formed c ≡ true) (t : Typed c) where
  abbrev p : Profile
  p = c.profile

  records_accepted : Accepted p true (snapshot c)
  records_accepted = record { formed = snapshot_formed c w; each = λ k. rw (snapshot_decodes c w) (written_code c w t k) }

  loads : Load (fresh p true) (snapshot c)
  loads = record { formed = (fresh_ok p (formed_profile c w) true).formed; tests = accepted_load p true (snapshot c) records_accepted }

  restores : (k : ℕ) → held (loaded (fresh p true) (snapshot c)).camera k ≡ held c k
  restores k =
      let o = fresh_ok p (formed_profile c w) true in
      load_held (fresh p true) o.formed o.places (snapshot c) loads k
      ∙ ap₂ over (none_held k)
      (load_settings p true (snapshot c) k ∙ ap (λ m. last_of (given_by p true k (m k)) k) (snapshot_decodes c w) ∙ written_given c w t k)
      ∙ over_none (held c k)

  pub load_written : Restores c
  load_written = record {
    written = λ out h. writes c out w h;
    accepted = λ out h. ap (λ s. (loaded (fresh p true) s).code) (handed_snapshot_lem c out w h) ∙ says_load (fresh p true) (snapshot c) loads;
    restored = λ out h k. ap (λ s. held (loaded (fresh p true) s).camera k) (handed_snapshot_lem c out w h) ∙ restores k;
  }
