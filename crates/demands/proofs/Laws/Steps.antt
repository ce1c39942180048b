-- What one call leaves of a well-formed record: the settings that it gives are put in, and the flag is set. Assumes nothing.
use mathlib.Core.{Path.{◌≡◌, refl, ap, sym, ◌∙◌, subst}, List.{List, [], ◌∷◌}, Option.{Option, none, some, Option-elim}}
use mathlib.Core.Bool.{Bool, true, false, cond, true≢false}
use Prim.Native.Nat.{ℕ}
use lib.{Dec.{eqb, leb}, ListN.{length, drop}}
use borrow.Author.Tests.{ne_eqb, eqb-true}
use Rattle.wire.specs.{Endpoints.{places}, Rows.{first_of}}
use Rattle.wire.specs.Selectors as selectors
use Rattle.request.specs.{Setup.{is_set_request}, Tests.{set_accepted}}
use Rattle.snapshot.specs.{Keys.{keys, metadata_key, hdr_key}, Records.{decode}, Given.{over, last_of}}
use Rattle.controls.specs.Controls.{Item, Refused, Given}
use Rattle.controls.specs.declared.Setting.{Setting}
use Rattle.profile.specs.{declared.Profile.{Profile}, Profile.{profile_valid}, Items.{profile_item}}
use Rattle.profile.specs.KnownControl.{KnownControl, ev, face, metadata, hdr, throttle}
use Rattle.settings.specs.Items.{put_all}
use Rattle.settings.proofs.Laws.Items.{puts_append}
use Rattle.camera.specs.{declared.record.Camera.{Camera}, Record.{held, record_well_formed, with_settings, puts}, Calls.{sensed}}
use Rattle.camera.specs.Requests.{refused, request_gives, control_refusal}
use Rattle.camera.specs.Loading.{selector_at, record_item, load_tests, load_code_under, load_gives, loaded, loaded_under}
use Rattle.camera.specs.Writing.{snapshot, written, write_code}
use Rattle.camera.proofs.Laws.{Record.{formed_profile, streamed_done}, Loading.{given_by}}
use Rattle.invariants.proofs.Laws.Held.{Each, puts_held, puts_length}
use Rattle.invariants.proofs.Laws.Requests.{outcome_code, set_answer, request_next, request_good, request_stays}
use Rattle.invariants.proofs.Laws.Kept.{Good, control_streaming, item_good, given_good, each_append, all_good, each_proper, puts_formed}
use Rattle.batch.specs.{Packing.{Request, requests_of}, Answers.{ample_room, answers_to, camera_after}, Batch.{batch_tests, batched}}
use Rattle.batch.proofs.Laws.Running.{number_is, code_by_profile}
use Rattle.demands.specs.Calls.{Call, request, stream, load, write, sense, batch, outcome, next}
use Rattle.demands.specs.{Runs.{requests_give, gives, leaves}, Cameras.{Ok}}

pub load_answer : (c : Camera) (s : List ℕ) → record_well_formed c ≡ true
    → (loaded c s).code ≡ first_of (load_tests c.profile c.streaming s)
unfolding loaded_under load_code_under
load_answer c s w =
    let code = first_of (load_tests c.profile c.streaming s) in
    rw w (outcome_code code c (record { code = 0; count = 0; camera = puts c (load_gives c.profile c.streaming s) }) refl)

pub batch_answer : (c : Camera) (packed : List ℕ) (room : ℕ) → record_well_formed c ≡ true
    → (batched c packed room).code ≡ first_of (batch_tests c.profile packed room)
batch_answer c packed room w = number_is c packed room ∙ code_by_profile c packed room w

-- a refused call gives no setting
pub refused_none : (c : Camera) → record_well_formed c ≡ true → (call : Call) → ((outcome c call).code ≡ 0 → ⊥)
    → gives c.profile c.streaming call ≡ []
unfolding gives request_gives set_accepted
refused_none c w (request s payload reply) n = go (is_set_request s) refl
  where
    go : (b : Bool) → is_set_request s ≡ b → gives c.profile c.streaming (request s payload reply) ≡ []
    go true e = rw (set_answer c s payload (length reply) w e, ne_eqb _ 0 n)
    go false e = rw e
refused_none c w (stream on) n = refl
refused_none c w (load s) n = rw (ne_eqb (first_of (load_tests c.profile c.streaming s)) 0 (λ z. n (load_answer c s w ∙ z)))
refused_none c w (write out) n = refl
refused_none c w sense n = refl
refused_none c w (batch packed out) n =
    rw (ne_eqb (first_of (batch_tests c.profile packed (length out))) 0 (λ z. n (batch_answer c packed (length out) w ∙ z)))

-- what a load leaves of the record
pub load_next : (c : Camera) (s : List ℕ) → record_well_formed c ≡ true
    → (loaded c s).camera ≡ puts c (gives c.profile c.streaming (load s))
unfolding loaded_under load_code_under gives put_all
load_next c s w = rw w (go (eqb (first_of (load_tests c.profile c.streaming s)) 0))
  where
    go : (b : Bool)
        → (cond b (record { code = 0; count = 0; camera = puts c (load_gives c.profile c.streaming s) })
        (refused (first_of (load_tests c.profile c.streaming s)) c)).camera
        ≡ puts c (cond b (load_gives c.profile c.streaming s) [])
    go true = refl
    go false = refl

-- requests one after the other, and a batch of them
pub requests_next : (c : Camera) → record_well_formed c ≡ true → (rs : List Request)
    → camera_after c rs ≡ puts c (requests_give c.profile c.streaming rs)
unfolding put_all
requests_next c w [] = refl
requests_next c w (r ∷ rs) =
    let given = request_gives c.profile c.streaming r.setup r.payload in
    let next = request_next c r.setup r.payload ample_room w in
    let formed = (request_stays c r.setup r.payload ample_room w).formed in
    ap (λ d. camera_after d rs) next
    ∙ requests_next (puts c given) (rw next at formed) rs
    ∙ ap (with_settings c) (sym (puts_append c.settings given (requests_give c.profile c.streaming rs)))

batch_next : (c : Camera) (packed out : List ℕ) → record_well_formed c ≡ true
    → (batched c packed (length out)).camera ≡ puts c (gives c.profile c.streaming (batch packed out))
unfolding batched gives put_all
batch_next c packed out w =
    rw (code_by_profile c packed (length out) w) (go (eqb (first_of (batch_tests c.profile packed (length out))) 0))
  where
    rs : List Request
    rs = requests_of packed

    go : (b : Bool)
        → (cond b (record { code = 0; count = length (answers_to c rs); camera = camera_after c rs })
        (refused (first_of (batch_tests c.profile packed (length out))) c)).camera
        ≡ puts c (cond b (requests_give c.profile c.streaming rs) [])
    go true = requests_next c w rs
    go false = refl

write_next : (c : Camera) (out : List ℕ) → (written c (length out)).camera ≡ c
unfolding written
write_next c out = go (eqb (write_code c (length out)) 0)
  where
    go : (b : Bool)
        → (cond b (record { code = 0; count = length (snapshot c); camera = c }) (refused (write_code c (length out)) c)).camera ≡ c
    go true = refl
    go false = refl

-- which items give a setting
unfoldable pub is_given : Item → Bool
is_given (Refused code) = false
is_given (Given s) = true

-- a key's records are of one of the five controls
pub key_control : (k : ℕ) → KnownControl (selector_at k)
key_control k = go (eqb k 0) (leb k places) (eqb k metadata_key) (eqb k hdr_key)
  where
    go : (a b c d : Bool)
        → KnownControl (cond a selectors.ev (cond b selectors.face (cond c selectors.metadata (cond d selectors.hdr selectors.throttle))))
    go true b c d = ev
    go false true c d = face
    go false false true d = metadata
    go false false false true = hdr
    go false false false false = throttle

-- what a call gives is good
module _ (p : Profile) (v : profile_valid p ≡ true) where
  record_good : (streaming : Bool) (k : ℕ) (r : List ℕ) (s : Setting) → record_item p streaming k r ≡ Given s → Good p s
  unfolding record_item is_given
  record_good streaming k r s e = go (eqb code 0) refl e
    where
      code : ℕ
      code = control_refusal p streaming (selector_at k)

      go : (b : Bool) → eqb code 0 ≡ b → cond b (profile_item p (selector_at k) (drop 4 r) 0) (Refused code) ≡ Given s → Good p s
      go true q i =
          item_good p v (drop 4 r) 0 s (selector_at k) (key_control k) (control_streaming p (selector_at k) streaming (eqb-true code 0 q)) i
      go false q i = absurd (true≢false (sym (ap is_given i)))

  load_good : (streaming : Bool) (s : List ℕ) → Each (Good p) (load_gives p streaming s)
  unfolding load_gives Option-elim
  load_good streaming s = all_good p keys 0 (λ k. given_by p streaming k (decode s k)) (λ k. go k (decode s k))
    where
      go : (k : ℕ) (o : Option (List ℕ)) → Each (Good p) (given_by p streaming k o)
      go k none = tt
      go k (some r) = given_good p (record_item p streaming k r) (record_good streaming k r)

  requests_good : (streaming : Bool) (rs : List Request) → Each (Good p) (requests_give p streaming rs)
  requests_good streaming [] = tt
  requests_good streaming (r ∷ rs) =
      each_append (Good p) (request_gives p streaming r.setup r.payload) (requests_give p streaming rs)
      (request_good p streaming r.setup r.payload v) (requests_good streaming rs)

  pub gives_good : (streaming : Bool) (call : Call) → Each (Good p) (gives p streaming call)
  unfolding gives
  gives_good streaming (request s payload reply) = request_good p streaming s payload v
  gives_good streaming (stream on) = tt
  gives_good streaming (load s) = go (eqb (first_of (load_tests p streaming s)) 0)
    where
      go : (b : Bool) → Each (Good p) (cond b (load_gives p streaming s) [])
      go true = load_good streaming s
      go false = tt
  gives_good streaming (write out) = tt
  gives_good streaming sense = tt
  gives_good streaming (batch packed out) = go (eqb (first_of (batch_tests p packed (length out))) 0)
    where
      go : (b : Bool) → Each (Good p) (cond b (requests_give p streaming (requests_of packed)) [])
      go true = requests_good streaming (requests_of packed)
      go false = tt

-- what a call leaves but for the flag
module _ (p : Profile) (c : Camera) (o : Ok p c) (call : Call) where
  abbrev given : List (ℕ × Setting)
  given = gives c.profile c.streaming call

  each_good : Each (Good c.profile) given
  each_good = gives_good c.profile (formed_profile c o.formed) c.streaming call

  puts_ok : Ok p (puts c given)
  puts_ok = record {
    profile = o.profile;
    formed = puts_formed c.profile c.settings o.formed given each_good;
    places = puts_length c.settings given ∙ o.places;
  }

  given_held : (k : ℕ) → held (puts c given) k ≡ over (held c k) (last_of given k)
  given_held = puts_held c.settings given (each_proper c.profile given each_good) o.places

-- What one call leaves of such a record.
pub record Step (p : Profile) (c : Camera) (call : Call) : Type 0 where
  pub ok : Ok p (next c call)
  pub held_after : (k : ℕ) → held (next c call) k ≡ over (held c k) (last_of (gives p c.streaming call) k)
  pub streaming_after : (next c call).streaming ≡ leaves c.streaming call

puts_step : (p : Profile) (c : Camera) (o : Ok p c) (call : Call) → next c call ≡ puts c (gives c.profile c.streaming call)
    → c.streaming ≡ leaves c.streaming call → Step p c call
puts_step p c o call e f = record {
  ok = subst (Ok p) (sym e) (puts_ok p c o call);
  held_after =
      λ k. ap (λ d. held d k) e ∙ given_held p c o call k ∙ ap (λ q. over (held c k) (last_of (gives q c.streaming call) k)) o.profile;
  streaming_after = ap (λ d. d.streaming) e ∙ f;
}

pub step : (p : Profile) (c : Camera) → Ok p c → (call : Call) → Step p c call
unfolding gives put_all sensed
step p c o (request s payload reply) =
    puts_step p c o (request s payload reply) (request_next c s payload (length reply) o.formed) refl
step p c o (load s) = puts_step p c o (load s) (load_next c s o.formed) refl
step p c o (write out) = puts_step p c o (write out) (write_next c out) refl
step p c o sense = puts_step p c o sense refl refl
step p c o (batch packed out) = puts_step p c o (batch packed out) (batch_next c packed out o.formed) refl
step p c o (stream on) =
    let e = ap (λ r. r.camera) (streamed_done c o.formed on) in
    record {
      ok = subst (Ok p) (sym e) (record { profile = o.profile; formed = o.formed; places = o.places });
      held_after = λ k. ap (λ d. held d k) e;
      streaming_after = ap (λ d. d.streaming) e;
    }
