-- What holds of batches; specs/Theorems has the statements. Assumes nothing.
use mathlib.Core.{Path.{◌≡◌, refl, ap, ap₂, sym, ◌∙◌}, List.{List, [], ◌∷◌, ◌++◌, map}}
use mathlib.Core.Bool.{Bool, true, false, cond}
use Prim.Native.Nat.{ℕ, ◌+◌, ◌*◌, ◌≤◌}
use native.Mathlib.Omega.{arith}
use lib.{Dec.{eqb}, ListN.{length, take, drop, replicate, length-append}, Seq.{take-append_seam}}
use borrow.Author.Tests.{eq-eqb, lt-ltb, le-ltb}
use Rattle.wire.specs.Rows.{first_of}
use Rattle.profile.specs.{declared.Profile.{Profile}, Profile.{profile_valid}}
use Rattle.camera.specs.declared.record.Camera.{Camera}
use Rattle.camera.specs.Outcomes.{Outcome}
use Rattle.camera.specs.{Record.{record_well_formed}, Requests.{refused, requested_reply}}
use Rattle.camera.proofs.Laws.Record.{formed_profile}
use Rattle.invariants.proofs.Laws.Replies.{ample, no_ninth, same_reply}
use Rattle.batch.specs.Packing.{Request, batch_of, requests_of, rest_of}
use Rattle.batch.specs.Answers.{ample_room, sent, answers_to, camera_after, answers_length}
use Rattle.batch.specs.Batch.{batch_answers, batch_code, batched, batched_out, batch_tests}
use Rattle.batch.specs.Theorems.{AllAmple, one_by_one, left_by, EachAmple, AllOneByOne}
use Rattle.batch.specs.Theorems.{LengthByProfile, AllNumbered, AlikeByProfile, BatchSuffices}
use Rattle.batch.specs.Theorems.{handed_answers, AllJoined}
use Rattle.batch.proofs.Splitting.{packed_then_split, whole_packed, stops_cut}
use Rattle.batch.proofs.Laws.Packing.{packed_requests, packed_rest}
use Rattle.batch.proofs.Laws.Answers as answers
use Rattle.batch.proofs.Laws.Running.{Accepted, accepted, accepts, number_is, code_by_profile}

pub length_by_profile : LengthByProfile
length_by_profile = answers.answers_length_lem

pub all_numbered : AllNumbered
unfolding batch_code batch_tests
all_numbered c room = record {
  malformed = λ w s. number_is c s room ∙ rw w;
  cut = λ w s i. number_is c s room ∙ rw (w, stops_cut s i);
  no_room = λ w rs e h.
      number_is c (batch_of rs) room
      ∙ code_by_profile c (batch_of rs) room w
      ∙ rw ((packed_then_split rs e).0, (packed_then_split rs e).1, lt-ltb room (answers_length c.profile rs) h);
  accepted = λ w rs e h.
      number_is c (batch_of rs) room
      ∙ code_by_profile c (batch_of rs) room w
      ∙ rw ((packed_then_split rs e).0, (packed_then_split rs e).1, le-ltb room (answers_length c.profile rs) h);
}

pub all_ample : AllAmple
all_ample c w r reply h =
    let e = ample c w r.setup r.payload (length reply) h in
    let same = answers.sent_same c w r reply e in
    record {
      not_ninth = no_ninth c w r.setup r.payload (length reply) h;
      outcome = same;
      bytes = ap (λ o. take o.count (requested_reply c r.setup r.payload reply)) (sym same)
          ∙ same_reply c w r.setup r.payload reply (replicate ample_room 0) e (answers.ample_here c w r);
    }

-- what a batch comes to that is not refused
module _ (c : Camera) (s out : List ℕ) (z : (batched c s (length out)).code ≡ 0) where
  not_refused : batch_code c s (length out) ≡ 0
  not_refused = sym (number_is c s (length out)) ∙ z

  pub done : batched c s (length out)
      ≡ record { code = 0; count = length (batch_answers c s); camera = camera_after c (requests_of s) }
  unfolding batched
  done = rw (eq-eqb (batch_code c s (length out)) 0 not_refused)

  written : batched_out c s out ≡ batch_answers c s ++ drop (length (batch_answers c s)) out
  unfolding batched_out
  written = rw (eq-eqb (batch_code c s (length out)) 0 not_refused)

  passes : Accepted c s (length out)
  passes = accepted c s (length out) not_refused

  handed : handed_answers c s out ≡ batch_answers c s
  handed =
      ap₂ (λ (o : Outcome) l. take o.count l) done written
      ∙ take-append_seam (batch_answers c s) (drop (length (batch_answers c s)) out)

-- requests sent one by one with any ample buffers
one_by_one_lem : (c : Camera) → record_well_formed c ≡ true → (l : List (Request × List ℕ)) → EachAmple l
    → (one_by_one c l ≡ answers_to c (map (λ x. x.0) l)) × (left_by c l ≡ camera_after c (map (λ x. x.0) l))
one_by_one_lem c w [] e = (refl, refl)
one_by_one_lem c w (x ∷ l) e =
    let r = x.0 in
    let room = ample c w r.setup r.payload (length x.1) e.0 in
    let next = ap (λ o. o.camera) (answers.sent_same c w r x.1 room) in
    let rest = one_by_one_lem (sent c r).camera (answers.sent_stays c w r).formed l e.1 in (
      ap₂ (λ a b. a ++ b) (answers.answer_same c w r x.1 room) (ap (λ d. one_by_one d l) next ∙ rest.0),
      ap (λ d. left_by d l) next ∙ rest.1,
    )

pub all_one_by_one : AllOneByOne
all_one_by_one c s out z l e ample =
    let q = one_by_one_lem c (passes c s out z).formed l ample in
    let rs = sym e in
    let is : batch_answers c s ≡ one_by_one c l = ap (answers_to c) rs ∙ sym q.0 in
    record {
      outcome = done c s out z
          ∙ ap₂ (λ a d. record { code = 0; count = length a; camera = d }) is (ap (camera_after c) rs ∙ sym q.1);
      buffer = written c s out z ∙ ap (λ a. a ++ drop (length a) out) is;
    }

-- by the profile alone
count-is : (c : Camera) (s : List ℕ) (room : ℕ) → (batched c s room).count ≡ cond (eqb (batch_code c s room) 0) (length (batch_answers c s)) 0
unfolding batched
count-is c s room = go (eqb (batch_code c s room) 0)
  where
    go : (b : Bool)
        → (cond b (record { code = 0; count = length (batch_answers c s); camera = camera_after c (requests_of s) })
        (refused (batch_code c s room) c)).count ≡ cond b (length (batch_answers c s)) 0
    go true = refl
    go false = refl

pub alike_by_profile : AlikeByProfile
alike_by_profile c d w v e s room =
    let rs = requests_of s in
    let codes : batch_code c s room ≡ batch_code d s room =
    code_by_profile c s room w ∙ ap (λ p. first_of (batch_tests p s room)) e ∙ sym (code_by_profile d s room v) in
    let lengths : length (batch_answers c s) ≡ length (batch_answers d s) =
    length_by_profile c w rs ∙ ap (λ p. answers_length p rs) e ∙ sym (length_by_profile d v rs) in (
      number_is c s room ∙ codes ∙ sym (number_is d s room),
      count-is c s room ∙ ap₂ (λ (n m : ℕ). cond (eqb n 0) m 0) codes lengths ∙ sym (count-is d s room),
    )

-- the longest answers
no_longer : (p : Profile) → profile_valid p ≡ true → (rs : List Request) → answers_length p rs ≤ 124 * length rs
no_longer p v [] = omega arith
no_longer p v (r ∷ rs) = omega (arith, no_longer p v rs, answers.reply_within p v r)

pub batch_suffices : BatchSuffices
batch_suffices c w rs e room h =
    (all_numbered c room).accepted w rs e (omega (arith, no_longer c.profile (formed_profile c w) rs))

-- two batches, joined
pub all_joined : AllJoined
all_joined c a b out_a out_b out x y h =
    let d = (batched c a (length out_a)).camera in
    let first = requests_of a in
    let second = requests_of b in
    let left : d ≡ camera_after c first = ap (λ o. o.camera) (done c a out_a x) in
    let packed = whole_packed a (passes c a out_a x).whole in
    let parts : a ++ b ≡ batch_of first ++ b = ap (λ l. l ++ b) (sym packed.1) in
    let split : requests_of (a ++ b) ≡ first ++ second = ap requests_of parts ∙ packed_requests first packed.0 b in
    let rest : rest_of (a ++ b) ≡ rest_of b = ap rest_of parts ∙ packed_rest first packed.0 b in
    let joined : batch_answers c (a ++ b) ≡ batch_answers c a ++ batch_answers d b =
    ap (answers_to c) split
    ∙ answers.answers_append c first second
    ∙ ap (λ e. batch_answers c a ++ answers_to e second) (sym left) in
    let after : camera_after c (requests_of (a ++ b)) ≡ (batched d b (length out_b)).camera =
    ap (camera_after c) split
    ∙ answers.after-append c first second
    ∙ ap (λ e. camera_after e second) (sym left)
    ∙ sym (ap (λ o. o.camera) (done d b out_b y)) in
    let long : length (batch_answers c (a ++ b)) ≡ (batched c a (length out_a)).count + (batched d b (length out_b)).count =
    omega (
      arith,
      ap length joined,
      length-append (batch_answers c a) (batch_answers d b),
      ap (λ o. o.count) (done c a out_a x),
      ap (λ o. o.count) (done d b out_b y),
    ) in
    let whole = ap (λ l. eqb (length l) 0) rest ∙ (passes d b out_b y).whole in
    let code =
    accepts c (a ++ b) (length out) (record { formed = (passes c a out_a x).formed; whole = whole; fits = omega arith }) in
    let z = number_is c (a ++ b) (length out) ∙ code in
    record {
      outcome = done c (a ++ b) out z ∙ ap₂ (λ n e. record { code = 0; count = n; camera = e }) long after;
      buffer = written c (a ++ b) out z
          ∙ ap₂ (λ l (n : ℕ). l ++ drop n out) (joined ∙ sym (ap₂ (λ l m. l ++ m) (handed c a out_a x) (handed d b out_b y))) long;
    }
