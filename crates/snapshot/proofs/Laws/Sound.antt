-- A sound record is told from the bytes that it states to be its own, and from no others. Assumes nothing.
use Prim.Native.Nat.{ℕ, zero, suc, ◌+◌, ◌*◌, ◌-◌, ◌≤◌, ◌<◌}
use mathlib.Core.{Path.{◌≡◌, refl, sym, ap₂, ◌∙◌}, Bool.{Bool, true, false, cond, ◌&&◌, false≢true}, List.{List, [], ◌∷◌, ◌++◌}}
use native.Mathlib.Omega.{arith}
use lib.ListN.{length, get_or, take, drop, length-drop, length-append, get_or-append}
use lib.{Seq.{get_or-take, get_or-drop, ext_get_or, length-take-le}, Dec.{leb, eqb}}
use borrow.Author.Tests.{leb-true, ltb-true, eqb-true, le-leb, eq-eqb, ne_eqb, lt-ltb}
use Rattle.wire.specs.{Numbers.{le_at, number}, Rows.{all_of}, Endpoints.{first_address, last_address, places}}
use Rattle.wire.proofs.Laws.Numbers.{front}
use Rattle.wire.specs.Selectors as selectors
use Rattle.snapshot.specs.Keys.{keys, kind_length, record_length, key_for}
use Rattle.snapshot.specs.Form.{stated_length, stated_kind, throttle_tail, zeros, record_tests, sound_record, stated_key}
use Rattle.snapshot.specs.Records.{stands, IsRecord}

pub and_left : (a b : Bool) → (a && b) ≡ true → a ≡ true
and_left true b e = refl
and_left false b e = e

pub and_right : (a b : Bool) → (a && b) ≡ true → b ≡ true
and_right true b e = e
and_right false b e = absurd (false≢true e)

pub each : (ts : List Bool) → all_of ts ≡ true → (i : ℕ) → get_or ts i true ≡ true
each [] e i = refl
each (t ∷ ts) e zero = and_left t (all_of ts) e
each (t ∷ ts) e (suc i) = each ts (and_right t (all_of ts) e) i

-- the tests of a record, one by one
pub record Sound (s : List ℕ) : Type 0 where
  pub four : 4 ≤ length s
  pub within : stated_length s ≤ length s
  pub known : 0 < kind_length (stated_kind s)
  pub right : stated_length s ≡ kind_length (stated_kind s)
  pub face : cond (eqb (stated_kind s) selectors.face)
      (all_of (eqb (get_or s 4 0) 1 ∷ leb first_address (get_or s 5 0) ∷ leb (get_or s 5 0) last_address ∷ [])) true ≡ true
  pub tail : cond (eqb (stated_kind s) selectors.throttle) (zeros (throttle_tail s)) true ≡ true

pub sound_parts : (s : List ℕ) → sound_record s ≡ true → Sound s
unfolding sound_record
sound_parts s e =
    let at = each (record_tests (length s) (stated_length s) (stated_kind s) (get_or s 4 0) (get_or s 5 0) (zeros (throttle_tail s))) e in
    record {
      four = leb-true _ _ (at 0);
      within = leb-true _ _ (at 1);
      known = ltb-true _ _ (at 2);
      right = eqb-true _ _ (at 3);
      face = at 4;
      tail = at 5;
    }

pub parts_sound : (s : List ℕ) → Sound s → sound_record s ≡ true
unfolding sound_record
parts_sound s p =
    simp (le-leb _ _ p.four, le-leb _ _ p.within, lt-ltb _ _ p.known, eq-eqb _ _ p.right, p.face, p.tail)

-- the five kinds
pub data Kind (n : ℕ) : Type 0 where
  ev : n ≡ selectors.ev → Kind n
  face : n ≡ selectors.face → Kind n
  metadata : n ≡ selectors.metadata → Kind n
  hdr : n ≡ selectors.hdr → Kind n
  throttle : n ≡ selectors.throttle → Kind n

pub kind_of : (n : ℕ) → 0 < kind_length n → Kind n
kind_of n h =
    go (eqb n selectors.ev) (eqb n selectors.face) (eqb n selectors.metadata) (eqb n selectors.hdr) (eqb n selectors.throttle) refl refl
    refl refl refl h
  where
    go : (a b c d e : Bool) → eqb n selectors.ev ≡ a → eqb n selectors.face ≡ b → eqb n selectors.metadata ≡ c → eqb n selectors.hdr ≡ d
        → eqb n selectors.throttle ≡ e
        → 0 < cond a 15 (cond b 13 (cond c 8 (cond d 8 (cond e 24 0)))) → Kind n
    go true b c d e p q r s t h = ev (eqb-true n selectors.ev p)
    go false true c d e p q r s t h = face (eqb-true n selectors.face q)
    go false false true d e p q r s t h = metadata (eqb-true n selectors.metadata r)
    go false false false true e p q r s t h = hdr (eqb-true n selectors.hdr s)
    go false false false false true p q r s t h = throttle (eqb-true n selectors.throttle t)
    go false false false false false p q r s t h = absurd (omega arith)

-- of face authentication, the address
pub sound_address : (s : List ℕ) → Sound s → stated_kind s ≡ selectors.face → (first_address ≤ get_or s 5 0) × (get_or s 5 0 ≤ last_address)
sound_address s p e =
    let at = each (eqb (get_or s 4 0) 1 ∷ leb first_address (get_or s 5 0) ∷ leb (get_or s 5 0) last_address ∷ []) (rw e at p.face) in
    (leb-true _ _ (at 1), leb-true _ _ (at 2))

-- what its kind says of a sound record
pub record Of (s : List ℕ) : Type 0 where
  pub key : stated_key s < keys
  pub size : record_length (stated_key s) ≡ stated_length s
  pub eight : 8 ≤ stated_length s

of_kind : (s : List ℕ) → Sound s → Kind (stated_kind s) → Of s
unfolding stated_key
of_kind s p (ev e) =
    let r : stated_length s ≡ 15 = rw e at p.right in record { key = rw e (omega arith); size = rw e (sym r); eight = omega arith }
of_kind s p (face e) =
    let r : stated_length s ≡ 13 = rw e at p.right in
    let b = sound_address s p e in
    record {
      key = rw e (omega arith);
      size =
          rw e (simp (
            ne_eqb (get_or s 5 0 - (first_address - 1)) 0 (omega arith),
            le-leb (get_or s 5 0 - (first_address - 1)) places
                (omega arith),
          ) (sym r));
      eight = omega arith;
    }
of_kind s p (metadata e) =
    let r : stated_length s ≡ 8 = rw e at p.right in record { key = rw e (omega arith); size = rw e (sym r); eight = omega arith }
of_kind s p (hdr e) =
    let r : stated_length s ≡ 8 = rw e at p.right in record { key = rw e (omega arith); size = rw e (sym r); eight = omega arith }
of_kind s p (throttle e) =
    let r : stated_length s ≡ 24 = rw e at p.right in record { key = rw e (omega arith); size = rw e (sym r); eight = omega arith }

pub sound_of : (s : List ℕ) → Sound s → Of s
sound_of s p = of_kind s p (kind_of (stated_kind s) p.known)

-- the same bytes are the same number
number_same : (k : ℕ) (s t : List ℕ) (i : ℕ) → ((j : ℕ) → j < i + k → get_or t j 0 ≡ get_or s j 0) → le_at k t i ≡ le_at k s i
unfolding le_at number
number_same zero s t i h = refl
number_same (suc k) s t i h =
    front k t i
    ∙ ap₂ (λ a b. a + 256 * b) (h i (omega arith)) (number_same k s t (suc i) (λ j l. h j (omega arith)))
    ∙ sym (front k s i)

-- bytes that agree with a sound record's own are a sound record of the same key and length
module _ (s s' : List ℕ) (p : Sound s) (long : stated_length s ≤ length s')
    (same : (i : ℕ) → i < stated_length s → get_or s' i 0 ≡ get_or s i 0) where
  same_at : (i : ℕ) → i < 8 → get_or s' i 0 ≡ get_or s i 0
  same_at i h = same i (omega (arith, (sound_of s p).eight))

  same_length : stated_length s' ≡ stated_length s
  same_length = number_same 2 s s' 0 (λ j h. same_at j (omega arith))

  same_kind : stated_kind s' ≡ stated_kind s
  same_kind = number_same 2 s s' 2 (λ j h. same_at j (omega arith))

  same_key : stated_key s' ≡ stated_key s
  unfolding stated_key
  same_key = ap₂ key_for same_kind (same_at 5 (omega arith))

  same_tail : stated_kind s ≡ selectors.throttle → throttle_tail s' ≡ throttle_tail s
  same_tail e =
      let r : stated_length s ≡ 24 = rw e at p.right in
      let l : (t : List ℕ) → 24 ≤ length t → length (throttle_tail t) ≡ 12 =
      λ t h. length-take-le 12 (drop 12 t) (simp length-drop (omega arith)) in
      let n : length (throttle_tail s') ≡ 12 = l s' (omega arith) in
      ext_get_or 0 _ _ (n ∙ sym (l s (omega (arith, p.within))))
      (λ i h.
      get_or-take 12 (drop 12 s') i 0 (omega arith) ∙ get_or-drop 12 s' i 0 ∙ same (12 + i) (omega arith)
      ∙ sym (get_or-drop 12 s i 0) ∙ sym (get_or-take 12 (drop 12 s) i 0 (omega arith)))

  zeros_same : (b : Bool) → eqb (stated_kind s) selectors.throttle ≡ b → cond b (zeros (throttle_tail s)) true ≡ true
      → cond b (zeros (throttle_tail s')) true ≡ true
  zeros_same true e h = rw (same_tail (eqb-true _ _ e)) h
  zeros_same false e h = refl

  same_sound : Sound s'
  same_sound = record {
    four = omega (arith, (sound_of s p).eight);
    within = omega (arith, same_length);
    known = rw same_kind p.known;
    right = rw (same_length, same_kind) p.right;
    face = simp (same_kind, same_at 4 (omega arith), same_at 5 (omega arith)) p.face;
    tail = rw same_kind (zeros_same _ refl p.tail);
  }

-- where a record of key k stands
pub stands_sound : (k : ℕ) (s : List ℕ) → stands k s ≡ true → Sound s × (stated_key s ≡ k)
unfolding stands
stands_sound k s e =
    (sound_parts s (and_left _ (eqb (stated_key s) k) e), eqb-true (stated_key s) k (and_right (sound_record s) (eqb (stated_key s) k) e))

pub sound_stands : (k : ℕ) (s : List ℕ) → Sound s → stated_key s ≡ k → stands k s ≡ true
unfolding stands
sound_stands k s p e = simp (parts_sound s p, eq-eqb (stated_key s) k e)

-- one record stands at a place
pub stands_one : (j k : ℕ) (s : List ℕ) → stands j s ≡ true → stands k s ≡ true → j ≡ k
stands_one j k s p q = sym (stands_sound j s p).1 ∙ (stands_sound k s q).1

pub stands_nil : (k : ℕ) → stands k [] ≡ false
unfolding stands sound_record
stands_nil k = refl

pub stands_below : (k : ℕ) (s : List ℕ) → stands k s ≡ true → k < keys
stands_below k s e = let p = stands_sound k s e in rw (← p.1) (sound_of s p.0).key

-- it is the first `record_length k` bytes
pub stands_size : (k : ℕ) (s : List ℕ) → stands k s ≡ true → record_length k ≡ stated_length s
stands_size k s e = let p = stands_sound k s e in rw p.1 at (sound_of s p.0).size

pub stands_long : (k : ℕ) (s : List ℕ) → stands k s ≡ true → record_length k ≤ length s
stands_long k s e = omega (arith, stands_size k s e, (stands_sound k s e).0.within)

pub stands_some : (k : ℕ) (s : List ℕ) → stands k s ≡ true → 8 ≤ record_length k
stands_some k s e = let p = stands_sound k s e in omega (arith, stands_size k s e, (sound_of s p.0).eight)

stands_same : (k : ℕ) (s s' : List ℕ) → stands k s ≡ true → record_length k ≤ length s'
    → ((i : ℕ) → i < record_length k → get_or s' i 0 ≡ get_or s i 0) → stands k s' ≡ true
stands_same k s s' e l f =
    let p = stands_sound k s e in
    let z = stands_size k s e in
    let l' : stated_length s ≤ length s' = omega arith in
    let f' : (i : ℕ) → i < stated_length s → get_or s' i 0 ≡ get_or s i 0 = λ i h. f i (omega arith) in
    sound_stands k s' (same_sound s s' p.0 l' f') (same_key s s' p.0 l' f' ∙ p.1)

-- the record that stands there
pub stands_record : (k : ℕ) (s : List ℕ) → stands k s ≡ true → IsRecord k (take (record_length k) s)
stands_record k s e =
    let n = length-take-le (record_length k) s (stands_long k s e) in
    record { long = n; is = stands_same k s _ e (omega arith) (λ i h. get_or-take (record_length k) s i 0 h) }

-- whatever follows it
pub record_stands : (k : ℕ) (r t : List ℕ) → IsRecord k r → stands k (r ++ t) ≡ true
record_stands k r t p =
    stands_same k r _ p.is (simp length-append (omega (arith, p.long))) (λ i h. get_or-append r t 0 i (omega (arith, p.long)))
