-- Writing a merged snapshot record by record, as far as the lent buffer reaches. Assumes nothing.
use Prim.Native.Nat.{ℕ, zero, suc, ◌+◌, ◌-◌, ◌≤◌, ◌<◌, min}
use native.Mathlib.{Omega.{arith}, Nat.{add-zero}, Numerals.{add-one}}
use mathlib.Core.{Path.{◌≡◌, refl, sym, ap, ap₂, ◌∙◌}, Bool.{Bool, true, false}, List.{List, ◌++◌, append-nil}, Option.{none}}
use lib.{ListN.{length, take, drop, length-append, length-drop}, Seq.{length-take-le}, Dec.{leb, eqb}}
use borrow.Author.Tests.{leb-true, leb-false, eqb-true, eqb-false}
use Rattle.std.specs.{Prelude.{Option, Some}, Option.{option_eq}}
use Rattle.wire.specs.Writes.{overlay}
use Rattle.wire.proofs.Laws.Writes.{no_bytes, append}
use Rattle.snapshot.specs.{Keys.{keys, record_length, longest_snapshot}, Form.{well_formed}}
use Rattle.snapshot.specs.{Records.{key_at, some_key, decode, record_bytes, records, encode}, Given.{over, overs}}
use Rattle.merging.specs.Merging.{merged}
use Rattle.snapshot.proofs.Laws.Maps.{records_split}
use Rattle.snapshot.proofs.Laws.Walk.{At, first-at, none_before, record_at_lem, next-at, next_within, next_above, none_between}
use Rattle.snapshot.proofs.Laws.Handed.{handed_some, some_handed, same_handed}
use Rattle.merging.proofs.Laws.Merging.{merged_length}

-- the merged records of the keys below k
abbrev pub front : List ℕ → List ℕ → ℕ → List ℕ
front s t k = records k 0 (overs (decode s) (decode t))

module _ (s t : List ℕ) where
  front_all : front s t keys ≡ merged s t
  unfolding merged encode
  front_all = refl

  front_next : (k : ℕ) → front s t (suc k) ≡ front s t k ++ record_bytes (over (decode s k) (decode t k))
  unfolding records
  front_next k =
      ap (front s t) (sym (add-one k)) ∙ records_split (overs (decode s) (decode t)) k 1 0
      ∙ ap (λ l. front s t k ++ l) (append-nil _ ∙ ap (λ i. record_bytes (over (decode s i) (decode t i))) (add-zero k))

  front_short : (k : ℕ) → k ≤ keys → length (front s t k) ≤ longest_snapshot
  front_short k h =
      let m = overs (decode s) (decode t) in
      let e : k + (keys - k) ≡ keys = omega arith in
      let f = sym front_all ∙ ap (front s t) (sym e) ∙ records_split m k (keys - k) 0 in
      omega (arith, merged_length s t, ap length f, length-append (front s t k) (records (keys - k) (k + 0) m))

  -- keys that neither has add nothing
  front_same : (j k : ℕ) → j ≤ k → ((i : ℕ) → j ≤ i → i < k → (decode s i ≡ none) × (decode t i ≡ none)) → front s t k ≡ front s t j
  front_same j zero h n = let e : 0 ≡ j = omega arith in ap (front s t) e
  front_same j (suc k) h n = go (leb j k) refl (λ (l : j ≤ k). front_same j k l (λ i p q. n i p (omega arith)))
    where
      go : (b : Bool) → leb j k ≡ b → (j ≤ k → front s t k ≡ front s t j) → front s t (suc k) ≡ front s t j
      go true e ih =
          let l = leb-true j k e in
          let o = n k l (omega arith) in
          front_next k ∙ ap₂ (λ f o. f ++ record_bytes o) (ih l) (ap₂ over o.0 o.1) ∙ append-nil _
      go false e ih = let l = leb-false j k e in let q : suc k ≡ j = omega arith in ap (front s t) q

-- what is written with both at a record: the merged records of the keys below theirs. The first has no other key between the second's and
-- its own, and the second none from the first's on to its own
pub record Written (s t old out : List ℕ) (a x b y n : ℕ) : Type 0 where
  pub first : At s a x
  pub second : At t b y
  pub first_none : (j : ℕ) → y < j → j < x → decode s j ≡ none
  pub second_none : (j : ℕ) → x ≤ j → j < y → decode t j ≡ none
  pub long : n ≡ length (front s t (min x y))
  pub is : out ≡ overlay old 0 (front s t (min x y))

pub unwritten : (s t old : List ℕ) → well_formed s ≡ true → well_formed t ≡ true
    → Written s t old old 0 (key_at (drop 0 s)) 0 (key_at (drop 0 t)) 0
unfolding records
unwritten s t old p q =
    let g = front_same s t 0 (min (key_at (drop 0 s)) (key_at (drop 0 t))) (omega arith)
    (λ i l u. (none_before s p i (omega arith), none_before t q i (omega arith))) in
    record {
      first = first-at s p;
      second = first-at t q;
      first_none = λ j l u. none_before s p j u;
      second_none = λ j l u. none_before t q j u;
      long = sym (ap length g);
      is = sym (ap (overlay old 0) g ∙ no_bytes old);
    }

module _ {s t old out : List ℕ} {a x b y n : ℕ} (w : Written s t old out a x b y n) where
  -- the record r of key k is laid behind those of the keys below k
  put : (k j : ℕ) (r : List ℕ) → k ≡ min x y → record_bytes (over (decode s k) (decode t k)) ≡ r → front s t j ≡ front s t (suc k)
      → (n + length r ≡ length (front s t j)) × (overlay out n r ≡ overlay old 0 (front s t j))
  put k j r e f g =
      let h : front s t j ≡ front s t (min x y) ++ r = g ∙ front_next s t k ∙ ap₂ (λ i u. front s t i ++ u) e f in (
        omega (arith, w.long, ap length h, length-append (front s t (min x y)) r),
        ap₂ (λ o i. overlay o i r) w.is w.long ∙ append old (front s t (min x y)) r ∙ ap (overlay old 0) (sym h),
      )

  pub write_end : keys ≤ min x y → (n ≡ length (merged s t)) × (out ≡ overlay old 0 (merged s t))
  write_end h =
      let q : min x y ≡ keys = omega (arith, w.first.few, w.second.few) in
      let e = ap (front s t) q ∙ front_all s t in
      (w.long ∙ ap length e, w.is ∙ ap (overlay old 0) e)

  pub write_short : n ≤ longest_snapshot
  write_short = omega (arith, w.long, w.first.few, front_short s t (min x y) (omega (arith, w.first.few)))

-- the first's record where its key is the lesser
module _ {s t old out : List ℕ} {a x b y n : ℕ} (w : Written s t old out a x b y n) (h : x < y) where
  first_key : x < keys
  first_key = omega (arith, w.second.few)

  write_first : {p : ℕ} {u out' : List ℕ} → p ≡ record_length x → u ≡ take p (drop a s) → out' ≡ overlay out n u
      → Written s t old out' (a + p) (key_at (drop (a + p) s)) b y (n + p)
  write_first e f g =
      let r = take (record_length x) (drop a s) in
      let z : length r ≡ record_length x =
      length-take-le (record_length x) (drop a s) (omega (arith, next_within w.first first_key, length-drop a s)) in
      let x₁ = key_at (drop (a + record_length x) s) in
      let up = next_above w.first first_key in
      let same = front_same s t (suc x) (min x₁ y) (omega arith)
      (λ i lo hi. (none_between w.first first_key i lo (omega arith), w.second_none i (omega arith) (omega arith))) in
      let q =
      put w x (min x₁ y) r (omega arith)
      (ap₂ (λ c d. record_bytes (over c d)) (record_at_lem w.first first_key) (w.second_none x (omega arith) h)) same in
      rw (g, f, e)
      record {
        first = next-at w.first first_key;
        second = w.second;
        first_none = λ j lo hi. none_between w.first first_key j (omega arith) hi;
        second_none = λ j lo hi. w.second_none j (omega arith) hi;
        long = ap (λ m. n + m) (sym z) ∙ q.0;
        is = q.1;
      }

-- of equal keys the first's record is passed over
pass_first : {s t old out : List ℕ} {a x b y n : ℕ} (w : Written s t old out a x b y n) → x ≡ y → x < keys
    → {p : ℕ} → p ≡ record_length x → Written s t old out (a + p) (key_at (drop (a + p) s)) b y n
pass_first {s} {t} {old} {a = a} {x} {y = y} w q l e =
    let up = next_above w.first l in
    let m : min x y ≡ min (key_at (drop (a + record_length x) s)) y = omega arith in
    rw e
    record {
      first = next-at w.first l;
      second = w.second;
      first_none = λ j lo hi. none_between w.first l j (omega arith) hi;
      second_none = λ j lo hi. absurd (omega arith);
      long = w.long ∙ ap (λ k. length (front s t k)) m;
      is = w.is ∙ ap (λ k. overlay old 0 (front s t k)) m;
    }

-- the second's record where its key is the lesser
module _ {s t old out : List ℕ} {a x b y n : ℕ} (w : Written s t old out a x b y n) (h : y < x) where
  second_key : y < keys
  second_key = omega (arith, w.first.few)

  write_second : {p : ℕ} {u out' : List ℕ} → p ≡ record_length y → u ≡ take p (drop b t) → out' ≡ overlay out n u
      → Written s t old out' a x (b + p) (key_at (drop (b + p) t)) (n + p)
  write_second e f g =
      let r = take (record_length y) (drop b t) in
      let z : length r ≡ record_length y =
      length-take-le (record_length y) (drop b t) (omega (arith, next_within w.second second_key, length-drop b t)) in
      let y₁ = key_at (drop (b + record_length y) t) in
      let up = next_above w.second second_key in
      let same = front_same s t (suc y) (min x y₁) (omega arith)
      (λ i lo hi. (w.first_none i (omega arith) (omega arith), none_between w.second second_key i lo (omega arith))) in
      let q = put w y (min x y₁) r (omega arith) (ap (λ d. record_bytes (over (decode s y) d)) (record_at_lem w.second second_key)) same in
      rw (g, f, e)
      record {
        first = w.first;
        second = next-at w.second second_key;
        first_none = λ j lo hi. w.first_none j (omega arith) hi;
        second_none = λ j lo hi. none_between w.second second_key j (omega arith) hi;
        long = ap (λ m. n + m) (sym z) ∙ q.0;
        is = q.1;
      }

-- a turn, by the keys as the code has them: it takes the lesser key, and goes on to a greater one
module _ {s t old out : List ℕ} {a x b y n : ℕ} (w : Written s t old out a x b y n) {key p : ℕ} {o q : Option ℕ} (f : o ≡ some_key x)
    (g : q ≡ some_key y) (e : Some key ≡ some_key (min x y)) (l : p ≡ record_length key) where
  is_equal : (v : Bool) → v ≡ option_eq eqb o q → v ≡ eqb x y
  is_equal v h = h ∙ ap₂ (option_eq eqb) f g ∙ same_handed x y w.first.few w.second.few

  is_first : (v : Bool) → v ≡ option_eq eqb o (Some key) → v ≡ eqb x key
  is_first v h =
      let k = handed_some (min x y) key e in
      h ∙ ap₂ (option_eq eqb) f (some_handed key k.1) ∙ same_handed x key w.first.few (omega (arith, k.1))

  module _ (h : true ≡ option_eq eqb o q) where
    same : (x ≡ y) × ((key ≡ x) × (key < keys))
    same =
        let k = handed_some (min x y) key e in
        let i = eqb-true x y (sym (is_equal true h)) in
        (i, (omega (arith, k.0), k.1))

    pub both_written : Written s t old out (a + p) (key_at (drop (a + p) s)) b y n
    both_written = pass_first w same.0 (omega (arith, same.1.0, same.1.1)) (l ∙ ap record_length same.1.0)

    pub both_above : x < key_at (drop (a + p) s)
    both_above = rw (l, same.1.0) (next_above w.first (omega (arith, same.1.0, same.1.1)))

  module _ (h : false ≡ option_eq eqb o q) where
    module _ (i : true ≡ option_eq eqb o (Some key)) where
      lesser_first : (x < y) × (key ≡ x)
      lesser_first =
          let k = handed_some (min x y) key e in
          let d = eqb-false x y (sym (is_equal false h)) in
          let j = eqb-true x key (sym (is_first true i)) in
          (omega (arith, k.0), sym j)

      pub first_written : {u out' : List ℕ} → u ≡ take p (drop a s) → out' ≡ overlay out n u
          → Written s t old out' (a + p) (key_at (drop (a + p) s)) b y (n + p)
      first_written = write_first w lesser_first.0 (l ∙ ap record_length lesser_first.1)

      pub first_above : x < key_at (drop (a + p) s)
      first_above = rw (l, lesser_first.1) (next_above w.first (first_key w lesser_first.0))

    module _ (i : false ≡ option_eq eqb o (Some key)) where
      lesser_second : (y < x) × (key ≡ y)
      lesser_second =
          let k = handed_some (min x y) key e in
          let d = eqb-false x y (sym (is_equal false h)) in
          let j = eqb-false x key (sym (is_first false i)) in
          (omega (arith, k.0), omega (arith, k.0))

      pub second_written : {u out' : List ℕ} → u ≡ take p (drop b t) → out' ≡ overlay out n u
          → Written s t old out' a x (b + p) (key_at (drop (b + p) t)) (n + p)
      second_written = write_second w lesser_second.0 (l ∙ ap record_length lesser_second.1)

      pub second_above : y < key_at (drop (b + p) t)
      second_above = rw (l, lesser_second.1) (next_above w.second (second_key w lesser_second.0))
