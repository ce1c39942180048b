-- Maps of records, and the first round trip: the snapshot of given records has those records. Assumes nothing.
use Prim.Native.Nat.{ℕ, zero, suc, ◌+◌, ◌-◌, ◌≤◌, ◌<◌}
use native.Mathlib.{Omega.{arith}, Nat.{zero-add}}
use mathlib.Core.{Path.{◌≡◌, refl, sym, ap, ◌∙◌, fun_ext}, Bool.{Bool, true, false, cond}, List.{List, ◌++◌, append_assoc}}
use mathlib.Core.Option.{Option, none, some}
use lib.{ListN.{take, drop}, Seq.{drop_at, take_at}, Dec.{leb}}
use borrow.Author.Tests.{leb-true, leb-false}
use Rattle.snapshot.specs.Keys.{keys, record_length}
use Rattle.snapshot.specs.Records.{stands, skip, from, record_at, decode, record_bytes, records, encode, GoodAt, Good}
use Rattle.snapshot.proofs.Laws.Sound.{stands_one, stands_nil, stands_below, stands_record, record_stands}

pub skip_at : (k : ℕ) (t : List ℕ) → stands k t ≡ true → skip k t ≡ drop (record_length k) t
unfolding skip
skip_at k t e = simp e

pub skip_not : (k : ℕ) (t : List ℕ) → stands k t ≡ false → skip k t ≡ t
unfolding skip
skip_not k t e = simp e

at_good : (k : ℕ) (s : List ℕ) → GoodAt k (record_at k s)
unfolding record_at
at_good k s = go (stands k s) refl
  where
    go : (b : Bool) → stands k s ≡ b → GoodAt k (cond b (some (take (record_length k) s)) none)
    go true e = stands_record k s e
    go false e = tt

pub decode_good : (s : List ℕ) → Good (decode s)
unfolding decode
decode_good s k = at_good k (from s k)

pub not-true : (b : Bool) → (b ≡ true → ⊥) → b ≡ false
not-true true h = absurd (h refl)
not-true false h = refl

module _ (m : ℕ → Option (List ℕ)) (g : Good m) where
  -- at the start of the records from key k on stands none of a key below k
  above : (n k j : ℕ) → j < k → stands j (records n k m) ≡ false
  unfolding records
  above zero k j h = stands_nil j
  above (suc n) k j h = go (m k) (g k) (above n (suc k) j (omega arith))
    where
      go : (o : Option (List ℕ)) → GoodAt k o → stands j (records n (suc k) m) ≡ false
          → stands j (record_bytes o ++ records n (suc k) m) ≡ false
      go none p q = q
      go (some r) p q = not-true _ (λ e. let z = stands_one j k _ e (record_stands k r _ p) in omega arith)

  skip_records : (n k : ℕ) → skip k (records (suc n) k m) ≡ records n (suc k) m
  unfolding records skip
  skip_records n k = go (m k) (g k)
    where
      go : (o : Option (List ℕ)) → GoodAt k o → skip k (record_bytes o ++ records n (suc k) m) ≡ records n (suc k) m
      go none p = simp (above n (suc k) k (omega arith))
      go (some r) p = simp (record_stands k r (records n (suc k) m) p) (drop_at r (records n (suc k) m) (record_length k) p.long)

  at_records : (n k : ℕ) → record_at k (records (suc n) k m) ≡ m k
  unfolding records record_at
  at_records n k = go (m k) (g k)
    where
      go : (o : Option (List ℕ)) → GoodAt k o → record_at k (record_bytes o ++ records n (suc k) m) ≡ o
      go none p = simp (above n (suc k) k (omega arith))
      go (some r) p =
          simp (record_stands k r (records n (suc k) m) p)
          (ap {B = Option (List ℕ)} some (take_at r (records n (suc k) m) (record_length k) p.long))

  -- the keys below k are passed once their records are
  pub from_records : (k n : ℕ) → n + k ≡ keys → from (encode m) k ≡ records n k m
  unfolding from encode
  from_records zero n h = let e : keys ≡ n = omega arith in rw (← e)
  from_records (suc k) n h = rw (from_records k (suc n) (omega arith)) (skip_records n k)

  -- no number from `keys` on is a key
  pub none_above : (k : ℕ) → keys ≤ k → m k ≡ none
  none_above k h = go (m k) (g k)
    where
      go : (o : Option (List ℕ)) → GoodAt k o → o ≡ none
      go none p = refl
      go (some r) p = let b = stands_below k r p.is in absurd (omega arith)

pub decode_encode : (m : ℕ → Option (List ℕ)) → Good m → decode (encode m) ≡ m
unfolding decode
decode_encode m g = fun_ext λ k. go k (leb keys k) refl
  where
    go : (k : ℕ) (b : Bool) → leb keys k ≡ b → decode (encode m) k ≡ m k
    go k true e = none_above (decode (encode m)) (decode_good (encode m)) k (leb-true _ _ e) ∙ sym (none_above m g k (leb-true _ _ e))
    go k false e =
        let h = leb-false keys k e in
        ap (record_at k) (from_records m g k (suc (keys - suc k)) (omega arith)) ∙ at_records m g (keys - suc k) k

-- the records of the next j keys behind those of the first i
pub records_split : (m : ℕ → Option (List ℕ)) (i j k : ℕ) → records (i + j) k m ≡ records i k m ++ records j (i + k) m
unfolding records
records_split m zero j k = simp zero-add
records_split m (suc i) j k =
    let e : suc i + j ≡ suc (i + j) = omega arith in
    let f : i + suc k ≡ suc i + k = omega arith in
    ap (λ n. records n k m) e
    ∙ ap (λ l. record_bytes (m k) ++ l) (records_split m i j (suc k) ∙ ap (λ n. records i (suc k) m ++ records j n m) f)
    ∙ sym (append_assoc (record_bytes (m k)) (records i (suc k) m) (records j (suc i + k) m))
