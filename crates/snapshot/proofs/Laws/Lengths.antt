-- How long a snapshot is. Assumes nothing.
use Prim.Native.Nat.{ℕ, zero, suc, ◌+◌, ◌*◌, ◌≤◌}
use native.Mathlib.Omega.{arith}
use mathlib.Core.{Path.{◌≡◌, ap}, List.{List, ◌++◌}, Option.{Option, none, some}}
use lib.ListN.{length, length-append}
use borrow.Author.Tests.{ne_eqb, le-leb}
use Rattle.wire.specs.Endpoints.{places}
use Rattle.snapshot.specs.Keys.{keys, record_length, length_with, longest_snapshot}
use Rattle.snapshot.specs.Records.{record_bytes, records, encode, count_one, record_count, GoodAt, Good}
use Rattle.snapshot.proofs.Laws.Maps.{records_split}

-- the lengths of the n keys' records from k on
total : ℕ → ℕ → ℕ
total zero k = 0
total (suc n) k = record_length k + total n (suc k)

module _ (m : ℕ → Option (List ℕ)) (g : Good m) where
  records_length : (n k : ℕ) → length (records n k m) ≤ total n k
  unfolding records total
  records_length zero k = omega arith
  records_length (suc n) k = simp length-append (omega (arith, records_length n (suc k), short (m k) (g k)))
    where
      short : (o : Option (List ℕ)) → GoodAt k o → length (record_bytes o) ≤ record_length k
      short none p = omega arith
      short (some r) p = omega (arith, p.long)

  pub encode_length : length (encode m) ≤ longest_snapshot
  unfolding encode total
  encode_length = records_length keys 0

  -- 13 for each endpoint that is held
  faces_length : (n k : ℕ) → 1 ≤ k → n + k ≤ 1 + places → length (records n k m) ≤ 13 * record_count n k m
  unfolding records record_count
  faces_length zero k h l = omega arith
  faces_length (suc n) k h l = go (m k) (g k) (faces_length n (suc k) (omega arith) (omega arith))
    where
      size : record_length k ≡ 13
      size = simp (ne_eqb k 0 (omega arith), le-leb k places (omega arith))

      go : (o : Option (List ℕ)) → GoodAt k o → length (records n (suc k) m) ≤ 13 * record_count n (suc k) m
          → length (record_bytes o ++ records n (suc k) m) ≤ 13 * count_one o (record_count n (suc k) m)
      go none p ih = ih
      go (some r) p ih = simp length-append (omega (arith, p.long, size))

  -- with no more than n endpoints
  pub encode_short : (n : ℕ) → record_count places 1 m ≤ n → length (encode m) ≤ length_with n
  unfolding encode total
  encode_short n h =
      omega (
        arith,
        ap length (records_split m 1 (3 + places) 0),
        length-append (records 1 0 m) (records (3 + places) 1 m),
        ap length (records_split m places 3 1),
        length-append (records places 1 m) (records 3 (1 + places) m),
        records_length 1 0,
        faces_length places 1 (omega arith) (omega arith),
        records_length 3 (1 + places),
      )
