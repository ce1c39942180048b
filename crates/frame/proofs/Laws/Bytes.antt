-- Numbers read from a longer list. Assumes nothing.
use Prim.Native.Nat.{ℕ, ◌+◌, ◌^◌, ◌≤◌, ◌<◌}
use mathlib.Core.{Path.{◌≡◌}, List.{List, ◌++◌}}
use native.Mathlib.Omega.{arith}
use lib.{ListN.{length, drop, length-drop}, Seq.{take_at, drop_at, take-append-le, drop-append-le}}
use Rattle.wire.specs.Numbers.{le_at, bytes_of}
use Rattle.wire.proofs.Laws.Bytes.{length_bytes, number_bytes}

-- a number at the front of bytes
pub at_front : (k n : ℕ) (s : List ℕ) → n < 256 ^ k → le_at k (bytes_of k n ++ s) 0 ≡ n
unfolding le_at
at_front k n s h = rw (take_at (bytes_of k n) s k (length_bytes k n)) (number_bytes k n h)

-- more bytes behind do not matter
pub in-front : (k : ℕ) (s t : List ℕ) (i : ℕ) → i + k ≤ length s → le_at k (s ++ t) i ≡ le_at k s i
unfolding le_at
in-front k s t i l =
    let a : i ≤ length s = omega arith in
    let b : k ≤ length (drop i s) = simp length-drop (omega arith) in
    rw (drop-append-le i s t a, take-append-le k (drop i s) t b)

-- nor do those before
pub behind : (k : ℕ) (s t : List ℕ) (i : ℕ) → length s ≡ i → le_at k (s ++ t) i ≡ le_at k t 0
unfolding le_at
behind k s t i l = rw (drop_at s t i l)
