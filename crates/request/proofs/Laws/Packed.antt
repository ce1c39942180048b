-- Answers as they are handed on: bytes laid over zeros, and taken out again. Assumes nothing.
use mathlib.Core.{Path.{◌≡◌, ap₂, sym}, List.{List}}
use Prim.Native.Nat.{ℕ, min, ◌≤◌}
use native.Mathlib.Omega.{arith}
use lib.{ListN.{length, take, replicate}, Seq.{length-take-le}}
use Rattle.wire.specs.Writes.{overlay}
use Rattle.wire.proofs.Laws.Writes.{front, same_length}
use Rattle.request.specs.{declared.answers.Answer.{Answer}, Answers.{packed, longest_answer}}

-- the empty answer that an answer is laid over
abbrev pub blank : List ℕ
blank = replicate longest_answer 0

-- an answer as it is handed on, and its bytes out of it again
module _ (s : List ℕ) (h : length s ≤ longest_answer) where
  pub pack_is : (b : List ℕ) (n : ℕ) → b ≡ overlay blank 0 s → n ≡ length s → ◌≡◌ {A = Answer} (record { bytes = b; len = n }) (packed s)
  unfolding packed
  pack_is b n e f =
      let g : n ≡ min (length s) longest_answer = omega arith in ap₂ (λ (x : List ℕ) (y : ℕ). record { bytes = x; len = y }) e g

  packed_take : take (packed s).len (packed s).bytes ≡ s
  unfolding packed
  packed_take = let e : min (length s) longest_answer ≡ length s = omega arith in rw e (front blank s (omega arith))

  packed_room : (packed s).len ≤ length (packed s).bytes
  unfolding packed
  packed_room = rw (same_length blank 0 s) (omega arith)

  module _ (v : Answer) (e : v ≡ packed s) where
    pub unpack_room : v.len ≤ length v.bytes
    unpack_room = rw e packed_room

    pub unpack : take v.len v.bytes ≡ s
    unpack = rw e packed_take

    pub unpack_length : v.len ≡ length (take v.len v.bytes)
    unpack_length = sym (length-take-le v.len v.bytes unpack_room)
