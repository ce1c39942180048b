-- Answers: their length, and what is packed. Assumes nothing.
use mathlib.Core.{Path.{◌≡◌}, List.{List, [], ◌∷◌}, Bool.{Bool, true, false, cond}}
use Prim.Native.Nat.{ℕ, ◌≤◌}
use native.Mathlib.Omega.{arith}
use lib.{Dec.{eqb}, ListN.{length}}
use borrow.Author.Tests.{eq-eqb, ne_eqb}
use Rattle.wire.specs.{Numbers.{bytes_of}, Uvc.{get_info, get_len}}
use Rattle.request.specs.Answers.{answer_by}

-- LEN, INFO and the rest
module _ (code len info : ℕ) (value : List ℕ) where
  pub answer_len : code ≡ get_len → answer_by code len info value ≡ bytes_of 2 len
  unfolding answer_by
  answer_len e = rw (eq-eqb code get_len e)

  module _ (n : code ≡ get_len → ⊥) where
    pub answer_info : code ≡ get_info → answer_by code len info value ≡ info ∷ []
    unfolding answer_by
    answer_info e = rw (ne_eqb code get_len n, eq-eqb code get_info e)

    pub answer_value : (code ≡ get_info → ⊥) → answer_by code len info value ≡ value
    unfolding answer_by
    answer_value m = rw (ne_eqb code get_len n, ne_eqb code get_info m)

  -- no longer than a bound of two or more on the control's bytes
  pub answer_length_lem : (m : ℕ) → 2 ≤ m → length value ≤ m → length (answer_by code len info value) ≤ m
  unfolding answer_by bytes_of
  answer_length_lem m h g = go (eqb code get_len) (eqb code get_info)
    where
      go : (a b : Bool) → length (cond a (bytes_of 2 len) (cond b (info ∷ []) value)) ≤ m
      go true b = h
      go false true = omega arith
      go false false = g
