-- A GET's full answer is a number of so many bytes. Assumes nothing.
use mathlib.Core.{Path.{◌≡◌, refl}, List.{[], ◌∷◌}, Bool.{Bool, true, false, cond}}
use Prim.Native.Nat.{ℕ, ◌≤◌}
use native.Mathlib.Omega.{arith}
use lib.Dec.{eqb}
use Rattle.wire.specs.{Numbers.{bytes_of}, Uvc.{get_info, get_len}}
use Rattle.wire.proofs.Laws.Bytes.{first_bytes}
use Rattle.request.specs.{Answers.{answer_by}, Tests.{full_answer}}
use Rattle.peripheral.specs.Selectors as selector
use Rattle.peripheral.specs.{declared.record.Peripheral.{Peripheral}, Values.{payload_length, info_of, attribute}, Requests.{table}}
use Rattle.peripheral.specs.Steps.{answer_number, answer_length}

-- INFO is of one byte
info_byte : (s : ℕ) → bytes_of 1 (info_of s) ≡ info_of s ∷ []
unfolding bytes_of
info_byte s = go (eqb s selector.reading) (eqb s selector.reset)
  where
    go : (a b : Bool) → let n = cond {A = ℕ} a 0x09 (cond b 0x03 0x0B) in bytes_of 1 n ≡ n ∷ []
    go true b = refl
    go false true = refl
    go false false = refl

pub answer_bytes_lem : (p : Peripheral) (s code : ℕ) → bytes_of (answer_length s code) (answer_number p s code) ≡ full_answer (table p) s code
unfolding full_answer answer_by
answer_bytes_lem p s code = go (eqb code get_len) (eqb code get_info)
  where
    go : (a b : Bool)
        → bytes_of (cond a 2 (cond b 1 (payload_length s))) (cond a (payload_length s) (cond b (info_of s) (attribute p s code)))
        ≡ cond a (bytes_of 2 (payload_length s)) (cond b (info_of s ∷ []) (bytes_of (payload_length s) (attribute p s code)))
    go true b = refl
    go false true = info_byte s
    go false false = refl

-- and eight are room for it
pub length_most : (s : ℕ) → payload_length s ≤ 8
length_most s = go (eqb s selector.strategy) (eqb s selector.reading)
  where
    go : (a b : Bool) → cond a 8 (cond b 2 1) ≤ 8
    go true b = omega arith
    go false true = omega arith
    go false false = omega arith

pub answer_most : (s code : ℕ) → answer_length s code ≤ 8
answer_most s code = go (eqb code get_len) (eqb code get_info)
  where
    go : (a b : Bool) → cond a 2 (cond b 1 (payload_length s)) ≤ 8
    go true b = omega arith
    go false true = omega arith
    go false false = length_most s

-- what the proof of `get` goes by
pub ruleset answer_rules = (answer_bytes_lem, answer_most, first_bytes)
