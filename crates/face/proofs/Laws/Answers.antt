-- Answers of face authentication: their entries, their length, and what they are while no setting is held. Assumes nothing.
use mathlib.Core.{Path.{◌≡◌, refl, ap}, List.{List, [], ◌∷◌}, Bool.{Bool, true, false, cond, ◌||◌}, Logic.{◌⊎◌, inl, inr}}
use Prim.Native.Nat.{ℕ, zero, suc, ◌+◌, ◌*◌, ◌≤◌, ◌<◌}
use native.Mathlib.{Numerals.{add-one}, Omega.{arith}}
use lib.{Dec.{eqb, lit≤}, ListN.{length, length-append}}
use borrow.Author.Tests.{ne_eqb}
use Rattle.wire.specs.{Endpoints.{endpoint_limit}, Numbers.{bytes_of}, Writes.{overlay}, Uvc.{get_cur, get_def, get_min, get_res}}
use Rattle.wire.proofs.Laws.{Bytes.{bytes_byte}, Writes.{append}}
use Rattle.request.specs.Answers.{answer_by, longest_answer}
use Rattle.request.proofs.Laws.{Answers.{answer_length_lem}, Packed.{blank}}
use Rattle.face.specs.{declared.limits.FaceLimits.{FaceLimits}, Limits.{endpoints_of, address_at}}
use Rattle.face.specs.Answers.{entry_of, held_at, flags_at, entries_of, face_value, face_answer}

-- an entry whose flags are one byte
pub entry_small : (address flags : ℕ) → flags < 256 → entry_of address flags ≡ address ∷ flags ∷ 0 ∷ 0 ∷ 0 ∷ 0 ∷ 0 ∷ 0 ∷ []
unfolding bytes_of
entry_small address flags h = ap (λ (l : List ℕ). address ∷ l) (bytes_byte 6 flags h)

-- the entries of an answer, one after the other
module _ (l : FaceLimits) (held : List ℕ) (code : ℕ) where
  pub length_entries : (n : ℕ) → length (entries_of l held code n) ≡ 8 * n
  unfolding entries_of bytes_of
  length_entries zero = refl
  length_entries (suc n) = simp length-append (omega (arith, length_entries n))

  pub entries_next : (m i : ℕ) (b : List ℕ) → i < endpoint_limit → b ≡ overlay blank 0 (m ∷ entries_of l held code i)
      → overlay b (1 + 8 * i) (entry_of (address_at l i) (flags_at l held code i)) ≡ overlay blank 0 (m ∷ entries_of l held code (i + 1))
  unfolding entries_of bytes_of
  entries_next m i b h e =
      let s = m ∷ entries_of l held code i in
      let n : 1 + 8 * i ≡ length s = omega (arith, length_entries i) in
      rw (e, n, add-one i) (append blank s (entry_of (address_at l i) (flags_at l held code i)))

  -- MIN and RES are one byte, every other value a list
  pub value_byte : (code ≡ get_min) ⊎ ((code ≡ get_min → ⊥) × (code ≡ get_res)) → face_value l held code ≡ 0 ∷ []
  unfolding face_value
  value_byte (inl e) = rw e
  value_byte (inr e) = rw e.1

  pub value_list : (code ≡ get_min → ⊥) → (code ≡ get_res → ⊥)
      → face_value l held code ≡ endpoints_of l ∷ entries_of l held code (endpoints_of l)
  unfolding face_value
  value_list m r = rw (ne_eqb code get_min m, ne_eqb code get_res r)

  pub value_length_lem : length (face_value l held code) ≡ cond (eqb code get_min || eqb code get_res) 1 (1 + 8 * endpoints_of l)
  unfolding face_value
  value_length_lem = go (eqb code get_min || eqb code get_res)
    where
      go : (b : Bool)
          → length (cond b (0 ∷ []) (endpoints_of l ∷ entries_of l held code (endpoints_of l))) ≡ cond b 1 (1 + 8 * endpoints_of l)
      go true = refl
      go false = omega (arith, length_entries (endpoints_of l))

  pub value_fits : endpoints_of l ≤ endpoint_limit → length (face_value l held code) ≤ longest_answer
  value_fits h = rw value_length_lem (go (eqb code get_min || eqb code get_res))
    where
      go : (b : Bool) → cond b 1 (1 + 8 * endpoints_of l) ≤ longest_answer
      go true = lit≤ tt
      go false = omega arith

  pub answer_fits : endpoints_of l ≤ endpoint_limit → length (face_answer l held code) ≤ longest_answer
  unfolding face_answer
  answer_fits h = answer_length_lem code (1 + 8 * endpoints_of l) 0x03 (face_value l held code) longest_answer (lit≤ tt) (value_fits h)

-- while no setting is held CUR is DEF
module _ (l : FaceLimits) (held : List ℕ) (none : (address : ℕ) → held_at held address ≡ 0) where
  fresh_flags : (i : ℕ) → flags_at l held get_cur i ≡ flags_at l held get_def i
  unfolding flags_at
  fresh_flags i = rw (none (address_at l i))

  fresh_entries : (n : ℕ) → entries_of l held get_cur n ≡ entries_of l held get_def n
  unfolding entries_of
  fresh_entries zero = refl
  fresh_entries (suc n) = rw (fresh_entries n, fresh_flags n)

  pub fresh_answer : face_answer l held get_cur ≡ face_answer l held get_def
  unfolding face_answer answer_by face_value
  fresh_answer = rw (fresh_entries (endpoints_of l))
