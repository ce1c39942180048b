-- A SET's payload: the length that it must have, an entry read back, and what an accepted entry gives. Assumes nothing.
use mathlib.Core.{Path.{◌≡◌, refl, ap}, List.{List, [], ◌∷◌}, Bool.{Bool, true, false, cond, not}}
use Prim.Native.Nat.{ℕ, ◌+◌, ◌*◌, ◌^◌, ◌≤◌, ◌<◌}
use native.Mathlib.Omega.{arith}
use lib.{Dec.{leb, eqb}, ListN.{length, get_or}}
use borrow.Author.Tests.{eqb-false, le-leb, leb-true}
use Rattle.wire.specs.{Numbers.{le_at, bytes_of}, Rows.{◌⇒◌, first_of}, Uvc.{invalid_value, out_of_range}}
use Rattle.wire.proofs.Laws.Bytes.{number_bytes}
use Rattle.std.specs.declared.option.Option.TheVariants.{Some}
use Rattle.flags.specs.Flags.{one_flag}
use Rattle.flags.proofs.Laws.Bits.{chosen_below}
use Rattle.controls.specs.Controls.{Given, item_of}
use Rattle.controls.specs.declared.Setting.TheVariants as S
use Rattle.controls.proofs.Laws.Controls.{given_is}
use Rattle.face.specs.{declared.limits.FaceLimits.{FaceLimits}, Limits.{endpoints_of, face_valid, offers_of}, Answers.{entry_of}}
use Rattle.face.proofs.Laws.Limits.{count_placed}
use Rattle.entries.specs.Entries.{face_set_length, entry_address, entry_flags, seen_in, seen_before, is_choice, face_refusal, entry_refusal}
use Rattle.entries.specs.Entries.{face_item}

-- the one flag that a byte of offers offers fits a byte
pub chosen_byte : (offers flags place : ℕ) → one_flag offers flags ≡ Some place → offers < 256 → flags < 2 ^ 56 → flags < 256
chosen_byte offers flags place e = chosen_below offers flags place e 8

-- the length that a payload must have, by its first byte
pub set_length_empty : (l : FaceLimits) (s : List ℕ) → length s ≡ 0 → face_set_length l s ≡ 1
unfolding face_set_length
set_length_empty l [] h = refl
set_length_empty l (n ∷ s) h = absurd (omega arith)

pub set_length_first : (l : FaceLimits) (s : List ℕ) → (length s ≡ 0 → ⊥)
    → face_set_length l s ≡ cond (leb (get_or s 0 0) l.count) (1 + 8 * get_or s 0 0) 0
unfolding face_set_length
set_length_first l [] p = absurd (p refl)
set_length_first l (n ∷ s) p = refl

-- an entry's flags, read back
pub entry_flags_lem : (n address flags : ℕ) → flags < 2 ^ 56 → entry_flags (n ∷ entry_of address flags) 0 ≡ flags
unfolding le_at bytes_of
entry_flags_lem n address flags h = number_bytes 7 flags h

-- a payload of one entry, as a snapshot's record has it
pub one_entry : (l : FaceLimits) (address flags : ℕ) → flags < 256
    → face_item l (1 ∷ entry_of address flags) 0
    ≡ item_of (first_of ((eqb (offers_of l address) 0 ⇒ out_of_range) ∷
    (not (is_choice (one_flag (offers_of l address) flags)) ⇒ invalid_value) ∷ [])) (S.Face address flags)
unfolding face_item entry_refusal seen_in
one_entry l address flags h = rw (entry_flags_lem 1 address flags (omega arith))

-- what an accepted entry gives: its own bytes, for a listed endpoint that no entry before it names and that offers its flags
pub record Accepted (l : FaceLimits) (s : List ℕ) (i address flags : ℕ) : Type 0 where
  pub address_read : entry_address s i ≡ address
  pub flags_read : entry_flags s i ≡ flags
  pub known : offers_of l address ≡ 0 → ⊥
  pub new : seen_before s i ≡ false
  pub sound : face_refusal (offers_of l address) flags ≡ 0

tests_passed : (a b c : Bool) → first_of ((a ⇒ out_of_range) ∷ (b ⇒ invalid_value) ∷ (not c ⇒ invalid_value) ∷ []) ≡ 0
    → (a ≡ false) × (b ≡ false) × (c ≡ true)
tests_passed true b c e = absurd (omega arith)
tests_passed false true c e = absurd (omega arith)
tests_passed false false false e = absurd (omega arith)
tests_passed false false true e = (refl, refl, refl)

pub accepted : (l : FaceLimits) (s : List ℕ) (i address flags : ℕ) → face_item l s i ≡ Given (S.Face address flags)
    → Accepted l s i address flags
unfolding face_item entry_refusal face_refusal
accepted l s i address flags e =
    let offers = offers_of l (entry_address s i) in
    let g = given_is (entry_refusal l s i) (S.Face (entry_address s i) (entry_flags s i)) (S.Face address flags) e in
    let t = tests_passed (eqb offers 0) (seen_before s i) (is_choice (one_flag offers (entry_flags s i))) g.0 in
    let setting = g.1 in
    let p : entry_address s i ≡ address = cc in
    let q : entry_flags s i ≡ flags = cc in
    record {
      address_read = p;
      flags_read = q;
      known = rw (← p) (eqb-false offers 0 t.0);
      new = t.1;
      sound = rw (← p, ← q, t.2);
    }

-- LEN answers the length of the longest SET
module _ (l : FaceLimits) (valid : face_valid l ≡ true) where
  pub len_taken : (rest : List ℕ) → face_set_length l (l.count ∷ rest) ≡ 1 + 8 * endpoints_of l
  unfolding face_set_length
  len_taken rest =
      let e : l.count ≡ endpoints_of l = omega (arith, count_placed _ l valid) in
      rw (le-leb l.count l.count (omega arith)) (ap (λ (n : ℕ). 1 + 8 * n) e)

  pub len_longest : (s : List ℕ) → face_set_length l s ≤ 1 + 8 * endpoints_of l
  unfolding face_set_length
  len_longest [] = omega arith
  len_longest (n ∷ s) = go (leb n l.count) refl
    where
      go : (b : Bool) → leb n l.count ≡ b → cond b (1 + 8 * n) 0 ≤ 1 + 8 * endpoints_of l
      go true e = omega (arith, leb-true n l.count e, count_placed _ l valid)
      go false e = omega arith
