-- Laws of appending: which row of its table answers, what acceptance says, and the bytes written in turn. Assumes nothing.
use Prim.Native.Nat.{ℕ, ◌+◌, ◌≤◌}
use mathlib.Core.{Path.{◌≡◌, refl, sym, ap, ap₂, ◌∙◌}, List.{List, [], ◌∷◌, ◌++◌, append_assoc}, Bool.{Bool, true, false, cond}}
use native.Mathlib.Omega.{arith}
use lib.{ListN.{length, take, drop, length-append, length-take}, Seq.{take_at, drop-drop, drop_at}, Dec.{eqb}}
use borrow.Author.Tests.{ltb-false, eq-eqb, eqb-true, not-false}
use Rattle.wire.specs.{Numbers.{bytes_of}, Writes.{overlay}, Rows.{◌⇒◌}, Uvc.{no_room}}
use Rattle.wire.proofs.Laws.{Writes.{fits, same_length}, Rows.{quiet}}
use Rattle.frame.specs.{Writer.{Appended}, Ids.{is_known}}
use Rattle.frame.specs.{Writer.{item_bytes, end_of, append_refusal, appended_of, written_of}, Codes.{invalid_id, too_long, longest_block}}

module _ (room at id len : ℕ) where
  -- none of the tests held
  pub record Fits : Type 0 where
    pub known : is_known id ≡ true
    pub short : end_of at len ≤ longest_block
    pub roomy : end_of at len ≤ room

  pub accepted : append_refusal room at id len ≡ 0 → Fits
  unfolding append_refusal
  accepted e =
      let q = (quiet ((_ ⇒ invalid_id) ∷ (_ ⇒ too_long) ∷ (_ ⇒ no_room) ∷ []) [] refl e).0 in
      record { known = not-false _ q.0; short = ltb-false _ _ q.1.0; roomy = ltb-false _ _ q.1.1.0 }

  pub reports : append_refusal room at id len ≡ 0 → ◌≡◌ {A = Appended} (record { code = 0; end = end_of at len }) (appended_of room at id len)
  unfolding appended_of
  reports e = simp (eq-eqb _ _ e)

  pub accepts : (appended_of room at id len).code ≡ 0 → append_refusal room at id len ≡ 0
  unfolding appended_of
  accepts = go (eqb (append_refusal room at id len) 0) refl
    where
      go : (b : Bool) → eqb (append_refusal room at id len) 0 ≡ b
          → (cond {A = Appended} b (record { code = 0; end = end_of at len })
          (record { code = append_refusal room at id len; end = 0 })).code ≡ 0 → append_refusal room at id len ≡ 0
      go true t e = eqb-true _ _ t
      go false t e = e

module _ (buf : List ℕ) (at id : ℕ) (payload : List ℕ) where
  pub writes : append_refusal (length buf) at id (length payload) ≡ 0 → overlay buf at (item_bytes id payload) ≡ written_of buf at id payload
  unfolding written_of
  writes e = simp (eq-eqb _ _ e)

-- two pieces laid one behind the other are one piece
pub in-turn : (d : List ℕ) (at : ℕ) (s t : List ℕ) → at + (length s + length t) ≤ length d
    → overlay (overlay d at s) (at + length s) t ≡ overlay d at (s ++ t)
in-turn d at s t h =
    let one : overlay d at s ≡ (take at d ++ s) ++ drop (at + length s) d = fits d at s (omega arith) in
    let n : length (take at d ++ s) ≡ at + length s = simp (length-append, length-take) (omega arith) in
    let room : (at + length s) + length t ≤ length (overlay d at s) = rw same_length (omega arith) in
    let front : take (at + length s) (overlay d at s) ≡ take at d ++ s = ap (take (at + length s)) one ∙ take_at (take at d ++ s) _ _ n in
    let back : drop (at + length s) (overlay d at s) ≡ drop (at + length s) d =
    ap (drop (at + length s)) one ∙ drop_at (take at d ++ s) _ _ n in
    let last : drop (at + length s + length t) (overlay d at s) ≡ drop (at + length s + length t) d =
    sym (drop-drop (length t) (at + length s) _) ∙ ap (drop (length t)) back ∙ drop-drop (length t) (at + length s) d in
    let m : at + length s + length t ≡ at + length (s ++ t) = simp length-append (omega arith) in
    fits (overlay d at s) (at + length s) t room
    ∙ ap₂ (λ (x y : List ℕ). x ++ t ++ y) front last
    ∙ ap₂ (λ (x : List ℕ) (n : ℕ). x ++ drop n d) (append_assoc (take at d) s t) m
    ∙ sym (fits d at (s ++ t) (omega arith))

-- id, size and payload written in turn
pub item_in_turn : (d : List ℕ) (at id : ℕ) (payload a b c : List ℕ) → at + 8 + length payload ≤ length d
    → a ≡ overlay d at (bytes_of 4 id)
    → b ≡ overlay a (at + 4) (bytes_of 4 (8 + length payload))
    → c ≡ overlay b (at + 8) payload
    → c ≡ overlay d at (item_bytes id payload)
unfolding bytes_of item_bytes
item_in_turn d at id payload a b c h e f g =
    let size = bytes_of 4 (8 + length payload) in
    let two : b ≡ overlay d at (bytes_of 4 id ++ size) =
    f ∙ ap (λ (x : List ℕ). overlay x (at + 4) size) e ∙ in-turn d at (bytes_of 4 id) size (omega arith) in
    g ∙ ap (λ (x : List ℕ). overlay x (at + 8) payload) two ∙ in-turn d at (bytes_of 4 id ++ size) payload (omega arith)
