-- What merging answers, outcome by outcome. Assumes nothing.
use Prim.Native.Nat.{ℕ, ◌≤◌, ◌<◌}
use mathlib.Core.{Path.{◌≡◌, refl}, Bool.{Bool, true, false, cond}, List.{List, ◌++◌}}
use lib.{ListN.{length, drop}, Seq.{take_at}, Dec.{eqb}}
use borrow.Author.Tests.{le-leb, lt-leb, eqb-true}
use Rattle.wire.specs.{declared.refusal.Refusal.{Refusal}, Refusals.{code_of}, Uvc.{malformed_snapshot, no_room}}
use Rattle.snapshot.specs.Form.{well_formed, form_code}
use Rattle.snapshot.proofs.Laws.Form.{form_refused}
use Rattle.merging.specs.Merging.{merged, merge_code, merge_len, merge_out, handed_merge, Alike}

-- the verdict, the length reported and the buffer afterwards
abbrev pub Answer : List ℕ → List ℕ → List ℕ → ℕ → ℕ → List ℕ → Type 0
Answer s t out code len after = (code ≡ merge_code s t out) × ((len ≡ merge_len s t out) × (after ≡ merge_out s t out))

module _ (s t out : List ℕ) where
  first_malformed : well_formed s ≡ false → Answer s t out malformed_snapshot 0 out
  unfolding merge_code merge_len merge_out
  first_malformed e = simp e (refl, (refl, refl))

  -- as its verdict refuses it
  pub first_refused : (r : Refusal) → code_of r ≡ form_code s → Answer s t out (code_of r) 0 out
  first_refused r h = let p = form_refused s r h in rw p.1 (first_malformed p.0)

  module _ (e : well_formed s ≡ true) where
    second_malformed : well_formed t ≡ false → Answer s t out malformed_snapshot 0 out
    unfolding merge_code merge_len merge_out
    second_malformed f = simp (e, f) (refl, (refl, refl))

    pub second_refused : (r : Refusal) → code_of r ≡ form_code t → Answer s t out (code_of r) 0 out
    second_refused r h = let p = form_refused t r h in rw p.1 (second_malformed p.0)

    module _ (f : well_formed t ≡ true) where
      pub short : length out < length (merged s t) → Answer s t out no_room 0 out
      unfolding merge_code merge_len merge_out
      short h = simp (e, f, lt-leb (length (merged s t)) (length out) h) (refl, (refl, refl))

      pub accepted : length (merged s t) ≤ length out
          → Answer s t out 0 (length (merged s t)) (merged s t ++ drop (length (merged s t)) out)
      unfolding merge_code merge_len merge_out
      accepted h = simp (e, f, le-leb (length (merged s t)) (length out) h) (refl, (refl, refl))

      pub handed_merged : length (merged s t) ≤ length out → handed_merge s t out ≡ merged s t
      unfolding handed_merge
      handed_merged h =
          let a = accepted h in
          rw (← a.1.0, ← a.1.1) (take_at (merged s t) (drop (length (merged s t)) out) (length (merged s t)) refl)

  -- a refusal reports 0 and leaves the buffer as it was
  pub refused : (merge_code s t out ≡ 0 → ⊥) → (merge_len s t out ≡ 0) × (merge_out s t out ≡ out)
  unfolding merge_len merge_out
  refused h = go (eqb (merge_code s t out) 0) refl
    where
      go : (b : Bool) → eqb (merge_code s t out) 0 ≡ b
          → (cond b (length (merged s t)) 0 ≡ 0) × (cond b (merged s t ++ drop (length (merged s t)) out) out ≡ out)
      go true e = absurd (h (eqb-true (merge_code s t out) 0 e))
      go false e = (refl, refl)

  -- merging well-formed snapshots is answered by what they merge to
  pub same_answer : (s' t' : List ℕ) → well_formed s ≡ true → well_formed t ≡ true → well_formed s' ≡ true → well_formed t' ≡ true
      → merged s t ≡ merged s' t'
      → Alike s t s' t' out
  unfolding merge_code merge_len merge_out
  same_answer s' t' p q p' q' e = simp (p, q, p', q', e) (refl, (refl, refl))
