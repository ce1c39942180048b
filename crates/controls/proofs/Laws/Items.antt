-- Laws of the numbers of items, one after the other. Assumes nothing.
use mathlib.Core.{Path.{◌≡◌, refl, ap, ◌∙◌}, Bool.{Bool, true, false, cond}}
use Prim.Native.Nat.{ℕ, zero, suc, ◌+◌, ◌<◌}
use native.Mathlib.{Nat.{zero-add}, Omega.{arith}}
use lib.Dec.{eqb}
use borrow.Author.Tests.{eq-eqb, ne_eqb, eqb-true, eqb-false}
use Rattle.controls.specs.Controls.{first_refusal}

module _ (code : ℕ → ℕ) where
  -- the first that is refused, where those before it are not
  refusal_at_lem : (n k i : ℕ) → ((j : ℕ) → j < i → code (j + k) ≡ 0) → i < n → (code (i + k) ≡ 0 → ⊥)
      → first_refusal n k code ≡ code (i + k)
  unfolding first_refusal
  refusal_at_lem zero k i before h bad = absurd (omega arith)
  refusal_at_lem (suc n) k zero before h bad = rw zero-add (simp (ne_eqb (code k) 0 (rw zero-add at bad)))
  refusal_at_lem (suc n) k (suc i) before h bad =
      let z : code k ≡ 0 = rw zero-add at (before 0 (omega arith)) in
      let e : (j : ℕ) → j + suc k ≡ suc j + k = λ j. omega arith in
      simp (eq-eqb (code k) 0 z)
      (refusal_at_lem n (suc k) i (λ j l. rw (e j) (before (suc j) (omega arith))) (omega arith) (rw (e i) bad) ∙ ap code (e i))

  -- none of them is refused
  refusal_none : (n k : ℕ) → ((j : ℕ) → j < n → code (j + k) ≡ 0) → first_refusal n k code ≡ 0
  unfolding first_refusal
  refusal_none zero k h = refl
  refusal_none (suc n) k h =
      let z : code k ≡ 0 = rw zero-add at (h 0 (omega arith)) in
      let e : (j : ℕ) → j + suc k ≡ suc j + k = λ j. omega arith in
      simp (eq-eqb (code k) 0 z) (refusal_none n (suc k) (λ j l. rw (e j) (h (suc j) (omega arith))))

  -- and back
  each_at : (n k : ℕ) → first_refusal n k code ≡ 0 → (j : ℕ) → j < n → code (j + k) ≡ 0
  unfolding first_refusal
  each_at zero k e j h = absurd (omega arith)
  each_at (suc n) k e j h = go (eqb (code k) 0) refl e (λ q. each_at n (suc k) q) j h
    where
      go : (b : Bool) → eqb (code k) 0 ≡ b → cond b (first_refusal n (suc k) code) (code k) ≡ 0
          → (first_refusal n (suc k) code ≡ 0 → (j : ℕ) → j < n → code (j + suc k) ≡ 0) → (j : ℕ) → j < suc n → code (j + k) ≡ 0
      go true p q ih zero l = rw zero-add (eqb-true (code k) 0 p)
      go true p q ih (suc j) l = let s : j + suc k ≡ suc j + k = omega arith in rw s at (ih q j (omega arith))
      go false p q ih j l = absurd (eqb-false (code k) 0 p q)

  -- the same from 0 on, as a loop goes through them
  pub stops : (n i : ℕ) → ((j : ℕ) → j < i → code j ≡ 0) → i < n → (code i ≡ 0 → ⊥) → first_refusal n 0 code ≡ code i
  stops n i before h bad =
      let e : (j : ℕ) → j + 0 ≡ j = λ j. omega arith in
      refusal_at_lem n 0 i (λ j l. rw (e j) (before j l)) h (rw (e i) bad) ∙ ap code (e i)

  pub passes : (n : ℕ) → ((j : ℕ) → j < n → code j ≡ 0) → first_refusal n 0 code ≡ 0
  passes n h = let e : (j : ℕ) → j + 0 ≡ j = λ j. omega arith in refusal_none n 0 (λ j l. rw (e j) (h j l))

  pub none_refused : (n : ℕ) → first_refusal n 0 code ≡ 0 → (j : ℕ) → j < n → code j ≡ 0
  none_refused n e j h = let z : j + 0 ≡ j = omega arith in rw z at (each_at n 0 e j h)
