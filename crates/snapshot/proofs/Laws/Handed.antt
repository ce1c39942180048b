-- The key of what stands at the start of bytes, as the code hands it on: none where there is none. Assumes nothing.
use Prim.Native.Nat.{ℕ, ◌≤◌, ◌<◌}
use native.Mathlib.Omega.{arith}
use mathlib.Core.{Path.{◌≡◌, refl, sym, ap, ◌∙◌}, Bool.{Bool, true, false, cond, not}, List.{List}}
use lib.{ListN.{length, length-drop}, Dec.{ltb, eqb}}
use borrow.Author.Tests.{ltb-true, ltb-false, lt-ltb, le-ltb, eqb-true, eqb-false, eq-eqb, ne_eqb}
use Rattle.std.specs.{Prelude.{Option, Some, None}, Option.{option_eq}}
use Rattle.std.proofs.lemmas.Bool.{not-false, not-true}
use Rattle.std.specs.Borrow.{Bor}
use Rattle.wire.specs.Parts.{all_from, PartOf}
use Rattle.wire.proofs.Laws.Parts.{rest}
use Rattle.snapshot.specs.{Keys.{keys, record_length}, Records.{stands, key_at, some_key}}
use Rattle.snapshot.proofs.Laws.{Sound.{stands_long, stands_some}, Stay.{key_stands, other_stands, none_stands}}

-- what is handed on is the key, and one of the keys
pub handed_some : (k j : ℕ) → Some j ≡ some_key k → (j ≡ k) × (j < keys)
handed_some k j h = go (ltb k keys) refl h
  where
    go : (b : Bool) → ltb k keys ≡ b → Some j ≡ cond b (Some k) None → (j ≡ k) × (j < keys)
    go true e h = let q : j ≡ k = cc in (q, rw q (ltb-true k keys e))
    go false e h = absurd cc

-- and where none is, it is none of them
pub handed_none : (k : ℕ) → None ≡ some_key k → keys ≤ k
handed_none k h = go (ltb k keys) refl h
  where
    go : (b : Bool) → ltb k keys ≡ b → None ≡ cond b (Some k) None → keys ≤ k
    go true e h = absurd cc
    go false e h = ltb-false k keys e

pub some_handed : (k : ℕ) → k < keys → Some k ≡ some_key k
some_handed k h = simp (lt-ltb k keys h) refl

pub none_handed : (k : ℕ) → keys ≤ k → None ≡ some_key k
none_handed k h = simp (le-ltb k keys h) refl

-- compared, with `keys` for none
pub same_handed : (i j : ℕ) → i ≤ keys → j ≤ keys → option_eq eqb (some_key i) (some_key j) ≡ eqb i j
same_handed i j h l = go (ltb i keys) refl (ltb j keys) refl
  where
    go : (b : Bool) → ltb i keys ≡ b → (c : Bool) → ltb j keys ≡ c
        → option_eq eqb (cond b (Some i) None) (cond c (Some j) None) ≡ eqb i j
    go true p true q = refl
    go true p false q = let u = ltb-true i keys p in let v = ltb-false j keys q in sym (ne_eqb i j (omega arith))
    go false p true q = let u = ltb-false i keys p in let v = ltb-true j keys q in sym (ne_eqb i j (omega arith))
    go false p false q = let u = ltb-false i keys p in let v = ltb-false j keys q in sym (eq-eqb i j (omega arith))

-- a record of it stands there
pub handed_stands : (k : ℕ) (t : List ℕ) → Some k ≡ some_key (key_at t) → stands k t ≡ true
handed_stands k t e = let p = handed_some (key_at t) k e in ap (λ i. stands i t) p.0 ∙ key_stands t (omega (arith, p.0, p.1))

-- and what is behind it is shorter
pub behind_shorter : {k n : ℕ} {s r : Bor (List ℕ)} → Some k ≡ some_key (key_at s.now) → n ≡ record_length k
    → PartOf s (all_from s.now n) r → length r.now < length s.now
behind_shorter {k} {n} {s} e q p =
    let h = handed_stands k s.now e in
    omega (arith, q, stands_long k s.now h, stands_some k s.now h, ap length (rest p), length-drop n s.now)

-- tested for one key: it stands there, or it doesn't
module _ (k : ℕ) (t : List ℕ) where
  pub found : (o : Option ℕ) → o ≡ some_key (key_at t) → false ≡ not (option_eq eqb o (Some k)) → (k < keys) × (stands k t ≡ true)
  found None e h = absurd cc
  found (Some j) e h =
      let q : j ≡ k = eqb-true j k (not-false _ (sym h)) in
      (omega (arith, (handed_some (key_at t) j e).1), ap (λ i. stands i t) (sym q) ∙ handed_stands j t e)

  pub not_found : (o : Option ℕ) → o ≡ some_key (key_at t) → true ≡ not (option_eq eqb o (Some k)) → stands k t ≡ false
  not_found None e h = none_stands k t (handed_none (key_at t) e)
  not_found (Some j) e h = other_stands k t (λ f. eqb-false j k (not-true _ (sym h)) ((handed_some (key_at t) j e).0 ∙ f))
