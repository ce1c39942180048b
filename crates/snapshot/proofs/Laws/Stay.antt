-- The key of what stands at the start of bytes, and the keys of which nothing stands there: these pass nothing. Assumes nothing.
use Prim.Native.Nat.{ℕ, zero, suc, ◌≤◌, ◌<◌}
use native.Mathlib.Omega.{arith}
use mathlib.Core.{Path.{◌≡◌, refl, ap, ◌∙◌}, Bool.{Bool, true, false, cond}, List.{List}}
use lib.Dec.{leb}
use borrow.Author.Tests.{leb-true, leb-false}
use Rattle.snapshot.specs.{Keys.{keys}, Form.{sound_record, stated_key}, Records.{stands, key_at, skip, from}}
use Rattle.snapshot.proofs.Laws.{Sound.{sound_parts, parts_sound, sound_of, stands_sound, sound_stands}, Maps.{not-true, skip_not}}

pub key_few : (t : List ℕ) → key_at t ≤ keys
unfolding key_at
key_few t = go (sound_record t) refl
  where
    go : (b : Bool) → sound_record t ≡ b → cond b (stated_key t) keys ≤ keys
    go true e = omega (arith, (sound_of t (sound_parts t e)).key)
    go false e = omega arith

pub key_stands : (t : List ℕ) → key_at t < keys → stands (key_at t) t ≡ true
unfolding key_at
key_stands t h = go (sound_record t) refl h
  where
    go : (b : Bool) → sound_record t ≡ b → cond b (stated_key t) keys < keys → stands (cond b (stated_key t) keys) t ≡ true
    go true e h = sound_stands (stated_key t) t (sound_parts t e) refl
    go false e h = absurd (omega arith)

stands_key : (k : ℕ) (t : List ℕ) → stands k t ≡ true → key_at t ≡ k
unfolding key_at
stands_key k t e = let p = stands_sound k t e in simp (parts_sound t p.0) p.1

pub other_stands : (k : ℕ) (t : List ℕ) → (key_at t ≡ k → ⊥) → stands k t ≡ false
other_stands k t h = not-true _ (λ e. h (stands_key k t e))

-- a key that is none is no record's
pub none_stands : (k : ℕ) (t : List ℕ) → keys ≤ key_at t → stands k t ≡ false
unfolding key_at
none_stands k t h = not-true _ (λ e. let p = stands_sound k t e in omega (arith, h, stands_key k t e, (sound_of t p.0).key, p.1))

pub stay : (s : List ℕ) (low k : ℕ) → low ≤ k → ((i : ℕ) → low ≤ i → i < k → stands i (from s low) ≡ false) → from s k ≡ from s low
unfolding from
stay s low zero h n = let e : 0 ≡ low = omega arith in ap (from s) e
stay s low (suc k) h n = go (leb low k) refl (λ (l : low ≤ k). stay s low k l (λ i p q. n i p (omega arith)))
  where
    go : (b : Bool) → leb low k ≡ b → (low ≤ k → from s k ≡ from s low) → skip k (from s k) ≡ from s low
    go true e ih = let l = leb-true low k e in ap (skip k) (ih l) ∙ skip_not k (from s low) (n k l (omega arith))
    go false e ih = let l = leb-false low k e in let q : suc k ≡ low = omega arith in ap (from s) q
