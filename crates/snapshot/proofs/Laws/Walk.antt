-- Going through a well-formed snapshot from record to record: what code that reads one with `key_at` and `record_length` goes by. Assumes
-- nothing.
use Prim.Native.Nat.{ℕ, suc, ◌+◌, ◌≤◌, ◌<◌}
use native.Mathlib.Omega.{arith}
use mathlib.Core.{Path.{◌≡◌, refl, sym, ap, ◌∙◌}, Bool.{Bool, true, false, true≢false}, List.{List, []}, Option.{none, some}}
use lib.{ListN.{length, take, drop, length-drop}, Seq.{drop-drop}, Dec.{leb}}
use borrow.Author.Tests.{leb-true, leb-false}
use Rattle.snapshot.specs.{Keys.{keys, record_length}, Form.{well_formed}, Records.{stands, key_at, skip, from, record_at, decode}}
use Rattle.snapshot.proofs.Laws.{Sound.{stands_nil, stands_long}, Maps.{skip_at}, Form.{empty_nil, formed_from}}
use Rattle.snapshot.proofs.Laws.Stay.{key_few, key_stands, other_stands, stay}

-- s is well formed, and t is what is behind its records of the keys below k: the record of key k stands there, or the end where k is no key
pub record Ahead (s t : List ℕ) (k : ℕ) : Type 0 where
  pub formed : well_formed s ≡ true
  pub here : t ≡ from s k
  pub key : k ≡ key_at t
  pub few : k ≤ keys

module _ (s : List ℕ) (w : well_formed s ≡ true) where
  module _ (low : ℕ) (h : low ≤ keys) where
    -- behind the records of the keys below `low` stands none of these
    low_key : low ≤ key_at (from s low)
    low_key = go (leb low (key_at (from s low))) refl
      where
        go : (b : Bool) → leb low (key_at (from s low)) ≡ b → low ≤ key_at (from s low)
        go true e = leb-true _ _ e
        go false e =
            let l = leb-false low (key_at (from s low)) e in
            let q = stay s low keys h (λ i a b. other_stands i (from s low) (λ z. omega arith)) in
            let nil : from s low ≡ [] = sym q ∙ empty_nil _ (sym (formed_from s) ∙ w) in
            absurd (true≢false (sym (key_stands (from s low) (omega arith)) ∙ ap (stands (key_at (from s low))) nil ∙ stands_nil _))

    no_record : (j : ℕ) → low ≤ j → j < key_at (from s low) → decode s j ≡ none
    unfolding decode record_at
    no_record j l u =
        let e = stay s low j l (λ i a b. other_stands i (from s low) (λ z. omega arith)) in
        rw e (simp (other_stands j (from s low) (λ z. omega arith)))

    land : (t : List ℕ) → t ≡ from s low → Ahead s t (key_at t)
    land t e =
        let q = stay s low (key_at (from s low)) low_key (λ i a b. other_stands i (from s low) (λ z. omega arith)) in
        record { formed = w; here = e ∙ sym q ∙ ap (λ t. from s (key_at t)) (sym e); key = refl; few = key_few _ }

  pub first_ahead : Ahead s s (key_at s)
  unfolding from
  first_ahead = land 0 (omega arith) s refl

  pub none_ahead : (j : ℕ) → j < key_at s → decode s j ≡ none
  unfolding from
  none_ahead j h = no_record 0 (omega arith) j (omega arith) h

module _ {s t : List ℕ} {k : ℕ} (p : Ahead s t k) (h : k < keys) where
  pub standing : stands k t ≡ true
  standing = ap (λ i. stands i t) p.key ∙ key_stands t (omega (arith, p.key))

  behind : drop (record_length k) t ≡ from s (suc k)
  unfolding from
  behind = sym (skip_at k t standing) ∙ ap (skip k) p.here

  pub record_ahead : decode s k ≡ some (take (record_length k) t)
  unfolding decode record_at
  record_ahead = rw (← p.here) (simp standing)

  pub next_ahead : Ahead s (drop (record_length k) t) (key_at (drop (record_length k) t))
  next_ahead = land s p.formed (suc k) (omega arith) (drop (record_length k) t) behind

  pub above_ahead : k < key_at (drop (record_length k) t)
  above_ahead = rw behind (low_key s p.formed (suc k) (omega arith))

  pub gap_ahead : (j : ℕ) → k < j → j < key_at (drop (record_length k) t) → decode s j ≡ none
  gap_ahead j l u = no_record s p.formed (suc k) (omega arith) j l (rw (← behind) u)

-- by a place: `at` is where t begins
pub record At (s : List ℕ) (at k : ℕ) : Type 0 where
  pub within : at ≤ length s
  pub ahead : Ahead s (drop at s) k
  pub few : k ≤ keys

module _ (s : List ℕ) (w : well_formed s ≡ true) where
  pub first-at : At s 0 (key_at (drop 0 s))
  first-at = record { within = omega arith; ahead = first_ahead s w; few = key_few _ }

  pub none_before : (j : ℕ) → j < key_at (drop 0 s) → decode s j ≡ none
  none_before = none_ahead s w

module _ {s : List ℕ} {at k : ℕ} (p : At s at k) (h : k < keys) where
  pub record_at_lem : decode s k ≡ some (take (record_length k) (drop at s))
  record_at_lem = record_ahead p.ahead h

  pub next_within : at + record_length k ≤ length s
  next_within = omega (arith, p.within, stands_long k (drop at s) (standing p.ahead h), length-drop at s)

  on : drop (record_length k) (drop at s) ≡ drop (at + record_length k) s
  on = drop-drop (record_length k) at s

  pub next-at : At s (at + record_length k) (key_at (drop (at + record_length k) s))
  next-at = record { within = next_within; ahead = rw (← on) (next_ahead p.ahead h); few = key_few _ }

  pub next_above : k < key_at (drop (at + record_length k) s)
  next_above = rw (← on) (above_ahead p.ahead h)

  pub none_between : (j : ℕ) → k < j → j < key_at (drop (at + record_length k) s) → decode s j ≡ none
  none_between j l u = gap_ahead p.ahead h j l (rw on u)
