-- A cursor that goes through the keys, one after the other: what code that reads a snapshot goes by. Assumes nothing.
use Prim.Native.Nat.{ℕ, ◌+◌, ◌-◌, ◌≤◌, ◌<◌}
use native.Mathlib.{Omega.{arith}, Numerals.{add-one}}
use mathlib.Core.{Path.{◌≡◌, refl, sym, ap, ◌∙◌}, Bool.{Bool, true, false, cond}, List.{List, [], ◌∷◌}}
use mathlib.Core.Option.{none, some}
use lib.{ListN.{length, take, drop, length-drop}, Seq.{drop-drop}, Dec.{eqb}}
use borrow.Author.Tests.{lt-leb, eq-eqb, ne_eqb}
use Rattle.std.specs.Prelude.{Some, None}
use Rattle.snapshot.specs.{Keys.{keys, record_length}, Form.{is_empty, well_formed}}
use Rattle.snapshot.specs.{Records.{stands, key_at, some_key, passed, skip, from, record_at, decode, record_place}, Steps.{EndsBelow}}
use Rattle.snapshot.proofs.Laws.{Sound.{stands_long}, Form.{formed_from}, Stay.{other_stands, none_stands, stay}}
use Rattle.snapshot.proofs.Laws.Handed.{handed_some, handed_none, handed_stands}

passed_long : (k : ℕ) (s : List ℕ) → passed k s ≤ length s
unfolding passed
passed_long k s = go (stands k s) refl
  where
    go : (b : Bool) → stands k s ≡ b → cond b (record_length k) 0 ≤ length s
    go true e = stands_long k s e
    go false e = omega arith

skip_passed : (k : ℕ) (s : List ℕ) → skip k s ≡ drop (passed k s) s
unfolding skip passed
skip_passed k s = go (stands k s)
  where
    go : (b : Bool) → cond b (drop (record_length k) s) s ≡ drop (cond b (record_length k) 0) s
    go true = refl
    go false = refl

is_passed : (k : ℕ) (s : List ℕ) → stands k s ≡ true → record_length k ≡ passed k s
unfolding passed
is_passed k s h = simp h refl

pub start : (s : List ℕ) → EndsBelow s 0 0
unfolding from
start s = record { within = omega arith; here = refl }

module _ (s : List ℕ) (at k : ℕ) (c : EndsBelow s at k) where
  -- a record of key k at the cursor is that of s, and where none stands there s has none
  module _ (h : stands k (drop at s) ≡ true) where
    pub cursor_record : decode s k ≡ some (take (record_length k) (drop at s))
    unfolding decode record_at
    cursor_record = rw (← c.here) (simp h refl)

    pub cursor_place : k < keys → record { at = at; len = record_length k } ≡ record_place s k
    unfolding record_place passed
    cursor_place l =
        let a : at ≡ length s - length (from s k) = omega (arith, c.within, ap length c.here, length-drop at s) in
        simp (lt-leb keys k l, ← c.here, h) (ap (λ i. record { at = i; len = record_length k }) (rw (← c.here) at a))

  pub cursor_none : stands k (drop at s) ≡ false → decode s k ≡ none
  unfolding decode record_at
  cursor_none h = rw (← c.here) (simp h refl)

  pub cursor_within : at + passed k (drop at s) ≤ length s
  cursor_within = omega (arith, c.within, passed_long k (drop at s), length-drop at s)

  pub next : EndsBelow s (at + passed k (drop at s)) (k + 1)
  unfolding from
  next = record {
    within = cursor_within;
    here = rw add-one (sym (drop-drop (passed k (drop at s)) at s) ∙ sym (skip_passed k (drop at s)) ∙ ap (skip k) c.here);
  }

  -- where no record of a key from k up to j stands at the cursor, nothing is passed
  pub cursor_stay : (j : ℕ) → k ≤ j → ((i : ℕ) → k ≤ i → i < j → stands i (drop at s) ≡ false) → EndsBelow s at j
  cursor_stay j h n = record {
    within = c.within;
    here = c.here ∙ sym (stay s k j h (λ i p q. rw (← c.here) (n i p q)));
  }

-- behind the last key, the bytes are well formed where nothing is left
pub end : (s : List ℕ) (at : ℕ) → EndsBelow s at keys → eqb at (length s) ≡ well_formed s
end s at c = go (drop at s) (length-drop at s) ∙ ap is_empty c.here ∙ sym (formed_from s)
  where
    go : (t : List ℕ) → length t ≡ length s - at → eqb at (length s) ≡ is_empty t
    go [] e = eq-eqb at (length s) (omega (arith, c.within))
    go (b ∷ t) e = ne_eqb at (length s) (omega arith)

-- going from record to record, with the lowest key that may follow: on to the next while it ascends and is below the key, and else done
module _ (s : List ℕ) (at low : ℕ) (c : EndsBelow s at low) where
  module _ (k : ℕ) (e : Some k ≡ some_key (key_at (drop at s))) where
    others : (j : ℕ) → low ≤ j → ((i : ℕ) → low ≤ i → i < j → k ≡ i → ⊥) → EndsBelow s at j
    others j l n = cursor_stay s at low c j l (λ i a b. other_stands i (drop at s) (λ f. n i a b ((handed_some _ k e).0 ∙ f)))

    pub cursor_on : low ≤ k → EndsBelow s (at + record_length k) (k + 1)
    cursor_on l = rw (is_passed k (drop at s) (handed_stands k _ e)) (next s at k (others k l (λ i a b f. omega arith)))

    pub cursor_below : (key : ℕ) → k < low → low ≤ key → EndsBelow s at key
    cursor_below key h l = others key l (λ i a b f. omega arith)

    pub cursor_above : (key : ℕ) → key ≤ k → low ≤ key → EndsBelow s at key
    cursor_above key h l = others key l (λ i a b f. omega arith)

  pub cursor_over : (key : ℕ) → None ≡ some_key (key_at (drop at s)) → low ≤ key → EndsBelow s at key
  cursor_over key e l = cursor_stay s at low c key l (λ i a b. none_stands i (drop at s) (handed_none _ e))
