-- A sound block with its unknown items cut out. Assumes nothing.
use Prim.Native.Nat.{ℕ, zero, suc, ◌-◌, ◌≤◌}
use mathlib.Core.{Path.{◌≡◌, refl, sym, ap, ap₂, ◌∙◌}, List.{List, [], ◌∷◌, ◌++◌}, Bool.{Bool, true, false}}
use native.Mathlib.Omega.{arith}
use lib.ListN.{length, take, drop, length-append, length-drop, take-append-drop}
use lib.Seq.{length-take-le, take-append-le, drop-append-le, drop_at}
use Rattle.frame.specs.{Ids.{is_known}, Items.{MetadataItem, BlockReading, sound, ◌before◌, items_from, item_in}}
use Rattle.wire.specs.Numbers.{le_at}
use Rattle.frame.specs.Cut.{kept, cut_here, cut_in, without_unknown, known_of}
use Rattle.frame.proofs.Laws.{Heads.{Sound, head_short, head_of}, Fuel.{nothing_left}, Bytes.{in-front}, Known.{AllKnown}}
use Rattle.frame.proofs.Laws.Join.{Split, every, still, front}

-- an item's own bytes, with any bytes behind them, hold that item
module _ (s : List ℕ) (id size : ℕ) (h : Sound s id size) where
  long : 8 ≤ size
  long = h.long

  own : length (take size s) ≡ size
  own = length-take-le size s h.inside

  field : (i : ℕ) → i ≤ 4 → le_at 4 s i ≡ le_at 4 (take size s) i
  field i l =
      ap (λ (t : List ℕ). le_at 4 t i) (sym (take-append-drop size s))
      ∙ in-front 4 (take size s) (drop size s) i (omega (arith, own, long))

  alone : Sound (take size s) id size
  alone = record {
    readable = h.readable;
    long = long;
    inside = omega (arith, own);
    its_id = h.its_id ∙ field 0 (omega arith);
    its_size = h.its_size ∙ field 4 (omega arith);
  }

  body : (t : List ℕ) → take (size - 8) (drop 8 (take size s ++ t)) ≡ take (size - 8) (drop 8 (take size s))
  body t =
      let n = own in
      let l = long in
      rw (drop-append-le 8 (take size s) t (omega arith))
      (take-append-le (size - 8) (drop 8 (take size s)) t (simp length-drop (omega arith)))

  pub own_bytes : (t : List ℕ) → items_from (take size s ++ t) ≡ (item_in s id size before items_from t)
  own_bytes t =
      let same : take (size - 8) (drop 8 (take size s ++ t)) ≡ take (size - 8) (drop 8 s) =
      body t ∙ sym (body (drop size s)) ∙ ap (λ (r : List ℕ). take (size - 8) (drop 8 r)) (take-append-drop size s) in
      front (take size s ++ t) id size (still (take size s) t id size alone)
      ∙ ap₂ (λ (p r : List ℕ). record { id = id; payload = p } before items_from r) same (drop_at (take size s) t size own)

-- no bytes have nothing to cut
nothing : (n : ℕ) → cut_in n [] ≡ []
unfolding cut_in
nothing zero = refl
nothing (suc n) = ap (cut_here (cut_in n) []) (sym (head_short [] (omega arith)))

-- one item, and what is behind it
one : (n : ℕ) (s : List ℕ) (is : List MetadataItem) (p : Split s is)
    → cut_in (suc n) s ≡ kept s p.id p.size ++ cut_in n (drop p.size s)
unfolding cut_in
one n s is p = ap (cut_here (cut_in n) s) (head_of s p.id p.size p.head)

-- what holds of no bytes, and of a sound block where it holds of the block behind its first item, holds of every sound block and its cut
module _ (P : List ℕ → List MetadataItem → List ℕ → Type 0) (nil : P [] [] [])
    (more : (s : List ℕ) (is : List MetadataItem) (p : Split s is) (t : List ℕ)
    → P (drop p.size s) p.rest t → P s is (kept s p.id p.size ++ t)) where
  bounded : (s : List ℕ) (is : List MetadataItem) → items_from s ≡ sound is → (n : ℕ) → length s ≤ n → P s is (cut_in n s)
  bounded = every (λ (s : List ℕ) (is : List MetadataItem). (n : ℕ) → length s ≤ n → P s is (cut_in n s)) (λ n l. rw (nothing n) nil) step
    where
      step : (s : List ℕ) (is : List MetadataItem) (p : Split s is)
          → ((n : ℕ) → length (drop p.size s) ≤ n → P (drop p.size s) p.rest (cut_in n (drop p.size s)))
          → (n : ℕ) → length s ≤ n → P s is (cut_in n s)
      step s is p ih zero l = absurd (omega (arith, p.head.long, p.head.inside))
      step s is p ih (suc n) l = rw (one n s is p) (more s is p _ (ih n (simp length-drop (omega (arith, p.head.long)))))

  pub cut : (s : List ℕ) (is : List MetadataItem) → items_from s ≡ sound is → P s is (without_unknown s)
  unfolding without_unknown
  cut s is e = bounded s is e (length s) (omega arith)

-- it holds the known items, and is no longer
abbrev Holds : List ℕ → List MetadataItem → List ℕ → Type 0
Holds s is t = (items_from t ≡ sound (known_of is)) × (length t ≤ length s)

module _ (s : List ℕ) (is : List MetadataItem) (p : Split s is) (t : List ℕ) (h : Holds (drop p.size s) p.rest t) where
  behind : length t ≤ length s - p.size
  behind = rw length-drop at h.1

  one_more : Holds s is (kept s p.id p.size ++ t)
  unfolding known_of
  one_more = rw p.whole (go (is_known p.id) refl)
    where
      go : (b : Bool) → is_known p.id ≡ b → Holds s (item_in s p.id p.size ∷ p.rest) (kept s p.id p.size ++ t)
      go true e =
          rw e (
            own_bytes s p.id p.size p.head t ∙ ap (λ (f : BlockReading). item_in s p.id p.size before f) h.0,
            simp length-append (omega (arith, behind, own s p.id p.size p.head, p.head.inside)),
          )
      go false e = rw e (h.0, omega (arith, behind))

pub holds_known : (s : List ℕ) (is : List MetadataItem) → items_from s ≡ sound is → Holds s is (without_unknown s)
unfolding known_of
holds_known = cut Holds (nothing_left [] (omega arith), omega arith) one_more

-- and is the block itself, where no item is unknown
pub own-cut : (s : List ℕ) (is : List MetadataItem) → items_from s ≡ sound is → AllKnown is → without_unknown s ≡ s
own-cut = cut (λ (s : List ℕ) (is : List MetadataItem) (t : List ℕ). AllKnown is → t ≡ s) (λ a. refl) more
  where
    more : (s : List ℕ) (is : List MetadataItem) (p : Split s is) (t : List ℕ) → (AllKnown p.rest → t ≡ drop p.size s)
        → AllKnown is → kept s p.id p.size ++ t ≡ s
    more s is p t h a =
        let a' : AllKnown (item_in s p.id p.size ∷ p.rest) = rw p.whole at a in
        rw (a'.0, h a'.1) (take-append-drop p.size s)
