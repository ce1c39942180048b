-- A sound block in front of other bytes: its items, and then what those bytes hold. Assumes nothing.
use Prim.Native.Nat.{ℕ, zero, suc, ◌-◌, ◌≤◌, ◌<◌}
use mathlib.Core.{Path.{◌≡◌, refl, sym, ap, ◌∙◌}, List.{List, [], ◌∷◌, ◌++◌}, Bool.{Bool, true, false}}
use native.Mathlib.Omega.{arith}
use lib.{ListN.{length, drop, length-append, length-drop}, Dec.{ltb}, Seq.{take-append-le, drop-append-le}}
use borrow.Author.Tests.{ltb-true, ltb-false}
use Rattle.frame.specs.Items.{Head, Bad, Whole}
use Rattle.frame.specs.Items.{MetadataItem, BlockReading, refused, sound, first_item, ◌before◌, follow, items_from, item_in}
use Rattle.frame.proofs.Laws.{Heads.{Sound, sound_head, head_of}, Fuel.{nothing_left, one_then}, Bytes.{in-front}}

-- items in front of what the bytes behind them hold
infixr 30 ◌then◌
abbrev pub ◌then◌ : List MetadataItem → BlockReading → BlockReading
[] then f = f
(i ∷ is) then f = i before (is then f)

-- the first item of a sound block, and the sound block behind it
pub record Split (s : List ℕ) (is : List MetadataItem) : Type 0 where
  pub id : ℕ
  pub size : ℕ
  pub rest : List MetadataItem
  pub head : Sound s id size
  pub behind : items_from (drop size s) ≡ sound rest
  pub whole : is ≡ item_in s id size ∷ rest

pub split : (s : List ℕ) (is : List MetadataItem) → 0 < length s → items_from s ≡ sound is → Split s is
split s is l e = go (first_item s) refl (sym (one_then s l) ∙ e)
  where
    last : (id size : ℕ) → first_item s ≡ Whole id size → (f : BlockReading) → items_from (drop size s) ≡ f
        → (item_in s id size before f) ≡ sound is → Split s is
    last id size h (refused code) g q = absurd (let z : ◌≡◌ {A = ℕ} 0 1 = cc in omega arith)
    last id size h (sound js) g q = record { id = id; size = size; rest = js; head = sound_head s id size h; behind = g; whole = cc }

    go : (h : Head) → first_item s ≡ h → follow items_from s h ≡ sound is → Split s is
    go (Bad code) h q = absurd (let z : ◌≡◌ {A = ℕ} 0 1 = cc in omega arith)
    go (Whole id size) h q = last id size h (items_from (drop size s)) refl q

-- what holds of no bytes, and of a sound block where it holds of the block behind its first item, holds of every sound block
module _ (P : List ℕ → List MetadataItem → Type 0) (nil : P [] [])
    (more : (s : List ℕ) (is : List MetadataItem) (p : Split s is) → P (drop p.size s) p.rest → P s is) where
  none : (s : List ℕ) (is : List MetadataItem) → length s ≤ 0 → items_from s ≡ sound is → P s is
  none [] is l e =
      let z = nothing_left [] l in
      let i : is ≡ [] = cc in
      rw i nil
  none (x ∷ s) is l e = absurd (omega arith)

  cases : (s : List ℕ) (is : List MetadataItem) → items_from s ≡ sound is → ((p : Split s is) → P (drop p.size s) p.rest) → P s is
  cases s is e f = go (ltb 0 (length s)) refl
    where
      go : (b : Bool) → ltb 0 (length s) ≡ b → P s is
      go true t = let p = split s is (ltb-true _ _ t) e in more s is p (f p)
      go false t = none s is (ltb-false _ _ t) e

  bounded : (n : ℕ) (s : List ℕ) (is : List MetadataItem) → length s ≤ n → items_from s ≡ sound is → P s is
  bounded zero s is h e = none s is h e
  bounded (suc n) s is h e =
      cases s is e (λ p. bounded n (drop p.size s) p.rest (simp length-drop (omega (arith, p.head.long))) p.behind)

  pub every : (s : List ℕ) (is : List MetadataItem) → items_from s ≡ sound is → P s is
  every s is e = bounded (length s) s is (omega arith) e

-- a sound item stays one with more bytes behind it
pub still : (s t : List ℕ) (id size : ℕ) → Sound s id size → Sound (s ++ t) id size
still s t id size h = record {
  readable = h.readable;
  long = h.long;
  inside = simp length-append (omega (arith, h.inside));
  its_id = h.its_id ∙ sym (in-front 4 s t 0 (omega (arith, h.long, h.inside)));
  its_size = h.its_size ∙ sym (in-front 4 s t 4 (omega (arith, h.long, h.inside)));
}

-- one sound item and then the rest
pub front : (s : List ℕ) (id size : ℕ) → Sound s id size → items_from s ≡ (item_in s id size before items_from (drop size s))
front s id size h = one_then s (omega (arith, h.long, h.inside)) ∙ ap (follow items_from s) (head_of s id size h)

-- one item more, where the block behind it is joined so
step : (s t : List ℕ) (is : List MetadataItem) (p : Split s is) → items_from (drop p.size s ++ t) ≡ (p.rest then items_from t)
    → items_from (s ++ t) ≡ (is then items_from t)
step s t is p ih =
    let long : 8 ≤ p.size = p.head.long in
    let inside : p.size ≤ length s = p.head.inside in
    let room : 8 ≤ length s = omega arith in
    let fits : p.size - 8 ≤ length (drop 8 s) = simp length-drop (omega arith) in
    let more = front (s ++ t) p.id p.size (still s t p.id p.size p.head) in
    rw (p.whole, more, drop-append-le p.size s t inside, drop-append-le 8 s t room, take-append-le (p.size - 8) (drop 8 s) t fits, ih)

pub join : (t s : List ℕ) (is : List MetadataItem) → items_from s ≡ sound is → items_from (s ++ t) ≡ (is then items_from t)
join t = every (λ (s : List ℕ) (is : List MetadataItem). items_from (s ++ t) ≡ (is then items_from t)) refl (λ s is p ih. step s t is p ih)
