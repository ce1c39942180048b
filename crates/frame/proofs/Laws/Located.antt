-- The part handed back for item k lies in the block, its bytes are the item's payload, and the mark says what its id is. Assumes nothing.
use Prim.Native.Nat.{ℕ, zero, suc, ◌+◌, ◌-◌, ◌≤◌, ◌<◌}
use mathlib.Core.{Path.{◌≡◌, refl, sym, ap, ap₂, ◌∙◌}, List.{List, [], ◌∷◌}}
use native.Mathlib.Omega.{arith}
use lib.{ListN.{length, take, drop, get_or, length-take, length-drop}, Seq.{drop-drop}}
use Rattle.frame.specs.{Codes.{no_item}, Ids.{is_newer}, Items.{MetadataItem, sound, items_from, item_in, absent, refused_item, nth_item}}
use Rattle.wire.specs.Parts.{bytes_at}
use Rattle.frame.proofs.Laws.{Ids.{unknown_newer}, Heads.{Sound}, Join.{Split, every}}

pub record Located (s : List ℕ) (at k : ℕ) (is : List MetadataItem) : Type 0 where
  pub inside : (nth_item at k is).payload.at + (nth_item at k is).payload.len ≤ length s
  pub bytes : bytes_at s (nth_item at k is).payload ≡ (get_or is k absent).payload
  pub its_id : (nth_item at k is).id ≡ (get_or is k absent).id
  pub its_mark : (nth_item at k is).unknown ≡ is_newer (get_or is k absent).id

-- the items of the rest of s from `at` on
abbrev Lie : List ℕ → List MetadataItem → Type 0
Lie t is = (s : List ℕ) (at : ℕ) → t ≡ drop at s → at ≤ length s → (k : ℕ) → Located s at k is

nil : Lie [] []
unfolding nth_item is_newer
nil s at e l k = record { inside = omega arith; bytes = refl; its_id = refl; its_mark = refl }

-- the first item, and those behind it
module _ (t : List ℕ) (id size : ℕ) (js : List MetadataItem) (h : Sound t id size) (s : List ℕ) (at : ℕ) (e : t ≡ drop at s) where
  sizes : (length (take (size - 8) (drop 8 t)) ≡ size - 8) × (8 ≤ size) × (size ≤ length s - at)
  sizes =
      let long : 8 ≤ size = h.long in
      let inside : size ≤ length t = h.inside in
      let room : length t ≡ length s - at = ap length e ∙ length-drop at s in
      (simp (length-take, length-drop) (omega arith), long, omega arith)

  first : Located s at 0 (item_in t id size ∷ js)
  unfolding nth_item
  first =
      let z = sizes in
      let body : drop (at + 8) s ≡ drop 8 t = sym (drop-drop 8 at s) ∙ ap (drop 8) (sym e) in
      record { inside = omega arith; bytes = ap₂ take z.0 body; its_id = refl; its_mark = unknown_newer id h.readable }

  later : (k : ℕ) → Located s (at + size) k js → Located s at (suc k) (item_in t id size ∷ js)
  unfolding nth_item
  later k l =
      let z = sizes in
      let end : at + (8 + length (take (size - 8) (drop 8 t))) ≡ at + size = omega arith in
      let l' : Located s (at + (8 + length (take (size - 8) (drop 8 t)))) k js = rw end l in
      record { inside = l'.inside; bytes = l'.bytes; its_id = l'.its_id; its_mark = l'.its_mark }

more : (t : List ℕ) (is : List MetadataItem) (p : Split t is) → Lie (drop p.size t) p.rest → Lie t is
more t is p ih s at e l k = rw p.whole (go k)
  where
    behind : drop p.size t ≡ drop (at + p.size) s
    behind = ap (drop p.size) e ∙ drop-drop p.size at s

    go : (k : ℕ) → Located s at k (item_in t p.id p.size ∷ p.rest)
    go zero = first t p.id p.size p.rest p.head s at e
    go (suc k) =
        later t p.id p.size p.rest p.head s at e k
        (ih s (at + p.size) behind (omega (arith, sizes t p.id p.size p.rest p.head s at e)) k)

pub located : (s : List ℕ) (is : List MetadataItem) → items_from s ≡ sound is → (k : ℕ) → Located s 0 k is
located s is e k = every Lie nil more s is e s 0 refl (omega arith) k

-- which k have an item
pub there : (at k : ℕ) (is : List MetadataItem) → k < length is → (nth_item at k is).code ≡ 0
unfolding nth_item
there at k [] h = absurd (omega arith)
there at zero (i ∷ is) h = refl
there at (suc k) (i ∷ is) h = there (at + (8 + length i.payload)) k is (omega arith)

pub not_there : (at k : ℕ) (is : List MetadataItem) → length is ≤ k → nth_item at k is ≡ refused_item no_item
unfolding nth_item
not_there at k [] h = refl
not_there at zero (i ∷ is) h = absurd (omega arith)
not_there at (suc k) (i ∷ is) h = not_there (at + (8 + length i.payload)) k is (omega arith)
