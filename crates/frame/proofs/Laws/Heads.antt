-- One item by itself: which row of its table answers, and what a sound one says of its bytes. Assumes nothing.
use Prim.Native.Nat.{ℕ, ◌≤◌, ◌<◌}
use mathlib.Core.{Path.{◌≡◌, refl, sym}, List.{List, [], ◌∷◌}, Bool.{Bool, true, false, cond}}
use native.Mathlib.Omega.{arith}
use lib.{ListN.{length}, Dec.{ltb, eqb}}
use borrow.Author.Tests.{lt-ltb, le-ltb, ltb-false, eqb-true, eqb-false, not-false}
use Rattle.frame.specs.{Items.{Head, Bad, Whole}, Ids.{is_readable}}
use Rattle.frame.specs.{Items.{item_id, item_size, item_refusal_under, item_refusal, first_item_under, first_item}}
use Rattle.frame.specs.Codes.{truncated, invalid_id, short_size}
use Rattle.wire.specs.Rows.{◌⇒◌}
use Rattle.wire.proofs.Laws.Rows.{quiet}

module _ (s : List ℕ) where
  pub head_short : length s < 8 → Bad truncated ≡ first_item s
  unfolding first_item_under item_refusal_under
  head_short a = simp (lt-ltb _ _ a)

  -- what was read of an item whose header is there
  module _ (id : ℕ) (taken : Bool) (a : 8 ≤ length s) (i : id ≡ item_id s) (k : taken ≡ is_readable id) where
    is : (b : Bool) → taken ≡ b → is_readable (item_id s) ≡ b
    is b e = cc

    pub head_whole : (size : ℕ) → size ≡ item_size s → taken ≡ true → 8 ≤ size → size ≤ length s → Whole id size ≡ first_item s
    unfolding first_item_under item_refusal_under
    head_whole size e b c d =
        simp (i, e, le-ltb _ _ a, is true b, le-ltb (item_size s) 8 (omega arith), le-ltb (length s) (item_size s) (omega arith))

-- none of the tests of the item that s begins with held
pub record Sound (s : List ℕ) (id size : ℕ) : Type 0 where
  pub readable : is_readable id ≡ true
  pub long : 8 ≤ size
  pub inside : size ≤ length s
  pub its_id : id ≡ item_id s
  pub its_size : size ≡ item_size s

-- what a head says of the bytes that it was read from
abbrev pub Says : List ℕ → Head → Type 0
Says s (Bad code) = code ≡ 0 → ⊥
Says s (Whole id size) = Sound s id size

-- whichever ids a reader takes
pub passed : (takes : ℕ → Bool) (s : List ℕ) → item_refusal_under takes s ≡ 0
    → (takes (item_id s) ≡ true) × (8 ≤ item_size s) × (item_size s ≤ length s)
unfolding item_refusal_under
passed takes s e =
    let q = (quiet ((ltb (length s) 8 ⇒ truncated) ∷ (_ ⇒ invalid_id) ∷ (_ ⇒ short_size) ∷ (_ ⇒ truncated) ∷ []) [] refl e).0 in
    (not-false _ q.1.0, ltb-false _ _ q.1.1.0, ltb-false _ _ q.1.1.1.0)

tests : (s : List ℕ) → item_refusal s ≡ 0 → Sound s (item_id s) (item_size s)
tests s e =
    let t = passed is_readable s e in
    record { readable = t.0; long = t.1; inside = t.2; its_id = refl; its_size = refl }

pub says : (s : List ℕ) → Says s (first_item s)
unfolding first_item_under
says s = go (eqb (item_refusal s) 0) refl
  where
    go : (b : Bool) → eqb (item_refusal s) 0 ≡ b → Says s (cond b (Whole (item_id s) (item_size s)) (Bad (item_refusal s)))
    go true e = tests s (eqb-true _ _ e)
    go false e = eqb-false _ _ e

pub sound_head : (s : List ℕ) (id size : ℕ) → first_item s ≡ Whole id size → Sound s id size
sound_head s id size e = rw e at (says s)

pub head_of : (s : List ℕ) (id size : ℕ) → Sound s id size → first_item s ≡ Whole id size
head_of s id size h = sym (head_whole s id true (omega arith) h.its_id (sym h.readable) size h.its_size refl h.long h.inside)
