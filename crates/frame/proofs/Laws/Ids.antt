-- Known ids, and those that a reader takes. Assumes nothing.
use Prim.Native.Nat.{ℕ}
use mathlib.Core.{Path.{◌≡◌, refl, ◌∙◌}, Bool.{Bool, true, false, not}}
use native.Mathlib.Omega.{arith}
use lib.Dec.{leb}
use borrow.Author.Tests.{leb-true, leb-false, le-leb, lt-leb}
use Rattle.frame.specs.Ids.{is_known, is_readable, first_newer, last_newer, is_newer}

pub known_readable : (id : ℕ) → is_known id ≡ true → is_readable id ≡ true
unfolding is_known is_readable
known_readable id k = go (leb 1 id) refl
  where
    go : (b : Bool) → leb 1 id ≡ b → leb 1 id ≡ true
    go true e = e
    go false e =
        let late : leb 0x80000000 id ≡ false = lt-leb 0x80000000 id (omega (arith, leb-false 1 id e)) in
        e ∙ (rw (e, late) at k)

-- an id that is taken and not known is one of the newer, and those are not known
pub unknown_newer : (id : ℕ) → is_readable id ≡ true → not (is_known id) ≡ is_newer id
unfolding is_known is_readable is_newer
unknown_newer id r = go (leb first_newer id) refl (leb 0x80000000 id) refl
  where
    go : (b : Bool) → leb first_newer id ≡ b → (c : Bool) → leb 0x80000000 id ≡ c → not (is_known id) ≡ is_newer id
    go true e true f =
        let six = lt-leb id 6 (omega (arith, leb-true first_newer id e)) in
        simp (e, f, r, six, lt-leb id last_newer (omega (arith, leb-true 0x80000000 id f)))
    go true e false f =
        let six = lt-leb id 6 (omega (arith, leb-true first_newer id e)) in
        simp (e, f, r, six, le-leb id last_newer (omega (arith, leb-false 0x80000000 id f)))
    go false e true f = absurd (omega (arith, leb-false first_newer id e, leb-true 0x80000000 id f))
    go false e false f = simp (e, f, r, le-leb id 6 (omega (arith, leb-false first_newer id e)))
