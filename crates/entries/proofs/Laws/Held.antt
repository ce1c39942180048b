-- Settings held: with one more, and which keep their rules. Assumes nothing.
use mathlib.Core.{Path.{◌≡◌, refl, ap, ◌∙◌}, List.{List, [], ◌∷◌}, Bool.{Bool, true, false, cond, ◌&&◌}}
use Prim.Native.Nat.{ℕ, suc, ◌+◌, ◌-◌, ◌≤◌, ◌<◌}
use native.Mathlib.Omega.{arith}
use lib.{Dec.{leb, eqb}, ListN.{length, get_or, set, length-set}, Seq.{set_out, get_or-set_same, get_or-set_other}}
use borrow.Author.Tests.{eqb-true, eqb-false, le-leb, leb-true}
use Rattle.std.specs.List.{list_all, zip}
use Rattle.wire.specs.{Endpoints.{first_address, places}, Rows.{all_below}}
use Rattle.wire.proofs.Laws.Below.{all_same, below_front}
use Rattle.face.specs.{declared.limits.FaceLimits.{FaceLimits}, Limits.{address_at, offers_at, offers_from, offers_of}}
use Rattle.entries.specs.Entries.{flags_kept, setting_refusal, face_kept, faces_kept, put_face}

-- settings with one more
pub length-put : (held : List ℕ) (address flags : ℕ) → length (put_face held address flags) ≡ length held
unfolding put_face
length-put held address flags = go (leb first_address address)
  where
    go : (b : Bool) → length (cond b (set held (address - first_address) flags) held) ≡ length held
    go true = simp length-set
    go false = refl

-- an address past the last place changes nothing
pub put_outside : (held : List ℕ) (address flags : ℕ) → length held ≤ address - first_address → put_face held address flags ≡ held
unfolding put_face
put_outside held address flags h = go (leb first_address address)
  where
    go : (b : Bool) → cond b (set held (address - first_address) flags) held ≡ held
    go true = set_out held (address - first_address) flags h
    go false = refl

-- at another address nothing changes
pub put_elsewhere : (held : List ℕ) (address flags k : ℕ) → (address ≡ first_address + k → ⊥)
    → get_or (put_face held address flags) k 0 ≡ get_or held k 0
unfolding put_face
put_elsewhere held address flags k n = go (leb first_address address) refl
  where
    go : (b : Bool) → leb first_address address ≡ b → get_or (cond b (set held (address - first_address) flags) held) k 0 ≡ get_or held k 0
    go true p = get_or-set_other held (address - first_address) k flags 0 (λ e. n (omega (arith, leb-true first_address address p)))
    go false p = refl

pub put-at : (held : List ℕ) (address flags k : ℕ) → k < length held
    → get_or (put_face held address flags) k 0 ≡ cond (eqb address (first_address + k)) flags (get_or held k 0)
unfolding put_face
put-at held address flags k h = go (eqb address (first_address + k)) refl
  where
    go : (b : Bool) → eqb address (first_address + k) ≡ b → get_or (put_face held address flags) k 0 ≡ cond b flags (get_or held k 0)
    go true q =
        let a = eqb-true address (first_address + k) q in
        let e : address - first_address ≡ k = omega arith in
        rw (le-leb first_address address (omega arith), e) (get_or-set_same held k flags 0 h)
    go false q = put_elsewhere held address flags k (eqb-false address (first_address + k) q)

-- offers laid by address, from the last place listed to the first: place i - 1 after place i
pub table_next : (l : FaceLimits) (n i : ℕ) (t : List ℕ) (k : ℕ) → 0 < i → i ≤ n → k < length t
    → get_or t k 0 ≡ offers_from l (first_address + k) (n - i) i
    → get_or (put_face t (address_at l (i - 1)) (offers_at l (i - 1))) k 0 ≡ offers_from l (first_address + k) (n - (i - 1)) (i - 1)
unfolding offers_from
table_next l n i t k h g r e =
    let m : n - (i - 1) ≡ suc (n - i) = omega arith in
    let s : suc (i - 1) ≡ i = omega arith in
    let o : get_or t k 0 ≡ offers_from l (first_address + k) (n - i) (suc (i - 1)) = rw s e in
    rw m (put-at t (address_at l (i - 1)) (offers_at l (i - 1)) k r
    ∙ ap (cond (eqb (address_at l (i - 1)) (first_address + k)) (offers_at l (i - 1))) o)

-- a setting held, by what the table has at its place
kept_place : (present : Bool) (l : FaceLimits) (held : List ℕ) (i offers : ℕ) → offers ≡ cond present (offers_of l (first_address + i)) 0
    → flags_kept offers (get_or held i 0) ≡ face_kept present l held i
unfolding face_kept setting_refusal
kept_place true l held i offers e = rw e
kept_place false l held i offers e = rw e

-- offers and settings side by side, place by place
zip_below : (xs ys : List ℕ) → length xs ≡ length ys
    → list_all (λ p. flags_kept p.0 p.1) (zip xs ys) ≡ all_below (length xs) (λ i. flags_kept (get_or xs i 0) (get_or ys i 0))
unfolding all_below
zip_below [] ys h = refl
zip_below (x ∷ xs) [] h = absurd (omega arith)
zip_below (x ∷ xs) (y ∷ ys) h =
    rw (below_front (length xs) (λ i. flags_kept (get_or (x ∷ xs) i 0) (get_or (y ∷ ys) i 0)))
    (ap (λ b. flags_kept x y && b) (zip_below xs ys (omega arith)))

pub kept_zip : (present : Bool) (l : FaceLimits) (held offers : List ℕ) → length offers ≡ places → length held ≡ places
    → ((i : ℕ) → i < places → get_or offers i 0 ≡ cond present (offers_of l (first_address + i)) 0)
    → list_all (λ p. flags_kept p.0 p.1) (zip offers held) ≡ faces_kept present l held
unfolding faces_kept
kept_zip present l held offers a b h =
    zip_below offers held (omega arith)
    ∙ ap (λ (n : ℕ). all_below n (λ i. flags_kept (get_or offers i 0) (get_or held i 0))) a
    ∙ all_same places _ _ (λ i g. kept_place present l held i _ (h i g))
