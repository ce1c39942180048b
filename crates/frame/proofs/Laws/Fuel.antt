-- The items of the rest of a block, with no bound in sight: none in no bytes, else one and those behind it. Assumes nothing.
use Prim.Native.Nat.{ℕ, zero, suc, ◌≤◌, ◌<◌}
use mathlib.Core.{Path.{◌≡◌, refl, sym, ap, ◌∙◌}, List.{List, []}, Bool.{Bool, true, false, cond}}
use native.Mathlib.Omega.{arith}
use lib.{ListN.{length, drop, length-drop}, Dec.{ltb}}
use borrow.Author.Tests.{ltb-true, le-ltb, lt-ltb}
use Rattle.frame.specs.Items.{Head, Bad, Whole}
use Rattle.frame.specs.Items.{BlockReading, sound, first_item, ◌before◌, follow, items_in_under, items_in, items_from_under, items_from}
use Rattle.frame.specs.Items.{item_in}
use Rattle.frame.proofs.Laws.Heads.{Says, says}

none : (n : ℕ) (s : List ℕ) → length s ≤ 0 → items_in n s ≡ sound []
unfolding items_in_under
none zero s h = refl
none (suc n) s h = simp (le-ltb _ _ h)

-- two readers that agree on every shorter rest
same : (f g : List ℕ → BlockReading) (s : List ℕ) (h : Head) → Says s h → ((t : List ℕ) → length t < length s → f t ≡ g t)
    → follow f s h ≡ follow g s h
same f g s (Bad code) w k = refl
same f g s (Whole id size) w k =
    ap (λ (r : BlockReading). item_in s id size before r) (k (drop size s) (simp length-drop (omega (arith, w.long, w.inside))))

pub enough : (n m : ℕ) (s : List ℕ) → length s ≤ n → length s ≤ m → items_in n s ≡ items_in m s
unfolding items_in_under
enough zero m s h k = sym (none m s h)
enough (suc n) zero s h k = none (suc n) s k
enough (suc n) (suc m) s h k =
    go (ltb 0 (length s)) refl
    (λ l. same (items_in n) (items_in m) s (first_item s) (says s) (λ t r. enough n m t (omega arith) (omega arith)))
  where
    go : {u v : BlockReading} (b : Bool) → ltb 0 (length s) ≡ b → (0 < length s → u ≡ v) → cond b u (sound []) ≡ cond b v (sound [])
    go true e f = f (ltb-true _ _ e)
    go false e f = refl

pub nothing_left : (s : List ℕ) → length s ≤ 0 → items_from s ≡ sound []
unfolding items_from_under
nothing_left s h = none (length s) s h

step : (n : ℕ) (s : List ℕ) → 0 < length s → items_in (suc n) s ≡ follow (items_in n) s (first_item s)
unfolding items_in_under
step n s h = simp (lt-ltb _ _ h)

pub one_then : (s : List ℕ) → 0 < length s → items_from s ≡ follow items_from s (first_item s)
unfolding items_from_under
one_then s h =
    enough (length s) (suc (length s)) s (omega arith) (omega arith)
    ∙ step (length s) s h
    ∙ same (items_in (length s)) (λ (t : List ℕ). items_in (length t) t) s (first_item s) (says s)
    (λ t r. enough (length s) (length t) t (omega arith) (omega arith))
