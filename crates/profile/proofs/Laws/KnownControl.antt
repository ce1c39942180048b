-- A valid profile has no control but the five. Assumes nothing.
use mathlib.Core.{Path.{◌≡◌, refl, sym, ◌∙◌, subst}, Bool.{Bool, true, false, cond, not, ◌&&◌, ◌||◌, true≢false, and-eq-true_iff}}
use Prim.Native.Nat.{ℕ, suc, ◌+◌, ◌-◌, ◌^◌, ◌≤◌}
use native.Mathlib.Omega.{arith}
use lib.Dec.{eqb, leb, ltb}
use borrow.Author.Tests.{eqb-true, leb-true, leb-false, ltb-true}
use Rattle.flags.specs.Flags.{is_set}
use Rattle.flags.proofs.Laws.Bits.{high_clear}
use Rattle.request.specs.Table.{has_control}
use Rattle.wire.specs.Rows.{all_below}
use Rattle.wire.proofs.Laws.Below.{all-at}
use Rattle.profile.specs.{KnownControl.{KnownControl, ev, face, metadata, hdr, throttle}, Profile.{presence_valid}}

-- a test that is computed for both truth values
every : (Bool → Bool) → Bool
every f = f true && f false

each : (f : Bool → Bool) → every f ≡ true → (b : Bool) → f b ≡ true
unfolding every
each f e true = let p = simp and-eq-true_iff at e in p.0
each f e false = let p = simp and-eq-true_iff at e in p.1

-- the presence bits of the five controls, by which of them are there, and the places of their bits
abbrev worth : Bool → ℕ → ℕ
worth b n = cond b n 0

abbrev presence : Bool → Bool → Bool → Bool → Bool → ℕ
presence a b c d e = worth a 0x04 + worth b 0x20 + worth c 0x100 + worth d 0x1000 + worth e 0x2000

abbrev known : ℕ → Bool
known k = eqb k 2 || eqb k 5 || eqb k 8 || eqb k 12 || eqb k 13

abbrev only_known : ℕ → Bool
only_known n = ltb n (2 ^ 14) && all_below 14 (λ k. not (is_set n k) || known k)

computed : every (λ a. every (λ b. every (λ c. every (λ d. every (λ e. only_known (presence a b c d e)))))) ≡ true
unfolding every is_set all_below
computed = refl

presence_known : (a b c d e : Bool) → only_known (presence a b c d e) ≡ true
presence_known a b c d e = each _ (each _ (each _ (each _ (each _ computed a) b) c) d) e

bit_known : (n k : ℕ) → only_known n ≡ true → is_set n k ≡ true → known k ≡ true
bit_known n k o h = let p = simp and-eq-true_iff at o in go (leb 14 k) refl p.0 p.1
  where
    or_known : (b c : Bool) → b ≡ true → not b || c ≡ true → c ≡ true
    or_known true c p q = q
    or_known false c p q = absurd (true≢false (sym p))

    go : (b : Bool) → leb 14 k ≡ b → ltb n (2 ^ 14) ≡ true → all_below 14 (λ k. not (is_set n k) || known k) ≡ true → known k ≡ true
    go true e small each = absurd (true≢false (sym h ∙ high_clear 14 n k (ltb-true n (2 ^ 14) small) (leb-true 14 k e)))
    go false e small each = or_known (is_set n k) (known k) h (all-at 14 _ each k (leb-false 14 k e))

control_at : (k : ℕ) → known k ≡ true → KnownControl (suc k)
control_at k h = go (eqb k 2) (eqb k 5) (eqb k 8) (eqb k 12) (eqb k 13) refl refl refl refl refl h
  where
    go : (a b c d e : Bool) → eqb k 2 ≡ a → eqb k 5 ≡ b → eqb k 8 ≡ c → eqb k 12 ≡ d → eqb k 13 ≡ e → a || b || c || d || e ≡ true
        → KnownControl (suc k)
    go true b c d e p q r s t u = subst (λ n. KnownControl (suc n)) (sym (eqb-true k 2 p)) ev
    go false true c d e p q r s t u = subst (λ n. KnownControl (suc n)) (sym (eqb-true k 5 q)) face
    go false false true d e p q r s t u = subst (λ n. KnownControl (suc n)) (sym (eqb-true k 8 r)) metadata
    go false false false true e p q r s t u = subst (λ n. KnownControl (suc n)) (sym (eqb-true k 12 s)) hdr
    go false false false false true p q r s t u = subst (λ n. KnownControl (suc n)) (sym (eqb-true k 13 t)) throttle
    go false false false false false p q r s t u = absurd (true≢false (sym u))

-- a control that is there is one of the five
pub control_known : (bits selector : ℕ) → presence_valid bits ≡ true → has_control bits selector ≡ true → KnownControl selector
unfolding presence_valid
control_known bits selector v h =
    let p = simp and-eq-true_iff at h in
    let e : bits
    ≡ presence (has_control bits 0x03) (has_control bits 0x06) (has_control bits 0x09) (has_control bits 0x0D) (has_control bits 0x0E) =
    eqb-true bits _ v in
    let o : only_known bits ≡ true =
    subst (λ n. only_known n ≡ true) (sym e)
    (presence_known (has_control bits 0x03) (has_control bits 0x06) (has_control bits 0x09) (has_control bits 0x0D)
    (has_control bits 0x0E)) in
    let one : 1 ≤ selector = leb-true 1 selector p.0 in
    let s : suc (selector - 1) ≡ selector = omega arith in
    subst KnownControl s (control_at (selector - 1) (bit_known bits (selector - 1) o p.1))
