-- Settings given one after the other, and their records. Assumes nothing.
use Prim.Native.Nat.{ℕ}
use mathlib.Core.{Path.{◌≡◌, refl, sym, ap, ◌∙◌, subst}, Bool.{Bool, true, false, cond}, List.{List, [], ◌∷◌, ◌++◌}}
use mathlib.Core.Option.{Option, none, some, map}
use lib.Dec.{eqb}
use borrow.Author.Tests.{eqb-true}
use Rattle.snapshot.specs.{Records.{IsRecord, GoodAt, Good}, Given.{over, KeyedSetting, last_of}}

pub over_assoc : {A : Type 0} (a b c : Option A) → over (over a b) c ≡ over a (over b c)
over_assoc a b none = refl
over_assoc a b (some r) = refl

pub over_none : {A : Type 0} (a : Option A) → over none a ≡ a
over_none none = refl
over_none (some r) = refl

pub last_append : {Value : Type 0} (a b : List (KeyedSetting Value)) (k : ℕ) → last_of (a ++ b) k ≡ over (last_of a k) (last_of b k)
last_append [] b k = sym (over_none (last_of b k))
last_append (p ∷ a) b k =
    ap (over (cond (eqb p.0 k) (some p.1) none)) (last_append a b k)
    ∙ sym (over_assoc (cond (eqb p.0 k) (some p.1) none) (last_of a k) (last_of b k))

-- a map of the values goes through
pub over_map : {A B : Type 0} (f : A → B) (a b : Option A) → map f (over a b) ≡ over (map f a) (map f b)
over_map f a none = refl
over_map f a (some v) = refl

-- every setting of a list has a record of its key
abbrev pub EachRecord : {Value : Type 0} → (Value → List ℕ) → List (KeyedSetting Value) → Type 0
EachRecord record_of [] = Unit {0}
EachRecord record_of (p ∷ l) = IsRecord p.0 (record_of p.1) × EachRecord record_of l

module _ {Value : Type 0} (record_of : Value → List ℕ) where
  pub records_append : (a b : List (KeyedSetting Value)) → EachRecord record_of a → EachRecord record_of b → EachRecord record_of (a ++ b)
  records_append [] b p q = q
  records_append (x ∷ a) b p q = (p.0, records_append a b p.1 q)

  over_map_good : (k : ℕ) (a b : Option Value) → GoodAt k (map record_of a) → GoodAt k (map record_of b)
      → GoodAt k (map record_of (over a b))
  over_map_good k a none p q = p
  over_map_good k a (some v) p q = q

  pub records_good : (l : List (KeyedSetting Value)) → EachRecord record_of l → Good (λ k. map record_of (last_of l k))
  records_good [] p k = tt
  records_good (x ∷ l) p k =
      over_map_good k (cond (eqb x.0 k) (some x.1) none) (last_of l k) (first (eqb x.0 k) refl) (records_good l p.1 k)
    where
      first : (b : Bool) → eqb x.0 k ≡ b → GoodAt k (map record_of (cond b (some x.1) none))
      first true e = subst (λ j. IsRecord j (record_of x.1)) (eqb-true _ _ e) p.0
      first false e = tt
