-- The known ones of items, and where they stand. Assumes nothing.
use Prim.Native.Nat.{ℕ, zero, suc, ◌+◌, ◌≤◌, ◌<◌}
use mathlib.Core.{Path.{◌≡◌, refl, ap}, List.{List, [], ◌∷◌}, Bool.{Bool, true, false, not, cond}}
use native.Mathlib.Omega.{arith}
use lib.ListN.{length, take, get_or}
use borrow.Author.Tests.{not-false}
use Rattle.frame.specs.{Ids.{is_known}, Items.{MetadataItem, absent, nth_item}, Cut.{known_of, known_index}}
use Rattle.frame.specs.{Items.{Readable}, Writer.{Writable}}

-- each of them is known
abbrev pub AllKnown : List MetadataItem → Type 0
AllKnown [] = Unit {0}
AllKnown (i ∷ is) = (is_known i.id ≡ true) × AllKnown is

pub known_all : (is : List MetadataItem) → AllKnown (known_of is)
unfolding known_of
known_all [] = tt
known_all (i ∷ is) = go (is_known i.id) refl (known_all is)
  where
    go : (b : Bool) → is_known i.id ≡ b → AllKnown (known_of is) → AllKnown (cond b (i ∷ known_of is) (known_of is))
    go true e a = (e, a)
    go false e a = a

-- then none is marked, and the other way round
pub unmarked : (at k : ℕ) (is : List MetadataItem) → AllKnown is → (nth_item at k is).unknown ≡ false
unfolding nth_item
unmarked at k [] a = refl
unmarked at zero (i ∷ is) a = ap not a.0
unmarked at (suc k) (i ∷ is) a = unmarked (at + (8 + length i.payload)) k is a.1

pub all_unmarked : (at : ℕ) (is : List MetadataItem) → ((k : ℕ) → (nth_item at k is).unknown ≡ false) → AllKnown is
unfolding nth_item
all_unmarked at [] u = tt
all_unmarked at (i ∷ is) u = (not-false _ (u 0), all_unmarked (at + (8 + length i.payload)) is (λ k. u (suc k)))

pub known_writable : (is : List MetadataItem) → Readable is → AllKnown is → Writable is
known_writable [] g a = tt
known_writable (i ∷ is) g a = (a.0, g.1, known_writable is g.2 a.1)

pub nth_known : (k : ℕ) (is : List MetadataItem) → AllKnown is → k < length is → is_known (get_or is k absent).id ≡ true
nth_known k [] a l = absurd (omega arith)
nth_known zero (i ∷ is) a l = a.0
nth_known (suc k) (i ∷ is) a l = nth_known k is a.1 (omega arith)

-- item j of these is known item k, which is item k of ks; or there is none, and j is past the last
pub record Kth (k j : ℕ) (is ks : List MetadataItem) : Type 0 where
  pub item : get_or is j absent ≡ get_or ks k absent
  pub number : (at to : ℕ) → (nth_item at j is).code ≡ (nth_item to k ks).code
  pub inside : k < length ks → j < length is
  pub before : k < length ks → length (known_of (take j is)) ≡ k
  pub none : length ks ≤ k → j ≡ length is

-- one item more in front: it is the one, a known one before it, or an unknown one before it
module _ (i : MetadataItem) (is ks : List MetadataItem) where
  here : Kth 0 0 (i ∷ is) (i ∷ ks)
  unfolding nth_item known_of
  here = record { item = refl; number = λ at to. refl; inside = λ l. omega arith; before = λ l. refl; none = λ l. absurd (omega arith) }

  module _ (k j : ℕ) (p : Kth k j is ks) where
    behind_known : is_known i.id ≡ true → Kth (suc k) (suc j) (i ∷ is) (i ∷ ks)
    unfolding nth_item known_of
    behind_known e = record {
      item = p.item;
      number = λ at to. p.number _ _;
      inside = λ l. omega (arith, p.inside (omega arith));
      before = λ l. rw e (ap suc (p.before (omega arith)));
      none = λ l. ap suc (p.none (omega arith));
    }

    behind_unknown : is_known i.id ≡ false → Kth k (suc j) (i ∷ is) ks
    unfolding nth_item known_of
    behind_unknown e = record {
      item = p.item;
      number = λ at to. p.number _ _;
      inside = λ l. omega (arith, p.inside l);
      before = λ l. rw e (p.before l);
      none = λ l. ap suc (p.none l);
    }

pub kth : (k : ℕ) (is : List MetadataItem) → Kth k (known_index k is) is (known_of is)
unfolding known_of known_index nth_item
kth k [] =
    record { item = refl; number = λ at to. refl; inside = λ l. absurd (omega arith); before = λ l. absurd (omega arith); none = λ l. refl }
kth zero (i ∷ is) = go (is_known i.id) refl (kth zero is)
  where
    go : (b : Bool) → is_known i.id ≡ b → Kth 0 (known_index 0 is) is (known_of is)
        → Kth 0 (cond b 0 (suc (known_index 0 is))) (i ∷ is) (cond b (i ∷ known_of is) (known_of is))
    go true e p = here i is (known_of is)
    go false e p = behind_unknown i is (known_of is) 0 _ p e
kth (suc k) (i ∷ is) = go (is_known i.id) refl (λ m. kth m is)
  where
    go : (b : Bool) → is_known i.id ≡ b → ((m : ℕ) → Kth m (known_index m is) is (known_of is))
        → Kth (suc k) (suc (known_index (cond b k (suc k)) is)) (i ∷ is) (cond b (i ∷ known_of is) (known_of is))
    go true e p = behind_known i is (known_of is) k _ (p k) e
    go false e p = behind_unknown i is (known_of is) (suc k) _ (p (suc k)) e
