-- The list of a snapshot's records in order agrees with the record of each key. Assumes nothing.
use Prim.Native.Nat.{ℕ, zero, suc, ◌+◌, ◌≤◌, ◌<◌}
use native.Mathlib.Omega.{arith}
use mathlib.Core.{Path.{◌≡◌, refl, sym, ap, ◌∙◌}, Bool.{Bool, true, false}, List.{List, [], ◌∷◌, ◌++◌}, Option.{Option, none, some}}
use lib.{ListN.{length, take, length-drop}, Dec.{leb, eqb}}
use borrow.Author.Tests.{leb-true, leb-false, eqb-true, eqb-false, ne_eqb}
use Rattle.snapshot.specs.{Keys.{keys, record_length}, Form.{sound_record, formed, well_formed}}
use Rattle.snapshot.specs.Records.{stands, skip, from, record_at, decode, record_bytes, records, encode, KeyedRecord, split, records_of}
use Rattle.snapshot.specs.Records.{find, Ascending, joined, IsRecord, GoodAt, Good, Each}
use Rattle.snapshot.proofs.Laws.Sound.{parts_sound, stands_sound, stands_size, stands_long, stands_some}
use Rattle.snapshot.proofs.Laws.Maps.{skip_at, skip_not, decode_good, none_above}
use Rattle.snapshot.proofs.Laws.Form.{empty_nil, formed_end, formed_at, formed_not, encode_decode}

-- the record of key k of a map, as a list of one or none
abbrev pub entry_at : ℕ → Option (List ℕ) → List KeyedRecord
entry_at k none = []
entry_at k (some r) = (k, r) ∷ []

-- the records of the n keys from k on of a map, in order
unfoldable pub entries : ℕ → ℕ → (ℕ → Option (List ℕ)) → List KeyedRecord
entries zero k m = []
entries (suc n) k m = entry_at k (m k) ++ entries n (suc k) m

split_nil : (fuel : ℕ) → split fuel [] ≡ []
unfolding split sound_record
split_nil zero = refl
split_nil (suc fuel) = refl

-- where a record of key k stands it is the first of the list, and where none stands the list is that of the later keys
split_at : (fuel k : ℕ) (t : List ℕ) (rest : List KeyedRecord) (b : Bool) → stands k t ≡ b → length t ≤ fuel → formed fuel k t ≡ true
    → ((f : ℕ) → length (skip k t) ≤ f → formed f (suc k) (skip k t) ≡ true → split f (skip k t) ≡ rest)
    → split fuel t ≡ entry_at k (record_at k t) ++ rest
unfolding skip record_at split
split_at zero k t rest true e l w ih = absurd (let p = stands_long k t e in let q = stands_some k t e in omega arith)
split_at (suc fuel) k t rest true e l w ih =
    let p = stands_sound k t e in
    let s = skip_at k t e in
    let r = ih fuel (rw s (simp length-drop (omega (arith, stands_some k t e)))) (rw s (sym (formed_at fuel k t e) ∙ w)) in
    simp (e, parts_sound t p.0, p.1, ← (stands_size k t e)) (ap (λ l. (k, take (record_length k) t) ∷ l) (rw s at r))
split_at fuel k t rest false e l w ih =
    let s = skip_not k t e in
    let r = ih fuel (rw s l) (rw s (sym (formed_not fuel k t e) ∙ w)) in
    simp e (rw s at r)

split_entries : (n fuel k : ℕ) (s : List ℕ) → length (from s k) ≤ fuel → n + k ≡ keys → formed fuel k (from s k) ≡ true
    → split fuel (from s k) ≡ entries n k (decode s)
unfolding entries decode from
split_entries zero fuel k s l h w =
    let q : k ≡ keys = omega arith in
    let e : from s k ≡ [] = empty_nil _ (sym (formed_end fuel (from s k)) ∙ ap (λ i. formed fuel i (from s k)) (sym q) ∙ w) in
    ap (split fuel) e ∙ split_nil fuel
split_entries (suc n) fuel k s l h w =
    split_at fuel k (from s k) (entries n (suc k) (decode s)) _ refl l w (λ f p q. split_entries n f (suc k) s p (omega arith) q)

-- the list of a well-formed snapshot's records is that of its map
pub records_entries : (s : List ℕ) → well_formed s ≡ true → records_of s ≡ entries keys 0 (decode s)
unfolding records_of well_formed from
records_entries s w = split_entries keys (length s) 0 s (omega arith) refl w

-- each of them is a record of its key
entries_each : (n k : ℕ) (m : ℕ → Option (List ℕ)) → Good m → Each IsRecord (entries n k m)
unfolding entries
entries_each zero k m g = tt
entries_each (suc n) k m g = go (m k) (g k) (entries_each n (suc k) m g)
  where
    go : (o : Option (List ℕ)) → GoodAt k o → Each IsRecord (entries n (suc k) m) → Each IsRecord (entry_at k o ++ entries n (suc k) m)
    go none p ih = ih
    go (some r) p ih = (p, ih)

pub each_record : (s : List ℕ) → well_formed s ≡ true → Each IsRecord (records_of s)
each_record s w = rw (records_entries s w) (entries_each keys 0 (decode s) (decode_good s))

-- what holds of each holds of any
pub each_at : (P : ℕ → List ℕ → Type 0) (before after : List KeyedRecord) (e : KeyedRecord) → Each P (before ++ (e ∷ after))
    → P e.0 e.1
each_at P [] after e a = a.0
each_at P (x ∷ before) after e a = each_at P before after e a.1

-- a key that is not among those passed is not found
find_none : (n k j : ℕ) (m : ℕ → Option (List ℕ)) → ((i : ℕ) → k ≤ i → i < n + k → i ≡ j → ⊥) → find j (entries n k m) ≡ none
unfolding entries
find_none zero k j m h = refl
find_none (suc n) k j m h = go (m k) (find_none n (suc k) j m (λ i p q. h i (omega arith) (omega arith)))
  where
    go : (o : Option (List ℕ)) → find j (entries n (suc k) m) ≡ none → find j (entry_at k o ++ entries n (suc k) m) ≡ none
    go none r = r
    go (some r) e = simp (ne_eqb k j (h k (omega arith) (omega arith))) e

find_entries : (n k j : ℕ) (m : ℕ → Option (List ℕ)) → k ≤ j → j < n + k → find j (entries n k m) ≡ m j
unfolding entries
find_entries zero k j m h l = absurd (omega arith)
find_entries (suc n) k j m h l = go (eqb k j) refl (m k) refl (λ (p : suc k ≤ j). find_entries n (suc k) j m p (omega arith))
  where
    go : (b : Bool) → eqb k j ≡ b → (o : Option (List ℕ)) → m k ≡ o → (suc k ≤ j → find j (entries n (suc k) m) ≡ m j)
        → find j (entry_at k o ++ entries n (suc k) m) ≡ m j
    go true e none q ih =
        let p : k ≡ j = eqb-true k j e in
        find_none n (suc k) j m (λ i a b. omega arith) ∙ sym q ∙ ap m p
    go true e (some r) q ih = let p : k ≡ j = eqb-true k j e in simp e (sym q ∙ ap m p)
    go false e none q ih = let p : k ≡ j → ⊥ = eqb-false k j e in ih (omega arith)
    go false e (some r) q ih = let p : k ≡ j → ⊥ = eqb-false k j e in simp e (ih (omega arith))

-- the record of each key in the list is that of the map
pub find_records : (s : List ℕ) → well_formed s ≡ true → (k : ℕ) → find k (records_of s) ≡ decode s k
find_records s w k = ap (find k) (records_entries s w) ∙ go (leb keys k) refl
  where
    go : (b : Bool) → leb keys k ≡ b → find k (entries keys 0 (decode s)) ≡ decode s k
    go true e =
        let h = leb-true keys k e in
        find_none keys 0 k (decode s) (λ i p q. omega arith) ∙ sym (none_above (decode s) (decode_good s) k h)
    go false e = let h = leb-false keys k e in find_entries keys 0 k (decode s) (omega arith) (omega arith)

entries_ascend : (n k low : ℕ) (m : ℕ → Option (List ℕ)) → low ≤ k → Ascending low (entries n k m)
unfolding entries
entries_ascend zero k low m h = tt
entries_ascend (suc n) k low m h = go (m k) (λ low (p : low ≤ suc k). entries_ascend n (suc k) low m p)
  where
    go : (o : Option (List ℕ)) → ((low : ℕ) → low ≤ suc k → Ascending low (entries n (suc k) m))
        → Ascending low (entry_at k o ++ entries n (suc k) m)
    go none ih = ih low (omega arith)
    go (some r) ih = (h, ih (suc k) (omega arith))

-- its keys ascend strictly
pub records_ascend : (s : List ℕ) → well_formed s ≡ true → Ascending 0 (records_of s)
records_ascend s w = rw (records_entries s w) (entries_ascend keys 0 0 (decode s) (omega arith))

entries_joined : (n k : ℕ) (m : ℕ → Option (List ℕ)) → joined (entries n k m) ≡ records n k m
unfolding entries records
entries_joined zero k m = refl
entries_joined (suc n) k m = go (m k) (entries_joined n (suc k) m)
  where
    go : (o : Option (List ℕ)) → joined (entries n (suc k) m) ≡ records n (suc k) m
        → joined (entry_at k o ++ entries n (suc k) m) ≡ record_bytes o ++ records n (suc k) m
    go none e = e
    go (some r) e = ap (λ l. r ++ l) e

-- its records are all its bytes
pub records_joined : (s : List ℕ) → well_formed s ≡ true → joined (records_of s) ≡ s
unfolding encode
records_joined s w = ap joined (records_entries s w) ∙ entries_joined keys 0 (decode s) ∙ encode_decode s w
