-- The laws of merging. Assumes nothing.
use Prim.Native.Nat.{ℕ, zero, suc, ◌≤◌}
use mathlib.Core.{Path.{◌≡◌, refl, sym, ap, ◌∙◌, fun_ext}, Logic.{◌⊎◌, inl, inr}, List.{List, []}, Option.{Option, none, some}, Bool.{true}}
use lib.ListN.{length}
use Rattle.snapshot.specs.{Keys.{longest_snapshot}, Form.{well_formed}, Records.{skip, from, record_at, decode, encode, GoodAt, Good}}
use Rattle.snapshot.specs.Given.{over, overs}
use Rattle.snapshot.proofs.Laws.{Given.{over_assoc, over_none}, Sound.{stands_nil}, Maps.{decode_good, decode_encode}}
use Rattle.snapshot.proofs.Laws.{Lengths.{encode_length}, Form.{encode_decode, encode_formed}}
use Rattle.merging.specs.Merging.{merged, Apart}

over_good : (k : ℕ) (a b : Option (List ℕ)) → GoodAt k a → GoodAt k b → GoodAt k (over a b)
over_good k a none p q = p
over_good k a (some r) p q = q

pub overs_good : (m n : ℕ → Option (List ℕ)) → Good m → Good n → Good (overs m n)
overs_good m n p q k = over_good k (m k) (n k) (p k) (q k)

-- of any two, well formed or not
both_good : (a b : List ℕ) → Good (overs (decode a) (decode b))
both_good a b = overs_good (decode a) (decode b) (decode_good a) (decode_good b)

pub decode_merged : (a b : List ℕ) → decode (merged a b) ≡ overs (decode a) (decode b)
unfolding merged
decode_merged a b = decode_encode _ (both_good a b)

pub merged_formed : (a b : List ℕ) → well_formed (merged a b) ≡ true
unfolding merged
merged_formed a b = encode_formed _ (both_good a b)

pub merged_length : (a b : List ℕ) → length (merged a b) ≤ longest_snapshot
unfolding merged
merged_length a b = encode_length _ (both_good a b)

pub over_comm : {A : Type 0} (a b : Option A) → (a ≡ none) ⊎ (b ≡ none) → over a b ≡ over b a
over_comm a b (inl e) = rw e (over_none b)
over_comm a b (inr e) = rw e (sym (over_none a))

pub overs_assoc : {A : Type 0} (m n o : ℕ → Option A) → overs (overs m n) o ≡ overs m (overs n o)
overs_assoc m n o = fun_ext λ k. over_assoc (m k) (n k) (o k)

pub merged_assoc : (a b c : List ℕ) → merged (merged a b) c ≡ merged a (merged b c)
unfolding merged
merged_assoc a b c =
    ap (λ m. encode (overs m (decode c))) (decode_merged a b)
    ∙ ap encode (overs_assoc (decode a) (decode b) (decode c))
    ∙ ap (λ m. encode (overs (decode a) m)) (sym (decode_merged b c))

pub decode_nil : decode [] ≡ (λ k. none)
unfolding decode record_at from skip
decode_nil = fun_ext λ k. rw (from_nil k) (simp (stands_nil k))
  where
    from_nil : (k : ℕ) → from [] k ≡ []
    from_nil zero = refl
    from_nil (suc k) = rw (from_nil k) (simp (stands_nil k))

pub merged_nil : (s : List ℕ) → well_formed s ≡ true → merged s [] ≡ s
unfolding merged
merged_nil s w = ap (λ m. encode (overs (decode s) m)) decode_nil ∙ encode_decode s w

pub nil_merged : (s : List ℕ) → well_formed s ≡ true → merged [] s ≡ s
unfolding merged
nil_merged s w =
    ap (λ m. encode (overs m (decode s))) decode_nil
    ∙ ap encode (fun_ext λ k. over_none (decode s k))
    ∙ encode_decode s w

pub merged_comm : (a b : List ℕ) → Apart a b → merged a b ≡ merged b a
unfolding merged
merged_comm a b h = ap encode (fun_ext λ k. over_comm (decode a k) (decode b k) (h k))
