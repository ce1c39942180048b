-- The snapshot of two runs of settings is the first's merged with the second's. Assumes nothing.
use Prim.Native.Nat.{ℕ}
use mathlib.Core.{Path.{◌≡◌, sym, ap, ap₂, ◌∙◌, fun_ext}, List.{List, ◌++◌}, Option.{map}}
use Rattle.snapshot.specs.{Records.{encode}, Given.{overs, KeyedSetting, last_of, snapshot_of}}
use Rattle.snapshot.proofs.Laws.{Maps.{decode_encode}, Given.{last_append, over_map, EachRecord, records_good}}
use Rattle.merging.specs.Merging.{merged}

module _ {Value : Type 0} (record_of : Value → List ℕ) where
  pub snapshot_append : (a b : List (KeyedSetting Value)) → EachRecord record_of a → EachRecord record_of b
      → snapshot_of record_of (last_of (a ++ b)) ≡ merged (snapshot_of record_of (last_of a)) (snapshot_of record_of (last_of b))
  unfolding merged
  snapshot_append a b p q =
      ap encode (fun_ext λ k. ap (map record_of) (last_append a b k) ∙ over_map record_of (last_of a k) (last_of b k))
      ∙ ap₂ (λ m n. encode (overs m n)) (sym (decode_encode _ (records_good record_of a p)))
      (sym (decode_encode _ (records_good record_of b q)))
