-- Metadata: a payload reads back as its number, and what is accepted lies within the limits. Assumes nothing.
use mathlib.Core.{Path.{◌≡◌, refl}, List.{[], ◌∷◌}, Bool.{not, ◌||◌}}
use Prim.Native.Nat.{ℕ, ◌^◌, ◌<◌, ◌≤◌}
use lib.Dec.{eqb}
use borrow.Author.Tests.{ltb-false}
use Rattle.wire.specs.{Numbers.{bytes_of}, Rows.{◌⇒◌}, Uvc.{invalid_value, out_of_range}}
use Rattle.wire.proofs.Laws.{Rows.{quiet}, Bytes.{word_read}}
use Rattle.controls.specs.declared.Setting.TheVariants as S
use Rattle.controls.specs.Controls.{item_of}
use Rattle.metadata.specs.{declared.MetadataLimits.{MetadataLimits}, Metadata.{metadata_refusal, metadata_item}}

module _ (l : MetadataLimits) (n : ℕ) where
  pub metadata_read : n < 2 ^ 32 → metadata_item l (bytes_of 4 n) ≡ item_of (metadata_refusal l n) (S.Metadata n)
  unfolding metadata_item
  metadata_read h = rw (word_read n h)

  pub metadata_within : metadata_refusal l n ≡ 0 → n ≤ l.maximum
  unfolding metadata_refusal
  metadata_within h =
      ltb-false l.maximum n (quiet ((_ ⇒ out_of_range) ∷ (not (eqb n 0 || eqb n l.maximum) ⇒ invalid_value) ∷ []) [] refl h).0.0
