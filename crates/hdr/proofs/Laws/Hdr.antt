-- HDR: a payload reads back as its number, and what is accepted is a mode. Assumes nothing.
use mathlib.Core.{Path.{◌≡◌, refl}, List.{[], ◌∷◌}, Bool.{not, ◌&&◌}}
use Prim.Native.Nat.{ℕ, ◌^◌, ◌<◌, ◌≤◌}
use lib.Dec.{eqb}
use borrow.Author.Tests.{ltb-false}
use Rattle.wire.specs.{Numbers.{bytes_of}, Rows.{◌⇒◌}, Uvc.{invalid_value, out_of_range}}
use Rattle.wire.proofs.Laws.{Rows.{quiet}, Bytes.{word_read}}
use Rattle.controls.specs.declared.Setting.TheVariants as S
use Rattle.controls.specs.Controls.{item_of}
use Rattle.hdr.specs.{declared.HdrLimits.{HdrLimits}, Hdr.{hdr_refusal, hdr_item}}

module _ (l : HdrLimits) (n : ℕ) where
  pub hdr_read : n < 2 ^ 32 → hdr_item l (bytes_of 4 n) ≡ item_of (hdr_refusal l n) (S.Hdr n)
  unfolding hdr_item
  hdr_read h = rw (word_read n h)

  pub hdr_within : hdr_refusal l n ≡ 0 → n ≤ 2
  unfolding hdr_refusal
  hdr_within h = ltb-false 2 n (quiet ((_ ⇒ out_of_range) ∷ (eqb n 2 && not l.auto ⇒ invalid_value) ∷ []) [] refl h).0.0
