-- Document 01, "Metadata": four bytes, writable or read-only.
use Rattle.std.specs.Prelude.{ℕ}
use mathlib.Core.{List.{List, [], ◌∷◌}, Bool.{Bool, cond, not, ◌||◌}}
use Rattle.std.specs.Prelude.{◌≡◌, refl, leb, ltb, eqb}
use Rattle.wire.specs.{Numbers.{le_at, bytes_of}, Rows.{◌⇒◌, first_of}, Uvc.{get_cur, get_max, get_res, invalid_value, out_of_range}}
use Rattle.metadata.specs.declared.MetadataLimits.{MetadataLimits}
use Rattle.controls.specs.{Controls.{HeldNumber, Item, item_of, number_or}}
use Rattle.controls.specs.declared.Setting.TheVariants as S
use Rattle.request.specs.Answers.{answer_by}

abbrev pub metadata_valid : MetadataLimits → Bool
metadata_valid l = leb 1 l.maximum

-- above the maximum, then neither 0 nor the maximum
unfoldable pub metadata_refusal : MetadataLimits → ℕ → ℕ
metadata_refusal l n =
    first_of
    ((ltb l.maximum n ⇒ out_of_range)
    ∷ (not (eqb n 0 || eqb n l.maximum) ⇒ invalid_value)
    ∷ [])

unfoldable pub metadata_item : MetadataLimits → List ℕ → Item
metadata_item l payload =
    let n = le_at 4 payload 0 in
    item_of (metadata_refusal l n) (S.Metadata n)

pub metadata_tested : (l : MetadataLimits) (b : List ℕ)
    → item_of (metadata_refusal l (le_at 4 b 0)) (S.Metadata (le_at 4 b 0)) ≡ metadata_item l b
unfolding metadata_item
metadata_tested l b = refl

-- writable: RES is MAX, CUR the setting held, MIN and DEF 0; read-only: RES is 0, and the others MAX
unfoldable pub metadata_attribute : MetadataLimits → HeldNumber → ℕ → ℕ
metadata_attribute l held code =
    cond l.writable
    (cond (eqb code get_max || eqb code get_res) l.maximum (cond (eqb code get_cur) (number_or 0 held) 0))
    (cond (eqb code get_res) 0 l.maximum)

unfoldable pub metadata_info : MetadataLimits → ℕ
metadata_info l = cond l.writable 0x03 0x01

unfoldable pub metadata_answer : MetadataLimits → HeldNumber → ℕ → List ℕ
metadata_answer l held code = answer_by code 4 (metadata_info l) (bytes_of 4 (metadata_attribute l held code))
