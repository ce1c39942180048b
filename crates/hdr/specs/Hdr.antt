-- Document 01, "HDR": four bytes, 0 off, 1 on, 2 auto.
use Rattle.std.specs.Prelude.{ℕ}
use mathlib.Core.{List.{List, [], ◌∷◌}, Bool.{cond, not, ◌&&◌}}
use Rattle.std.specs.Prelude.{◌≡◌, refl, ltb, eqb}
use Rattle.wire.specs.{Numbers.{le_at, bytes_of}, Rows.{◌⇒◌, first_of}, Uvc.{get_cur, get_max, invalid_value, out_of_range}}
use Rattle.controls.specs.{Controls.{HeldNumber, Item, item_of, number_or}}
use Rattle.hdr.specs.declared.HdrLimits.{HdrLimits}
use Rattle.controls.specs.declared.Setting.TheVariants as S
use Rattle.request.specs.Answers.{answer_by}

-- above 2, then 2 without Auto
unfoldable pub hdr_refusal : HdrLimits → ℕ → ℕ
hdr_refusal l n =
    first_of
    ((ltb 2 n ⇒ out_of_range)
    ∷ (eqb n 2 && not l.auto ⇒ invalid_value)
    ∷ [])

unfoldable pub hdr_item : HdrLimits → List ℕ → Item
hdr_item l payload =
    let n = le_at 4 payload 0 in
    item_of (hdr_refusal l n) (S.Hdr n)

pub hdr_tested : (l : HdrLimits) (b : List ℕ) → item_of (hdr_refusal l (le_at 4 b 0)) (S.Hdr (le_at 4 b 0)) ≡ hdr_item l b
unfolding hdr_item
hdr_tested l b = refl

-- MAX is 1, or 3 with Auto; CUR the setting held; MIN, RES and DEF 0
unfoldable pub hdr_attribute : HdrLimits → HeldNumber → ℕ → ℕ
hdr_attribute l held code = cond (eqb code get_max) (cond l.auto 3 1) (cond (eqb code get_cur) (number_or 0 held) 0)

unfoldable pub hdr_answer : HdrLimits → HeldNumber → ℕ → List ℕ
hdr_answer l held code = answer_by code 4 0x03 (bytes_of 4 (hdr_attribute l held code))
