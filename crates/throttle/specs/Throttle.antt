-- Document 01, "Throttle": mode and percent, behind them the limits.
use Rattle.std.specs.Prelude.{ℕ, ◌%◌}
use mathlib.Core.{List.{List, [], ◌∷◌, ◌++◌}, Bool.{Bool, cond, not, ◌&&◌, ◌||◌}}
use Rattle.std.specs.Prelude.{◌≡◌, refl, leb, ltb, eqb}
use Rattle.wire.specs.{Numbers.{le_at, bytes_of}, Rows.{◌⇒◌, first_of}}
use Rattle.wire.specs.Uvc.{get_cur, get_max, get_min, get_res, invalid_value, out_of_range}
use Rattle.throttle.specs.declared.ThrottleLimits.{ThrottleLimits}
use Rattle.controls.specs.{declared.ThrottleSetting.{ThrottleSetting}, Controls.{HeldThrottle, Item, item_of}}
use Rattle.std.specs.declared.option.Option.TheVariants as T
use Rattle.controls.specs.declared.Setting.TheVariants as S
use Rattle.request.specs.Answers.{answer_by}

-- n is a multiple of step
abbrev pub divides : ℕ → ℕ → Bool
divides step n = eqb (n % step) 0

-- 1 ≤ minimum ≤ maximum ≤ 100, and a step of at least 1 that divides both
abbrev pub throttle_valid : ThrottleLimits → Bool
throttle_valid l =
    leb 1 l.minimum && leb l.minimum l.maximum && leb l.maximum 100 && leb 1 l.step
    && divides l.step l.minimum && divides l.step l.maximum

-- the percent outside the limits, then a mode that is neither 0 nor 1 or a percent off the step
unfoldable pub throttle_refusal : ThrottleLimits → ℕ → ℕ → ℕ
throttle_refusal l mode percent =
    first_of
    ((ltb percent l.minimum || ltb l.maximum percent ⇒ out_of_range)
    ∷ (ltb 1 mode || not (divides l.step percent) ⇒ invalid_value)
    ∷ [])

-- bytes 8 to 19 of the payload are not looked at
unfoldable pub throttle_item : ThrottleLimits → List ℕ → Item
throttle_item l payload =
    let mode = le_at 4 payload 0 in
    let percent = le_at 4 payload 4 in
    item_of (throttle_refusal l mode percent) (S.Throttle (record { mode = mode; percent = percent }))

-- the mode and the percent of a payload
abbrev pub throttle_value : List ℕ → ThrottleSetting
throttle_value payload = record { mode = le_at 4 payload 0; percent = le_at 4 payload 4 }

pub throttle_tested : (l : ThrottleLimits) (b : List ℕ)
    → let s = throttle_value b in
    item_of (throttle_refusal l s.mode s.percent) (S.Throttle s) ≡ throttle_item l b
unfolding throttle_item
throttle_tested l b = refl

abbrev pub throttle_default : ThrottleLimits → ThrottleSetting
throttle_default l = record { mode = 0; percent = l.maximum }

unfoldable pub throttle_current : ThrottleLimits → HeldThrottle → ThrottleSetting
throttle_current l T.None = throttle_default l
throttle_current l (T.Some s) = s

-- MIN, MAX, RES, CUR, else DEF
unfoldable pub throttle_attribute : ThrottleLimits → HeldThrottle → ℕ → ThrottleSetting
throttle_attribute l held code =
    cond (eqb code get_min) (record { mode = 0; percent = l.minimum })
    (cond (eqb code get_max) (record { mode = 1; percent = l.maximum })
    (cond (eqb code get_res) (record { mode = 0; percent = l.step })
    (cond (eqb code get_cur) (throttle_current l held)
    (throttle_default l))))

-- mode and percent, with three numbers behind them
unfoldable pub throttle_bytes : ThrottleSetting → ThrottleLimits → List ℕ
throttle_bytes s tail =
    bytes_of 4 s.mode ++ bytes_of 4 s.percent ++ bytes_of 4 tail.minimum ++ bytes_of 4 tail.maximum ++ bytes_of 4 tail.step

-- a full answer has the limits behind them
unfoldable pub throttle_answer : ThrottleLimits → HeldThrottle → ℕ → List ℕ
throttle_answer l held code = answer_by code 20 0x03 (throttle_bytes (throttle_attribute l held code) l)
