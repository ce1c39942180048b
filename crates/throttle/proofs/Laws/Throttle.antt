-- Throttle: a payload reads back as its mode and percent, and what is accepted lies within the limits. Assumes nothing.
use mathlib.Core.{Path.{◌≡◌, refl}, List.{List, [], ◌∷◌}, Bool.{Bool, true, false, true≢false, ◌||◌}}
use Prim.Native.Nat.{ℕ, ◌^◌, ◌<◌, ◌≤◌}
use lib.{Dec.{ltb}, ListN.{length, replicate}}
use borrow.Author.Tests.{ltb-false}
use Rattle.wire.specs.{Numbers.{le_at, bytes_of}, Rows.{◌⇒◌}, Uvc.{invalid_value, out_of_range}, Writes.{overlay}}
use Rattle.wire.proofs.Laws.{Rows.{quiet}, Bytes.{number_bytes}}
use Rattle.controls.specs.{declared.ThrottleSetting.{ThrottleSetting}, Controls.{item_of}}
use Rattle.controls.specs.declared.Setting.TheVariants as S
use Rattle.throttle.specs.{declared.ThrottleLimits.{ThrottleLimits}, Throttle.{throttle_refusal, throttle_item, throttle_bytes}}

-- a throttle's mode and percent, whatever stands behind them
module _ (s : ThrottleSetting) (tail : ThrottleLimits) where
  pub throttle_length : length (throttle_bytes s tail) ≡ 20
  unfolding throttle_bytes bytes_of
  throttle_length = refl

  throttle_mode : s.mode < 2 ^ 32 → le_at 4 (throttle_bytes s tail) 0 ≡ s.mode
  unfolding le_at throttle_bytes bytes_of
  throttle_mode h = number_bytes 4 s.mode h

  throttle_percent : s.percent < 2 ^ 32 → le_at 4 (throttle_bytes s tail) 4 ≡ s.percent
  unfolding le_at throttle_bytes bytes_of
  throttle_percent h = number_bytes 4 s.percent h

  pub throttle_read : (l : ThrottleLimits) → s.mode < 2 ^ 32 → s.percent < 2 ^ 32
      → throttle_item l (throttle_bytes s tail) ≡ item_of (throttle_refusal l s.mode s.percent) (S.Throttle s)
  unfolding throttle_item
  throttle_read l m p = rw (throttle_mode m, throttle_percent p)

-- five numbers, each written at its place in 20 bytes
pub throttle_written : (s : ThrottleSetting) (tail : ThrottleLimits)
    → let z : List ℕ = replicate 20 0 in
    let b = overlay z 0 (bytes_of 4 s.mode) in
    let c = overlay (overlay b 4 (bytes_of 4 s.percent)) 8 (bytes_of 4 tail.minimum) in
    overlay (overlay c 12 (bytes_of 4 tail.maximum)) 16 (bytes_of 4 tail.step) ≡ throttle_bytes s tail
unfolding throttle_bytes overlay bytes_of
throttle_written s tail = refl

neither : (a b : Bool) → (a || b) ≡ false → (a ≡ false) × (b ≡ false)
neither true b h = absurd (true≢false h)
neither false b h = (refl, h)

pub throttle_within : (l : ThrottleLimits) (mode percent : ℕ) → throttle_refusal l mode percent ≡ 0 → (mode ≤ 1) × (percent ≤ l.maximum)
unfolding throttle_refusal
throttle_within l mode percent h =
    let q = (quiet ((_ ⇒ out_of_range) ∷ (_ ⇒ invalid_value) ∷ []) [] refl h).0 in (
      ltb-false 1 mode (neither (ltb 1 mode) _ q.1.0).0,
      ltb-false l.maximum percent
          (neither (ltb percent l.minimum) _ q.0).1,
    )
