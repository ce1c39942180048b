-- Laws of exposure compensation. Assumes nothing.
use mathlib.Core.{Path.{◌≡◌, refl, ap, ap₂, sym, ◌∙◌}, Bool.{Bool, true, false, cond, and-eq-true_iff}, List.{List, [], ◌∷◌, ◌++◌}}
use Prim.Native.Nat.{ℕ, zero, suc, ◌<◌, ◌/◌}
use native.Mathlib.{Nat.{lt_of_le_of_lt}, Omega.{arith}}
use lib.{Dec.{lit<, lit≤}, ListN.{length, take, drop, get_or, length-drop, take-append-drop}, Seq.{take_all}, IntN.{ℤ, pos, negsuc, ◌*ℤ◌}}
use lib.Signed.{mag, le_z, quot_z}
use mir.Syntax.{w32}
use mir.Val.{SFits, to_z, of_z}
use mir.Facts.{to_z-of_z, to_z_pos}
use borrow.Author.Tests.{ltb-true}
use Rattle.wire.specs.{Uvc.{invalid_value, out_of_range}, Numbers.{le_at, bytes_of, signed32, bits32}}
use Rattle.flags.specs.Flags.{Choice, one_flag}
use Rattle.std.specs.declared.option.Option.TheVariants.{Some}
use Rattle.std.specs.declared.option.Option.TheVariants as C
use Rattle.wire.proofs.Laws.{Numbers.{Bytes, below}, Signed.{bits_below, signed_bits, bits_signed}}
use Rattle.wire.proofs.Laws.Bytes.{number_bytes, bytes_byte, bytes-at, first_part, second_part}
use Rattle.exposure.specs.declared.EvLimits.{EvLimits}
use Rattle.exposure.specs.Exposure.{ev_valid, divisor, in_range, refusal_at, ev_refusal, ev_flags, ev_value, ev_item, ev_bytes}
use Rattle.exposure.specs.Exposure.{units_per_stop, scaled_at, scaled}
use Rattle.controls.specs.declared.EvSetting.{EvSetting}
use Rattle.controls.specs.Controls.{item_of}
use Rattle.controls.specs.declared.Setting.TheVariants as S
use Rattle.exposure.proofs.Laws.Bounds.{mag_mul, between, small_fits, small_held, quotient_small, small_product}

-- between 1 and 6 steps make a stop
pub divisor_pos : (place : ℕ) → 0 < divisor place
divisor_pos zero = lit< tt
divisor_pos (suc zero) = lit< tt
divisor_pos (suc (suc zero)) = lit< tt
divisor_pos (suc (suc (suc zero))) = lit< tt
divisor_pos (suc (suc (suc (suc n)))) = lit< tt

pub divisor_small : (place : ℕ) → divisor place < 7
divisor_small zero = lit< tt
divisor_small (suc zero) = lit< tt
divisor_small (suc (suc zero)) = lit< tt
divisor_small (suc (suc (suc zero))) = lit< tt
divisor_small (suc (suc (suc (suc n)))) = lit< tt

-- SET's value tests, by the first that fails
module _ (l : EvLimits) (flags : ℕ) (v : ℤ) where
  pub refused_flags : one_flag l.steps flags ≡ C.None → ev_refusal l flags v ≡ invalid_value
  unfolding ev_refusal refusal_at
  refused_flags e = rw e

  module _ (place : ℕ) (e : one_flag l.steps flags ≡ Some place) where
    pub refused_value : in_range l (divisor place) v ≡ false → ev_refusal l flags v ≡ out_of_range
    unfolding ev_refusal refusal_at
    refused_value r = rw (e, r)

    pub accepted : in_range l (divisor place) v ≡ true → ev_refusal l flags v ≡ 0
    unfolding ev_refusal refusal_at
    accepted r = rw (e, r)

  taken : (x : Choice) → refusal_at l v x ≡ 0 → (place : ℕ) × ((x ≡ Some place) × (in_range l (divisor place) v ≡ true))
  unfolding refusal_at
  taken C.None e = absurd (omega arith)
  taken (Some place) e = (place, (refl, go (in_range l (divisor place) v) e))
    where
      go : (b : Bool) → ◌≡◌ {A = ℕ} (cond b 0 out_of_range) 0 → b ≡ true
      go true f = refl
      go false f = absurd (omega arith)

  -- what is accepted is one flag, of the low byte, and a value in range at its step
  module _ (h : ev_refusal l flags v ≡ 0) where
    pub accepts : (place : ℕ) × ((one_flag l.steps flags ≡ Some place) × (in_range l (divisor place) v ≡ true))
    unfolding ev_refusal
    accepts = taken (one_flag l.steps flags) h

-- a value in range lies between the limits, each times d
pub range_between : (l : EvLimits) (d : ℕ) (v : ℤ) → in_range l d v ≡ true
    → (le_z (l.minimum *ℤ pos d) v ≡ true) × (le_z v (l.maximum *ℤ pos d) ≡ true)
unfolding in_range
range_between l d v r = (and-eq-true_iff (le_z (l.minimum *ℤ pos d) v) (le_z v (l.maximum *ℤ pos d))).0 r

-- valid limits: stops from -128..0 to 0..127, and no step beyond D4; a value in their range is small
module _ (l : EvLimits) (h : ev_valid l ≡ true) where
  pub minimum_from : le_z (negsuc 127) l.minimum ≡ true
  minimum_from = let p = simp and-eq-true_iff at h in p.0.0.0.0.0

  pub maximum_to : le_z l.maximum (pos 127) ≡ true
  maximum_to = let p = simp and-eq-true_iff at h in p.0.0.1

  pub steps_below : l.steps < 32
  steps_below = let p = simp and-eq-true_iff at h in ltb-true l.steps 32 p.1

  minimum_small : mag l.minimum < 128
  minimum_small =
      let p = simp and-eq-true_iff at h in
      between 128 (negsuc 127) l.minimum (pos 0) minimum_from p.0.0.0.0.1 (lit< tt) (lit< tt)

  maximum_small : mag l.maximum < 128
  maximum_small =
      let p = simp and-eq-true_iff at h in between 128 (pos 0) l.maximum (pos 127) p.0.0.0.1 maximum_to (lit< tt) (lit< tt)

  pub range_small : (place : ℕ) (v : ℤ) → in_range l (divisor place) v ≡ true → mag v < 1024
  range_small place v r =
      let d = divisor place in
      let p = range_between l d v r in
      between 1024 (l.minimum *ℤ pos d) v (l.maximum *ℤ pos d) p.0 p.1
      (lt_of_le_of_lt (mag_mul l.minimum (pos d) 128 7 minimum_small (divisor_small place)) (lit< tt))
      (lt_of_le_of_lt (mag_mul l.maximum (pos d) 128 7 maximum_small (divisor_small place)) (lit< tt))

-- the sensor's number, at a value in range
module _ (l : EvLimits) (s : EvSetting) (h : ev_valid l ≡ true) (place : ℕ) (e : one_flag l.steps s.flags ≡ Some place) where
  pub scaled_is : in_range l (divisor place) s.value ≡ true → scaled l s ≡ s.value *ℤ pos (units_per_stop / divisor place)
  unfolding scaled scaled_at
  scaled_is r = rw (h, e, r)

  -- as the code works it out: the units of a step in a register, and the value times them
  module _ (r : in_range l (divisor place) s.value ≡ true) (y : ℤ) (k : y ≡ pos (divisor place)) where
    abbrev factor : ℤ
    factor = quot_z (pos units_per_stop) (to_z w32 (of_z w32 y))

    small : mag s.value < 1024
    small = range_small l h place s.value r

    factor_small : mag factor < 1024
    factor_small = quotient_small (pos units_per_stop) (lit< tt) (divisor place) y k (divisor_small place)

    factor_is : factor ≡ pos (units_per_stop / divisor place)
    factor_is =
        ap (λ (z : ℤ). quot_z (pos units_per_stop) (to_z w32 (of_z w32 z))) k
        ∙ ap (quot_z (pos units_per_stop)) (to_z_pos w32 (omega (arith, divisor_small place)))

    scaled_fits : SFits w32 (to_z w32 (of_z w32 s.value) *ℤ to_z w32 (of_z w32 factor))
    scaled_fits =
        small_product (to_z w32 (of_z w32 s.value)) (to_z w32 (of_z w32 factor)) (small_held s.value small) (small_held factor factor_small)

    pub scaled_held : to_z w32 (of_z w32 (to_z w32 (of_z w32 s.value) *ℤ to_z w32 (of_z w32 factor))) ≡ scaled l s
    scaled_held =
        to_z-of_z scaled_fits
        ∙ ap₂ ◌*ℤ◌ (to_z-of_z (small_fits s.value small)) (to_z-of_z (small_fits factor factor_small) ∙ factor_is)
        ∙ sym (scaled_is r)

-- a setting's payload byte by byte, with the value's four bytes in n
pub ev_bytes_are : (s : EvSetting) (n : List ℕ) → s.flags < 256 → n ≡ bytes_of 4 (bits32 s.value)
    → s.flags ∷ 0 ∷ 0 ∷ 0 ∷ 0 ∷ 0 ∷ 0 ∷ get_or n 0 0 ∷ get_or n 1 0 ∷ get_or n 2 0 ∷ get_or n 3 0 ∷ [] ≡ ev_bytes s
unfolding ev_bytes bytes_of
ev_bytes_are s n h e =
    ap (λ (l : List ℕ). s.flags ∷ 0 ∷ 0 ∷ 0 ∷ 0 ∷ 0 ∷ 0 ∷ get_or l 0 0 ∷ get_or l 1 0 ∷ get_or l 2 0 ∷ get_or l 3 0 ∷ []) e
    ∙ ap (λ (l : List ℕ). l ++ bytes_of 4 (bits32 s.value)) (sym (bytes_byte 6 s.flags h))

-- a setting's payload reads back as the setting
module _ (s : EvSetting) (h : s.flags < 256) (f : SFits w32 s.value) where
  pub ev_flags_lem : ev_flags (ev_bytes s) ≡ s.flags
  unfolding ev_bytes bytes_of
  ev_flags_lem = first_part (bytes_of 7 s.flags) (bytes_of 4 (bits32 s.value)) ∙ number_bytes 7 s.flags (omega arith)

  pub ev_value_lem : ev_value (ev_bytes s) ≡ s.value
  unfolding ev_bytes bytes_of
  ev_value_lem =
      let n = bits32 s.value in
      let e : le_at 4 (ev_bytes s) 7 ≡ n = second_part (bytes_of 7 s.flags) (bytes_of 4 n) ∙ number_bytes 4 n (bits_below s.value f) in
      ap signed32 e ∙ signed_bits s.value f

  pub ev_read : (l : EvLimits) → ev_item l (ev_bytes s) ≡ item_of (ev_refusal l s.flags s.value) (S.Ev s)
  unfolding ev_item
  ev_read l = rw (ev_flags_lem, ev_value_lem)

-- and a payload of that length is that of the setting it reads as
pub ev_bytes_lem : (payload : List ℕ) → length payload ≡ 11 → Bytes payload
    → ev_bytes (record { flags = ev_flags payload; value = ev_value payload }) ≡ payload
unfolding ev_bytes
ev_bytes_lem payload n b =
    let value : bits32 (ev_value payload) ≡ le_at 4 payload 7 = bits_signed (le_at 4 payload 7) (below 4 4 payload 7 b (lit≤ tt)) in
    let rest : take 4 (drop 7 payload) ≡ drop 7 payload = take_all 4 (drop 7 payload) (simp length-drop (omega arith)) in
    ap₂ ◌++◌ (bytes-at 7 payload 0 (omega arith) b) (ap (bytes_of 4) value ∙ bytes-at 4 payload 7 (omega arith) b ∙ rest)
    ∙ take-append-drop 7 payload
