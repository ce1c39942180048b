-- Document 01, "EV": limits, SET's value tests, answers, and the number handed to the sensor.
use Rattle.std.specs.Prelude.{ℕ, ◌/◌}
use mathlib.Core.{List.{List, [], ◌∷◌, ◌++◌}, Bool.{Bool, cond, ◌&&◌}}
use lib.{Dec.{leb, ltb, eqb}, ListN.{get_or}, IntN.{ℤ, pos, negsuc, ◌*ℤ◌}, Signed.{le_z}}
use Rattle.wire.specs.{Numbers.{le_at, bytes_of, signed32, bits32}, Uvc.{get_cur, get_max, get_min, get_res, invalid_value, out_of_range}}
use Rattle.flags.specs.Flags.{Choice, one_flag}
use Rattle.std.specs.declared.option.Option.TheVariants.{Some, None}
use Rattle.exposure.specs.declared.EvLimits.{EvLimits}
use Rattle.controls.specs.{declared.EvSetting.{EvSetting}, Controls.{HeldEv, Item, item_of}}
use Rattle.std.specs.declared.option.Option.TheVariants as E
use Rattle.controls.specs.declared.Setting.TheVariants as S
use Rattle.request.specs.Answers.{answer_by}

-- whole stops from -128..0 to 0..127; steps within D0..D4, D4 among them
abbrev pub ev_valid : EvLimits → Bool
ev_valid l =
    le_z (negsuc 127) l.minimum && le_z l.minimum (pos 0) && le_z (pos 0) l.maximum && le_z l.maximum (pos 127)
    && leb 16 l.steps && ltb l.steps 32

-- how many steps make a stop: D0..D4 are steps of 1/6, 1/4, 1/3, 1/2 and 1 stop
abbrev pub divisor : ℕ → ℕ
divisor place = get_or (6 ∷ 4 ∷ 3 ∷ 2 ∷ []) place 1

-- the value, in steps of which d make a stop, lies between the limits
unfoldable pub in_range : EvLimits → ℕ → ℤ → Bool
in_range l d v = le_z (l.minimum *ℤ pos d) v && le_z v (l.maximum *ℤ pos d)

-- SET's value tests: exactly one flag and that one offered, then the value at that flag's step
unfoldable pub refusal_at : EvLimits → ℤ → Choice → ℕ
refusal_at l v None = invalid_value
refusal_at l v (Some place) = cond (in_range l (divisor place) v) 0 out_of_range

unfoldable pub ev_refusal : EvLimits → ℕ → ℤ → ℕ
ev_refusal l flags v = refusal_at l v (one_flag l.steps flags)

-- the payload: seven bytes of flags, then the value
abbrev pub ev_flags : List ℕ → ℕ
ev_flags payload = le_at 7 payload 0

abbrev pub ev_value : List ℕ → ℤ
ev_value payload = signed32 (le_at 4 payload 7)

-- what a SET of it comes to
unfoldable pub ev_item : EvLimits → List ℕ → Item
ev_item l payload =
    item_of (ev_refusal l (ev_flags payload) (ev_value payload)) (S.Ev (record { flags = ev_flags payload; value = ev_value payload }))

-- the payload of a setting
unfoldable pub ev_bytes : EvSetting → List ℕ
ev_bytes s = bytes_of 7 s.flags ++ bytes_of 4 (bits32 s.value)

-- the default is D4 and 0
abbrev pub ev_default : EvSetting
ev_default = record { flags = 16; value = pos 0 }

unfoldable pub ev_current : HeldEv → EvSetting
ev_current E.None = ev_default
ev_current (E.Some s) = s

-- the flags and the value of an answer: MIN, MAX, RES, CUR, else DEF
unfoldable pub ev_attribute : EvLimits → HeldEv → ℕ → EvSetting
ev_attribute l held code =
    cond (eqb code get_min) (record { flags = 16; value = l.minimum })
    (cond (eqb code get_max) (record { flags = 16; value = l.maximum })
    (cond (eqb code get_res) (record { flags = l.steps; value = pos 0 })
    (cond (eqb code get_cur) (ev_current held)
    ev_default)))

unfoldable pub ev_answer : EvLimits → HeldEv → ℕ → List ℕ
ev_answer l held code = answer_by code 11 0x13 (ev_bytes (ev_attribute l held code))

-- how many of the sensor's units make a stop (#103)
abbrev pub units_per_stop : ℕ
units_per_stop = 120

unfoldable pub scaled_at : EvLimits → ℤ → Choice → ℤ
scaled_at l v None = pos 0
scaled_at l v (Some place) = cond (in_range l (divisor place) v) (v *ℤ pos (units_per_stop / divisor place)) (pos 0)

unfoldable pub scaled : EvLimits → EvSetting → ℤ
scaled l s = cond (ev_valid l) (scaled_at l s.value (one_flag l.steps s.flags)) (pos 0)

-- what the sensor is handed; 0 where no setting is held, or none that SET accepts
unfoldable pub sensor_value : EvLimits → HeldEv → ℤ
sensor_value l E.None = pos 0
sensor_value l (E.Some s) = scaled l s
