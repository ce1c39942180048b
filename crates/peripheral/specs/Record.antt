-- Request #101: the unit's record.
use Rattle.std.specs.Prelude.{ℕ, Bool, ◌&&◌, ◌||◌, eqb, leb}
use Rattle.flags.specs.Flags.{is_one_of}
use Rattle.peripheral.specs.declared.record.Peripheral.{Peripheral}

-- every control at its default, and no occupants
abbrev pub fresh : (unit interface mask : ℕ) → Peripheral
fresh unit interface mask = record { unit = unit; interface = interface; mask = mask; mode = 0; toggle = 0; count = 0; reset = 0 }

-- a mode of frame strategy: 0, or exactly one bit of the mask
abbrev pub mode_valid : (mask mode : ℕ) → Bool
mode_valid mask mode = eqb mode 0 || is_one_of mask mode

-- the toggle and the reset byte are 0 or 1
abbrev pub is_switch : ℕ → Bool
is_switch n = leb n 1

-- the most occupants that are counted, which is the reading's maximum
abbrev pub most : ℕ
most = 0xFF

-- what calls can leave; every other record is 0x21
unfoldable pub record_well_formed : Peripheral → Bool
record_well_formed p = mode_valid p.mask p.mode && is_switch p.toggle && leb p.count most && is_switch p.reset

-- the same unit with another mode, toggle, count and reset byte, and with one of them changed
abbrev pub holding : Peripheral → (mode toggle count reset : ℕ) → Peripheral
holding p mode toggle count reset =
    record { unit = p.unit; interface = p.interface; mask = p.mask; mode = mode; toggle = toggle; count = count; reset = reset }

abbrev pub with_mode : Peripheral → ℕ → Peripheral
with_mode p mode = holding p mode p.toggle p.count p.reset

abbrev pub with_toggle : Peripheral → ℕ → Peripheral
with_toggle p toggle = holding p p.mode toggle p.count p.reset

abbrev pub with_count : Peripheral → ℕ → Peripheral
with_count p count = holding p p.mode p.toggle count p.reset

abbrev pub with_reset : Peripheral → ℕ → Peripheral
with_reset p reset = holding p p.mode p.toggle p.count reset
