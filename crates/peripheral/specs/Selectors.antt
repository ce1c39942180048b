-- Selectors of the peripheral control unit's controls, by 002's names.
use Rattle.std.specs.Prelude.{ℕ}

-- GOOGXU_FRAME_STRATEGY
abbrev pub strategy : ℕ
strategy = 0x01

-- GOOGXU_OCCUPANCY_COUNTING_TOGGLE
abbrev pub toggle : ℕ
toggle = 0x03

-- GOOGXU_OCCUPANCY_COUNTING_READ
abbrev pub reading : ℕ
reading = 0x04

-- GOOGXU_STATUS_RESET
abbrev pub reset : ℕ
reset = 0x06

-- bmControls: D0, D2, D3 and D5, the bits of these four
abbrev pub presence : ℕ
presence = 0x2D
