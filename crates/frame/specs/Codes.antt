-- The numbers of document 01 for frame metadata, and the longest block; that of a lent buffer too short is `wire`'s.
use Rattle.std.specs.Prelude.{ℕ}

-- fewer than 8 bytes for an item's header, or a size past the end of the block
abbrev pub truncated : ℕ
truncated = 0x40

-- an id that the reader, or the writer, does not take
abbrev pub invalid_id : ℕ
invalid_id = 0x41

-- a size that does not hold the item's own header
abbrev pub short_size : ℕ
short_size = 0x42

-- a block over the longest, read or to be written
abbrev pub too_long : ℕ
too_long = 0x43

abbrev pub no_item : ℕ
no_item = 0x44

-- the most bytes a block may have
abbrev pub longest_block : ℕ
longest_block = 65535
