-- Metadata ids: which a reader takes and which are known, two rules since request #105 of document 02.
use Rattle.std.specs.Prelude.{ℕ, Bool, ◌&&◌, ◌||◌, leb}

-- what document 01 knows, and the writer writes: Microsoft's own, MetadataId_Standard_Start 1 to MetadataId_Standard_End 6, and custom
-- ids, from MetadataId_Custom_Start 0x80000000 on
unfoldable pub is_known : ℕ → Bool
is_known id = (leb 1 id && leb id 6) || leb 0x80000000 id

-- what a reader takes: all but 0
unfoldable pub is_readable : ℕ → Bool
is_readable id = leb 1 id

-- #105's newer ids, by its own bounds. For statements alone: the mark goes by `is_known`
abbrev pub first_newer : ℕ
first_newer = 7

abbrev pub last_newer : ℕ
last_newer = 0x7FFFFFFF

unfoldable pub is_newer : ℕ → Bool
is_newer id = leb first_newer id && leb id last_newer
