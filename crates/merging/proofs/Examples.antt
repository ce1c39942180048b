-- A merge worked out from the definitions. Assumes nothing.
use mathlib.Core.{Path.{◌≡◌, refl}, List.{◌++◌}}
use Rattle.wire.specs.Numbers.{le_at, number}
use Rattle.snapshot.specs.{Form.{sound_record, stated_key}, Records.{stands, skip, from, record_at, decode, records, encode}}
use Rattle.snapshot.proofs.Examples.{ev, face, hdr}
use Rattle.merging.specs.Merging.{merged}

-- the second's HDR wins, and the records interleave
both : merged (face 0x82 1 ++ hdr 1) (ev ++ face 0x81 2 ++ hdr 0) ≡ ev ++ face 0x81 2 ++ face 0x82 1 ++ hdr 0
unfolding le_at number merged encode records decode record_at from skip stands sound_record stated_key ev face hdr
both = refl
