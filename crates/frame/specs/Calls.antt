-- Every public call of this crate that can refuse, with its inputs, and all that it leaves: the definitions that the promises name.
use Rattle.std.specs.Prelude.{ℕ}
use mathlib.Core.{List.{List, [], ◌∷◌}, Bool.{Bool}}
use Rattle.std.specs.Prelude.{length}
use Rattle.wire.specs.declared.parts.Part.{Part}
use Rattle.frame.specs.{Items.{block_item, block_count}, Writer.{appended_of, written_of}}

-- `item` stands for `item_view` too, which has its answer and hands back the part itself at that place
pub data FrameCall : Type 0 where
  item : (block : List ℕ) (k : ℕ) → FrameCall
  count : (block : List ℕ) → FrameCall
  append : (buf : List ℕ) (at id : ℕ) (bytes : List ℕ) → FrameCall

-- the bytes lent for writing; what is lent for reading no call can write
abbrev pub frame_lent : FrameCall → List ℕ
frame_lent (item block k) = []
frame_lent (count block) = []
frame_lent (append buf at id bytes) = buf

-- its number, each number that it reports beside that, each mark, the place of each part, and the bytes lent for writing as they are at
-- exit
pub record FrameOutcome : Type 0 where
  pub code : ℕ
  pub numbers : List ℕ
  pub marks : List Bool
  pub parts : List Part
  pub buffer : List ℕ

unfoldable pub frame_outcome : FrameCall → FrameOutcome
frame_outcome (item block k) =
    let f = block_item block k in
    record { code = f.code; numbers = f.id ∷ []; marks = f.unknown ∷ []; parts = f.payload ∷ []; buffer = [] }
frame_outcome (count block) =
    let c = block_count block in
    record { code = c.code; numbers = c.items ∷ []; marks = []; parts = []; buffer = [] }
frame_outcome (append buf at id bytes) =
    let a = appended_of (length buf) at id (length bytes) in
    record { code = a.code; numbers = a.end ∷ []; marks = []; parts = []; buffer = written_of buf at id bytes }
