-- What the theorems of this crate say: the owner's demands on frame metadata, and what request #105 of document 02 asks.
use Rattle.std.specs.Prelude.{ℕ, ◌+◌, ◌≤◌, ◌<◌}
use mathlib.Core.{Path.{◌≡◌}, List.{List, [], ◌∷◌, ◌++◌}, Bool.{true, false}}
use Rattle.std.specs.Prelude.{length, take, get_or, Result, Ok, Err}
use Rattle.std.specs.Borrow.{Bor}
use Rattle.frame.specs.declared.{view.ItemView.{ItemView as View}, refusals.Refusal.{Refusal}}
use Rattle.wire.specs.Parts.{nowhere}
use Rattle.frame.specs.{View.{ItemView}, Answers.{TellsView}, Codes.{invalid_id, no_item}}
use Rattle.frame.specs.{Ids.{is_known, is_newer}, Cut.{without_unknown, known_of, known_index}}
use Rattle.frame.specs.Items.{MetadataItem, absent, BlockReading, refused, sound, block_items_under, block_items, refused_item, found_in}
use Rattle.frame.specs.Items.{Readable, count_in, block_item, block_count, block_payload}
use Rattle.frame.specs.{Writer.{layout, Writable, Appended, appended_of, written_of}, Calls.{FrameCall, frame_lent, FrameOutcome}}

-- each of them is x
abbrev pub All : {A : Type 0} → A → List A → Type 0
All x [] = Unit {0}
All x (y ∷ ys) = (y ≡ x) × All x ys

-- Demand 1: a refused call changes no byte of a lent buffer. Document 01 adds that it reports zeros and an empty part,
-- and #105 that it is not marked.
pub record FrameRefused (c : FrameCall) (o : FrameOutcome) : Type 0 where
  pub unchanged : o.buffer ≡ frame_lent c
  pub zeros : All 0 o.numbers
  pub empty : All nowhere o.parts
  pub unmarked : All false o.marks

-- Demand 2: item k of a sound block is handed out with its id and its payload, marked where #105 says, and where there is none the answer
-- says so.
pub record HandedOut (block : List ℕ) (is : List MetadataItem) (k : ℕ) : Type 0 where
  pub there : k < length is → (block_item block k).code ≡ 0
  pub its_id : (block_item block k).id ≡ (get_or is k absent).id
  pub its_mark : (block_item block k).unknown ≡ is_newer (get_or is k absent).id
  pub its_payload : block_payload block k ≡ (get_or is k absent).payload
  pub no_other : length is ≤ k → block_item block k ≡ refused_item no_item

-- Demand 2: the payload that a view hands back is the item's, and stands where `item` says.
pub record Viewed (block : Bor (List ℕ)) (k : ℕ) (payload : Bor (List ℕ)) : Type 0 where
  pub memory : payload.ref_ptr.0 ≡ block.ref_ptr.0
  pub place : payload.ref_ptr.1 ≡ block.ref_ptr.1 + (block_item block.now k).payload.at
  pub bytes : payload.now ≡ block_payload block.now k

-- Demand 2: what we write reads back the same. An item appended behind a sound block is the last of the items there, and those before it
-- are handed out as they were.
pub record AppendReadsBack (block : List ℕ) (is : List MetadataItem) (i : MetadataItem) (new : List ℕ) : Type 0 where
  pub items : block_items new ≡ sound (is ++ i ∷ [])
  pub one_more : block_count new ≡ record { code = 0; items = length is + 1 }
  pub earlier : (k : ℕ) → k < length is → (block_item new k ≡ block_item block k) × (block_payload new k ≡ block_payload block k)
  pub last : block_item new (length is)
      ≡ record { code = 0; id = i.id; unknown = false; payload = record { at = length block + 8; len = length i.payload } }
  pub last_payload : block_payload new (length is) ≡ i.payload

-- the call that appends item i behind the block that a buffer begins with, and the buffer up to the end that it reports
abbrev pub appending : (block buf : List ℕ) → MetadataItem → Appended
appending block buf i = appended_of (length buf) (length block) i.id (length i.payload)

abbrev pub afterwards : (block buf : List ℕ) → MetadataItem → List ℕ
afterwards block buf i = take (appending block buf i).end (written_of buf (length block) i.id i.payload)

-- no item of the block is unknown
abbrev pub NoneUnknown : List ℕ → Type 0
NoneUnknown block = (k : ℕ) → (block_item block k).unknown ≡ false

-- Demand 2, the other way round: a sound block is its items laid out one behind the other; the writer could have written them, where none
-- is unknown.
pub record WrittenAgain (block : List ℕ) (is : List MetadataItem) : Type 0 where
  pub bytes : block ≡ layout is
  pub readable : Readable is
  pub writable : NoneUnknown block → Writable is

-- #105: an answer is marked exactly where its id is one of the newer, by that request's own bounds. A refusal's id is 0.
abbrev pub Marked : List ℕ → ℕ → Type 0
Marked block k = (block_item block k).unknown ≡ is_newer (block_item block k).id

-- #105: item k of one block and item l of another have the same number, id, mark and payload bytes
pub record SameItem (block : List ℕ) (k : ℕ) (other : List ℕ) (l : ℕ) : Type 0 where
  pub number : (block_item block k).code ≡ (block_item other l).code
  pub its_id : (block_item block k).id ≡ (block_item other l).id
  pub mark : (block_item block k).unknown ≡ (block_item other l).unknown
  pub payload : block_payload block k ≡ block_payload other l

-- the same of what two views hand back
pub record SameView (v w : ItemView) : Type 0 where
  pub number : v.code ≡ w.code
  pub its_id : v.id ≡ w.id
  pub mark : v.unknown ≡ w.unknown
  pub payload : v.payload.now ≡ w.payload.now

-- the same of what two calls of `item_view` answer: of two views, or the same refusal
abbrev pub SameTold : Result View Refusal → Result View Refusal → Type 0
SameTold (Ok v) (Ok w) = (v.id ≡ w.id) × (v.unknown ≡ w.unknown) × (v.payload.now ≡ w.payload.now)
SameTold (Ok v) (Err f) = ⊥
SameTold (Err e) (Ok w) = ⊥
SameTold (Err e) (Err f) = e ≡ f

-- #105: what `item_view` answers for known item k of a sound block, and for item k of the block with the unknown ones cut out, is the same
abbrev pub KnownTold : Type 0
KnownTold = (block cut : Bor (List ℕ)) (is : List MetadataItem) (k : ℕ) (r s : Result View Refusal)
    → block_items block.now ≡ sound is → cut.now ≡ without_unknown block.now
    → TellsView block (block_item block.now (known_index k is)) r → TellsView cut (block_item cut.now k) s → SameTold r s

-- #105: the known items of a sound block are those of the block with the unknown ones cut out, which is sound, no longer, and has no
-- unknown item; known item k of the block is item k of the cut block.
pub record KnownStay (block : List ℕ) (is : List MetadataItem) : Type 0 where
  pub items : block_items (without_unknown block) ≡ sound (known_of is)
  pub none_unknown : NoneUnknown (without_unknown block)
  pub shorter : length (without_unknown block) ≤ length block
  pub same : (k : ℕ) → SameItem block (known_index k is) (without_unknown block) k

-- which number `known_index` is: the item there is known, and k known ones stand before it; or, where there is none, it is past the last
pub record KnownIndex (is : List MetadataItem) (k : ℕ) : Type 0 where
  pub there : k < length (known_of is) → (known_index k is < length is) × (is_known (get_or is (known_index k is) absent).id ≡ true)
  pub before : k < length (known_of is) → length (known_of (take (known_index k is) is)) ≡ k
  pub none : length (known_of is) ≤ k → known_index k is ≡ length is

-- #105: a sound block without unknown items is its own cut.
abbrev pub NothingCut : List ℕ → Type 0
NothingCut block = NoneUnknown block → without_unknown block ≡ block

-- what the rules before #105 read in a block: known ids alone
abbrev pub read_before : List ℕ → BlockReading
read_before = block_items_under is_known

abbrev pub TakenBefore : List ℕ → Type 0
TakenBefore block = read_before block ≡ refused invalid_id → ⊥

-- #105: a block is read as by those rules: its first fault or its items, the count, each item, none of them marked.
pub record ReadAsBefore (block : List ℕ) : Type 0 where
  pub items : block_items block ≡ read_before block
  pub counted : block_count block ≡ count_in (read_before block)
  pub found : (k : ℕ) → block_item block k ≡ found_in k (read_before block)
  pub none_unknown : NoneUnknown block
