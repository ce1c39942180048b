-- What the public functions hand back, in document 01's numbers.
use Rattle.std.specs.Prelude.{ℕ, ◌≡◌, List, Result, Ok, Err, eqb, false, refl}
use Rattle.std.specs.Borrow.{Bor}
use Rattle.wire.specs.Uvc.{no_room}
use Rattle.frame.specs.declared.{items.Item.{Item}, view.ItemView.{ItemView as View}, refusals.Refusal.{Refusal}}
use Rattle.frame.specs.declared.refusals.Refusal.TheVariants.{Truncated, InvalidId, ShortSize, TooLong, NoItem, NoRoom}
use Rattle.frame.specs.Codes.{truncated, invalid_id, short_size, too_long, no_item}
use Rattle.frame.specs.{Items.{Found, Counted, refused_item}, View.{Views}, Writer.{Appended}}

abbrev pub code_of : Refusal → ℕ
code_of Truncated = truncated
code_of InvalidId = invalid_id
code_of ShortSize = short_size
code_of TooLong = too_long
code_of NoItem = no_item
code_of NoRoom = no_room

-- none is acceptance
pub is_refused : (e : Refusal) → eqb (code_of e) 0 ≡ false
is_refused Truncated = refl
is_refused InvalidId = refl
is_refused ShortSize = refl
is_refused TooLong = refl
is_refused NoItem = refl
is_refused NoRoom = refl

-- A refusal is told from any other by its number: so what the next four say of an answer determines it.
abbrev pub ToldApart : Type 0
ToldApart = (e f : Refusal) → code_of e ≡ code_of f → e ≡ f

abbrev pub told_item : Result Item Refusal → Found
told_item (Ok i) = record { code = 0; id = i.id; unknown = i.unknown; payload = i.payload }
told_item (Err e) = refused_item (code_of e)

abbrev pub told_count : Result ℕ Refusal → Counted
told_count (Ok n) = record { code = 0; items = n }
told_count (Err e) = record { code = code_of e; items = 0 }

abbrev pub told_end : Result ℕ Refusal → Appended
told_end (Ok end) = record { code = 0; end = end }
told_end (Err e) = record { code = code_of e; end = 0 }

-- of the item found, its view, with the part itself of the caller's block; with none, the refusal
abbrev pub TellsView : Bor (List ℕ) → Found → Result View Refusal → Type 0
TellsView block f (Ok v) = Views block f (record { code = 0; id = v.id; unknown = v.unknown; payload = v.payload })
TellsView block f (Err e) = f ≡ refused_item (code_of e)
