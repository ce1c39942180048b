-- What the code hands back, in document 01's numbers.
use Rattle.std.specs.Prelude.{◌≡◌, ℕ, Result, Ok, Err, eqb, false, refl}
use Rattle.packet.specs.declared.{PayloadHeader.{PayloadHeader}, Refusal.{Refusal}, Refusal.TheVariants.{CutHeader, ShortHeader}}
use Rattle.packet.specs.Packet.{cut_header, short_header, HeaderAnswer, refused_header}

abbrev pub code_of : Refusal → ℕ
code_of CutHeader = cut_header
code_of ShortHeader = short_header

-- none is acceptance
pub is_refused : (e : Refusal) → eqb (code_of e) 0 ≡ false
is_refused CutHeader = refl
is_refused ShortHeader = refl

-- A refusal is told from the other by its number: so what `told` says of an answer determines it.
abbrev pub ToldApart : Type 0
ToldApart = (e f : Refusal) → code_of e ≡ code_of f → e ≡ f

abbrev pub told : Result PayloadHeader Refusal → HeaderAnswer
told (Ok h) = record { code = 0; flags = h.flags; metadata = h.metadata }
told (Err e) = refused_header (code_of e)
