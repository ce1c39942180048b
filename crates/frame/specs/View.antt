-- What a view of an item is: the answer of `item`, and at the place that it gives the part itself of the caller's block.
use Rattle.std.specs.Prelude.{ℕ}
use mathlib.Core.{Path.{◌≡◌}, List.{List}, Bool.{Bool}}
use Rattle.std.specs.Borrow.{Bor}
use Rattle.wire.specs.Parts.{PartOf}
use Rattle.frame.specs.Items.{Found}

-- an item's id, whether it is unknown, and its payload, with code 0; or a refusal
pub record ItemView : Type 0 where
  pub code : ℕ
  pub id : ℕ
  pub unknown : Bool
  pub payload : Bor (List ℕ)

pub record Views (block : Bor (List ℕ)) (f : Found) (v : ItemView) : Type 0 where
  pub same_code : v.code ≡ f.code
  pub same_id : v.id ≡ f.id
  pub same_mark : v.unknown ≡ f.unknown
  pub part : PartOf block f.payload v.payload
