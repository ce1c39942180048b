-- Steps of the code: what the reader's private functions hand back, by what `specs/Items.antt` finds. No statement depends on this file.
use Rattle.std.specs.Prelude.{ℕ, suc, ◌+◌, Option, Some, None, Result, Ok, Err}
use mathlib.Core.{List.{List, [], ◌∷◌}, Bool.{cond}}
use lib.{ListN.{length}, Dec.{eqb}}
use Rattle.frame.specs.declared.{items.Item.{Item}, items.ItemHeader.{ItemHeader}, refusals.Refusal.{Refusal}}
use Rattle.frame.specs.{Answers.{code_of}, Codes.{no_item}, Items.{MetadataItem, Head, Bad, Whole, BlockReading, refused, sound}}
use Rattle.frame.specs.Items.{Found, Counted, refused_item, found_item, found_in, count_in}

-- one item by itself, as the code hands it back
abbrev pub told_head : Result ItemHeader Refusal → Head
told_head (Ok h) = Whole h.id h.size
told_head (Err e) = Bad (code_of e)

-- what one walk over a block finds: how many items, and the one asked for
pub record Survey : Type 0 where
  pub counted : Counted
  pub found : Found

-- both answers of one walk
abbrev pub survey_of : ℕ → BlockReading → Survey
survey_of k f = record { counted = count_in f; found = found_in k f }

-- of a block that is refused
abbrev pub stopped_at : ℕ → Survey
stopped_at code = record { counted = record { code = code; items = 0 }; found = refused_item code }

-- both as the code hands them back
abbrev pub told_found : Option Item → Found
told_found (Some i) = record { code = 0; id = i.id; unknown = i.unknown; payload = i.payload }
told_found None = refused_item no_item

abbrev pub told_survey : Result (ℕ × Option Item) Refusal → Survey
told_survey (Ok w) = record { counted = record { code = 0; items = w.0 }; found = told_found w.1 }
told_survey (Err e) = stopped_at (code_of e)

-- item n, at `at`, is passed while k is looked for
unfoldable pub pass_item : (k at n : ℕ) → Found → (id len : ℕ) → Found
pass_item k at n found id len = cond (eqb n k) (found_item id (at + 8) len) found

-- the walk goes on at `at` over these items, n of them passed
unfoldable pub walked_over : (k at n : ℕ) → Found → List MetadataItem → Survey
walked_over k at n found [] = record { counted = record { code = 0; items = n }; found = found }
walked_over k at n found (i ∷ is) =
    walked_over k (at + (8 + length i.payload)) (suc n) (pass_item k at n found i.id (length i.payload)) is

unfoldable pub onward : (k at n : ℕ) → Found → BlockReading → Survey
onward k at n found (refused code) = stopped_at code
onward k at n found (sound is) = walked_over k at n found is
