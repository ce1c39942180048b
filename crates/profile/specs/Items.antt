-- What a SET's payload comes to, item by item: the first refusal answers.
use Rattle.std.specs.Prelude.{ℕ}
use mathlib.Core.{List.{List}, Bool.{cond}}
use lib.{Dec.{eqb}, ListN.{get_or}}
use Rattle.wire.specs.Selectors.{ev, face, metadata, hdr}
use Rattle.controls.specs.Controls.{Item, item_code, first_refusal}
use Rattle.exposure.specs.Exposure.{ev_item}
use Rattle.entries.specs.Entries.{face_item}
use Rattle.metadata.specs.Metadata.{metadata_item}
use Rattle.hdr.specs.Hdr.{hdr_item}
use Rattle.throttle.specs.Throttle.{throttle_item}
use Rattle.profile.specs.declared.Profile.{Profile}

-- how many items a SET's payload has: face authentication's entries, else one
abbrev pub item_count : ℕ → List ℕ → ℕ
item_count selector payload = cond (eqb selector face) (get_or payload 0 0) 1

-- item i of a SET's payload
unfoldable pub profile_item : Profile → ℕ → List ℕ → ℕ → Item
profile_item p selector payload i =
    cond (eqb selector ev) (ev_item p.ev payload)
    (cond (eqb selector face) (face_item p.face payload i)
    (cond (eqb selector metadata) (metadata_item p.metadata payload)
    (cond (eqb selector hdr) (hdr_item p.hdr payload)
    (throttle_item p.throttle payload))))

-- SET's value tests, entry by entry
unfoldable pub set_refusal : Profile → ℕ → List ℕ → ℕ
set_refusal p selector payload = first_refusal (item_count selector payload) 0 (λ i. item_code (profile_item p selector payload i))
