-- Document 01, "Face": the endpoints that a profile lists.
use Rattle.std.specs.Prelude.{ℕ, zero, suc, ◌-◌, ◌/◌, min, Bool, cond, ◌&&◌, ◌||◌, Option, Some, None}
use lib.{Dec.{leb, ltb, eqb}, ListN.{get_or, length}}
use Rattle.wire.specs.{Rows.{all_below}, Endpoints.{first_address, last_address, endpoint_limit, count_valid_under}}
use Rattle.face.specs.declared.limits.FaceLimits.{FaceLimits}

-- how many it lists: as many as it counts, of the places that it has
abbrev pub endpoints_of : FaceLimits → ℕ
endpoints_of l = min l.count (length l.addresses)

abbrev pub address_at : FaceLimits → ℕ → ℕ
address_at l i = get_or l.addresses i 0

abbrev pub offers_at : FaceLimits → ℕ → ℕ
offers_at l i = get_or l.offers i 0

-- exactly one of D1 and D2, with D0 or without
abbrev pub offers_valid : ℕ → Bool
offers_valid o = eqb (o / 2) 1 || eqb (o / 2) 2

-- the address before place i's, which that must be above
unfoldable pub address_before : FaceLimits → ℕ → ℕ
address_before l zero = first_address - 1
address_before l (suc i) = address_at l i

-- place i: an endpoint, or unused and zero
unfoldable pub endpoint_valid : FaceLimits → ℕ → Bool
endpoint_valid l i =
    cond (ltb i l.count)
    (ltb (address_before l i) (address_at l i) && leb (address_at l i) last_address && offers_valid (offers_at l i))
    (eqb (address_at l i) 0 && eqb (offers_at l i) 0)

-- valid under a limit of endpoints: the one rule that has the limit in it
unfoldable pub face_valid_under : ℕ → FaceLimits → Bool
face_valid_under limit l = count_valid_under limit l.count && all_below limit (endpoint_valid l)

abbrev pub face_valid : FaceLimits → Bool
face_valid = face_valid_under endpoint_limit

-- the flags that the endpoint at an address offers, among the n places from i on; 0 where it isn't listed
unfoldable pub offers_from : FaceLimits → ℕ → ℕ → ℕ → ℕ
offers_from l address zero i = 0
offers_from l address (suc n) i = cond (eqb (address_at l i) address) (offers_at l i) (offers_from l address n (suc i))

unfoldable pub offers_of : FaceLimits → ℕ → ℕ
offers_of l address = offers_from l address (endpoints_of l) 0

-- the first place that lists an address, among the n places from i on; endpoint_limit where none does
unfoldable pub place_from : FaceLimits → ℕ → ℕ → ℕ → ℕ
place_from l address zero i = endpoint_limit
place_from l address (suc n) i = cond (eqb (address_at l i) address) i (place_from l address n (suc i))

-- the place that the code finds, endpoint_limit where it finds none
abbrev pub place_or_limit : Option ℕ → ℕ
place_or_limit None = endpoint_limit
place_or_limit (Some i) = i

unfoldable pub place_of : FaceLimits → ℕ → ℕ
place_of l address = place_from l address (endpoints_of l) 0
