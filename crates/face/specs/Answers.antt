-- Document 01, "Face": GET's answers, one entry for each endpoint.
use Rattle.std.specs.Prelude.{ℕ, zero, suc, ◌+◌, ◌*◌, ◌-◌, ◌%◌}
use mathlib.Core.{List.{List, [], ◌∷◌, ◌++◌}, Bool.{cond, ◌||◌}}
use lib.{Dec.{eqb}, ListN.{get_or}}
use Rattle.wire.specs.{Endpoints.{first_address}, Numbers.{bytes_of}, Uvc.{get_cur, get_max, get_min, get_res}}
use Rattle.request.specs.Answers.{answer_by}
use Rattle.face.specs.{declared.limits.FaceLimits.{FaceLimits}, Limits.{endpoints_of, address_at, offers_at}}

-- an entry's bytes
abbrev pub entry_of : ℕ → ℕ → List ℕ
entry_of address flags = address ∷ bytes_of 7 flags

-- the default is D0 if offered, else the one of D1 and D2 that is
unfoldable pub default_of : ℕ → ℕ
default_of offers = cond (eqb (offers % 2) 1) 1 offers

-- the setting held of an address from first_address up, 0 where there is none: settings stand by address
abbrev pub held_at : List ℕ → ℕ → ℕ
held_at held address = get_or held (address - first_address) 0

-- the flags of place i in an answer that lists every endpoint: MAX its offers, CUR the setting held, else the default
unfoldable pub flags_at : FaceLimits → List ℕ → ℕ → ℕ → ℕ
flags_at l held code i =
    let flags = held_at held (address_at l i) in
    cond (eqb code get_max) (offers_at l i)
    (cond (eqb code get_cur) (cond (eqb flags 0) (default_of (offers_at l i)) flags)
    (default_of (offers_at l i)))

-- the entries of the first n places
unfoldable pub entries_of : FaceLimits → List ℕ → ℕ → ℕ → List ℕ
entries_of l held code zero = []
entries_of l held code (suc n) = entries_of l held code n ++ entry_of (address_at l n) (flags_at l held code n)

-- MIN and RES are one byte 0; MAX, CUR and DEF list every endpoint
unfoldable pub face_value : FaceLimits → List ℕ → ℕ → List ℕ
face_value l held code = cond (eqb code get_min || eqb code get_res) (0 ∷ []) (endpoints_of l ∷ entries_of l held code (endpoints_of l))

unfoldable pub face_answer : FaceLimits → List ℕ → ℕ → List ℕ
face_answer l held code = answer_by code (1 + 8 * endpoints_of l) 0x03 (face_value l held code)
