-- Document 01, "Face": SET's value tests entry by entry, and settings held.
use Rattle.std.specs.Prelude.{ℕ, zero, suc, ◌+◌, ◌*◌, ◌-◌, Result, Ok, Err}
use mathlib.Core.{List.{List, [], ◌∷◌}, Bool.{Bool, true, false, cond, not, ◌&&◌, ◌||◌}}
use lib.{Dec.{leb, eqb}, ListN.{get_or, set}}
use Rattle.wire.specs.{Endpoints.{first_address, places}, Numbers.{le_at}, Rows.{◌⇒◌, first_of, all_below}}
use Rattle.wire.specs.Uvc.{invalid_value, out_of_range}
use Rattle.flags.specs.Flags.{Choice, one_flag}
use Rattle.std.specs.declared.option.Option.TheVariants.{Some, None}
use Rattle.wire.specs.{declared.refusal.Refusal.{Refusal}, Refusals.{code_of}}
use Rattle.controls.specs.Controls.{Item, item_of, first_refusal}
use Rattle.controls.specs.declared.Setting.TheVariants as S
use Rattle.face.specs.{declared.limits.FaceLimits.{FaceLimits}, Limits.{offers_of}}

-- entry i of a payload
abbrev pub entry_address : List ℕ → ℕ → ℕ
entry_address payload i = get_or payload (1 + 8 * i) 0

abbrev pub entry_flags : List ℕ → ℕ → ℕ
entry_flags payload i = le_at 7 payload (2 + 8 * i)

-- whether an entry before entry i, of the first n, has its address
unfoldable pub seen_in : List ℕ → ℕ → ℕ → Bool
seen_in payload i zero = false
seen_in payload i (suc n) = seen_in payload i n || eqb (entry_address payload n) (entry_address payload i)

abbrev pub seen_before : List ℕ → ℕ → Bool
seen_before payload i = seen_in payload i i

-- the length of a SET's payload: 1 + 8 n, where n is no more than the endpoint count. (0 is no payload's length here: one that
-- has a first byte has a length.)
unfoldable pub face_set_length : FaceLimits → List ℕ → ℕ
face_set_length l [] = 1
face_set_length l (n ∷ rest) = cond (leb n l.count) (1 + 8 * n) 0

-- exactly one flag, and that one offered
unfoldable pub is_choice : Choice → Bool
is_choice (Some place) = true
is_choice None = false

-- a setting's own test, and the last of an entry's
unfoldable pub face_refusal : ℕ → ℕ → ℕ
face_refusal offers flags = cond (is_choice (one_flag offers flags)) 0 invalid_value

-- an entry's tests by what its endpoint offers, whether it was seen before, and its flags
abbrev pub entry_tests : ℕ → Bool → ℕ → ℕ
entry_tests offers seen flags =
    first_of
    ((eqb offers 0 ⇒ out_of_range)
    ∷ (seen ⇒ invalid_value)
    ∷ (not (is_choice (one_flag offers flags)) ⇒ invalid_value)
    ∷ [])

-- the tests of entry i
unfoldable pub entry_refusal : FaceLimits → List ℕ → ℕ → ℕ
entry_refusal l payload i =
    let offers = offers_of l (entry_address payload i) in
    first_of
    ((eqb offers 0 ⇒ out_of_range)
    ∷ (seen_before payload i ⇒ invalid_value)
    ∷ (not (is_choice (one_flag offers (entry_flags payload i))) ⇒ invalid_value)
    ∷ [])

unfoldable pub face_item : FaceLimits → List ℕ → ℕ → Item
face_item l payload i =
    item_of (entry_refusal l payload i) (S.Face (entry_address payload i) (entry_flags payload i))

-- SET's value tests of one setting: the address is listed, and exactly one flag is set that its endpoint offers
unfoldable pub setting_refusal : FaceLimits → ℕ → ℕ → ℕ
setting_refusal l address flags =
    let offers = offers_of l address in
    first_of ((eqb offers 0 ⇒ out_of_range) ∷ (not (is_choice (one_flag offers flags)) ⇒ invalid_value) ∷ [])

-- flags held at a place whose address has these offers are none, or keep their rules
abbrev pub flags_kept : ℕ → ℕ → Bool
flags_kept offers flags = eqb flags 0 || eqb (entry_tests offers false flags) 0

-- the setting held at place i, if any, keeps its rules; of an absent control none does
unfoldable pub face_kept : Bool → FaceLimits → List ℕ → ℕ → Bool
face_kept present l held i =
    let flags = get_or held i 0 in
    eqb flags 0 || (present && eqb (setting_refusal l (first_address + i) flags) 0)

unfoldable pub faces_kept : Bool → FaceLimits → List ℕ → Bool
faces_kept present l held = all_below places (face_kept present l held)

-- settings with one more; an address outside 0x81..0x8F has no place
unfoldable pub put_face : List ℕ → ℕ → ℕ → List ℕ
put_face held address flags = cond (leb first_address address) (set held (address - first_address) flags) held

-- settings with the first n entries of a payload taken, one after the other
unfoldable pub entries_put : List ℕ → List ℕ → ℕ → List ℕ
entries_put held payload zero = held
entries_put held payload (suc n) = put_face (entries_put held payload n) (entry_address payload n) (entry_flags payload n)

-- document 01's number, and the settings by place
pub record FacesTaken : Type 0 where
  pub code : ℕ
  pub held : List ℕ

-- what the code's result comes to, where `held` are the settings that came in
abbrev pub faces_told : List ℕ → Result (List ℕ) Refusal → FacesTaken
faces_told held (Ok next) = record { code = 0; held = next }
faces_told held (Err e) = record { code = code_of e; held = held }

-- what a SET's payload comes to: the first refusal of its entries, or 0 and the settings with all of them
unfoldable pub faces_taken : FaceLimits → List ℕ → List ℕ → FacesTaken
faces_taken l held payload =
    let n = get_or payload 0 0 in
    let code = first_refusal n 0 (entry_refusal l payload) in
    record { code = code; held = cond (eqb code 0) (entries_put held payload n) held }
