-- Merging two snapshots: what it gives, and what the call answers, reports and leaves in the lent buffer.
use Rattle.std.specs.Prelude.{ℕ}
use mathlib.Core.{Path.{◌≡◌}, Logic.{◌⊎◌}, Bool.{cond, ◌&&◌}, List.{List, ◌++◌}, Option.{none}}
use lib.{ListN.{length, take, drop}, Dec.{leb, eqb}}
use Rattle.wire.specs.Uvc.{malformed_snapshot, no_room}
use Rattle.snapshot.specs.{Form.{well_formed}, Records.{decode, encode}, Given.{overs}}

-- one record for each key that is in either snapshot, in ascending order; of equal keys the second's
unfoldable pub merged : List ℕ → List ℕ → List ℕ
merged first second = encode (overs (decode first) (decode second))

-- no key is in both
abbrev pub Apart : List ℕ → List ℕ → Type 0
Apart a b = (k : ℕ) → (decode a k ≡ none) ⊎ (decode b k ≡ none)

-- what merging answers: a form fault of either, then a room that is short of the merged snapshot
unfoldable pub merge_code : List ℕ → List ℕ → List ℕ → ℕ
merge_code first second out =
    cond (well_formed first && well_formed second) (cond (leb (length (merged first second)) (length out)) 0 no_room) malformed_snapshot

-- how many bytes it reports
unfoldable pub merge_len : List ℕ → List ℕ → List ℕ → ℕ
merge_len first second out = cond (eqb (merge_code first second out) 0) (length (merged first second)) 0

-- what it leaves in the lent buffer: the merged snapshot at the start and every byte behind it as it was, or all as it was
unfoldable pub merge_out : List ℕ → List ℕ → List ℕ → List ℕ
merge_out first second out =
    cond (eqb (merge_code first second out) 0) (merged first second ++ drop (length (merged first second)) out) out

-- what the caller is handed: as many bytes of the buffer as are reported
unfoldable pub handed_merge : List ℕ → List ℕ → List ℕ → List ℕ
handed_merge first second out = take (merge_len first second out) (merge_out first second out)

-- two merges into the same buffer answer alike: in verdict, length and every byte
abbrev pub Alike : List ℕ → List ℕ → List ℕ → List ℕ → List ℕ → Type 0
Alike a b c d out =
    (merge_code a b out ≡ merge_code c d out)
    × ((merge_len a b out ≡ merge_len c d out)
    × (merge_out a b out ≡ merge_out c d out))
