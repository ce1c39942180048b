-- What is proved of merging, the owner's demands as far as they speak of it, over the definitions that the promise of `merge` equates its
-- results to. proofs/Theorems proves each.
use Rattle.std.specs.Prelude.{ℕ, ◌≤◌}
use mathlib.Core.{Path.{◌≡◌}, Bool.{true}, List.{List, [], ◌++◌}}
use Rattle.std.specs.Prelude.{length, drop}
use Rattle.snapshot.specs.{Keys.{longest_snapshot}, Form.{well_formed}, Records.{decode}, Given.{over}, Theorems.{InOrder}}
use Rattle.merging.specs.Merging.{merged, Apart, merge_code, merge_len, merge_out, handed_merge, Alike}

-- Demand 1, a refused call changes no byte of any lent buffer, and (01, "Any refusal") reports a count of 0.
abbrev pub MergeRefusals : Type 0
MergeRefusals =
    (first second out : List ℕ) → (merge_code first second out ≡ 0 → ⊥) → (merge_len first second out ≡ 0) × (merge_out first second out ≡ out)

-- Merging gives, in ascending order, one record for each key that is in either snapshot, the second's where both have it; it is well
-- formed.
pub record IsMerge (a b s : List ℕ) : Type 0 where
  pub formed : well_formed s ≡ true
  pub has : (k : ℕ) → decode s k ≡ over (decode a k) (decode b k)
  pub in_order : InOrder s

abbrev pub AllMerge : Type 0
AllMerge = (a b : List ℕ) → IsMerge a b (merged a b)

-- Demand 3, merging is associative.
abbrev pub Associative : Type 0
Associative = (a b c : List ℕ) → merged (merged a b) c ≡ merged a (merged b c)

-- Demand 3, merging has the empty snapshot, which is well formed, as neutral on both sides.
abbrev pub Neutral : Type 0
Neutral = (s : List ℕ) → well_formed s ≡ true → (well_formed [] ≡ true) × ((merged s [] ≡ s) × (merged [] s ≡ s))

-- Demand 3, merging gives the same in either order where no control (for face authentication, no endpoint) is in both.
abbrev pub Commutes : Type 0
Commutes = (a b : List ℕ) → Apart a b → merged a b ≡ merged b a

-- 01, 250 bytes always suffice: with so much room the program merges any two well-formed snapshots.
abbrev pub Suffices : Type 0
Suffices = (a b out : List ℕ) → well_formed a ≡ true → well_formed b ≡ true → longest_snapshot ≤ length out → merge_code a b out ≡ 0

-- An accepted merge: the caller is handed the merged snapshot, and every byte behind it is as it was. With room it is accepted.
pub record MergeAccepted (a b out : List ℕ) : Type 0 where
  pub accepted : merge_code a b out ≡ 0
  pub reported : merge_len a b out ≡ length (merged a b)
  pub is_handed : handed_merge a b out ≡ merged a b
  pub buffer : merge_out a b out ≡ merged a b ++ drop (length (merged a b)) out

abbrev pub AllAccepted : Type 0
AllAccepted = (a b out : List ℕ) → well_formed a ≡ true → well_formed b ≡ true → length (merged a b) ≤ length out → MergeAccepted a b out

-- Demand 3 for the program, merging well-formed snapshots, given room, is associative: the first two merged into p and that with the third
-- into out, or the last two into q and the first with that into out, are all accepted and leave the same.
abbrev pub ProgramAssociative : Type 0
ProgramAssociative =
    (a b c p q out : List ℕ) → well_formed a ≡ true → well_formed b ≡ true → well_formed c ≡ true
    → length (merged a b) ≤ length p → length (merged b c) ≤ length q → length (merged (merged a b) c) ≤ length out
    → (merge_code a b p ≡ 0)
    × ((merge_code b c q ≡ 0) × ((merge_code (handed_merge a b p) c out ≡ 0) × Alike (handed_merge a b p) c a (handed_merge b c q) out))

-- Demand 3 for the program, the empty snapshot is neutral on both sides, given room.
abbrev pub ProgramNeutral : Type 0
ProgramNeutral =
    (s out : List ℕ) → well_formed s ≡ true → length s ≤ length out
    → (merge_code s [] out ≡ 0) × ((handed_merge s [] out ≡ s) × Alike s [] [] s out)

-- Demand 3 for the program, either order answers alike where no key is in both, whatever the room.
abbrev pub ProgramCommutes : Type 0
ProgramCommutes = (a b out : List ℕ) → well_formed a ≡ true → well_formed b ≡ true → Apart a b → Alike a b b a out
