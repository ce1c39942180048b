-- What the owner's demand 3 says: of a list of calls, of two snapshots that a camera accepts, and of one that a camera wrote.
use Rattle.std.specs.Prelude.{ℕ, ◌≤◌}
use mathlib.Core.{Path.{◌≡◌}, List.{List, ◌++◌}, Bool.{Bool, true}}
use Rattle.std.specs.Prelude.{length, drop}
use Rattle.snapshot.specs.Form.{well_formed}
use Rattle.merging.specs.Merging.{merged, merge_code, merge_len, merge_out}
use Rattle.profile.specs.declared.Profile.{Profile}
use Rattle.camera.specs.{declared.record.Camera.{Camera}, Record.{fresh, held, record_well_formed}, Loading.{loaded}, Writing.{snapshot}}
use Rattle.demands.specs.Calls.{Call}
use Rattle.demands.specs.{Runs.{flag_after, settings, snapshot_after, run}, Cameras.{handed_snapshot, Written, Same}}

-- The program's merge of the snapshots a and b is s: both are well formed, and with room for s it is accepted, reports the length of s, and
-- leaves s at the buffer's start and every byte behind it as it was.
pub record MergesTo (a b s : List ℕ) : Type 0 where
  pub first_formed : well_formed a ≡ true
  pub second_formed : well_formed b ≡ true
  pub code : (out : List ℕ) → length s ≤ length out → merge_code a b out ≡ 0
  pub count : (out : List ℕ) → length s ≤ length out → merge_len a b out ≡ length s
  pub buffer : (out : List ℕ) → length s ≤ length out → merge_out a b out ≡ s ++ drop (length s) out

-- Demand 3 on every list, cut in two anywhere: what it leaves of a fresh camera of the profile p, streaming or not.
pub record Whole (p : Profile) (streaming : Bool) (xs ys : List Call) : Type 0 where
  -- the record holds exactly the settings that the list gives, and the flag; it is never refused 0x21
  pub is_held : held (run (fresh p streaming) (xs ++ ys)) ≡ settings p streaming (xs ++ ys)
  pub is_streaming : (run (fresh p streaming) (xs ++ ys)).streaming ≡ flag_after streaming (xs ++ ys)
  pub is_formed : record_well_formed (run (fresh p streaming) (xs ++ ys)) ≡ true
  -- its snapshot is that of these settings, which writing with room for it gives
  pub is_snapshot : snapshot (run (fresh p streaming) (xs ++ ys)) ≡ snapshot_after p streaming (xs ++ ys)
  pub is_written : (out : List ℕ) → length (snapshot_after p streaming (xs ++ ys)) ≤ length out
      → Written (run (fresh p streaming) (xs ++ ys)) (snapshot_after p streaming (xs ++ ys)) out
  -- and the first part's merged with the one that the second part leaves on a fresh camera with the flag that the first part left
  pub parts_merge :
      let first = run (fresh p streaming) xs in
      let second = run (fresh p first.streaming) ys in
      snapshot (run (fresh p streaming) (xs ++ ys)) ≡ merged (snapshot first) (snapshot second)
  -- which is what the program's merge gives
  pub program_merges_parts :
      let first = run (fresh p streaming) xs in
      let second = run (fresh p first.streaming) ys in
      MergesTo (snapshot first) (snapshot second) (snapshot (run (fresh p streaming) (xs ++ ys)))

-- Demand 3 on two snapshots that a camera accepts: it accepts their merge, as the program's merge gives it, which leaves the same camera as
-- the two in turn.
pub record LoadsMerged (c : Camera) (a b : List ℕ) : Type 0 where
  pub merge : MergesTo a b (merged a b)
  pub merge_accepted : (loaded c (merged a b)).code ≡ 0
  pub turn_accepted : (loaded (loaded c a).camera b).code ≡ 0
  pub same : Same (loaded c (merged a b)).camera (loaded (loaded c a).camera b).camera

-- The same where the second is accepted after the first. Acceptance goes by profile and flag, which loading keeps: so the camera accepts
-- the second as well.
pub record AcceptedInTurn (c : Camera) (a b : List ℕ) : Type 0 where
  pub second_accepted : (loaded c b).code ≡ 0
  pub merges : LoadsMerged c a b

-- Demand 3 on a snapshot that a camera wrote into a buffer with room for it: a fresh streaming camera of its profile accepts the bytes that
-- writing handed over, and then holds its settings.
pub record Restores (c : Camera) : Type 0 where
  pub written : (out : List ℕ) → length (snapshot c) ≤ length out → Written c (snapshot c) out
  pub accepted : (out : List ℕ) → length (snapshot c) ≤ length out → (loaded (fresh c.profile true) (handed_snapshot c out)).code ≡ 0
  pub restored : (out : List ℕ) → length (snapshot c) ≤ length out
      → (k : ℕ) → held (loaded (fresh c.profile true) (handed_snapshot c out)).camera k ≡ held c k
