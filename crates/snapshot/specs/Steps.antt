-- What the code's steps go by, which its private functions' promises cite. No statement and no public promise depends on this file.
use Rattle.std.specs.Prelude.{ℕ, ◌≤◌}
use mathlib.Core.{Path.{◌≡◌}, Bool.{true, cond}, List.{List}}
use Rattle.std.specs.Prelude.{length, drop}
use Rattle.wire.specs.Rows.{all_of}
use Rattle.snapshot.specs.{Keys.{keys, key_for}, Form.{record_tests}, Records.{from}}

-- the records of the keys below k of s end at `at`
pub record EndsBelow (s : List ℕ) (at k : ℕ) : Type 0 where
  pub within : at ≤ length s
  pub here : drop at s ≡ from s k

-- the key of a record by the length and the kind that it states and its bytes 4 and 5, however many bytes are left, whatever a throttle's
-- tail is; `keys` where these have a fault
abbrev pub key_by : ℕ → ℕ → ℕ → ℕ → ℕ
key_by len kind n address = cond (all_of (record_tests len len kind n address true)) (key_for kind address) keys
