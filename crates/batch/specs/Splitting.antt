-- Splitting a batch: it is a list of whole requests, or it stops inside one. proofs/Splitting proves each.
use Rattle.std.specs.Prelude.{ℕ, ◌<◌}
use mathlib.Core.{Path.{◌≡◌}, List.{List, ◌++◌}, Bool.{true, false}}
use Rattle.std.specs.Prelude.{length}
use Rattle.batch.specs.Packing.{Request, WholeRequest, EachWhole, batch_of, requests_of, is_whole}

-- The bytes s are whole requests and then `rest`, with which another begins that lacks its last bytes.
pub record StopsInside (s : List ℕ) : Type 0 where
  pub requests : List Request
  pub each : EachWhole requests
  pub rest : List ℕ
  pub is : s ≡ batch_of requests ++ rest
  pub request : Request
  pub whole : WholeRequest request
  pub missing : List ℕ
  pub begins : request.setup ++ request.payload ≡ rest ++ missing
  pub begun : 0 < length rest
  pub unfinished : 0 < length missing

-- Either of the two. What a whole batch splits into are whole requests, and packing them gives its bytes.
pub data Splits (s : List ℕ) : Type 0 where
  whole : is_whole s ≡ true → EachWhole (requests_of s) → batch_of (requests_of s) ≡ s → Splits s
  stops : is_whole s ≡ false → StopsInside s → Splits s

abbrev pub AllSplit : Type 0
AllSplit = (s : List ℕ) → Splits s

-- Packing whole requests gives a whole batch, and splitting that gives them back.
abbrev pub PackedThenSplit : Type 0
PackedThenSplit = (rs : List Request) → EachWhole rs → (is_whole (batch_of rs) ≡ true) × (requests_of (batch_of rs) ≡ rs)

-- A batch that stops inside a request is not whole.
abbrev pub StopsCut : Type 0
StopsCut = (s : List ℕ) → StopsInside s → is_whole s ≡ false
