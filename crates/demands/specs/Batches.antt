-- Request #102 on demand 3: a batch counts as its single requests, and one that is refused whole as none.
use Rattle.std.specs.Prelude.{ℕ}
use mathlib.Core.{Path.{◌≡◌}, List.{List, [], ◌∷◌, map}, Bool.{true}}
use Rattle.camera.specs.{declared.record.Camera.{Camera}, Record.{record_well_formed}}
use Rattle.batch.specs.Packing.{Request, requests_of}
use Rattle.demands.specs.{Calls.{Call, request, batch, outcome, next}, Runs.{gives, given, run}}

-- requests as calls, each with the reply buffer that it is lent
abbrev pub singles : List (Request × List ℕ) → List Call
singles [] = []
singles (x ∷ l) = request x.0.setup x.0.payload x.1 ∷ singles l

-- Where it is accepted, it gives what its requests give one by one and leaves the record that they leave, whatever reply buffers they are
-- lent; where it is refused, it gives nothing and leaves the record.
pub record CountsAsRequests (c : Camera) (packed out : List ℕ) : Type 0 where
  pub settings : (outcome c (batch packed out)).code ≡ 0 → (l : List (Request × List ℕ)) → map (λ x. x.0) l ≡ requests_of packed
      → gives c.profile c.streaming (batch packed out) ≡ given c.profile c.streaming (singles l)
  pub camera : (outcome c (batch packed out)).code ≡ 0 → (l : List (Request × List ℕ)) → map (λ x. x.0) l ≡ requests_of packed
      → next c (batch packed out) ≡ run c (singles l)
  pub none : ((outcome c (batch packed out)).code ≡ 0 → ⊥)
      → (gives c.profile c.streaming (batch packed out) ≡ []) × (next c (batch packed out) ≡ c)

abbrev pub BatchesCount : Type 0
BatchesCount = (c : Camera) → record_well_formed c ≡ true → (packed out : List ℕ) → CountsAsRequests c packed out
