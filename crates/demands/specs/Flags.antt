-- What the seven flag bytes of a SET answer: 01's one flag of all 56, and that one offered, for any seven bytes (#104).
use Rattle.std.specs.Prelude.{ℕ, ◌<◌}
use mathlib.Core.{Path.{◌≡◌}, List.{List}, Bool.{true, cond}, Logic.{◌↔◌}}
use Rattle.std.specs.Prelude.{get_or}
use Rattle.wire.specs.{Rows.{first_of}, Uvc.{invalid_value, out_of_range}}
use Rattle.wire.specs.Selectors as selectors
use Rattle.wire.proofs.Laws.Numbers.{Bytes}
use Rattle.request.specs.{Setup.{is_set_request, setup_selector}, Tests.{request_tests}}
use Rattle.flags.specs.Theorems.{OnlyFlag, NoFlag}
use Rattle.exposure.specs.Exposure.{divisor, in_range, ev_value}
use Rattle.entries.specs.Theorems.{NewEndpoint, EntryNoFlag, EntryTaken}
use Rattle.camera.specs.{declared.record.Camera.{Camera}, Record.{record_well_formed}, Requests.{table}}
use Rattle.demands.specs.Calls.{request, outcome}

-- a SET of a control that is past tests 1 to 6
pub record Judged (c : Camera) (control : ℕ) (s payload : List ℕ) : Type 0 where
  pub formed : record_well_formed c ≡ true
  pub sets : is_set_request s ≡ true
  pub selects : setup_selector s ≡ control
  pub passes : first_of (request_tests (table c) s payload) ≡ 0

-- Past tests 1 to 6 a SET of EV is 0x08 exactly where its first seven bytes have no one flag that is offered. Where they have flag k, the
-- value answers, at the step of k.
pub record EvSetByFlags (c : Camera) (s payload reply : List ℕ) : Type 0 where
  pub refused : ((outcome c (request s payload reply)).code ≡ invalid_value) ↔ NoFlag payload 0 c.profile.ev.steps
  pub ranged : (k : ℕ) → OnlyFlag payload 0 c.profile.ev.steps k
      → (outcome c (request s payload reply)).code ≡ cond (in_range c.profile.ev (divisor k) (ev_value payload)) 0 out_of_range

abbrev pub EvSetsByFlags : Type 0
EvSetsByFlags =
    (c : Camera) (s payload reply : List ℕ) → Judged c selectors.ev s payload → Bytes payload → EvSetByFlags c s payload reply

-- Past tests 1 to 6 a SET of face authentication is accepted exactly where every entry names a listed endpoint that no entry before it
-- names, and has one flag, which the endpoint offers. Where the entries before i do so, and i is past the tests of its address, it is 0x08
-- if entry i has no such flag.
pub record FaceSetByFlags (c : Camera) (s payload reply : List ℕ) : Type 0 where
  pub accepted : ((outcome c (request s payload reply)).code ≡ 0)
      ↔ ((i : ℕ) → i < get_or payload 0 0 → EntryTaken c.profile.face payload i)
  pub refused : (i : ℕ) → i < get_or payload 0 0 → ((j : ℕ) → j < i → EntryTaken c.profile.face payload j)
      → NewEndpoint c.profile.face payload i → EntryNoFlag c.profile.face payload i
      → (outcome c (request s payload reply)).code ≡ invalid_value

abbrev pub FaceSetsByFlags : Type 0
FaceSetsByFlags =
    (c : Camera) (s payload reply : List ℕ) → Judged c selectors.face s payload → Bytes payload → FaceSetByFlags c s payload reply
