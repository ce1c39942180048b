-- Document 01, "Settings sheet": writing a camera's snapshot.
use Rattle.std.specs.Prelude.{ℕ}
use mathlib.Core.{List.{List, [], ◌∷◌, ◌++◌}, Bool.{cond, not}}
use lib.{Dec.{ltb, eqb}, ListN.{length, drop}}
use Rattle.wire.specs.{Rows.{◌⇒◌, first_of}, Uvc.{malformed_record, no_room}}
use Rattle.encoding.specs.Encoding.{encoded}
use Rattle.camera.specs.declared.record.Camera.{Camera}
use Rattle.camera.specs.Outcomes.{Outcome}
use Rattle.camera.specs.Record.{record_well_formed}
use Rattle.camera.specs.Requests.{outcome_by}

-- a camera's snapshot
unfoldable pub snapshot : Camera → List ℕ
snapshot c = encoded c.settings

unfoldable pub write_code : Camera → ℕ → ℕ
write_code c room = first_of ((not (record_well_formed c) ⇒ malformed_record) ∷ (ltb room (length (snapshot c)) ⇒ no_room) ∷ [])

unfoldable pub written : Camera → ℕ → Outcome
written c room = outcome_by (write_code c room) c (record { code = 0; count = length (snapshot c); camera = c })

-- the lent buffer afterwards
unfoldable pub written_out : Camera → List ℕ → List ℕ
written_out c out = cond (eqb (write_code c (length out)) 0) (snapshot c ++ drop (length (snapshot c)) out) out
