-- Document 01, "The list of demand 3": what a list of calls gives, by the profile, the flag and the calls' bytes alone.
use Rattle.std.specs.Prelude.{ℕ}
use mathlib.Core.{List.{List, [], ◌∷◌, ◌++◌}, Option.{Option}, Bool.{Bool, cond}}
use lib.{Dec.{eqb}, ListN.{length}}
use Rattle.wire.specs.Rows.{first_of}
use Rattle.snapshot.specs.Given.{last_of, snapshot_of}
use Rattle.controls.specs.declared.Setting.{Setting}
use Rattle.profile.specs.declared.Profile.{Profile}
use Rattle.camera.specs.{declared.record.Camera.{Camera}, Requests.{request_gives}, Loading.{load_tests, load_gives}}
use Rattle.batch.specs.{Packing.{Request, requests_of}, Batch.{batch_tests}}
use Rattle.encoding.specs.Encoding.{record_of}
use Rattle.demands.specs.Calls.{Call, request, stream, load, write, sense, batch, next}

-- the settings that requests give, one after the other
abbrev pub requests_give : Profile → Bool → List Request → List (ℕ × Setting)
requests_give p streaming [] = []
requests_give p streaming (r ∷ rs) = request_gives p streaming r.setup r.payload ++ requests_give p streaming rs

-- the settings that a call gives, in order: an accepted SET's, or those of an accepted load's records; none where it is refused or sets
-- nothing. A batch counts as its single requests, and one that is refused whole as none; whether it is goes by profile, bytes and room.
unfoldable pub gives : Profile → Bool → Call → List (ℕ × Setting)
gives p streaming (request setup payload reply) = request_gives p streaming setup payload
gives p streaming (stream on) = []
gives p streaming (load s) = cond (eqb (first_of (load_tests p streaming s)) 0) (load_gives p streaming s) []
gives p streaming (write out) = []
gives p streaming sense = []
gives p streaming (batch packed out) =
    cond (eqb (first_of (batch_tests p packed (length out))) 0) (requests_give p streaming (requests_of packed)) []

-- the flag after a call
abbrev pub leaves : Bool → Call → Bool
leaves streaming (request setup payload reply) = streaming
leaves streaming (stream on) = on
leaves streaming (load s) = streaming
leaves streaming (write out) = streaming
leaves streaming sense = streaming
leaves streaming (batch packed out) = streaming

-- the flag after a list: the last notice's, or the start's
abbrev pub flag_after : Bool → List Call → Bool
flag_after streaming [] = streaming
flag_after streaming (c ∷ cs) = flag_after (leaves streaming c) cs

-- all settings that a list gives, in order
abbrev pub given : Profile → Bool → List Call → List (ℕ × Setting)
given p streaming [] = []
given p streaming (c ∷ cs) = gives p streaming c ++ given p (leaves streaming c) cs

-- the setting of each key after a list: the last that names it, or none
abbrev pub settings : Profile → Bool → List Call → ℕ → Option Setting
settings p streaming cs = last_of (given p streaming cs)

-- the snapshot of these settings, 01's "sheet after a list"
abbrev pub snapshot_after : Profile → Bool → List Call → List ℕ
snapshot_after p streaming cs = snapshot_of record_of (settings p streaming cs)

-- the record after a list, call by call
abbrev pub run : Camera → List Call → Camera
run c [] = c
run c (call ∷ cs) = run (next c call) cs
