-- The calls that need nothing but the record, and the test that every call begins with.
use Rattle.std.specs.Prelude.{ℕ, Bool, cond, pos}
use Rattle.wire.specs.Uvc.{malformed_record}
use Rattle.exposure.specs.Exposure.{sensor_value}
use Rattle.camera.specs.declared.record.Camera.{Camera}
use Rattle.camera.specs.Outcomes.{Outcome, Sensed}
use Rattle.camera.specs.{Record.{with_streaming, record_well_formed}, Requests.{outcome_by}}

-- the test that every call begins with
abbrev pub record_code : Camera → ℕ
record_code c = cond (record_well_formed c) 0 malformed_record

-- a streaming notice sets only the flag
unfoldable pub streamed : Camera → Bool → Outcome
streamed c on = outcome_by (record_code c) c (record { code = 0; count = 0; camera = with_streaming c on })

-- the sensor's number: 0 while no setting is held, and on 0x21
unfoldable pub sensed : Camera → Sensed
sensed c = record {
  code = record_code c;
  value = cond (record_well_formed c) (sensor_value c.profile.ev c.settings.ev) (pos 0);
  camera = c;
}
