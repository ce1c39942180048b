-- The one claim of the table in specs/Table: what the definitions come to is what the paper says, row by row.
use mathlib.Core.{Path.{◌≡◌, refl}, List.{map}}
use Rattle.wire.specs.{Numbers.{number, le_at, bytes_of, signed32, bits32}, Rows.{all_below}}
use Rattle.flags.specs.Flags.{is_set, bits_of, count, first, one_flag}
use Rattle.request.specs.Tests.{request_tests, value_tests, request_rows, request_code}
use Rattle.controls.specs.Controls.{item_of, item_code, first_refusal}
use Rattle.exposure.specs.Exposure.{in_range, refusal_at, ev_refusal, ev_item, ev_bytes, scaled_at, scaled, sensor_value}
use Rattle.face.specs.Limits.{address_before, endpoint_valid, face_valid_under}
use Rattle.hdr.specs.Hdr.{hdr_refusal, hdr_item}
use Rattle.throttle.specs.Throttle.{throttle_refusal, throttle_item, throttle_bytes}
use Rattle.snapshot.specs.Records.{records, encode}
use Rattle.profile.specs.{Profile.{presence_valid, profile_valid_under, profile_refusal}, Items.{profile_item, set_refusal}}
use Rattle.settings.specs.{Settings.{no_settings, put}, Held.{settings_held}, Kept.{value_refusal, kept, settings_well_formed_under}}
use Rattle.settings.specs.Items.{given_of, all_given, put_all, set_gives}
use Rattle.camera.specs.{Requests.{request_done, requested}, Writing.{snapshot}, Calls.{sensed}}
use Rattle.encoding.specs.Encoding.{record_of}
use Rattle.frame.specs.{Ids.{is_readable}, Items.{item_refusal_under, first_item_under, items_in_under, items_from_under, block_items_under}}
use Rattle.frame.specs.Items.{block_count, nth_item, block_item, block_payload}
use Rattle.demands.specs.{Bench.{bench_profile}, Table.{rows, defined, paper_answer}}

table_holds : map defined rows ≡ map paper_answer rows
unfolding bench_profile number le_at bytes_of signed32 bits32 is_set bits_of count first one_flag request_tests item_of
    in_range refusal_at ev_refusal ev_item ev_bytes scaled_at scaled sensor_value
    all_below address_before endpoint_valid face_valid_under hdr_refusal hdr_item throttle_refusal throttle_item throttle_bytes
    records encode presence_valid profile_valid_under no_settings settings_held put value_refusal profile_refusal kept settings_well_formed_under
    item_code given_of first_refusal all_given put_all profile_item set_refusal set_gives
    value_tests request_rows request_code request_done requested record_of snapshot sensed
    is_readable item_refusal_under first_item_under items_in_under items_from_under block_items_under nth_item block_item block_count block_payload
table_holds = refl
