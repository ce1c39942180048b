-- Every answer of a unit with 002's own mask, computed. Assumes nothing.
use mathlib.Core.Path.{refl}
use Rattle.wire.specs.Numbers.{number, le_at, bytes_of}
use Rattle.flags.specs.Flags.{is_set, bits_of, count, first, is_one_of}
use Rattle.request.specs.{Answers.{answer_by}, Tests.{request_tests, value_tests, full_answer, request_rows, request_code}}
use Rattle.peripheral.specs.{Record.{record_well_formed}, Values.{set_refusal, after_set}, Requests.{requested}, Calls.{count_code, counted}}
use Rattle.units.specs.Table.{AllAnswers}

pub all_answers : AllAnswers
unfolding number le_at bytes_of is_set bits_of count first is_one_of answer_by request_tests value_tests full_answer request_rows request_code
    record_well_formed set_refusal after_set requested count_code counted
all_answers = refl
