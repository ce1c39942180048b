-- Document 01, "Requests and the order of tests", on this unit: `request` has the tests, over the unit's table.
use Rattle.std.specs.Prelude.{ℕ, List}
use Rattle.wire.specs.Numbers.{bytes_of}
use Rattle.request.specs.{Setup.{setup_selector}, Table.{Table, has_control}, Requests.{replied, requested_by}}
use Rattle.peripheral.specs.declared.record.Peripheral.{Peripheral}
use Rattle.peripheral.specs.Outcomes.{Outcome}
use Rattle.peripheral.specs.Selectors.{presence}
use Rattle.peripheral.specs.{Record.{record_well_formed}, Values.{payload_length, info_of, is_settable, state_refusal, set_refusal}}
use Rattle.peripheral.specs.Values.{after_set, attribute}

-- the table of the unit's controls
abbrev pub table : Peripheral → Table
table p = record {
  formed = record_well_formed p;
  unit = p.unit;
  interface = p.interface;
  present = has_control presence;
  settable = is_settable;
  set_length = λ selector payload. payload_length selector;
  state = state_refusal p.toggle;
  values = set_refusal p.mask;
  len = payload_length;
  info = info_of;
  value = λ selector code. bytes_of (payload_length selector) (attribute p selector code);
}

-- what a call hands back
abbrev pub outcome_of : (code count : ℕ) → Peripheral → Outcome
outcome_of code count p = record { code = code; count = count; peripheral = p }

-- what a request hands back; `room` is the length of the reply buffer
unfoldable pub requested : Peripheral → List ℕ → List ℕ → ℕ → Outcome
requested p setup payload = requested_by outcome_of (table p) p (after_set p (setup_selector setup) payload) setup payload

-- the reply buffer afterwards
abbrev pub requested_reply : Peripheral → List ℕ → List ℕ → List ℕ → List ℕ
requested_reply p = replied (table p)
