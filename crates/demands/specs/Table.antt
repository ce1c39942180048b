-- Document 01, "The bench camera": the rows marked (p), in the paper's order, each a pair of answers: what the definitions of `camera`,
-- `request` and `frame` come to, and what the paper says, the sensor's numbers in #103's units.
use Rattle.std.specs.Prelude.{ℕ, ◌+◌}
use mathlib.Core.{Bool.{Bool, true}, List.{List, [], ◌∷◌, map}}
use lib.{ListN.{length, replicate}, IntN.{ℤ, pos, negsuc}}
use Rattle.wire.specs.Selectors as selector
use Rattle.wire.specs.Uvc.{set_cur}
use Rattle.request.specs.Setup.{is_set_request, setup_selector, setup_unit, setup_interface, setup_w_length}
use Rattle.frame.specs.Items.{Counted, block_count, block_payload}
use Rattle.camera.specs.{Requests.{requested}, Writing.{snapshot}, Calls.{sensed}}
use Rattle.batch.specs.Packing.{Request}
use Rattle.demands.specs.Calls.{Call, request}
use Rattle.demands.specs.{Runs.{run}, Bench.{bench}}

-- what a row tells
pub data Told : Type 0 where
  -- of a request: its number and count, and then what the sensor is handed and the snapshot
  answer : (number count : ℕ) (sensor : ℤ) (saved : List ℕ) → Told
  -- of a setup packet: whether it is a SET, and its selector, unit, interface and wLength
  setup : Bool → (control unit interface wLength : ℕ) → Told
  -- of a list of requests: the snapshot that it leaves
  saved : List ℕ → Told
  -- of a metadata block: its number and how many items it has, and the payload of the first
  block : Counted → List ℕ → Told

infix 10 ◌is◌
pub data Line : Type 0 where
  ◌is◌ : (defined paper_answer : Told) → Line

abbrev pub defined : Line → Told
defined (a is b) = a

abbrev pub paper_answer : Line → Told
paper_answer (a is b) = b

-- SETs of unit 4 on interface 0
abbrev pub set : (control : ℕ) → List ℕ → Request
set control payload =
    record { setup = 0x21 ∷ set_cur ∷ 0x00 ∷ control ∷ 0x00 ∷ 0x04 ∷ length payload ∷ 0x00 ∷ []; payload = payload }

-- of exposure compensation: the lowest byte of the flags, that of the value, and each of the value's upper three
abbrev pub set_ev : (flags value upper : ℕ) → Request
set_ev flags value upper = set selector.ev (flags ∷ 0 ∷ 0 ∷ 0 ∷ 0 ∷ 0 ∷ 0 ∷ value ∷ upper ∷ upper ∷ upper ∷ [])

abbrev pub set_hdr : (mode : ℕ) → Request
set_hdr mode = set selector.hdr (mode ∷ 0 ∷ 0 ∷ 0 ∷ [])

-- of the throttle, in mode 1
abbrev pub set_throttle : (percent : ℕ) → Request
set_throttle percent = set selector.throttle (1 ∷ 0 ∷ 0 ∷ 0 ∷ percent ∷ 0 ∷ 0 ∷ 0 ∷ replicate 12 0)

-- a request to the bench camera, which has no reply buffer to lend, and what the next record then holds
abbrev pub after : Request → Told
after r =
    let done = requested bench r.setup r.payload 0 in
    answer done.code done.count (sensed done.camera).value (snapshot done.camera)

-- it is accepted, and its payload is then the one record of the snapshot
abbrev pub accepts : Request → (sensor : ℤ) → Line
accepts r sensor = after r is answer 0 0 sensor ((4 + length r.payload) ∷ 0 ∷ setup_selector r.setup ∷ 0 ∷ r.payload)

-- it is refused, and nothing is set
abbrev pub refuses : Request → (number : ℕ) → Line
refuses r number = after r is answer number 0 (pos 0) []

-- a setup packet is a SET of the bench camera's unit
abbrev pub selects : List ℕ → (control wLength : ℕ) → Line
selects s control wLength =
    setup (is_set_request s) (setup_selector s) (setup_unit s) (setup_interface s) (setup_w_length s) is setup true control 4 0 wLength

-- requests one after the other leave a snapshot
abbrev pub call : Request → Call
call r = request r.setup r.payload []

abbrev pub leave : List Request → List ℕ → Line
leave rs bytes = saved (snapshot (run bench (map call rs))) is saved bytes

-- a metadata block has so many items, and the first this payload; or it is refused
abbrev pub read : List ℕ → Told
read s = block (block_count s) (block_payload s 0)

abbrev pub holds : List ℕ → (items : ℕ) → (payload : List ℕ) → Line
holds s items payload = read s is block (record { code = 0; items = items }) payload

abbrev pub is_refused : List ℕ → (number : ℕ) → Line
is_refused s number = read s is block (record { code = number; items = 0 }) []

-- the first row's request
abbrev pub first_case : Request
first_case = set selector.ev (0x02 ∷ 0x00 ∷ 0x00 ∷ 0x00 ∷ 0x00 ∷ 0x00 ∷ 0x00 ∷ 0xFD ∷ 0xFF ∷ 0xFF ∷ 0xFF ∷ [])

-- an item of id 6, by its size
abbrev pub item : (size : ℕ) → List ℕ → List ℕ
item size payload = 0x06 ∷ 0x00 ∷ 0x00 ∷ 0x00 ∷ size ∷ 0x00 ∷ 0x00 ∷ 0x00 ∷ payload

abbrev pub rows : List Line
rows =
    -- EV, -3 steps of 1/4 stop
    accepts first_case (negsuc 89)
    -- D1 with 8 and with 9
    ∷ accepts (set_ev 0x02 0x08 0x00) (pos 240)
    ∷ refuses (set_ev 0x02 0x09 0x00) 0x04
    -- two flags
    ∷ refuses (set_ev 0x11 0x00 0x00) 0x08
    -- D0 with -12 and with -13
    ∷ accepts (set_ev 0x01 0xF4 0xFF) (negsuc 239)
    ∷ refuses (set_ev 0x01 0xF3 0xFF) 0x04
    -- HDR 2 and 3
    ∷ refuses (set_hdr 2) 0x08
    ∷ refuses (set_hdr 3) 0x04
    -- throttle 80, 82 and 105
    ∷ accepts (set_throttle 80) (pos 0)
    ∷ refuses (set_throttle 82) 0x08
    ∷ refuses (set_throttle 105) 0x04
    -- the HDR SET
    ∷ selects (0x21 ∷ 0x01 ∷ 0x00 ∷ 0x0D ∷ 0x00 ∷ 0x04 ∷ 0x04 ∷ 0x00 ∷ []) selector.hdr 4
    -- the first case, then HDR 1
    ∷ leave (first_case ∷ set_hdr 1 ∷ [])
    (0x0F ∷ 0x00 ∷ 0x03 ∷ 0x00 ∷ 0x02 ∷ 0x00 ∷ 0x00 ∷ 0x00 ∷ 0x00 ∷ 0x00 ∷ 0x00 ∷ 0xFD ∷ 0xFF ∷ 0xFF ∷ 0xFF
    ∷ 0x08 ∷ 0x00 ∷ 0x0D ∷ 0x00 ∷ 0x01 ∷ 0x00 ∷ 0x00 ∷ 0x00
    ∷ [])
    -- one item; with 7 bytes; of size 8
    ∷ holds (item 0x10 (1 ∷ 2 ∷ 3 ∷ 4 ∷ 5 ∷ 6 ∷ 7 ∷ 8 ∷ [])) 1 (1 ∷ 2 ∷ 3 ∷ 4 ∷ 5 ∷ 6 ∷ 7 ∷ 8 ∷ [])
    ∷ is_refused (item 0x10 (1 ∷ 2 ∷ 3 ∷ 4 ∷ 5 ∷ 6 ∷ 7 ∷ [])) 0x40
    ∷ holds (item 0x08 []) 1 []
    ∷ []
