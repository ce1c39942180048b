-- What the owner's demand 2 says of the camera: new settings, GET_CUR, LEN, and what is written reads back. What it says
-- of the sensor's number is in Sensor.
use Rattle.std.specs.Prelude.{ℕ, ◌+◌, ◌*◌, ◌≤◌, ◌<◌, min}
use mathlib.Core.{Path.{◌≡◌}, List.{List, [], ◌∷◌, ◌++◌}, Option.{none, some, map}, Bool.{true, cond}}
use lib.{Dec.{eqb}, ListN.{length, get_or, take, drop}}
use Rattle.wire.specs.{Endpoints.{first_address}, Numbers.{bytes_of}, Uvc.{get_cur, get_def, get_len}}
use Rattle.wire.specs.Selectors as selector
use Rattle.request.specs.Setup.{setup_w_length}
use Rattle.request.specs.Theorems as unit
use Rattle.snapshot.specs.{Keys.{key_for, longest_written}, Form.{well_formed}, Records.{decode}, Given.{over, last_of}}
use Rattle.controls.specs.declared.EvSetting.{EvSetting}
use Rattle.controls.specs.declared.ThrottleSetting.{ThrottleSetting}
use Rattle.controls.specs.Controls.{Given}
use Rattle.controls.specs.declared.Setting.TheVariants as S
use Rattle.exposure.specs.Exposure.{ev_bytes}
use Rattle.face.specs.{Limits.{endpoints_of, address_at}, Answers.{entry_of, held_at, flags_at}}
use Rattle.entries.specs.Entries.{entry_address, entry_flags}
use Rattle.throttle.specs.Throttle.{throttle_bytes}
use Rattle.profile.specs.{declared.Profile.{Profile}, KnownControl.{KnownControl}, Profile.{has, set_length}}
use Rattle.settings.specs.Settings.{setting_key}
use Rattle.camera.specs.{declared.record.Camera.{Camera}, Record.{held}, Requests.{camera_answer}, Loading.{load_item}, Writing.{snapshot}}
use Rattle.camera.specs.Calls.{sensed}
use Rattle.encoding.specs.Encoding.{record_of}
use Rattle.demands.specs.Calls.{Call, request, outcome, left, next}
use Rattle.demands.specs.{Runs.{gives, leaves}, Cameras.{Written}}

-- New settings. What any call leaves of a record that is not refused 0x21: of each key the last setting that the call gives, else the one
-- held, and the streaming flag of a notice. An accepted SET gives its payload's settings, an accepted load its records', an accepted batch
-- its requests', a refused call none.
pub record NewSettings (c : Camera) (call : Call) : Type 0 where
  pub settings : (k : ℕ) → held (next c call) k ≡ over (held c k) (last_of (gives c.profile c.streaming call) k)
  pub streaming : (next c call).streaming ≡ leaves c.streaming call
  pub profile : (next c call).profile ≡ c.profile
  pub refused : ((outcome c call).code ≡ 0 → ⊥) → gives c.profile c.streaming call ≡ []

-- the eight bytes of entry i, in a payload as in an answer that lists every endpoint
abbrev pub entry_bytes : List ℕ → ℕ → List ℕ
entry_bytes s i = take 8 (drop (1 + 8 * i) s)

-- CUR is the setting held, control by control: the full answer to GET_CUR is its bytes, behind a throttle's the profile's limits. Of face
-- authentication an endpoint's entry has the setting held of its address, or is DEF's while there is none.
pub record CurrentIsHeld (c : Camera) : Type 0 where
  pub of_ev : (s : EvSetting) → held c (setting_key (S.Ev s)) ≡ some (S.Ev s) → camera_answer c selector.ev get_cur ≡ ev_bytes s
  pub of_face : (j flags : ℕ) → j < endpoints_of c.profile.face → let address = address_at c.profile.face j in
      held c (setting_key (S.Face address flags)) ≡ some (S.Face address flags) → entry_bytes (camera_answer c selector.face get_cur) j
      ≡ entry_of address flags
  pub of_unset_face : (j : ℕ) → j < endpoints_of c.profile.face → has c.profile selector.face ≡ true
      → held c (key_for selector.face (address_at c.profile.face j)) ≡ none
      → entry_bytes (camera_answer c selector.face get_cur) j ≡ entry_bytes (camera_answer c selector.face get_def) j
  pub of_metadata : (n : ℕ) → held c (setting_key (S.Metadata n)) ≡ some (S.Metadata n)
      → camera_answer c selector.metadata get_cur ≡ bytes_of 4 n
  pub of_hdr : (n : ℕ) → held c (setting_key (S.Hdr n)) ≡ some (S.Hdr n) → camera_answer c selector.hdr get_cur ≡ bytes_of 4 n
  pub of_throttle : (s : ThrottleSetting) → held c (setting_key (S.Throttle s)) ≡ some (S.Throttle s)
      → camera_answer c selector.throttle get_cur ≡ throttle_bytes s c.profile.throttle

-- Two cameras that answer alike: what each call answers and leaves of the record, the lent bytes, and the sensor's number.
pub record SameAnswers (c d : Camera) : Type 0 where
  pub outcomes : (call : Call) → outcome c call ≡ outcome d call
  pub buffers : (call : Call) → left c call ≡ left d call
  pub sensor : sensed c ≡ sensed d

-- LEN of face authentication: the longest payload, which one that names every endpoint has.
pub record FaceLength (c : Camera) : Type 0 where
  pub answer : camera_answer c selector.face get_len ≡ bytes_of 2 (1 + 8 * endpoints_of c.profile.face)
  pub longest : (payload : List ℕ) → set_length c.profile selector.face payload ≤ 1 + 8 * endpoints_of c.profile.face
  pub reached : (rest : List ℕ)
      → set_length c.profile selector.face (c.profile.face.count ∷ rest) ≡ 1 + 8 * endpoints_of c.profile.face

-- the full answer to GET_CUR once a payload is set: its bytes, but for a throttle's last twelve, which are the profile's limits
abbrev pub bytes_back : Profile → ℕ → List ℕ → List ℕ
bytes_back p control payload =
    cond (eqb control selector.throttle)
    (take 8 payload ++ bytes_of 4 p.throttle.minimum ++ bytes_of 4 p.throttle.maximum ++ bytes_of 4 p.throttle.step)
    payload

-- What an accepted SET of face authentication makes of the record c: d.
pub record FaceReadsBack (c d : Camera) (payload : List ℕ) : Type 0 where
  -- the setting held of each entry's address is the entry's
  pub entries : (i : ℕ) → i < get_or payload 0 0 → held_at d.settings.face (entry_address payload i) ≡ entry_flags payload i
  -- an endpoint has that address
  pub place : (i : ℕ) → i < get_or payload 0 0
      → (j : ℕ) × ((j < endpoints_of c.profile.face) × (address_at c.profile.face j ≡ entry_address payload i))
  -- and GET_CUR lists it with the entry's flags: the eight bytes that were set
  pub listed : (i j : ℕ) → i < get_or payload 0 0 → address_at c.profile.face j ≡ entry_address payload i
      → flags_at c.profile.face d.settings.face get_cur j ≡ entry_flags payload i
  pub bytes : (i j : ℕ) → i < get_or payload 0 0 → j < endpoints_of c.profile.face
      → address_at c.profile.face j ≡ entry_address payload i
      → entry_bytes (camera_answer d selector.face get_cur) j ≡ entry_bytes payload i
  -- an address that no entry names keeps its setting, and its endpoint's entry in GET_CUR's answer is as it was
  pub others : (address : ℕ) → first_address ≤ address → ((i : ℕ) → i < get_or payload 0 0 → entry_address payload i ≡ address → ⊥)
      → held_at d.settings.face address ≡ held_at c.settings.face address
  pub unnamed : (j : ℕ) → j < endpoints_of c.profile.face
      → ((i : ℕ) → i < get_or payload 0 0 → entry_address payload i ≡ address_at c.profile.face j → ⊥)
      → entry_bytes (camera_answer d selector.face get_cur) j ≡ entry_bytes (camera_answer c selector.face get_cur) j
  -- no entries set nothing
  pub empty : get_or payload 0 0 ≡ 0 → d ≡ c

-- What an accepted SET of a control makes of the record c: d, whose full answer to GET_CUR is the bytes that were set; a throttle's last
-- twelve are the profile's limits.
pub record ReadsBack (c d : Camera) (control : ℕ) (payload : List ℕ) : Type 0 where
  pub known : KnownControl control
  pub answer : (control ≡ selector.face → ⊥) → camera_answer d control get_cur ≡ bytes_back c.profile control payload
  pub of_face : control ≡ selector.face → FaceReadsBack c d payload

-- What is sent of a full answer: the first min(wLength, full length) bytes, reported and at the buffer's start; the rest of the buffer and
-- the record are as they were.
pub record CameraSends (c : Camera) (s payload reply full : List ℕ) : Type 0 where
  pub count : (outcome c (request s payload reply)).count ≡ min (setup_w_length s) (length full)
  pub buffer : left c (request s payload reply) ≡ take (min (setup_w_length s) (length full)) full
      ++ drop (min (setup_w_length s) (length full)) reply
  pub camera : next c (request s payload reply) ≡ c

-- A GET's setup for a control of the profile; with no payload and room it is accepted.
abbrev pub Gets : Profile → List ℕ → Type 0
Gets p = unit.GetSetup p.unit p.interface (has p)

-- A written snapshot reads back: it is well formed, has the record of every setting held and no other, and each record read as a SET is
-- that setting again. With room for it, writing leaves these bytes.
pub record SnapshotReadsBack (c : Camera) : Type 0 where
  pub formed : well_formed (snapshot c) ≡ true
  pub records : (k : ℕ) → decode (snapshot c) k ≡ map record_of (held c k)
  pub settings : (k : ℕ) → load_item c.profile true (snapshot c) k ≡ map Given (held c k)
  pub written : (out : List ℕ) → length (snapshot c) ≤ length out → Written c (snapshot c) out

-- The longest snapshot of a camera: so many bytes are room for any camera's.
abbrev pub WriteSuffices : Camera → Type 0
WriteSuffices c = (out : List ℕ) → longest_written ≤ length out → Written c (snapshot c) out
