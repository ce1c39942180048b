-- Request #107, up to fifteen endpoints: the lengths that come of it, snapshots saved before it, and snapshots with an endpoint that a
-- profile doesn't list.
use Rattle.std.specs.Prelude.{ℕ, ◌≤◌, ◌<◌}
use mathlib.Core.{Path.{◌≡◌}, List.{List, [], ◌∷◌, ◌++◌}, Option.{some}, Bool.{true, false}}
use lib.{IntN.{pos, negsuc}, ListN.{length, get_or, replicate}}
use Rattle.wire.specs.{Endpoints.{places, endpoint_limit}, Uvc.{get_cur, set_cur, out_of_range}}
use Rattle.wire.specs.Selectors as selector
use Rattle.request.specs.{Setup.{is_set_request, setup_selector}, Tests.{test_number}}
use Rattle.snapshot.specs.{Keys.{length_with}, Form.{well_formed, stated_kind}, Records.{KeyedRecord, records_of}}
use Rattle.std.specs.declared.option.Option.TheVariants as E
use Rattle.face.specs.{Limits.{endpoints_of, address_at}, Theorems.{ZerosFrom, first_places}}
use Rattle.profile.specs.{declared.Profile.{Profile}, Profile.{has}}
use Rattle.camera.specs.declared.record.Camera.{Camera}
use Rattle.camera.specs.Outcomes.{Outcome}
use Rattle.camera.specs.Record.{record_well_formed, record_well_formed_under}
use Rattle.camera.specs.{Requests.{table, camera_answer, refused}, Loading.{loaded, loaded_under}, Writing.{snapshot}}
use Rattle.demands.specs.Calls.{request, outcome}
use Rattle.demands.specs.Loading.{first_fault}

-- The longest that there are, of a camera that is not refused 0x21.
pub record CameraLengths (c : Camera) : Type 0 where
  -- the payload of a SET of face authentication that is accepted, and an answer of face authentication
  pub payload : (setup payload reply : List ℕ) → is_set_request setup ≡ true → setup_selector setup ≡ selector.face
      → (outcome c (request setup payload reply)).code ≡ 0 → length payload ≤ 121
  pub answer : has c.profile selector.face ≡ true → (code : ℕ) → length (camera_answer c selector.face code) ≤ 121
  -- so with as many bytes of reply test 9 refuses no request
  pub reply : (setup payload reply : List ℕ) → 121 ≤ length reply → test_number (table c) setup payload (length reply) ≡ some 9 → ⊥
  -- a snapshot; and by what the profile lists, the records of so many endpoints and one of every other kind
  pub written : length (snapshot c) ≤ 250
  pub listed : length (snapshot c) ≤ length_with (endpoints_of c.profile.face)

abbrev pub AllCameraLengths : Type 0
AllCameraLengths = (c : Camera) → record_well_formed c ≡ true → CameraLengths c

-- The lengths of buffers that always suffice: for a reply and a camera's snapshot by these, for a merge by `merging`'s `Suffices`, for the
-- answer to each request of a batch by `batch`'s `BatchSuffices`.
abbrev pub buffer_lengths : List ℕ
buffer_lengths = 121 ∷ 250 ∷ 250 ∷ 124 ∷ []

-- A camera with every control and every endpoint, each of which offers D0 and D1, that holds a setting of each.
unfoldable pub full_profile : Profile
full_profile = record {
  unit = 4;
  interface = 0;
  controls = 0x3124;
  ev = record { minimum = negsuc 1; maximum = pos 2; steps = 0x1F };
  face = record {
    count = endpoint_limit;
    addresses = 0x81 ∷ 0x82 ∷ 0x83 ∷ 0x84 ∷ 0x85 ∷ 0x86 ∷ 0x87 ∷ 0x88 ∷ 0x89 ∷ 0x8A ∷ 0x8B ∷ 0x8C ∷ 0x8D ∷ 0x8E ∷ 0x8F ∷ [];
    offers = replicate endpoint_limit 0x03;
  };
  metadata = record { maximum = 1; writable = true };
  hdr = record { auto = false };
  throttle = record { minimum = 5; maximum = 100; step = 5 };
}

unfoldable pub full_camera : Camera
full_camera = record {
  profile = full_profile;
  streaming = true;
  settings = record {
    ev = E.Some (record { flags = 0x10; value = pos 1 });
    face = replicate places 0x02;
    metadata = E.Some 1;
    hdr = E.Some 1;
    throttle = E.Some (record { mode = 1; percent = 50 });
  };
}

-- It reaches each of the longest: GET_CUR's answer, the same bytes as a SET's payload, and the snapshot.
pub record LengthsReached : Type 0 where
  pub formed : record_well_formed full_camera ≡ true
  pub answer : length (camera_answer full_camera selector.face get_cur) ≡ 121
  pub payload : (outcome full_camera
      (request (0x21 ∷ set_cur ∷ 0 ∷ selector.face ∷ 0 ∷ 4 ∷ 121 ∷ 0 ∷ []) (camera_answer full_camera selector.face get_cur) [])).code ≡ 0
  pub written : length (snapshot full_camera) ≡ 250

-- the limit before this request, and as many places for endpoints
abbrev pub old_limit : ℕ
old_limit = 8

abbrev pub old_places : ℕ
old_places = old_limit

-- a record as it was before, with these places, and an outcome with that record
abbrev pub old_profile : Profile → Profile
old_profile p = record {
  unit = p.unit;
  interface = p.interface;
  controls = p.controls;
  ev = p.ev;
  face = first_places old_places p.face;
  metadata = p.metadata;
  hdr = p.hdr;
  throttle = p.throttle;
}

abbrev pub old_record : Camera → Camera
old_record c = record { profile = old_profile c.profile; streaming = c.streaming; settings = c.settings }

abbrev pub old_outcome : Outcome → Outcome
old_outcome o = record { code = o.code; count = o.count; camera = old_record o.camera }

-- Snapshots saved before load as they did. A record of the old shape has zeros in the places that the limit adds, whatever its count, flag
-- and settings: the record test, and the number and the record that a load of any bytes comes to, are the same under the limit of before.
-- The record without those places, under that limit, comes to the same number, and to that record without them.
pub record LoadsAsBefore (c : Camera) : Type 0 where
  pub formed : record_well_formed_under old_limit c ≡ record_well_formed c
  pub loads : (s : List ℕ) → loaded_under old_limit c s ≡ loaded c s
  pub narrow : (s : List ℕ) → loaded_under old_limit (old_record c) s ≡ old_outcome (loaded c s)

abbrev pub OldShapesLoad : Type 0
OldShapesLoad = (c : Camera) → ZerosFrom old_limit c.profile.face → LoadsAsBefore c

-- a snapshot's record of face authentication with an address that the profile doesn't list
pub record Unlisted (p : Profile) (r : List ℕ) : Type 0 where
  pub kind : stated_kind r ≡ selector.face
  pub address : (i : ℕ) → i < p.face.count → address_at p.face i ≡ get_or r 5 0 → ⊥

-- What a load comes to, under a limit, of a snapshot that has such a record behind those of `before`: 0x04 where none of those is refused,
-- else the number of the first that is; with nothing set.
pub record UnlistedRefused (limit : ℕ) (c : Camera) (before : List KeyedRecord) (s : List ℕ) : Type 0 where
  pub first : first_fault c.profile c.streaming before ≡ 0 → loaded_under limit c s ≡ refused out_of_range c
  pub earlier : (first_fault c.profile c.streaming before ≡ 0 → ⊥)
      → loaded_under limit c s ≡ refused (first_fault c.profile c.streaming before) c

-- the snapshots of which that is said
abbrev pub RefusesUnlisted : ℕ → Camera → Type 0
RefusesUnlisted limit c =
    has c.profile selector.face ≡ true → (s : List ℕ) → well_formed s ≡ true
    → (before after : List KeyedRecord) (e : KeyedRecord) → records_of s ≡ before ++ (e ∷ after) → Unlisted c.profile e.1
    → UnlistedRefused limit c before s

-- A new snapshot on an older camera: every camera that is not refused 0x21, and one of the old shape under the limit of before.
pub record NewSnapshots (c : Camera) : Type 0 where
  pub now : record_well_formed c ≡ true → RefusesUnlisted endpoint_limit c
  pub older : ZerosFrom old_limit c.profile.face → record_well_formed_under old_limit c ≡ true → RefusesUnlisted old_limit c

abbrev pub AllNewSnapshots : Type 0
AllNewSnapshots = (c : Camera) → NewSnapshots c
