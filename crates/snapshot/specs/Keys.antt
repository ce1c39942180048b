-- The keys of a snapshot's records, and how long the records of each are.
use Rattle.std.specs.Prelude.{ℕ, ◌+◌, ◌-◌, ◌*◌, cond, leb, eqb}
use Rattle.wire.specs.{Selectors.{ev, face, metadata, hdr, throttle}, Endpoints.{first_address, places, endpoint_limit}}

-- The kinds are the selectors: exposure compensation (EV), face authentication, metadata, HDR, throttle.
-- A key is a kind, of face authentication with an address. The keys are numbered by kind, then address: 0 is EV, from 1 on face
-- authentication has a key for each address, and metadata, HDR and throttle are the last three.
abbrev pub ev_key : ℕ
ev_key = 0

abbrev pub metadata_key : ℕ
metadata_key = 1 + places

abbrev pub hdr_key : ℕ
hdr_key = 2 + places

abbrev pub throttle_key : ℕ
throttle_key = 3 + places

-- how many there are
abbrev pub keys : ℕ
keys = 4 + places

-- the length of a whole record of a kind; 0 where the kind is unknown
abbrev pub kind_length : ℕ → ℕ
kind_length kind =
    cond (eqb kind ev) 15
    (cond (eqb kind face) 13
    (cond (eqb kind metadata) 8
    (cond (eqb kind hdr) 8
    (cond (eqb kind throttle) 24
    0))))

-- the length of a whole record of a key; 0 where there is no such key
abbrev pub record_length : ℕ → ℕ
record_length k = cond (eqb k ev_key) 15 (cond (leb k places) 13 (cond (leb k hdr_key) 8 (cond (eqb k throttle_key) 24 0)))

-- the length of a snapshot with n records of face authentication and one of every other kind
abbrev pub length_with : ℕ → ℕ
length_with n = kind_length ev + kind_length face * n + kind_length metadata + kind_length hdr + kind_length throttle

-- the longest: a record of each key
abbrev pub longest_snapshot : ℕ
longest_snapshot = length_with places

-- the longest of a camera's, which lists no more endpoints than a profile may
abbrev pub longest_written : ℕ
longest_written = length_with endpoint_limit

-- the key of a known kind, and for face authentication of an address
abbrev pub key_for : ℕ → ℕ → ℕ
key_for kind address =
    cond (eqb kind ev) ev_key
    (cond (eqb kind face) (address - (first_address - 1))
    (cond (eqb kind metadata) metadata_key
    (cond (eqb kind hdr) hdr_key
    throttle_key)))
