-- Document 01, "The bench camera": its profile. It has no metadata control, whose limits are not looked at.
use mathlib.Core.{Bool.{true, false}, List.{◌∷◌}}
use Rattle.std.specs.Prelude.{◌-◌}
use lib.{IntN.{pos, negsuc}, ListN.{replicate}}
use Rattle.wire.specs.Endpoints.{first_address, endpoint_limit}
use Rattle.profile.specs.declared.Profile.{Profile}
use Rattle.camera.specs.{declared.record.Camera.{Camera}, Record.{fresh}}

unfoldable pub bench_profile : Profile
bench_profile = record {
  unit = 4;
  interface = 0;
  controls = 0x3024;
  ev = record { minimum = negsuc 1; maximum = pos 2; steps = 0x1F };
  face = record {
    count = 1;
    addresses = first_address ∷ replicate (endpoint_limit - 1) 0;
    offers = 0x03 ∷ replicate (endpoint_limit - 1) 0;
  };
  metadata = record { maximum = 0; writable = false };
  hdr = record { auto = false };
  throttle = record { minimum = 5; maximum = 100; step = 5 };
}

-- it streams, and holds no settings
abbrev pub bench : Camera
bench = fresh bench_profile true
