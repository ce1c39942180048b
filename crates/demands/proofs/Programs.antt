-- Every camera that a program holds, by what its types say. Assumes nothing.
use mathlib.Core.Path.{◌≡◌, refl}
use lib.ListN.{length}
use Rattle.wire.specs.Endpoints.{places}
use Rattle.camera.specs.declared.record.Camera.{Camera}
use Rattle.demands.specs.{Cameras.{Typed}, Programs.{OfProgram}}
use Rattle.demands.proofs.Answers.{set_then_get, snapshot_read_back}
use Rattle.demands.proofs.Lists.{load_merged, load_in_turn, load_written}
use Rattle.demands.proofs.Loading.{own_sets}

pub of_program : (c : Camera) → Typed c → length c.settings.face ≡ places → OfProgram c
of_program c t l = record {
  typed = t;
  ok = λ w. record { profile = refl; formed = w; places = l };
  set_then_get = λ w. set_then_get c (record { profile = refl; formed = w; places = l });
  own_sets = λ v. own_sets c v t;
  snapshot_read_back = λ w. snapshot_read_back c w t;
  load_merged = load_merged c l;
  load_in_turn = load_in_turn c l;
  load_written = λ w. load_written c w t;
}
