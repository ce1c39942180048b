-- What both units share, and a setup that is another unit's. Assumes nothing.
use mathlib.Core.{Path.{◌≡◌, refl, sym, ◌∙◌}, List.{List}}
use Prim.Native.Nat.{ℕ}
use native.Mathlib.Omega.{arith}
use lib.ListN.{length}
use Rattle.wire.specs.Uvc.{invalid_unit}
use Rattle.request.specs.{Setup.{setup_selector}, Table.{Table}, Tests.{request_code}, Requests.{requested_by, replied}}
use Rattle.request.proofs.Theorems as requests
use Rattle.settings.specs.Items.{set_gives}
use Rattle.camera.specs.Record.{puts}
use Rattle.camera.specs.Requests as cameras
use Rattle.peripheral.specs.Values.{after_set}
use Rattle.peripheral.specs.Requests as peripherals
use Rattle.units.specs.Board.{AllBothUnits, AllOthersRefuse}

pub both_units : AllBothUnits
unfolding cameras.requested cameras.request_done peripherals.requested
both_units setup payload reply = record {
  of_camera = λ c.
      requests.all_units _ _ cameras.outcome_of (λ o. o.code) (λ o. o.count) (λ n k r. (refl, refl)) (cameras.table c) c
      (puts c (set_gives c.profile (setup_selector setup) payload)) setup payload reply;
  of_peripheral = λ p.
      requests.all_units _ _ peripherals.outcome_of (λ o. o.code) (λ o. o.count) (λ n k r. (refl, refl)) (peripherals.table p) p
      (after_set p (setup_selector setup) payload) setup payload reply;
}

-- 0x05, whatever the unit
module _ {R O : Type 0} (out : ℕ → ℕ → R → O) (t : Table) (before set : R) (setup payload reply : List ℕ)
    (e : request_code t setup payload (length reply) ≡ invalid_unit) where
  refused : (requested_by out t before set setup payload (length reply) ≡ out invalid_unit 0 before) × (replied t setup payload reply ≡ reply)
  refused = (rw e, (requests.refusals t setup payload reply (λ z. omega (arith, sym e ∙ z))).buffer)

pub all_others_refuse : AllOthersRefuse
unfolding cameras.requested cameras.request_done peripherals.requested
all_others_refuse c p apart setup payload reply n = record {
  cameras_setup = λ a w.
      refused peripherals.outcome_of (peripherals.table p) p (after_set p (setup_selector setup) payload) setup payload reply
      (requests.elsewhere_refused (peripherals.table p) c.profile.unit c.profile.interface setup payload (length reply) w n a
      apart);
  peripherals_setup = λ a w.
      refused cameras.outcome_of (cameras.table c) c (puts c (set_gives c.profile (setup_selector setup) payload)) setup payload reply
      (requests.elsewhere_refused (cameras.table c) p.unit p.interface setup payload (length reply) w n a
      (λ q. apart (sym q.0, sym q.1)));
}
