-- Two units on one board: what is shown of any unit's requests is shown of both, and a setup of eight bytes whose wIndex is one unit's is
-- 0x05 to the other, which has another unit id or interface.
use Rattle.std.specs.Prelude.{ℕ}
use mathlib.Core.{Path.{◌≡◌}, List.{List}, Bool.{true}}
use Rattle.std.specs.Prelude.{length}
use Rattle.request.specs.{Tests.{is_addressed}, Theorems.{AsAnyUnit}}
use Rattle.camera.specs.{declared.record.Camera.{Camera}, Record.{record_well_formed as camera_well_formed}}
use Rattle.camera.specs.Requests as camera
use Rattle.peripheral.specs.{declared.record.Peripheral.{Peripheral}, Record.{record_well_formed as peripheral_well_formed}}
use Rattle.peripheral.specs.Requests as peripheral

-- the nine tests and their order, what a refusal leaves and what a GET sends, as `request` has them of any table of controls
pub record BothUnits (setup payload reply : List ℕ) : Type 0 where
  pub of_camera : (c : Camera) → let o = camera.requested c setup payload (length reply) in
      AsAnyUnit (camera.table c) setup payload reply o.code o.count (camera.requested_reply c setup payload reply)
  pub of_peripheral : (p : Peripheral) → let o = peripheral.requested p setup payload (length reply) in
      AsAnyUnit (peripheral.table p) setup payload reply o.code o.count (peripheral.requested_reply p setup payload reply)

abbrev pub AllBothUnits : Type 0
AllBothUnits = (setup payload reply : List ℕ) → BothUnits setup payload reply

abbrev pub OtherIds : Camera → Peripheral → Type 0
OtherIds c p = (c.profile.unit ≡ p.unit) × (c.profile.interface ≡ p.interface) → ⊥

-- the number, the record and the reply, of a record that is not refused 0x21
pub record OtherRefuses (c : Camera) (p : Peripheral) (setup payload reply : List ℕ) : Type 0 where
  pub cameras_setup : is_addressed c.profile.unit c.profile.interface setup ≡ true → peripheral_well_formed p ≡ true
      → (peripheral.requested p setup payload (length reply) ≡ record { code = 0x05; count = 0; peripheral = p })
      × (peripheral.requested_reply p setup payload reply ≡ reply)
  pub peripherals_setup : is_addressed p.unit p.interface setup ≡ true → camera_well_formed c ≡ true
      → (camera.requested c setup payload (length reply) ≡ record { code = 0x05; count = 0; camera = c })
      × (camera.requested_reply c setup payload reply ≡ reply)

abbrev pub AllOthersRefuse : Type 0
AllOthersRefuse =
    (c : Camera) (p : Peripheral) → OtherIds c p → (setup payload reply : List ℕ) → length setup ≡ 8 → OtherRefuses c p setup payload reply
