-- What writing a snapshot answers and leaves. Assumes nothing.
use mathlib.Core.{Path.{◌≡◌, ◌∙◌}, List.{List}, Bool.{true, false}}
use Prim.Native.Nat.{ℕ, ◌≤◌, ◌<◌}
use native.Mathlib.Omega.{arith}
use lib.{Dec.{ltb}, ListN.{length}}
use borrow.Author.Tests.{lt-ltb, le-ltb}
use Rattle.wire.specs.{Writes.{overlay}, Uvc.{no_room}}
use Rattle.wire.proofs.Laws.{Refusals.{not_accepted}, Writes.{fits_start}}
use Rattle.encoding.specs.Encoding.{encoded}
use Rattle.camera.specs.{declared.record.Camera.{Camera}, Outcomes.{Outcome}, Record.{record_well_formed}, Requests.{refused}}
use Rattle.camera.specs.Calls.{record_code}
use Rattle.camera.specs.Writing.{snapshot, write_code, written, written_out}
use Rattle.camera.proofs.Laws.Record.{record_good, record_bad}

-- each of its refusals, and none
module _ (c : Camera) (out : List ℕ) where
  pub write_unformed : {n : ℕ} → n ≡ record_code c → (n ≡ 0 → ⊥) → refused n c ≡ written c (length out)
  unfolding written write_code
  write_unformed e bad = let w = record_bad c e bad in rw (w.0, w.1)

  pub out_unformed : {n : ℕ} → n ≡ record_code c → (n ≡ 0 → ⊥) → out ≡ written_out c out
  unfolding written_out write_code
  out_unformed e bad = let w = record_bad c e bad in rw w.0

  module _ (good : record_code c ≡ 0) {n : ℕ} (is-long : n ≡ length (encoded c.settings)) where
    long : n ≡ length (snapshot c)
    unfolding snapshot
    long = is-long

    formed : record_well_formed c ≡ true
    formed = record_good c good

    module _ (h : length out < n) where
      short : ltb (length out) (length (snapshot c)) ≡ true
      short = lt-ltb (length out) (length (snapshot c)) (omega (arith, long))

      pub write_no_room : refused no_room c ≡ written c (length out)
      unfolding written write_code
      write_no_room = rw (formed, short)

      pub out_no_room : out ≡ written_out c out
      unfolding written_out write_code
      out_no_room = rw (formed, short)

    module _ (h : n ≤ length out) where
      fits : length (snapshot c) ≤ length out
      fits = omega (arith, long)

      enough : ltb (length out) (length (snapshot c)) ≡ false
      enough = le-ltb (length out) (length (snapshot c)) fits

      pub write_done : ◌≡◌ {A = Outcome} (record { code = 0; count = n; camera = c }) (written c (length out))
      unfolding written write_code
      write_done = rw (formed, enough, long)

      pub out_done : {after : List ℕ} → after ≡ overlay out 0 (encoded c.settings) → after ≡ written_out c out
      unfolding written_out write_code snapshot
      out_done f = f ∙ rw (formed, enough) (fits_start out (snapshot c) fits)

-- what `write` goes by
pub ruleset writing = (write_unformed, out_unformed, write_no_room, out_no_room, write_done, out_done, not_accepted)
