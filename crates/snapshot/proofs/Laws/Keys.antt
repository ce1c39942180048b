-- The numbers of the keys stand in the order of kind, then address. Assumes nothing.
use Prim.Native.Nat.{ℕ, zero, suc, ◌+◌, ◌-◌, ◌≤◌, ◌<◌}
use native.Mathlib.Omega.{arith}
use mathlib.Core.{Path.{◌≡◌, refl, sym, ap, ◌∙◌}, Bool.{Bool, true, false, cond}, List.{List}}
use lib.{ListN.{get_or}, Dec.{leb, ltb, eqb}}
use borrow.Author.Tests.{eqb-true, eqb-false, leb-true, leb-false, ltb-true, ltb-false, le-leb, ne_eqb}
use Rattle.wire.specs.Endpoints.{first_address, places}
use Rattle.snapshot.specs.{Keys.{keys}, Form.{stated_kind, order_place, sound_record, stated_key}}
use Rattle.snapshot.proofs.Laws.Sound.{Sound, Kind, ev, face, metadata, hdr, throttle, kind_of, sound_parts, sound_of, sound_address}

-- the place of a key in the order
place_of : ℕ → ℕ
place_of k = cond (eqb k 0) 0x300 (cond (leb k places) (0x680 + k) (cond (eqb k (1 + places)) 0x900 (cond (eqb k (2 + places)) 0xD00 0xE00)))

face_place : (k : ℕ) → 1 ≤ k → k ≤ places → place_of k ≡ 0x680 + k
unfolding place_of
face_place k h l = simp (ne_eqb k 0 (omega arith), le-leb k places l)

place_kind : (s : List ℕ) → Sound s → Kind (stated_kind s) → order_place s ≡ place_of (stated_key s)
unfolding stated_key place_of
place_kind s p (ev e) = rw e
place_kind s p (face e) =
    let b = sound_address s p e in
    let f = face_place (get_or s 5 0 - (first_address - 1)) (omega arith) (omega arith) in
    rw e (omega arith)
place_kind s p (metadata e) = rw e
place_kind s p (hdr e) = rw e
place_kind s p (throttle e) = rw e

-- from one key to the next
place_next : (k : ℕ) → suc k < keys → place_of k < place_of (suc k)
unfolding place_of
place_next k h = go (eqb k 0) refl (ltb k places) refl (leb k places) refl (eqb k (1 + places)) refl
  where
    go : (a : Bool) → eqb k 0 ≡ a → (b : Bool) → ltb k places ≡ b → (c : Bool) → leb k places ≡ c → (d : Bool) → eqb k (1 + places) ≡ d
        → place_of k < place_of (suc k)
    go true p b q c r d s = let e = eqb-true k 0 p in rw e (omega arith)
    go false p true q c r d s =
        let n = eqb-false k 0 p in
        let l = ltb-true k places q in
        omega (arith, face_place k (omega arith) (omega arith), face_place (suc k) (omega arith) (omega arith))
    go false p false q true r d s =
        let l = ltb-false k places q in
        let m = leb-true k places r in
        let e : k ≡ places = omega arith in rw e (omega arith)
    go false p false q false r true s = let e = eqb-true k (1 + places) s in rw e (omega arith)
    go false p false q false r false s =
        let l = leb-false k places r in
        let n = eqb-false k (1 + places) s in
        let e : k ≡ 2 + places = omega arith in rw e (omega arith)

place_later : (j k : ℕ) → j < k → k < keys → place_of j < place_of k
place_later j zero h l = absurd (omega arith)
place_later j (suc k) h l = go (eqb j k) refl (λ (p : j < k). place_later j k p (omega arith))
  where
    go : (b : Bool) → eqb j k ≡ b → (j < k → place_of j < place_of k) → place_of j < place_of (suc k)
    go true e ih = let q = eqb-true j k e in rw q (place_next k (omega arith))
    go false e ih = let n = eqb-false j k e in omega (arith, ih (omega arith), place_next k (omega arith))

-- of two sound records, the one with the lower key stands before the other by kind, then address, and equal keys are at one place
pub key_order : (s t : List ℕ) → sound_record s ≡ true → sound_record t ≡ true
    → (stated_key s < stated_key t → order_place s < order_place t) × (stated_key s ≡ stated_key t → order_place s ≡ order_place t)
key_order s t p q =
    let u = sound_parts s p in
    let v = sound_parts t q in
    let e = place_kind s u (kind_of (stated_kind s) u.known) in
    let f = place_kind t v (kind_of (stated_kind t) v.known) in
    (λ h. rw (e, f) (place_later (stated_key s) (stated_key t) h (sound_of t v).key), λ h. e ∙ ap place_of h ∙ sym f)
