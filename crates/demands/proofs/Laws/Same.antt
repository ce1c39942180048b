-- What is held of a control says how the record keeps it. Assumes nothing.
use mathlib.Core.{Path.{◌≡◌, refl, ap, sym, ◌∙◌}, Option.{none, some}, Bool.{Bool, true, false, cond}}
use Prim.Native.Nat.{ℕ, ◌+◌, ◌-◌, ◌<◌}
use native.Mathlib.Omega.{arith}
use lib.{Dec.{eqb}, ListN.{length, get_or}, Seq.{ext_get_or}}
use borrow.Author.Tests.{eqb-true}
use Rattle.snapshot.specs.Keys.{metadata_key, hdr_key, throttle_key}
use Rattle.wire.specs.Endpoints.{first_address, places}
use Rattle.controls.specs.declared.Setting.{Setting}
use Rattle.controls.specs.Controls.{HeldNumber}
use Rattle.controls.specs.declared.Setting.TheVariants as S
use Rattle.controls.specs.Controls.{HeldEv}
use Rattle.std.specs.declared.option.Option.TheVariants as E
use Rattle.controls.specs.Controls.{HeldThrottle}
use Rattle.settings.specs.declared.settings.Settings.{Settings}
use Rattle.settings.specs.Held.{settings_held, ev_held, face_held, number_held, metadata_held, hdr_held, throttle_held}
use Rattle.invariants.proofs.Laws.Held.{none_never, held_face}

pub ev_same : (a b : HeldEv) → ev_held a ≡ ev_held b → a ≡ b
ev_same E.None E.None e = refl
ev_same E.None (E.Some t) e = absurd (none_never (S.Ev t) e)
ev_same (E.Some s) E.None e = absurd (none_never (S.Ev s) (sym e))
ev_same (E.Some s) (E.Some t) e = cc

number_same : (control : ℕ → Setting) → ((m n : ℕ) → control m ≡ control n → m ≡ n) → (a b : HeldNumber)
    → number_held control a ≡ number_held control b → a ≡ b
number_same control f E.None E.None e = refl
number_same control f E.None (E.Some n) e = absurd (none_never (control n) e)
number_same control f (E.Some m) E.None e = absurd (none_never (control m) (sym e))
number_same control f (E.Some m) (E.Some n) e = ap E.Some (f m n (cc))

pub metadata_same : (a b : HeldNumber) → metadata_held a ≡ metadata_held b → a ≡ b
metadata_same = number_same S.Metadata (λ m n e. cc)

pub hdr_same : (a b : HeldNumber) → hdr_held a ≡ hdr_held b → a ≡ b
hdr_same = number_same S.Hdr (λ m n e. cc)

pub throttle_same : (a b : HeldThrottle) → throttle_held a ≡ throttle_held b → a ≡ b
throttle_same E.None E.None e = refl
throttle_same E.None (E.Some t) e = absurd (none_never (S.Throttle t) e)
throttle_same (E.Some s) E.None e = absurd (none_never (S.Throttle s) (sym e))
throttle_same (E.Some s) (E.Some t) e = cc

-- of a face place none is held exactly where it is 0
pub face_same : (address m n : ℕ) → face_held address m ≡ face_held address n → m ≡ n
face_same address m n e = go (eqb m 0) (eqb n 0) refl refl e
  where
    go : (a b : Bool) → eqb m 0 ≡ a → eqb n 0 ≡ b → cond a none (some (S.Face address m)) ≡ cond b none (some (S.Face address n)) → m ≡ n
    go true true p q z = eqb-true m 0 p ∙ sym (eqb-true n 0 q)
    go true false p q z = absurd (none_never (S.Face address n) z)
    go false true p q z = absurd (none_never (S.Face address m) (sym z))
    go false false p q z = cc

-- so settings that hold the same of every key are the same
module _ (g h : Settings) (same : (k : ℕ) → settings_held g k ≡ settings_held h k) (l : length g.face ≡ places)
    (m : length h.face ≡ places) where
  place_same : (i : ℕ) → i < places → get_or g.face i 0 ≡ get_or h.face i 0
  place_same i b =
      let k = 1 + i in
      let e : k - 1 ≡ i = omega arith in
      let f : get_or g.face (k - 1) 0 ≡ get_or h.face (k - 1) 0 =
      face_same (first_address + (k - 1)) _ _
      (sym (held_face g k (omega arith) (omega arith)) ∙ same k ∙ held_face h k (omega arith) (omega arith)) in
      rw e at f

  pub settings_same : g ≡ h
  unfolding settings_held
  settings_same =
      let e = ev_same g.ev h.ev (same 0) in
      let f = ext_get_or 0 g.face h.face (l ∙ sym m) (λ i b. place_same i (omega arith)) in
      let n = metadata_same g.metadata h.metadata (same metadata_key) in
      let o = hdr_same g.hdr h.hdr (same hdr_key) in
      let t = throttle_same g.throttle h.throttle (same throttle_key) in
      λ i. record { ev = e i; face = f i; metadata = n i; hdr = o i; throttle = t i }
