-- What the types of a camera's settings say of each setting that is held. Assumes nothing.
use mathlib.Core.{Path.{◌≡◌}, Option.{none, some}, Bool.{Bool, true, false, cond}}
use Prim.Native.Nat.{ℕ, ◌+◌, ◌-◌, ◌^◌, ◌<◌}
use lib.{Dec.{eqb, leb, lit<}, ListN.{get_or}}
use Rattle.snapshot.specs.Keys.{metadata_key, hdr_key, throttle_key}
use Rattle.wire.specs.Endpoints.{first_address, places}
use Rattle.controls.specs.declared.Setting.{Setting}
use Rattle.controls.specs.Controls.{HeldNumber}
use Rattle.controls.specs.declared.Setting.TheVariants as S
use Rattle.std.specs.declared.option.Option.TheVariants as N
use Rattle.controls.specs.Controls.{HeldThrottle}
use Rattle.settings.specs.declared.settings.Settings.{Settings}
use Rattle.settings.specs.Held.{ev_held, face_held, number_held, metadata_held, hdr_held, throttle_held, settings_held}
use Rattle.demands.specs.Cameras.{setting_flags}
use Rattle.invariants.proofs.Laws.Held.{none_never, some_is}

abbrev Small : Setting → Type 0
Small s = setting_flags s < 2 ^ 8

pub held_typed : (h : Settings) → ((s : Setting) → ev_held h.ev ≡ some s → setting_flags s < 2 ^ 8)
    → ((i : ℕ) → get_or h.face i 0 < 2 ^ 8)
    → (k : ℕ) (s : Setting) → settings_held h k ≡ some s → setting_flags s < 2 ^ 8
unfolding settings_held
held_typed h ev face k s e = go (eqb k 0) (leb k places) (eqb k metadata_key) (eqb k hdr_key) (eqb k throttle_key) e
  where
    of_face : (flags : ℕ) (b : Bool) (address : ℕ) → flags < 2 ^ 8 → cond b none (some (S.Face address flags)) ≡ some s → Small s
    of_face flags true address l q = absurd (none_never s q)
    of_face flags false address l q = some_is Small (S.Face address flags) s q l

    of_number : (control : ℕ → Setting) → ((n : ℕ) → Small (control n)) → (n : HeldNumber) → number_held control n ≡ some s → Small s
    of_number control p N.None q = absurd (none_never s q)
    of_number control p (N.Some n) q = some_is Small (control n) s q (p n)

    of_throttle : (t : HeldThrottle) → throttle_held t ≡ some s → Small s
    of_throttle N.None q = absurd (none_never s q)
    of_throttle (N.Some t) q = some_is Small (S.Throttle t) s q (lit< tt)

    go : (a b m d t : Bool)
        → cond a (ev_held h.ev)
        (cond b (face_held (first_address + (k - 1)) (get_or h.face (k - 1) 0))
        (cond m (metadata_held h.metadata) (cond d (hdr_held h.hdr) (cond t (throttle_held h.throttle) none)))) ≡ some s
        → Small s
    go true b m d t q = ev s q
    go false true m d t q = of_face (get_or h.face (k - 1) 0) (eqb (get_or h.face (k - 1) 0) 0) (first_address + (k - 1)) (face (k - 1)) q
    go false false true d t q = of_number S.Metadata (λ n. lit< tt) h.metadata q
    go false false false true t q = of_number S.Hdr (λ n. lit< tt) h.hdr q
    go false false false false true q = of_throttle h.throttle q
    go false false false false false q = absurd (none_never s q)
