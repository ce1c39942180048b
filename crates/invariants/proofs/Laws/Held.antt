-- What is held after settings are put in: the last of each key, and what was held of the others. Assumes nothing.
use mathlib.Core.{Path.{◌≡◌, refl, ap, ap₂, sym, ◌∙◌, subst}, List.{List, [], ◌∷◌}, Option.{Option, none, some}}
use mathlib.Core.Bool.{Bool, true, false, cond}
use Prim.Native.Nat.{ℕ, ◌+◌, ◌-◌, ◌≤◌, ◌<◌}
use native.Mathlib.Omega.{arith}
use lib.{Dec.{eqb, leb}, ListN.{length, get_or, replicate, get_or-replicate}}
use borrow.Author.Tests.{eq-eqb, ne_eqb, eqb-true, eqb-false, le-leb, lt-leb, leb-true}
use Rattle.wire.specs.Endpoints.{first_address, last_address, places}
use Rattle.snapshot.specs.{Keys.{keys, metadata_key, hdr_key, throttle_key}, Given.{over, last_of}}
use Rattle.snapshot.proofs.Laws.Given.{over_assoc}
use Rattle.controls.specs.declared.Setting.{Setting}
use Rattle.std.specs.declared.option.Option.TheVariants.{Some, None}
use Rattle.controls.specs.Controls.{HeldNumber, HeldEv, HeldThrottle}
use Rattle.controls.specs.declared.Setting.TheVariants as S
use Rattle.entries.proofs.Laws.Held.{put-at, put_elsewhere, length-put}
use Rattle.settings.specs.{declared.settings.Settings.{Settings}, Settings.{no_settings, setting_key, put}}
use Rattle.settings.specs.{Held.{ev_held, face_held, number_held, metadata_held, hdr_held, throttle_held, settings_held}, Items.{put_all}}

-- a setting that can be held: of face authentication, at an address that has a place and with a flag
abbrev pub Proper : Setting → Type 0
Proper (S.Ev s) = Unit {0}
Proper (S.Face address flags) = (first_address ≤ address) × (address ≤ last_address) × (0 < flags)
Proper (S.Metadata n) = Unit {0}
Proper (S.Hdr n) = Unit {0}
Proper (S.Throttle s) = Unit {0}

-- what decides of the keys of face authentication, and behind the last key
module _ (h : Settings) (k : ℕ) where
  pub held_face : 1 ≤ k → k ≤ places → settings_held h k ≡ face_held (first_address + (k - 1)) (get_or h.face (k - 1) 0)
  unfolding settings_held
  held_face l u = rw (ne_eqb k 0 (omega arith), le-leb k places u)

  pub held_none : keys ≤ k → settings_held h k ≡ none
  unfolding settings_held
  held_none l =
      rw (
        ne_eqb k 0 (omega arith),
        lt-leb k places (omega arith),
        ne_eqb k metadata_key (omega arith),
        ne_eqb k hdr_key
            (omega arith),
        ne_eqb k throttle_key (omega arith),
      )

-- settings that agree on the control of key k hold the same of it
held_same : (c d : Settings) (k : ℕ) → (k ≡ 0 → c.ev ≡ d.ev) → (1 ≤ k → k ≤ places → get_or c.face (k - 1) 0 ≡ get_or d.face (k - 1) 0)
    → (k ≡ metadata_key → c.metadata ≡ d.metadata) → (k ≡ hdr_key → c.hdr ≡ d.hdr) → (k ≡ throttle_key → c.throttle ≡ d.throttle)
    → settings_held c k ≡ settings_held d k
unfolding settings_held
held_same c d k ev face metadata hdr throttle =
    go (eqb k 0) (leb k places) (eqb k metadata_key) (eqb k hdr_key) (eqb k throttle_key) refl refl refl refl refl
  where
    by : Bool → Bool → Bool → Bool → Bool → Settings → Option Setting
    by a b m h t s =
        cond a (ev_held s.ev)
        (cond b (face_held (first_address + (k - 1)) (get_or s.face (k - 1) 0))
        (cond m (metadata_held s.metadata) (cond h (hdr_held s.hdr) (cond t (throttle_held s.throttle) none))))

    go : (a b m h t : Bool) → eqb k 0 ≡ a → leb k places ≡ b → eqb k metadata_key ≡ m → eqb k hdr_key ≡ h → eqb k throttle_key ≡ t
        → by a b m h t c ≡ by a b m h t d
    go true b m h t p q r s u = ap ev_held (ev (eqb-true k 0 p))
    go false true m h t p q r s u =
        ap (face_held (first_address + (k - 1))) (face (let n = eqb-false k 0 p in omega arith) (leb-true k places q))
    go false false true h t p q r s u = ap metadata_held (metadata (eqb-true k metadata_key r))
    go false false false true t p q r s u = ap hdr_held (hdr (eqb-true k hdr_key s))
    go false false false false true p q r s u = ap throttle_held (throttle (eqb-true k throttle_key u))
    go false false false false false p q r s u = refl

-- what is put in is held
put_held : (h : Settings) (s : Setting) → Proper s → length h.face ≡ places → settings_held (put h s) (setting_key s) ≡ some s
unfolding settings_held put
put_held h (S.Ev s) p l = refl
put_held h (S.Face address flags) p l =
    let k = setting_key (S.Face address flags) in
    let e : first_address + (k - 1) ≡ address = omega arith in
    held_face (put h (S.Face address flags)) k (omega arith) (omega arith)
    ∙ ap₂ face_held e (put-at h.face address flags (k - 1) (omega arith) ∙ ap (λ b. cond b flags (get_or h.face (k - 1) 0))
    (eq-eqb address (first_address + (k - 1)) (sym e)))
    ∙ rw (ne_eqb flags 0 (omega arith))
put_held h (S.Metadata n) p l = refl
put_held h (S.Hdr n) p l = refl
put_held h (S.Throttle s) p l = refl

-- and nothing else changes
pub put_other : (h : Settings) (s : Setting) → Proper s → (k : ℕ) → (setting_key s ≡ k → ⊥) → settings_held (put h s) k ≡ settings_held h k
unfolding put
put_other h (S.Ev s) p k n = held_same _ _ k (λ e. absurd (n (sym e))) (λ a b. refl) (λ e. refl) (λ e. refl) (λ e. refl)
put_other h (S.Face address flags) p k n =
    held_same _ _ k (λ e. refl)
    (λ a b. put_elsewhere h.face address flags (k - 1) (λ e. n (omega arith))) (λ e. refl) (λ e. refl) (λ e. refl)
put_other h (S.Metadata m) p k n = held_same _ _ k (λ e. refl) (λ a b. refl) (λ e. absurd (n (sym e))) (λ e. refl) (λ e. refl)
put_other h (S.Hdr m) p k n = held_same _ _ k (λ e. refl) (λ a b. refl) (λ e. refl) (λ e. absurd (n (sym e))) (λ e. refl)
put_other h (S.Throttle s) p k n = held_same _ _ k (λ e. refl) (λ a b. refl) (λ e. refl) (λ e. refl) (λ e. absurd (n (sym e)))

held_put : (h : Settings) (s : Setting) → Proper s → length h.face ≡ places → (k : ℕ)
    → settings_held (put h s) k ≡ over (settings_held h k) (cond (eqb (setting_key s) k) (some s) none)
held_put h s p l k = go (eqb (setting_key s) k) refl
  where
    go : (b : Bool) → eqb (setting_key s) k ≡ b → settings_held (put h s) k ≡ over (settings_held h k) (cond b (some s) none)
    go true e = let q : setting_key s ≡ k = eqb-true (setting_key s) k e in ap (settings_held (put h s)) (sym q) ∙ put_held h s p l
    go false e = put_other h s p k (eqb-false (setting_key s) k e)

put_length : (h : Settings) (s : Setting) → length (put h s).face ≡ length h.face
unfolding put
put_length h (S.Ev s) = refl
put_length h (S.Face address flags) = length-put h.face address flags
put_length h (S.Metadata n) = refl
put_length h (S.Hdr n) = refl
put_length h (S.Throttle s) = refl

-- P holds of every setting of a list, each under its own key
abbrev pub Each : (Setting → Type 0) → List (ℕ × Setting) → Type 0
Each P [] = Unit {0}
Each P (x ∷ l) = (x.0 ≡ setting_key x.1) × P x.1 × Each P l

pub puts_held : (h : Settings) (l : List (ℕ × Setting)) → Each Proper l → length h.face ≡ places → (k : ℕ)
    → settings_held (put_all h l) k ≡ over (settings_held h k) (last_of l k)
unfolding put_all
puts_held h [] p f k = refl
puts_held h (x ∷ l) p f k =
    puts_held (put h x.1) l p.2 (put_length h x.1 ∙ f) k
    ∙ ap (λ o. over o (last_of l k)) (held_put h x.1 p.1 f k)
    ∙ over_assoc (settings_held h k) (cond (eqb (setting_key x.1) k) (some x.1) none) (last_of l k)
    ∙ ap (λ (j : ℕ). over (settings_held h k) (over (cond (eqb j k) (some x.1) none) (last_of l k))) (sym p.0)

pub puts_length : (h : Settings) (l : List (ℕ × Setting)) → length (put_all h l).face ≡ length h.face
unfolding put_all
puts_length h [] = refl
puts_length h (x ∷ l) = puts_length (put h x.1) l ∙ put_length h x.1

-- no settings hold nothing
pub none_held : (k : ℕ) → settings_held no_settings k ≡ none
unfolding settings_held no_settings
none_held k = go (eqb k 0) (leb k places) (eqb k metadata_key) (eqb k hdr_key) (eqb k throttle_key) refl refl
  where
    go : (a b m h t : Bool) → eqb k 0 ≡ a → leb k places ≡ b
        → cond a (ev_held None)
        (cond b (face_held (first_address + (k - 1)) (get_or (replicate {A = ℕ} places 0) (k - 1) 0))
        (cond m (metadata_held None) (cond h (hdr_held None) (cond t (throttle_held None) none)))) ≡ none
    go true b m h t p q = refl
    go false true m h t p q =
        let z : get_or (replicate {A = ℕ} places 0) (k - 1) 0 ≡ 0 =
        get_or-replicate places (k - 1) 0 0 (let n = eqb-false k 0 p in let u = leb-true k places q in omega arith) in
        rw z
    go false false true h t p q = refl
    go false false false true t p q = refl
    go false false false false true p q = refl
    go false false false false false p q = refl

-- what is held of a key stands under that key, and is proper
pub some_is : (P : Setting → Type 0) (x s : Setting) → some x ≡ some s → P x → P s
some_is P x s e p = let q : x ≡ s = cc in subst P q p

pub none_never : (s : Setting) → none ≡ some s → ⊥
none_never s e = let z : ◌≡◌ {A = ℕ} 0 1 = cc in omega arith

abbrev Named : ℕ → Setting → Type 0
Named k s = (setting_key s ≡ k) × Proper s

pub held_named : (h : Settings) (k : ℕ) (s : Setting) → settings_held h k ≡ some s → Named k s
unfolding settings_held
held_named c k s e = go (eqb k 0) (leb k places) (eqb k metadata_key) (eqb k hdr_key) (eqb k throttle_key) refl refl refl refl refl e
  where
    of_ev : (h : HeldEv) → ev_held h ≡ some s → Named 0 s
    of_ev None q = absurd (none_never s q)
    of_ev (Some x) q = some_is (Named 0) (S.Ev x) s q (refl, tt)

    of_number : (n : ℕ) (control : ℕ → Setting) → ((m : ℕ) → Named n (control m)) → (h : HeldNumber) → number_held control h ≡ some s
        → Named n s
    of_number n control p None q = absurd (none_never s q)
    of_number n control p (Some m) q = some_is (Named n) (control m) s q (p m)

    of_throttle : (h : HeldThrottle) → throttle_held h ≡ some s → Named throttle_key s
    of_throttle None q = absurd (none_never s q)
    of_throttle (Some x) q = some_is (Named throttle_key) (S.Throttle x) s q (refl, tt)

    of_face : (flags : ℕ) (b : Bool) → eqb flags 0 ≡ b → 1 ≤ k → k ≤ places
        → cond b none (some (S.Face (first_address + (k - 1)) flags)) ≡ some s → Named k s
    of_face flags true z l h q = absurd (none_never s q)
    of_face flags false z l h q =
        let n = eqb-false flags 0 z in
        some_is (Named k) (S.Face (first_address + (k - 1)) flags) s q (omega arith, (omega arith, omega arith, omega arith))

    go : (a b m h t : Bool) → eqb k 0 ≡ a → leb k places ≡ b → eqb k metadata_key ≡ m → eqb k hdr_key ≡ h → eqb k throttle_key ≡ t
        → cond a (ev_held c.ev)
        (cond b (face_held (first_address + (k - 1)) (get_or c.face (k - 1) 0))
        (cond m (metadata_held c.metadata) (cond h (hdr_held c.hdr) (cond t (throttle_held c.throttle) none)))) ≡ some s
        → Named k s
    go true b m h t p q r u v x = rw (eqb-true k 0 p) (of_ev c.ev x)
    go false true m h t p q r u v x =
        of_face (get_or c.face (k - 1) 0) _ refl (let n = eqb-false k 0 p in omega arith) (leb-true k places q) x
    go false false true h t p q r u v x = rw (eqb-true k metadata_key r) (of_number metadata_key S.Metadata (λ m. (refl, tt)) c.metadata x)
    go false false false true t p q r u v x = rw (eqb-true k hdr_key u) (of_number hdr_key S.Hdr (λ m. (refl, tt)) c.hdr x)
    go false false false false true p q r u v x = rw (eqb-true k throttle_key v) (of_throttle c.throttle x)
    go false false false false false p q r u v x = absurd (none_never s x)
