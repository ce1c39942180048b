-- Writing a snapshot key by key, as far as the lent buffer reaches. Assumes nothing.
use mathlib.Core.{Path.{◌≡◌, refl, ap, ap₂, sym, ◌∙◌}, List.{List, [], ◌∷◌, ◌++◌, append-nil}, Option.{Option, none, some, map}}
use mathlib.Core.Bool.{Bool, true, false, cond}
use Prim.Native.Nat.{ℕ, ◌+◌, ◌-◌, ◌*◌, ◌≤◌, ◌<◌}
use native.Mathlib.{Nat.{add-zero}, Omega.{arith}}
use lib.{Dec.{eqb, leb, lit≤}, ListN.{length, get_or, take, drop, replicate, length-append}, Seq.{take_at}}
use borrow.Author.Tests.{eqb-true, le-leb, lt-leb}
use Rattle.std.specs.Prelude.{Some, None}
use Rattle.std.specs.Option.{is_some}
use Rattle.wire.specs.{Numbers.{bytes_of}, Writes.{overlay}, Endpoints.{first_address, places}}
use Rattle.wire.specs.Selectors as selector
use Rattle.wire.proofs.Laws.{Bytes.{bytes_byte}, Writes.{fits, no_bytes, append}}
use Rattle.snapshot.specs.{Keys.{ev_key, metadata_key, hdr_key, throttle_key, keys, record_length}, Records.{record_bytes, records, encode}}
use Rattle.snapshot.proofs.Laws.Maps.{records_split}
use Rattle.controls.specs.declared.Setting.{Setting}
use Rattle.controls.specs.Controls.{HeldEv, HeldNumber, HeldThrottle, HeldSetting, setting_held}
use Rattle.controls.specs.declared.Setting.TheVariants as S
use Rattle.controls.specs.declared.ThrottleSetting.{ThrottleSetting}
use Rattle.exposure.specs.Exposure.{ev_bytes}
use Rattle.face.proofs.Laws.Answers.{entry_small}
use Rattle.throttle.specs.Throttle.{throttle_bytes}
use Rattle.settings.specs.{declared.settings.Settings.{Settings}, Held.{settings_held, held_setting, ev_held, face_held, number_held}}
use Rattle.settings.specs.Held.{throttle_held}
use Rattle.encoding.specs.Encoding.{framed, no_limits, record_of, encoded}

-- a record's length and kind before its payload, in a buffer of the longest record's length
pub framed_laid : (kind : ℕ) (payload : List ℕ) → kind < 256 → length payload ≤ 20
    → take (4 + length payload) (overlay ((4 + length payload) ∷ 0 ∷ kind ∷ 0 ∷ replicate 20 0) 4 payload) ≡ framed kind payload
unfolding bytes_of
framed_laid kind payload h k =
    let n = 4 + length payload in
    let head = n ∷ 0 ∷ kind ∷ 0 ∷ [] in
    let d = n ∷ 0 ∷ kind ∷ 0 ∷ replicate 20 0 in
    let e : length (head ++ payload) ≡ n = length-append head payload in
    ap (take n) (fits d 4 payload (omega arith))
    ∙ take_at (head ++ payload) (drop (4 + length payload) d) n e
    ∙ ap₂ (λ (a b : List ℕ). a ++ b ++ payload) (sym (bytes_byte 1 n (omega arith))) (sym (bytes_byte 1 kind h))

pub face_record : (address flags : ℕ) → flags < 256
    → framed selector.face (1 ∷ address ∷ flags ∷ 0 ∷ 0 ∷ 0 ∷ 0 ∷ 0 ∷ 0 ∷ []) ≡ record_of (S.Face address flags)
unfolding record_of
face_record address flags h = ap (λ (l : List ℕ). framed selector.face (1 ∷ l)) (sym (entry_small address flags h))

-- a setting that is held has a record of this length
abbrev Long : Option Setting → ℕ → Type 0
Long none n = Unit {0}
Long (some s) n = length (record_of s) ≡ n

long-ev : (h : HeldEv) → Long (ev_held h) 15
unfolding record_of bytes_of ev_bytes
long-ev None = tt
long-ev (Some s) = refl

long-face : (address flags : ℕ) → Long (face_held address flags) 13
unfolding record_of bytes_of
long-face address flags = go (eqb flags 0)
  where
    go : (b : Bool) → Long (cond b none (some (S.Face address flags))) 13
    go true = tt
    go false = refl

long-metadata : (h : HeldNumber) → Long (number_held S.Metadata h) 8
unfolding record_of bytes_of
long-metadata None = tt
long-metadata (Some n) = refl

long-hdr : (h : HeldNumber) → Long (number_held S.Hdr h) 8
unfolding record_of bytes_of
long-hdr None = tt
long-hdr (Some n) = refl

long-throttle : (h : HeldThrottle) → Long (throttle_held h) 24
unfolding record_of bytes_of throttle_bytes
long-throttle None = tt
long-throttle (Some s) = refl

-- of each key that of the key
long : (s : Settings) (k : ℕ) → Long (settings_held s k) (record_length k)
unfolding settings_held
long s k = go (eqb k ev_key) (leb k places) (eqb k metadata_key) refl (eqb k hdr_key) refl (eqb k throttle_key) refl
  where
    go : (a b c : Bool) → eqb k metadata_key ≡ c → (d : Bool) → eqb k hdr_key ≡ d → (e : Bool) → eqb k throttle_key ≡ e
        → Long
        (cond a (ev_held s.ev)
        (cond b (face_held (first_address + (k - 1)) (get_or s.face (k - 1) 0))
        (cond c (number_held S.Metadata s.metadata)
        (cond d (number_held S.Hdr s.hdr)
        (cond e (throttle_held s.throttle) none)))))
        (cond a 15 (cond b 13 (cond (leb k hdr_key) 8 (cond e 24 0))))
    go true b c p d q e r = long-ev s.ev
    go false true c p d q e r = long-face (first_address + (k - 1)) (get_or s.face (k - 1) 0)
    go false false true p d q e r =
        let i = eqb-true k metadata_key p in rw (le-leb k hdr_key (omega arith)) (long-metadata s.metadata)
    go false false false p true q e r = let i = eqb-true k hdr_key q in rw (le-leb k hdr_key (omega arith)) (long-hdr s.hdr)
    go false false false p false q true r =
        let i = eqb-true k throttle_key r in rw (lt-leb k hdr_key (omega arith)) (long-throttle s.throttle)
    go false false false p false q false r = tt

-- the records of settings by their keys
abbrev records_held : Settings → ℕ → Option (List ℕ)
records_held s k = map record_of (settings_held s k)

-- the records of the keys below k, and that of key k
abbrev pub below : Settings → ℕ → List ℕ
below s k = records k 0 (records_held s)

piece : Settings → ℕ → List ℕ
piece s k = record_bytes (records_held s k)

below_all : (s : Settings) → below s keys ≡ encoded s
unfolding encode
below_all s = refl

below_next : (s : Settings) (k : ℕ) → below s (k + 1) ≡ below s k ++ piece s k
unfolding records piece
below_next s k =
    records_split (records_held s) k 1 0 ∙ ap (λ l. below s k ++ l) (append-nil _ ∙ ap (λ j. record_bytes (records_held s j)) (add-zero k))

-- no record is longer than the throttle's
length_short : (k : ℕ) → record_length k ≤ 24
length_short k = go (eqb k ev_key) (leb k places) (leb k hdr_key) (eqb k throttle_key)
  where
    go : (a b c d : Bool) → cond a 15 (cond b 13 (cond c 8 (cond d 24 0))) ≤ 24
    go true b c d = lit≤ tt
    go false true c d = lit≤ tt
    go false false true d = lit≤ tt
    go false false false true = lit≤ tt
    go false false false false = lit≤ tt

-- what stands before key k: how long the records of the keys below it are, and in a buffer, that they are written
pub record Measured (s : Settings) (n k : ℕ) : Type 0 where
  pub short : n ≤ 24 * k
  pub long : n ≡ length (below s k)

pub record Progress (s : Settings) (old out : List ℕ) (n k : ℕ) : Type 0 where
  pub measured : Measured s n k
  pub is : out ≡ overlay old 0 (below s k)

-- whether a setting is held
some_of : (h : HeldSetting) → is_some h ≡ true → (t : Setting) × (h ≡ Some t)
some_of None e = let z : ◌≡◌ {A = ℕ} 0 1 = cc in absurd (omega arith)
some_of (Some t) e = (t, refl)

none_of : (h : HeldSetting) → is_some h ≡ false → h ≡ None
none_of None e = refl
none_of (Some t) e = let z : ◌≡◌ {A = ℕ} 0 1 = cc in absurd (omega arith)

-- a turn, by what key k holds
module _ (s : Settings) (k : ℕ) (h : HeldSetting) (is_held_lem : h ≡ held_setting (settings_held s k)) where
  holds : settings_held s k ≡ setting_held h
  holds = go (settings_held s k) is_held_lem
    where
      go : (o : Option Setting) → h ≡ held_setting o → o ≡ setting_held h
      go none e = rw e
      go (some t) e = rw e

  piece_none : h ≡ None → below s (k + 1) ≡ below s k
  unfolding piece
  piece_none e = below_next s k ∙ rw (holds, e) (append-nil (below s k))

  module _ (t : Setting) (e : h ≡ Some t) where
    piece_some : below s (k + 1) ≡ below s k ++ record_of t
    unfolding piece
    piece_some = below_next s k ∙ rw (holds, e)

    piece_long : length (record_of t) ≡ record_length k
    piece_long = rw (holds, e) at (long s k)

    measured_some : {n : ℕ} → Measured s n k → Measured s (n + record_length k) (k + 1)
    measured_some w = record {
      short = omega (arith, w.short, length_short k);
      long = omega (arith, w.long, piece_long, ap length piece_some, length-append (below s k) (record_of t));
    }

    pub progress_some : {old out after : List ℕ} {n : ℕ} → Progress s old out n k → after ≡ overlay out n (record_of t)
        → Progress s old after (n + record_length k) (k + 1)
    progress_some {old} {out} {after} {n} w is-written = record {
      measured = measured_some w.measured;
      is =
          is-written
          ∙ ap₂ (λ o m. overlay o m (record_of t)) w.is w.measured.long
          ∙ append old (below s k) (record_of t)
          ∙ ap (overlay old 0) (sym piece_some);
    }

  measured_none : h ≡ None → {n : ℕ} → Measured s n k → Measured s n (k + 1)
  measured_none e w = record { short = omega (arith, w.short); long = w.long ∙ ap length (sym (piece_none e)) }

  pub progress_none : h ≡ None → {old out : List ℕ} {n : ℕ} → Progress s old out n k → Progress s old out n (k + 1)
  progress_none e {old} w = record {
    measured = measured_none e w.measured;
    is = w.is ∙ ap (overlay old 0) (sym (piece_none e));
  }

  -- as `measure` tells it
  pub measured_held : is_some h ≡ true → {n : ℕ} → Measured s n k → Measured s (n + record_length k) (k + 1)
  measured_held e w = let t = some_of h e in measured_some t.0 t.1 w

  pub measured_not : is_some h ≡ false → {n : ℕ} → Measured s n k → Measured s n (k + 1)
  measured_not e w = measured_none (none_of h e) w

pub measured_first : (s : Settings) → Measured s 0 0
unfolding records
measured_first s = record { short = omega arith; long = refl }

pub progress_first : (s : Settings) (old : List ℕ) → Progress s old old 0 0
unfolding records
progress_first s old = record { measured = measured_first s; is = sym (no_bytes old) }

-- and once all keys are passed
pub measured_all : (s : Settings) {n k : ℕ} → k ≡ keys → Measured s n k → n ≡ length (encoded s)
measured_all s e w = w.long ∙ ap (λ j. length (below s j)) e ∙ ap length (below_all s)

pub progress_all : (s : Settings) {old out : List ℕ} {n k : ℕ} → k ≡ keys → Progress s old out n k → out ≡ overlay old 0 (encoded s)
progress_all s {old} e w = w.is ∙ ap (λ j. overlay old 0 (below s j)) e ∙ ap (overlay old 0) (below_all s)
