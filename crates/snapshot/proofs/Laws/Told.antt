-- The key of the record at the start of bytes, as the code tells it: by the numbers that it states, then by a throttle's tail. Assumes
-- nothing.
use Prim.Native.Nat.{ℕ, ◌+◌, ◌-◌, ◌≤◌, ◌<◌}
use native.Mathlib.Omega.{arith}
use mathlib.Core.{Path.{◌≡◌, refl, sym, ap, ◌∙◌}, Bool.{Bool, true, false, cond, ◌&&◌, true≢false}}
use mathlib.Core.List.{List, [], ◌∷◌}
use lib.{ListN.{length, get_or}, Dec.{eqb}}
use borrow.Author.Tests.{eqb-true, leb-true, ltb-true, le-leb, lt-ltb, eq-eqb, ne_eqb}
use Rattle.std.specs.{List.{list_all}, Prelude.{Option}}
use Rattle.wire.specs.{Endpoints.{first_address, places}, Rows.{all_of}}
use Rattle.wire.specs.Selectors as selectors
use Rattle.snapshot.specs.{Keys.{keys, key_for}, Steps.{key_by}}
use Rattle.snapshot.specs.Form.{zeros, record_tests, stated_length, stated_kind, throttle_tail, sound_record, stated_key}
use Rattle.snapshot.specs.Records.{key_at, some_key}
use Rattle.snapshot.proofs.Laws.Sound.{each, Sound, sound_parts, parts_sound, Kind, ev, face, metadata, hdr, throttle, kind_of}
use Rattle.snapshot.proofs.Laws.Sound.{sound_address, sound_of}

-- bytes are zero where each is tested
pub all_zeros : (l : List ℕ) → list_all (λ b. eqb b 0) l ≡ zeros l
all_zeros [] = refl
all_zeros (b ∷ l) = ap (λ z. eqb b 0 && z) (all_zeros l)

-- the key by what the record at the start of s states
abbrev pub told : List ℕ → ℕ
told s = key_by (stated_length s) (stated_kind s) (get_or s 4 0) (get_or s 5 0)

-- as the code tells it, which reads these numbers
pub told_by : (s : List ℕ) {len kind n address : ℕ} {key : Option ℕ} → len ≡ stated_length s → kind ≡ stated_kind s → n ≡ get_or s 4 0
    → address ≡ get_or s 5 0 → key ≡ some_key (key_by len kind n address) → key ≡ some_key (told s)
told_by s e f g h i = i ∙ rw (e, f, g, h)

abbrev stated : List ℕ → Bool
stated s = all_of (record_tests (stated_length s) (stated_length s) (stated_kind s) (get_or s 4 0) (get_or s 5 0) true)

either : (b : Bool) → cond b true true ≡ true
either true = refl
either false = refl

module _ (s : List ℕ) where
  sound_key : sound_record s ≡ true → key_at s ≡ key_for (stated_kind s) (get_or s 5 0)
  unfolding key_at stated_key
  sound_key e = simp e

  no_key : (sound_record s ≡ true → ⊥) → keys ≡ key_at s
  unfolding key_at
  no_key h = go (sound_record s) h
    where
      go : (b : Bool) → (b ≡ true → ⊥) → keys ≡ cond b (stated_key s) keys
      go true h = absurd (h refl)
      go false h = refl

  pub short_none : length s < 8 → keys ≡ key_at s
  short_none h = no_key (λ e. let p = sound_parts s e in omega (arith, p.within, (sound_of s p).eight))

  pub cut_none : length s < stated_length s → keys ≡ key_at s
  cut_none h = no_key (λ e. omega (arith, (sound_parts s e).within))

  sound_stated : sound_record s ≡ true → stated s ≡ true
  sound_stated e =
      let p = sound_parts s e in
      simp (
        le-leb 4 (stated_length s) (omega (arith, (sound_of s p).eight)),
        le-leb (stated_length s) (stated_length s)
            (omega arith),
        lt-ltb _ _ p.known,
        eq-eqb _ _ p.right,
        p.face,
        either,
      )

  stated_sound : stated s ≡ true → stated_length s ≤ length s
      → cond (eqb (stated_kind s) selectors.throttle) (zeros (throttle_tail s)) true ≡ true → sound_record s ≡ true
  stated_sound e h t =
      let at = each (record_tests (stated_length s) (stated_length s) (stated_kind s) (get_or s 4 0) (get_or s 5 0) true) e in
      parts_sound s record {
        four = omega (arith, leb-true 4 (stated_length s) (at 0));
        within = h;
        known = ltb-true _ _ (at 2);
        right = eqb-true _ _ (at 3);
        face = at 4;
        tail = t;
      }

  -- the tests of a throttle's own tail aside, the key is told
  module _ (h : stated_length s ≤ length s) where
    pub other_key : (told s ≡ 3 + places → ⊥) → told s ≡ key_at s
    other_key n = go (stated s) refl n
      where
        go : (b : Bool) → stated s ≡ b → (cond b (key_for (stated_kind s) (get_or s 5 0)) keys ≡ 3 + places → ⊥)
            → cond b (key_for (stated_kind s) (get_or s 5 0)) keys ≡ key_at s
        go true e n =
            let k : stated_kind s ≡ selectors.throttle → ⊥ = λ q. n (rw q refl) in
            sym (sound_key (stated_sound e h (simp (ne_eqb _ _ k))))
        go false e n = no_key (λ p. true≢false (sym (sound_stated p) ∙ e))

    pub zero_key : told s ≡ 3 + places → zeros (throttle_tail s) ≡ true → told s ≡ key_at s
    zero_key q z = go (stated s) refl q
      where
        go : (b : Bool) → stated s ≡ b → cond b (key_for (stated_kind s) (get_or s 5 0)) keys ≡ 3 + places
            → cond b (key_for (stated_kind s) (get_or s 5 0)) keys ≡ key_at s
        go true e q = sym (sound_key (stated_sound e h (rw z (either (eqb (stated_kind s) selectors.throttle)))))
        go false e q = absurd (omega arith)

    pub tail_none : told s ≡ 3 + places → zeros (throttle_tail s) ≡ false → keys ≡ key_at s
    tail_none q z = no_key λ e. let p = sound_parts s e in go p (kind_of (stated_kind s) p.known) (rw (sound_stated e) at q)
      where
        go : Sound s → Kind (stated_kind s) → key_for (stated_kind s) (get_or s 5 0) ≡ 3 + places → ⊥
        go p (ev e) q = let f : 0 ≡ 3 + places = rw e at q in omega arith
        go p (face e) q = let f : get_or s 5 0 - (first_address - 1) ≡ 3 + places = rw e at q in omega (arith, sound_address s p e)
        go p (metadata e) q = let f : 1 + places ≡ 3 + places = rw e at q in omega arith
        go p (hdr e) q = let f : 2 + places ≡ 3 + places = rw e at q in omega arith
        go p (throttle e) q = true≢false (sym (rw e at p.tail) ∙ z)
