-- Well-formed bytes: going through the keys passes all of them, and they are the snapshot of their records. Assumes nothing.
use Prim.Native.Nat.{ℕ, zero, suc, ◌+◌, ◌≤◌, ◌<◌}
use native.Mathlib.{Omega.{arith}, Nat.{zero-add}}
use mathlib.Core.{Path.{◌≡◌, refl, sym, ap, ◌∙◌}, Bool.{Bool, true, false, cond, ◌&&◌, true≢false, false≢true}, List.{List, [], ◌∷◌, ◌++◌}}
use mathlib.Core.Option.{Option, none, some}
use lib.{ListN.{length, take, drop, length-drop, take-append-drop}, Dec.{leb}}
use borrow.Author.Tests.{le-leb, lt-leb, leb-true, leb-false}
use Rattle.wire.specs.{declared.refusal.Refusal.{Refusal}, Refusals.{code_of}, Uvc.{malformed_snapshot}}
use Rattle.wire.proofs.Laws.Refusals.{not_accepted}
use Rattle.snapshot.specs.Keys.{keys, record_length}
use Rattle.snapshot.specs.Form.{stated_length, sound_record, stated_key, is_empty, formed, well_formed, form_code}
use Rattle.snapshot.specs.Records.{stands, skip, from, record_at, decode, record_bytes, records, encode, Good}
use Rattle.snapshot.proofs.Laws.Sound.{sound_parts, parts_sound, sound_of, stands_sound, sound_stands, stands_size, stands_long}
use Rattle.snapshot.proofs.Laws.Sound.{stands_some}
use Rattle.snapshot.proofs.Laws.Maps.{from_records}

-- going through n keys from k on
sweep : ℕ → ℕ → List ℕ → List ℕ
sweep zero k s = s
sweep (suc n) k s = sweep n (suc k) (skip k s)

from_sweep : (n k : ℕ) (s : List ℕ) → sweep n k (from s k) ≡ from s (n + k)
unfolding sweep from
from_sweep zero k s = simp zero-add
from_sweep (suc n) k s = let e : suc n + k ≡ n + suc k = omega arith in rw e (from_sweep n (suc k) s)

not-empty : (s : List ℕ) → 0 < length s → is_empty s ≡ false
not-empty [] h = absurd (omega arith)
not-empty (b ∷ s) h = refl

pub empty_nil : (s : List ℕ) → is_empty s ≡ true → s ≡ []
empty_nil [] e = refl
empty_nil (b ∷ s) e = absurd (false≢true e)

-- no number from `keys` on is a key
pub formed_end : (fuel : ℕ) (s : List ℕ) → formed fuel keys s ≡ is_empty s
unfolding formed
formed_end zero s = refl
formed_end (suc fuel) [] = refl
formed_end (suc fuel) (b ∷ s) = go (sound_record (b ∷ s)) refl
  where
    go : (t : Bool) → sound_record (b ∷ s) ≡ t
        → (t && leb keys (stated_key (b ∷ s)) && formed fuel (suc (stated_key (b ∷ s))) (drop (stated_length (b ∷ s)) (b ∷ s))) ≡ false
    go true e = simp (lt-leb keys (stated_key (b ∷ s)) (sound_of (b ∷ s) (sound_parts (b ∷ s) e)).key)
    go false e = refl

-- where the key `low` stands, its record is passed
pub formed_at : (fuel low : ℕ) (s : List ℕ) → stands low s ≡ true
    → formed (suc fuel) low s ≡ formed fuel (suc low) (drop (record_length low) s)
unfolding formed
formed_at fuel low s e =
    let p = stands_sound low s e in
    simp (not-empty s (omega (arith, p.0.four)), parts_sound s p.0, p.1, le-leb low low (omega arith), ← (stands_size low s e))

-- where it does not, the next key may
pub formed_not : (fuel low : ℕ) (s : List ℕ) → stands low s ≡ false → formed fuel low s ≡ formed fuel (suc low) s
unfolding formed
formed_not zero low s e = refl
formed_not (suc fuel) low s e = go (sound_record s) refl
  where
    ne : sound_record s ≡ true → stated_key s ≡ low → ⊥
    ne p q = true≢false (sym (sound_stands low s (sound_parts s p) q) ∙ e)

    same : (b : Bool) → leb low (stated_key s) ≡ b → sound_record s ≡ true → leb low (stated_key s) ≡ leb (suc low) (stated_key s)
    same true e p = e ∙ sym (le-leb (suc low) (stated_key s) (let h = leb-true low (stated_key s) e in let n = ne p in omega arith))
    same false e p = e ∙ sym (lt-leb (suc low) (stated_key s) (let h = leb-false low (stated_key s) e in omega arith))

    go : (t : Bool) → sound_record s ≡ t
        → cond (is_empty s) true (t && leb low (stated_key s) && formed fuel (suc (stated_key s)) (drop (stated_length s) s))
        ≡ cond (is_empty s) true (t && leb (suc low) (stated_key s) && formed fuel (suc (stated_key s)) (drop (stated_length s) s))
    go true p = rw (same _ refl p)
    go false p = refl

formed_sweep : (n fuel low : ℕ) (s : List ℕ) → length s ≤ fuel → n + low ≡ keys → formed fuel low s ≡ is_empty (sweep n low s)
unfolding sweep skip stands
formed_sweep zero fuel low s l h = let e : low ≡ keys = omega arith in rw e (formed_end fuel s)
formed_sweep (suc n) fuel low s l h = go (stands low s) refl fuel l (λ fuel s l. formed_sweep n fuel (suc low) s l (omega arith))
  where
    go : (t : Bool) → stands low s ≡ t → (fuel : ℕ) → length s ≤ fuel
        → ((fuel : ℕ) (s : List ℕ) → length s ≤ fuel → formed fuel (suc low) s ≡ is_empty (sweep n (suc low) s))
        → formed fuel low s ≡ is_empty (sweep n (suc low) (cond t (drop (record_length low) s) s))
    go true e zero l ih = absurd (let p = stands_long low s e in let q = stands_some low s e in omega arith)
    go true e (suc fuel) l ih =
        formed_at fuel low s e ∙ ih fuel (drop (record_length low) s) (simp length-drop (omega (arith, stands_some low s e)))
    go false e fuel l ih = formed_not fuel low s e ∙ ih fuel s l

pub formed_from : (s : List ℕ) → well_formed s ≡ is_empty (from s keys)
unfolding well_formed from
formed_from s = formed_sweep keys (length s) 0 s (omega arith) refl ∙ ap is_empty (from_sweep keys 0 s)

-- the record of key k, and what is behind it
at_skip : (k : ℕ) (s : List ℕ) → record_bytes (record_at k s) ++ skip k s ≡ s
unfolding record_at skip
at_skip k s = go (stands k s)
  where
    go : (t : Bool) → record_bytes (cond t (some (take (record_length k) s)) none) ++ cond t (drop (record_length k) s) s ≡ s
    go true = take-append-drop (record_length k) s
    go false = refl

records_from : (n k : ℕ) (s : List ℕ) → from s keys ≡ [] → n + k ≡ keys → records n k (decode s) ≡ from s k
unfolding records from decode
records_from zero k s e h = let q : k ≡ keys = omega arith in rw q (sym e)
records_from (suc n) k s e h = rw (records_from n (suc k) s e (omega arith)) (at_skip k (from s k))

-- the second round trip: well-formed bytes are the snapshot of their records
pub encode_decode : (s : List ℕ) → well_formed s ≡ true → encode (decode s) ≡ s
unfolding encode from
encode_decode s w = records_from keys 0 s (empty_nil _ (sym (formed_from s) ∙ w)) refl

-- the snapshot of records of their keys is well formed
pub encode_formed : (m : ℕ → Option (List ℕ)) → Good m → well_formed (encode m) ≡ true
unfolding records
encode_formed m g = formed_from (encode m) ∙ ap is_empty (from_records m g keys 0 refl)

pub nil_formed : well_formed [] ≡ true
unfolding well_formed formed
nil_formed = refl

-- what the verdict on the form says, accepted or refused
pub form_accepted : (s : List ℕ) → 0 ≡ form_code s → well_formed s ≡ true
unfolding form_code
form_accepted s h = go (well_formed s) refl h
  where
    go : (b : Bool) → well_formed s ≡ b → 0 ≡ cond b 0 malformed_snapshot → well_formed s ≡ true
    go true e h = e
    go false e h = absurd (omega arith)

pub form_refused : (s : List ℕ) (e : Refusal) → code_of e ≡ form_code s → (well_formed s ≡ false) × (code_of e ≡ malformed_snapshot)
unfolding form_code
form_refused s r h = go (well_formed s) refl h
  where
    go : (b : Bool) → well_formed s ≡ b → code_of r ≡ cond b 0 malformed_snapshot
        → (well_formed s ≡ false) × (code_of r ≡ malformed_snapshot)
    go true e h = absurd (not_accepted r h)
    go false e h = (e, h)
