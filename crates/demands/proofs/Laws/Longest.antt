-- How long a camera's snapshot is: no more endpoints hold a setting than the profile lists. Assumes nothing.
use mathlib.Core.{Path.{◌≡◌, refl, ap, sym, ◌∙◌}, List.{List, [], ◌∷◌}, Option.{Option, none, some, map}}
use mathlib.Core.Bool.{Bool, true, false, cond, not, ◌||◌}
use Prim.Native.Nat.{ℕ, zero, suc, ◌+◌, ◌-◌, ◌≤◌}
use native.Mathlib.{Nat.{zero-add, add-zero}, Omega.{arith}}
use lib.{Dec.{eqb}, ListN.{length, get_or}}
use borrow.Author.Tests.{eqb-true, eqb-false}
use Rattle.wire.specs.{Endpoints.{first_address, places}, Rows.{◌⇒◌}, Uvc.{out_of_range, invalid_value}}
use Rattle.flags.specs.Flags.{one_flag}
use Rattle.wire.proofs.Laws.Rows.{quiet}
use Rattle.snapshot.specs.{Keys.{length_with, longest_written}, Records.{count_one, record_count}}
use Rattle.snapshot.proofs.Laws.Lengths.{encode_length, encode_short}
use Rattle.face.specs.{declared.limits.FaceLimits.{FaceLimits}, Limits.{address_at, offers_at, offers_from, offers_of, endpoints_of}}
use Rattle.settings.specs.Kept.{value_refusal}
use Rattle.entries.specs.Entries.{is_choice, setting_refusal}
use Rattle.controls.specs.declared.Setting.{Setting}
use Rattle.controls.specs.declared.Setting.TheVariants as S
use Rattle.camera.specs.{declared.record.Camera.{Camera}, Record.{held, record_well_formed}, Writing.{snapshot}}
use Rattle.encoding.specs.Encoding.{record_of}
use Rattle.invariants.proofs.Laws.{Held.{held_face, none_never}, Kept.{held_good}}
use Rattle.demands.proofs.Laws.Cameras.{held_records}

-- how many of the n numbers from k on f holds of
tally : ℕ → ℕ → (ℕ → Bool) → ℕ
tally zero k f = 0
tally (suc n) k f = cond (f k) 1 0 + tally n (suc k) f

-- of two tests, at most as many as of each
tally_or : (n k : ℕ) (f g : ℕ → Bool) → tally n k (λ j. f j || g j) ≤ tally n k f + tally n k g
unfolding tally
tally_or zero k f g = omega arith
tally_or (suc n) k f g = go (f k) (g k) (tally_or n (suc k) f g)
  where
    go : (a b : Bool) → tally n (suc k) (λ j. f j || g j) ≤ tally n (suc k) f + tally n (suc k) g
        → cond (a || b) 1 0 + tally n (suc k) (λ j. f j || g j) ≤ cond a 1 0 + tally n (suc k) f + (cond b 1 0 + tally n (suc k) g)
    go true true h = omega arith
    go true false h = omega arith
    go false true h = omega arith
    go false false h = omega arith

-- none from k on
tally_none : (n k : ℕ) (f : ℕ → Bool) → ((j : ℕ) → k ≤ j → f j ≡ false) → tally n k f ≡ 0
unfolding tally
tally_none zero k f h = refl
tally_none (suc n) k f h = rw (h k (omega arith), tally_none n (suc k) f (λ j l. h j (omega arith)))

-- a test that holds of one number at most
tally_one : (n k : ℕ) (f : ℕ → Bool) → ((i j : ℕ) → f i ≡ true → f j ≡ true → i ≡ j) → tally n k f ≤ 1
unfolding tally
tally_one zero k f h = omega arith
tally_one (suc n) k f h = go (f k) refl (tally_one n (suc k) f h)
  where
    other : f k ≡ true → (j : ℕ) → suc k ≤ j → (b : Bool) → f j ≡ b → f j ≡ false
    other e j l true q = let z = h k j e q in absurd (omega arith)
    other e j l false q = q

    go : (b : Bool) → f k ≡ b → tally n (suc k) f ≤ 1 → cond b 1 0 + tally n (suc k) f ≤ 1
    go true e ih = omega (arith, tally_none n (suc k) f (λ j l. other e j l _ refl))
    go false e ih = omega arith

-- the address of a key of face authentication
abbrev address_of : ℕ → ℕ
address_of k = first_address - 1 + k

-- key k's address is among the first n places
listed : FaceLimits → ℕ → ℕ → Bool
listed l zero k = false
listed l (suc n) k = listed l n k || eqb (address_at l n) (address_of k)

tally_listed : (l : FaceLimits) (n m k : ℕ) → tally m k (listed l n) ≤ n
unfolding listed
tally_listed l zero m k = let e = tally_none m k (λ j. false) (λ j h. refl) in omega arith
tally_listed l (suc n) m k =
    let one =
    tally_one m k (λ j. eqb (address_at l n) (address_of j))
    (λ i j p q. let a = eqb-true (address_at l n) (address_of i) p in let b = eqb-true (address_at l n) (address_of j) q in omega arith) in
    let both = tally_or m k (listed l n) (λ j. eqb (address_at l n) (address_of j)) in
    omega (arith, tally_listed l n m k)

-- what is among the first places is among more
listed_more : (l : FaceLimits) (k n m : ℕ) → listed l n k ≡ true → listed l (m + n) k ≡ true
unfolding listed
listed_more l k n zero h = rw zero-add h
listed_more l k n (suc m) h = let e : suc m + n ≡ suc (m + n) = omega arith in rw (e, listed_more l k n m h)

-- an address whose look-up finds offers is listed
found : (l : FaceLimits) (k n i : ℕ) → (offers_from l (address_of k) n i ≡ 0 → ⊥) → listed l (n + i) k ≡ true
unfolding offers_from listed
found l k zero i h = absurd (h refl)
found l k (suc n) i h = go (eqb (address_at l i) (address_of k)) refl h (found l k n (suc i))
  where
    here : eqb (address_at l i) (address_of k) ≡ true → (b : Bool) → b || eqb (address_at l i) (address_of k) ≡ true
    here e true = refl
    here e false = e

    go : (b : Bool) → eqb (address_at l i) (address_of k) ≡ b → (cond b (offers_at l i) (offers_from l (address_of k) n (suc i)) ≡ 0 → ⊥)
        → ((offers_from l (address_of k) n (suc i) ≡ 0 → ⊥) → listed l (n + suc i) k ≡ true) → listed l (suc n + i) k ≡ true
    go true e q ih = let p : n + suc i ≡ suc n + i = omega arith in rw (← p) (listed_more l k (suc i) n (here e (listed l i k)))
    go false e q ih = let p : n + suc i ≡ suc n + i = omega arith in rw (← p) (ih q)

-- a setting that its SET takes is of an address that offers flags
value_offered : (l : FaceLimits) (address flags : ℕ) → setting_refusal l address flags ≡ 0 → offers_of l address ≡ 0 → ⊥
unfolding setting_refusal
value_offered l address flags z =
    let offers = offers_of l address in
    let rows = (eqb offers 0 ⇒ out_of_range) ∷ (not (is_choice (one_flag offers flags)) ⇒ invalid_value) ∷ [] in
    eqb-false offers 0 (quiet rows [] refl z).0.0

-- so is the address of every endpoint that a well-formed record holds a setting of
module _ (c : Camera) (w : record_well_formed c ≡ true) where
  abbrev limits : FaceLimits
  limits = c.profile.face

  held_listed : (k : ℕ) (s : Setting) → 1 ≤ k → k ≤ places → held c k ≡ some s → listed limits (endpoints_of limits) k ≡ true
  unfolding offers_of value_refusal
  held_listed k s l h e = go (eqb (get_or c.settings.face (k - 1) 0) 0) refl (sym (held_face c.settings k l h) ∙ e)
    where
      go : (b : Bool) → eqb (get_or c.settings.face (k - 1) 0) 0 ≡ b
          → cond b none (some (S.Face (first_address + (k - 1)) (get_or c.settings.face (k - 1) 0))) ≡ some s
          → listed limits (endpoints_of limits) k ≡ true
      go true p q = absurd (none_never s q)
      go false p q =
          let address = first_address + (k - 1) in
          let flags = get_or c.settings.face (k - 1) 0 in
          let f : S.Face address flags ≡ s = cc in
          let v : value_refusal c.profile (S.Face address flags) ≡ 0 =
          ap (value_refusal c.profile) f ∙ (held_good c.profile c.settings w k s e).1.value in
          let a : address ≡ address_of k = omega arith in
          ap (λ (n : ℕ). listed limits n k) (sym (add-zero (endpoints_of limits)))
          ∙ found limits k (endpoints_of limits) 0 (rw a at (value_offered limits address flags v))

  abbrev rows : ℕ → Option (List ℕ)
  rows k = map record_of (held c k)

  held_tally : (n k : ℕ) → 1 ≤ k → n + k ≤ places + 1 → record_count n k rows ≤ tally n k (listed limits (endpoints_of limits))
  unfolding record_count tally
  held_tally zero k l h = omega arith
  held_tally (suc n) k l h = go (held c k) refl (held_tally n (suc k) (omega arith) (omega arith))
    where
      go : (o : Option Setting) → held c k ≡ o → record_count n (suc k) rows ≤ tally n (suc k) (listed limits (endpoints_of limits))
          → count_one (map record_of o) (record_count n (suc k) rows)
          ≤ cond (listed limits (endpoints_of limits) k) 1 0 + tally n (suc k) (listed limits (endpoints_of limits))
      go none e ih = omega arith
      go (some s) e ih = rw (held_listed k s l (omega arith) e) (omega arith)

  -- no more endpoints hold a setting than are listed
  few_held : record_count places 1 rows ≤ endpoints_of limits
  few_held = omega (arith, held_tally places 1 (omega arith) (omega arith), tally_listed limits (endpoints_of limits) places 1)

  pub snapshot_short : length (snapshot c) ≤ length_with (endpoints_of limits)
  unfolding snapshot
  snapshot_short = encode_short rows (held_records c w) (endpoints_of limits) few_held

  -- at most every address has a record, and a profile may list them all
  pub snapshot_most : length (snapshot c) ≤ longest_written
  unfolding snapshot
  snapshot_most = encode_length rows (held_records c w)
