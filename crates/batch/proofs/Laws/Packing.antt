-- Splitting a batch into its requests, one after another. Assumes nothing.
use mathlib.Core.{Path.{◌≡◌, refl, ap, ap₂, sym, ◌∙◌, subst}, List.{List, [], ◌∷◌, ◌++◌, append_assoc}, Bool.{Bool, true, false, cond}}
use Prim.Native.Nat.{ℕ, zero, suc, ◌+◌, ◌≤◌, ◌<◌}
use native.Mathlib.Omega.{arith}
use lib.{Dec.{leb}, ListN.{length, take, drop, length-take, length-drop, length-append, take-append-drop}}
use lib.Seq.{take_at, drop_at, drop-drop}
use borrow.Author.Tests.{le-leb, lt-leb, leb-true, leb-false}
use Rattle.batch.specs.Packing.{Request, data_length, WholeRequest, EachWhole, batch_of, first_setup, first_request, first_size, split_in}
use Rattle.batch.specs.Packing.{requests_of, rest_of}

-- more fuel than bytes changes nothing
more_fuel : (m n : ℕ) (s : List ℕ) → length s ≤ m → length s ≤ n → split_in m s ≡ split_in n s
unfolding split_in
more_fuel zero zero s h g = refl
more_fuel zero (suc n) s h g = rw (lt-leb (first_size s) (length s) (omega arith))
more_fuel (suc m) zero s h g = rw (lt-leb (first_size s) (length s) (omega arith))
more_fuel (suc m) (suc n) s h g =
    ap (λ x. cond (leb (first_size s) (length s)) (first_request s ∷ x.0, x.1) ([], s))
    (more_fuel m n (drop (first_size s) s) (simp length-drop (omega arith)) (simp length-drop (omega arith)))

-- a request that is cut short, or no byte; and a whole one
module _ (s : List ℕ) where
  cut_in : (n : ℕ) → length s < first_size s → split_in n s ≡ ([], s)
  unfolding split_in
  cut_in zero h = refl
  cut_in (suc n) h = rw (lt-leb (first_size s) (length s) h)

  pub requests_cut : length s < first_size s → requests_of s ≡ []
  unfolding requests_of
  requests_cut h = ap (λ x. x.0) (cut_in (length s) h)

  pub rest-cut : length s < first_size s → rest_of s ≡ s
  unfolding rest_of
  rest-cut h = ap (λ x. x.1) (cut_in (length s) h)

  module _ (h : first_size s ≤ length s) where
    next_in : (n : ℕ) → length s ≤ n
        → split_in n s ≡ (first_request s ∷ requests_of (drop (first_size s) s), rest_of (drop (first_size s) s))
    unfolding split_in requests_of rest_of
    next_in zero g = absurd (omega arith)
    next_in (suc n) g =
        let rest = drop (first_size s) s in
        rw (le-leb (first_size s) (length s) h, more_fuel n (length rest) rest (simp length-drop (omega arith)) (omega arith))

    pub requests_next : requests_of s ≡ first_request s ∷ requests_of (drop (first_size s) s)
    unfolding requests_of
    requests_next = ap (λ x. x.0) (next_in (length s) (omega arith))

    pub rest_next : rest_of s ≡ rest_of (drop (first_size s) s)
    unfolding rest_of
    rest_next = ap (λ x. x.1) (next_in (length s) (omega arith))

-- a whole request, with more bytes behind it
module _ (r : Request) (w : WholeRequest r) (t : List ℕ) where
  abbrev bytes : List ℕ
  bytes = r.setup ++ r.payload ++ t

  first_setup_lem : first_setup bytes ≡ r.setup
  first_setup_lem = rw append_assoc (take_at r.setup (r.payload ++ t) 8 w.setup)

  first_size_lem : first_size bytes ≡ length (r.setup ++ r.payload)
  first_size_lem = ap (λ l. 8 + data_length l) first_setup_lem ∙ simp length-append (omega (arith, w.setup, w.payload))

  first-is : first_request bytes ≡ r
  first-is =
      ap₂ (λ a b. record { setup = a; payload = b }) first_setup_lem
      (ap₂ (λ (n : ℕ) l. take n l) (ap data_length first_setup_lem)
      (ap (drop 8) (append_assoc r.setup r.payload t) ∙ drop_at r.setup (r.payload ++ t) 8 w.setup)
      ∙ take_at r.payload t (data_length r.setup) w.payload)

  behind : drop (first_size bytes) bytes ≡ t
  behind = drop_at (r.setup ++ r.payload) t (first_size bytes) (sym first_size_lem)

  whole_first : first_size bytes ≤ length bytes
  whole_first = omega (arith, first_size_lem, length-append (r.setup ++ r.payload) t)

  packed_next : requests_of bytes ≡ r ∷ requests_of t
  packed_next = requests_next bytes whole_first ∙ ap₂ (λ q l. q ∷ l) first-is (ap requests_of behind)

  packed_behind : rest_of bytes ≡ rest_of t
  packed_behind = rest_next bytes whole_first ∙ ap rest_of behind

-- a batch of whole requests, with more bytes behind it
pub packed_requests : (rs : List Request) → EachWhole rs → (t : List ℕ) → requests_of (batch_of rs ++ t) ≡ rs ++ requests_of t
packed_requests [] w t = refl
packed_requests (r ∷ rs) w t =
    ap requests_of (append_assoc (r.setup ++ r.payload) (batch_of rs) t)
    ∙ packed_next r w.0 (batch_of rs ++ t)
    ∙ ap (λ l. r ∷ l) (packed_requests rs w.1 t)

pub packed_rest : (rs : List Request) → EachWhole rs → (t : List ℕ) → rest_of (batch_of rs ++ t) ≡ rest_of t
packed_rest [] w t = refl
packed_rest (r ∷ rs) w t =
    ap rest_of (append_assoc (r.setup ++ r.payload) (batch_of rs) t)
    ∙ packed_behind r w.0 (batch_of rs ++ t)
    ∙ packed_rest rs w.1 t

-- the request at the start of a batch, where that is whole, and its bytes
module _ (s : List ℕ) (h : first_size s ≤ length s) where
  pub first_whole : WholeRequest (first_request s)
  first_whole = record { setup = simp length-take (omega arith); payload = simp (length-take, length-drop) (omega arith) }

  pub first_bytes : first_setup s ++ (first_request s).payload ++ drop (first_size s) s ≡ s
  first_bytes =
      let n = data_length (first_setup s) in
      append_assoc (take 8 s) (take n (drop 8 s)) (drop (8 + n) s)
      ∙ ap (λ l. take 8 s ++ l) (ap (λ l. take n (drop 8 s) ++ l) (sym (drop-drop n 8 s)) ∙ take-append-drop n (drop 8 s))
      ∙ take-append-drop 8 s

-- what a batch splits into, whole or not
pub record Split (s : List ℕ) : Type 0 where
  pub each : EachWhole (requests_of s)
  pub is : batch_of (requests_of s) ++ rest_of s ≡ s
  pub short : length (rest_of s) < first_size (rest_of s)

module _ (s : List ℕ) where
  split_cut : length s < first_size s → Split s
  split_cut h =
      let q = requests_cut s h in
      let r = rest-cut s h in
      record { each = subst EachWhole (sym q) tt; is = ap₂ (λ l t. batch_of l ++ t) q r; short = rw r h }

  split_next : first_size s ≤ length s → Split (drop (first_size s) s) → Split s
  split_next h next =
      let front = first_setup s ++ (first_request s).payload in
      let q = requests_next s h in
      let r = rest_next s h in
      record {
        each = subst EachWhole (sym q) (first_whole s h, next.each);
        is = ap₂ (λ l t. batch_of l ++ t) q r
            ∙ append_assoc front (batch_of (requests_of (drop (first_size s) s))) (rest_of (drop (first_size s) s))
            ∙ ap (λ t. front ++ t) next.is
            ∙ first_bytes s h;
        short = rw r next.short;
      }

  -- the request at its start, or the batch, is cut
  split_by : (first_size s ≤ length s → Split (drop (first_size s) s)) → Split s
  split_by more = go (leb (first_size s) (length s)) refl
    where
      go : (b : Bool) → leb (first_size s) (length s) ≡ b → Split s
      go true e = let h = leb-true (first_size s) (length s) e in split_next h (more h)
      go false e = split_cut (leb-false (first_size s) (length s) e)

split_in_lem : (n : ℕ) (s : List ℕ) → length s ≤ n → Split s
split_in_lem zero s g = split_by s (λ h. absurd (omega arith))
split_in_lem (suc n) s g = split_by s (λ h. split_in_lem n (drop (first_size s) s) (simp length-drop (omega arith)))

pub split : (s : List ℕ) → Split s
split s = split_in_lem (length s) s (omega arith)
