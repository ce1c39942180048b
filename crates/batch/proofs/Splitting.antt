-- A batch is a list of whole requests, or it stops inside one. Assumes nothing.
use mathlib.Core.{Path.{◌≡◌, refl, ap, sym, ◌∙◌}, List.{List, [], ◌∷◌, ◌++◌, append_assoc, append-nil}, Bool.{Bool, true, false}}
use Prim.Native.Nat.{ℕ, ◌-◌, ◌≤◌, ◌<◌}
use native.Mathlib.Omega.{arith}
use lib.{Dec.{eqb, leb}, ListN.{length, take, drop, replicate, length-take, length-drop, length-append, length-replicate, take-append-drop}}
use lib.Seq.{take_at, take-append-le}
use borrow.Author.Tests.{ne_eqb, eqb-true, eqb-false, leb-true, leb-false}
use Rattle.batch.specs.Packing.{Request, data_length, WholeRequest, EachWhole, batch_of}
use Rattle.batch.specs.Packing.{first_setup, first_size, requests_of, rest_of, is_whole}
use Rattle.batch.specs.Splitting.{StopsInside, Splits, whole, stops, AllSplit, PackedThenSplit, StopsCut}
use Rattle.batch.proofs.Laws.Packing.{requests_cut, rest-cut, packed_requests, packed_rest, split}

pub packed_then_split : PackedThenSplit
packed_then_split rs w =
    let end = sym (append-nil (batch_of rs)) in
    let rest : rest_of (batch_of rs) ≡ [] = ap rest_of end ∙ packed_rest rs w [] ∙ rest-cut [] (omega arith) in
    let requests = ap requests_of end ∙ packed_requests rs w [] ∙ ap (λ l. rs ++ l) (requests_cut [] (omega arith)) ∙ append-nil rs in
    (rw rest, requests)

-- a request that lacks bytes, filled up with zeros
abbrev blank : ℕ → List ℕ
blank n = replicate n 0

module _ (s : List ℕ) (begun : 0 < length (rest_of s)) where
  abbrev rest : List ℕ
  rest = rest_of s

  -- where the batch is cut in a request, which its missing bytes make whole
  inside : (r : Request) (missing : List ℕ) → WholeRequest r → r.setup ++ r.payload ≡ rest ++ missing → 0 < length missing → StopsInside s
  inside r missing w begins unfinished = record {
    requests = requests_of s;
    each = (split s).each;
    rest = rest;
    is = sym (split s).is;
    request = r;
    whole = w;
    missing = missing;
    begins = begins;
    begun = begun;
    unfinished = unfinished;
  }

  in_setup : length rest < 8 → StopsInside s
  in_setup h =
      let setup = rest ++ blank (8 - length rest) in
      let payload = blank (data_length setup) in
      inside (record { setup = setup; payload = payload }) (blank (8 - length rest) ++ payload)
      (record { setup = simp (length-append, length-replicate) (omega arith); payload = length-replicate (data_length setup) 0 })
      (append_assoc rest (blank (8 - length rest)) payload) (simp (length-append, length-replicate) (omega arith))

  in_payload : 8 ≤ length rest → StopsInside s
  in_payload h =
      let missing = blank (first_size rest - length rest) in
      let short = (split s).short in
      inside (record { setup = first_setup rest; payload = drop 8 rest ++ missing }) missing
      (record { setup = simp length-take (omega arith); payload = simp (length-append, length-drop, length-replicate) (omega arith) })
      (sym (append_assoc (take 8 rest) (drop 8 rest) missing) ∙ ap (λ l. l ++ missing) (take-append-drop 8 rest))
      (simp length-replicate (omega arith))

  stops_inside : StopsInside s
  stops_inside = go (leb 8 (length rest)) refl
    where
      go : (b : Bool) → leb 8 (length rest) ≡ b → StopsInside s
      go true e = in_payload (leb-true 8 (length rest) e)
      go false e = in_setup (leb-false 8 (length rest) e)

empty : (l : List ℕ) → length l ≡ 0 → l ≡ []
empty [] e = refl
empty (b ∷ l) e = absurd (omega arith)

pub whole_packed : (s : List ℕ) → is_whole s ≡ true → EachWhole (requests_of s) × (batch_of (requests_of s) ≡ s)
whole_packed s e =
    let none = empty (rest_of s) (eqb-true (length (rest_of s)) 0 e) in (
      (split s).each,
      sym (append-nil (batch_of (requests_of s))) ∙ ap (λ t. batch_of (requests_of s) ++ t) (sym none) ∙ (split s).is,
    )

pub all_split : AllSplit
all_split s = go (eqb (length (rest_of s)) 0) refl
  where
    go : (b : Bool) → eqb (length (rest_of s)) 0 ≡ b → Splits s
    go true e = let p = whole_packed s e in whole e p.0 p.1
    go false e = let n = eqb-false (length (rest_of s)) 0 e in stops e (stops_inside s (omega arith))

-- a request that lacks bytes is not split off, whatever these would be
lacks : (rest missing : List ℕ) (r : Request) → WholeRequest r → r.setup ++ r.payload ≡ rest ++ missing → 0 < length missing
    → length rest < first_size rest
lacks rest missing r w begins unfinished = go (leb 8 (length rest)) refl
  where
    go : (b : Bool) → leb 8 (length rest) ≡ b → length rest < first_size rest
    go true e =
        let h = leb-true 8 (length rest) e in
        let same : first_setup rest ≡ r.setup =
        sym (take-append-le 8 rest missing h) ∙ ap (take 8) (sym begins) ∙ take_at r.setup r.payload 8 w.setup in
        let long = simp length-append at (ap length begins) in
        omega (arith, ap data_length same, w.setup, w.payload)
    go false e = omega (arith, leb-false 8 (length rest) e)

pub stops_cut : StopsCut
stops_cut s i =
    let short = lacks i.rest i.missing i.request i.whole i.begins i.unfinished in
    let rest : rest_of s ≡ i.rest = ap rest_of i.is ∙ packed_rest i.requests i.each i.rest ∙ rest-cut i.rest short in
    let begun = i.begun in
    rw rest (ne_eqb (length i.rest) 0 (λ e. omega arith))
