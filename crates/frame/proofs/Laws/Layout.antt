-- Items laid out and read again, and a sound block laid out again. Assumes nothing.
use Prim.Native.Nat.{ℕ, ◌+◌, ◌-◌, ◌^◌, ◌≤◌, ◌<◌}
use mathlib.Core.{Path.{◌≡◌, refl, sym, ap, ap₂, ◌∙◌}, List.{List, [], ◌∷◌, ◌++◌, append_assoc}, Bool.{true}}
use native.Mathlib.Omega.{arith}
use lib.{ListN.{length, take, drop, length-append, length-take, length-drop, take-append-drop}, Seq.{take_at, drop_at, take-add}}
use Rattle.frame.specs.{Codes.{longest_block}, Ids.{is_readable}, Items.{MetadataItem, BlockReading, sound, ◌before◌, items_from}}
use Rattle.frame.specs.{Items.{Readable}, Writer.{item_bytes, layout}}
use Rattle.wire.specs.Numbers.{bytes_of}
use Rattle.wire.proofs.Laws.{Numbers.{Bytes, bytes_drop, below}, Bytes.{length_bytes, bytes-at}}
use Rattle.frame.proofs.Laws.{Heads.{Sound}, Fuel.{nothing_left}, Bytes.{at_front, behind}, Join.{Split, every, front}}

pub length_item : (id : ℕ) (payload : List ℕ) → length (item_bytes id payload) ≡ 8 + length payload
unfolding item_bytes
length_item id payload = simp (length-append, length_bytes) (omega arith)

body : (id : ℕ) (payload t : List ℕ) → take (8 + length payload - 8) (drop 8 (item_bytes id payload ++ t)) ≡ payload
unfolding item_bytes bytes_of
body id payload t = take_at payload t (8 + length payload - 8) (omega arith)

-- an item that was written, with any bytes behind it
module _ (id : ℕ) (payload t : List ℕ) (readable : is_readable id ≡ true) (small : id < 256 ^ 4) (short : 8 + length payload < 256 ^ 4) where
  parts : item_bytes id payload ++ t ≡ bytes_of 4 id ++ (bytes_of 4 (8 + length payload) ++ (payload ++ t))
  unfolding item_bytes
  parts = simp append_assoc

  written : Sound (item_bytes id payload ++ t) id (8 + length payload)
  written = record {
    readable = readable;
    long = omega arith;
    inside = simp (length-append, length_item) (omega arith);
    its_id = rw parts (sym (at_front 4 id _ small));
    its_size = rw parts (sym (behind 4 (bytes_of 4 id) _ 4 (length_bytes 4 id) ∙ at_front 4 (8 + length payload) _ short));
  }

  pub reads : items_from (item_bytes id payload ++ t) ≡ (record { id = id; payload = payload } before items_from t)
  reads =
      front (item_bytes id payload ++ t) id (8 + length payload) written
      ∙ ap₂ (λ (p r : List ℕ). record { id = id; payload = p } before items_from r) (body id payload t)
      (drop_at (item_bytes id payload) t _ (length_item id payload))

pub reads_all : (is : List MetadataItem) → Readable is → length (layout is) ≤ longest_block → items_from (layout is) ≡ sound is
unfolding layout
reads_all [] g h = nothing_left [] (omega arith)
reads_all (i ∷ is) g h =
    let n : 8 + length i.payload + length (layout is) ≤ longest_block = rw (length-append, length_item) at h in
    reads i.id i.payload (layout is) g.0 g.1 (omega arith)
    ∙ ap (λ (f : BlockReading). i before f) (reads_all is g.2 (omega arith))

-- a sound item written again is the bytes it was read from
again : (s : List ℕ) (id size : ℕ) → Sound s id size → Bytes s → item_bytes id (take (size - 8) (drop 8 s)) ≡ take size s
unfolding item_bytes
again s id size h b =
    let long : 8 ≤ size = h.long in
    let inside : size ≤ length s = h.inside in
    let whole : 8 + length (take (size - 8) (drop 8 s)) ≡ size = simp (length-take, length-drop) (omega arith) in
    let first : bytes_of 4 id ≡ take 4 s = ap (bytes_of 4) h.its_id ∙ bytes-at 4 s 0 (omega arith) b in
    let second : bytes_of 4 (8 + length (take (size - 8) (drop 8 s))) ≡ take 4 (drop 4 s) =
    ap (bytes_of 4) (whole ∙ h.its_size) ∙ bytes-at 4 s 4 (omega arith) b in
    let m : 8 + (size - 8) ≡ size = omega arith in
    rw (first, second) (ap (λ (t : List ℕ). t ++ take (size - 8) (drop 8 s)) (sym (take-add 4 4 s)) ∙ sym (take-add 8 (size - 8) s)
    ∙ ap (λ (n : ℕ). take n s) m)

pub written_again : (s : List ℕ) (is : List MetadataItem) → items_from s ≡ sound is → Bytes s → (s ≡ layout is) × Readable is
unfolding layout
written_again = every (λ (s : List ℕ) (is : List MetadataItem). Bytes s → (s ≡ layout is) × Readable is) (λ b. (refl, tt)) more
  where
    more : (s : List ℕ) (is : List MetadataItem) (p : Split s is)
        → (Bytes (drop p.size s) → (drop p.size s ≡ layout p.rest) × Readable p.rest) → Bytes s
        → (s ≡ layout is) × Readable is
    more s is p ih b =
        let r = ih (bytes_drop s p.size b) in
        let h = p.head in
        rw p.whole (
          sym (ap₂ (λ (x y : List ℕ). x ++ y) (again s p.id p.size h b) (sym r.0) ∙ take-append-drop p.size s),
          (h.readable, rw (← h.its_id) at (below 4 4 s 0 b (omega arith)), r.1),
        )
