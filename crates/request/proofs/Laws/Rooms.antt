-- The bytes of reply that a request hands over, and room for them, whatever the unit. Assumes nothing.
use mathlib.Core.{Path.{◌≡◌, refl, ap, sym, ◌∙◌}, List.{List, [], ◌++◌}, Bool.{Bool, true, false, cond, not, ◌&&◌}}
use Prim.Native.Nat.{ℕ, ◌≤◌}
use native.Mathlib.Omega.{arith}
use lib.{Dec.{eqb}, ListN.{length, take, drop, length-append, length-drop}, Seq.{length-take-le, take-append_seam}}
use borrow.Author.Tests.{eqb-true, eqb-false, le-ltb, ltb-false}
use Rattle.wire.specs.Rows.{first_of}
use Rattle.request.specs.{Setup.{is_set_request}, Table.{Table}}
use Rattle.request.specs.Tests.{request_tests, value_tests, asked, sent_count, request_rows, request_code}
use Rattle.request.specs.Requests.{request_count, replied}
use Rattle.request.proofs.Laws.Tests.{at_tests, request_quiet}

module _ (t : Table) (setup payload : List ℕ) where
  -- what is sent, by the number that answers
  abbrev pub reply_by : ℕ → List ℕ
  reply_by code = cond (eqb code 0 && not (is_set_request setup)) (take (sent_count t setup) (asked t setup)) []

  sent_length_lem : length (take (sent_count t setup) (asked t setup)) ≡ sent_count t setup
  sent_length_lem = length-take-le (sent_count t setup) (asked t setup) (omega arith)

  pub reply_count : (room : ℕ) → request_count t setup payload room ≡ length (reply_by (request_code t setup payload room))
  unfolding request_count
  reply_count room = go (eqb (request_code t setup payload room) 0 && not (is_set_request setup))
    where
      go : (b : Bool) → cond b (sent_count t setup) 0 ≡ length (cond b (take (sent_count t setup) (asked t setup)) [])
      go true = sym sent_length_lem
      go false = refl

  -- there is room for it
  pub reply_within : (room : ℕ) → length (reply_by (request_code t setup payload room)) ≤ room
  unfolding request_rows request_tests value_tests
  reply_within room = go (eqb (request_code t setup payload room) 0) (is_set_request setup) refl refl
    where
      go : (a b : Bool) → eqb (request_code t setup payload room) 0 ≡ a → is_set_request setup ≡ b
          → length (cond (a && not b) (take (sent_count t setup) (asked t setup)) []) ≤ room
      go true true p q = omega arith
      go true false p q =
          let last = (request_quiet t setup payload room (eqb-true (request_code t setup payload room) 0 p)).1.1.1.1.1.1.1.1.0 in
          omega (arith, sent_length_lem, ltb-false room (sent_count t setup) (rw q at last))
      go false b p q = omega arith

  module _ (reply : List ℕ) where
    abbrev handed : List ℕ
    handed = reply_by (request_code t setup payload (length reply))

    -- the buffer afterwards: what is sent, and every other byte as it was
    pub reply_split : replied t setup payload reply ≡ handed ++ drop (length handed) reply
    unfolding replied
    reply_split = go (eqb (request_code t setup payload (length reply)) 0 && not (is_set_request setup))
      where
        go : (b : Bool)
            → cond b (take (sent_count t setup) (asked t setup) ++ drop (sent_count t setup) reply) reply
            ≡ cond b (take (sent_count t setup) (asked t setup)) []
            ++ drop (length (cond b (take (sent_count t setup) (asked t setup)) [])) reply
        go true = ap (λ (n : ℕ). take (sent_count t setup) (asked t setup) ++ drop n reply) (sym sent_length_lem)
        go false = refl

    pub reply_length_lem : length (replied t setup payload reply) ≡ length reply
    reply_length_lem = rw reply_split (simp (length-append, length-drop) (omega (arith, reply_within (length reply))))

    -- the bytes that are reported
    pub reply_front : take (request_count t setup payload (length reply)) (replied t setup payload reply) ≡ handed
    reply_front = rw (reply_count (length reply), reply_split) (take-append_seam handed (drop (length handed) reply))

  -- with room for what a GET sends, the number does not go by the room
  pub enough : t.formed ≡ true → (r s : ℕ)
      → (first_of (request_tests t setup payload) ≡ 0 → is_set_request setup ≡ false → (sent_count t setup ≤ r) × (sent_count t setup ≤ s))
      → request_code t setup payload r ≡ request_code t setup payload s
  unfolding request_code request_rows
  enough w r s h = go (eqb (first_of (request_tests t setup payload)) 0) (is_set_request setup) refl refl
    where
      go : (a b : Bool) → eqb (first_of (request_tests t setup payload)) 0 ≡ a → is_set_request setup ≡ b
          → request_code t setup payload r ≡ request_code t setup payload s
      go false b p q =
          let n = eqb-false (first_of (request_tests t setup payload)) 0 p in
          at_tests t setup payload r w n ∙ sym (at_tests t setup payload s w n)
      go true true p q = rw q
      go true false p q =
          let room = h (eqb-true (first_of (request_tests t setup payload)) 0 p) q in
          rw (le-ltb r (sent_count t setup) room.0, le-ltb s (sent_count t setup) room.1)
