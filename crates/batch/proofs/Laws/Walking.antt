-- Going through a batch, request by request. Assumes nothing.
use mathlib.Core.{Path.{◌≡◌, refl, ap, ap₂, sym, ◌∙◌}, List.{List, [], ◌∷◌, ◌++◌, append_assoc, append-nil}}
use mathlib.Core.Bool.{Bool, true, false, true≢false}
use Prim.Native.Nat.{ℕ, ◌+◌, ◌-◌, ◌≤◌, ◌<◌, min}
use native.Mathlib.Omega.{arith}
use lib.{Dec.{leb}, ListN.{length, take, drop, length-drop}, Seq.{drop-drop}}
use borrow.Author.Tests.{eq-eqb, ne_eqb, lt-ltb, le-ltb, leb-true, leb-false}
use Rattle.wire.specs.{Rows.{first_of}, Uvc.{no_room}}
use Rattle.profile.specs.declared.Profile.{Profile}
use Rattle.batch.specs.Packing.{Request, data_length, first_request, first_size, requests_of, rest_of, is_whole}
use Rattle.batch.specs.{Answers.{reply_length, answers_length}, Refusals.{cut_batch}, Batch.{batch_tests}}
use Rattle.batch.proofs.Laws.{Packing.{requests_cut, rest-cut, requests_next, rest_next}, Answers.{length_parts}}

-- up to a place at which a request begins, with the requests before it
pub record Walked (s : List ℕ) (at : ℕ) (passed : List Request) : Type 0 where
  pub within : at ≤ length s
  pub requests : requests_of s ≡ passed ++ requests_of (drop at s)
  pub rest : rest_of s ≡ rest_of (drop at s)

pub at-start : (s : List ℕ) → Walked s 0 []
at-start s = record { within = omega arith; requests = refl; rest = refl }

module _ {s : List ℕ} {at : ℕ} {passed : List Request} (w : Walked s at passed) where
  -- at the end
  module _ (h : length s ≤ at) where
    none_left : length (drop at s) < first_size (drop at s)
    none_left = omega (arith, length-drop at s)

    pub walked_all : requests_of s ≡ passed
    walked_all = w.requests ∙ ap (λ l. passed ++ l) (requests_cut (drop at s) none_left) ∙ append-nil passed

    pub walked_whole : is_whole s ≡ true
    walked_whole =
        eq-eqb (length (rest_of s)) 0 (omega (arith, ap length (w.rest ∙ rest-cut (drop at s) none_left), length-drop at s))

  -- the request at that place, by what the calls ensure
  module _ {setup : List ℕ} {len : ℕ} (is-setup : setup ≡ take 8 (drop at s)) (is-len : len ≡ data_length setup) where
    size_is : 8 + len ≡ first_size (drop at s)
    size_is = ap (λ (n : ℕ). 8 + n) (is-len ∙ ap data_length is-setup)

    pub cut_here_lem : at < length s → length s - at < 8 + len → is_whole s ≡ false
    cut_here_lem l h =
        let short : length (drop at s) < first_size (drop at s) = omega (arith, length-drop at s, size_is) in
        ne_eqb (length (rest_of s)) 0
        (λ e. omega (arith, e, ap length (w.rest ∙ rest-cut (drop at s) short), length-drop at s))

    pub whole_here : is_whole s ≡ true → at < length s → 8 + len ≤ length s - at
    whole_here whole l = go (leb (8 + len) (length s - at)) refl
      where
        go : (b : Bool) → leb (8 + len) (length s - at) ≡ b → 8 + len ≤ length s - at
        go true e = leb-true (8 + len) (length s - at) e
        go false e = absurd (true≢false (sym whole ∙ cut_here_lem l (leb-false (8 + len) (length s - at) e)))

    module _ (fits : 8 + len ≤ length s - at) {payload : List ℕ} (is-payload : payload ≡ take len (drop (at + 8) s)) where
      abbrev here : Request
      here = record { setup = setup; payload = payload }

      here_is : first_request (drop at s) ≡ here
      here_is =
          sym (ap₂ (λ a b. record { setup = a; payload = b }) is-setup
          (is-payload ∙ ap₂ (λ (n : ℕ) l. take n l) (is-len ∙ ap data_length is-setup) (sym (drop-drop 8 at s))))

      behind : drop (first_size (drop at s)) (drop at s) ≡ drop (at + (8 + len)) s
      behind = drop-drop (first_size (drop at s)) at s ∙ ap (λ (n : ℕ). drop (at + n) s) (sym size_is)

      pub walked_next : Walked s (at + (8 + len)) (passed ++ (record { setup = setup; payload = payload } ∷ []))
      walked_next =
          let whole : first_size (drop at s) ≤ length (drop at s) = omega (arith, length-drop at s, size_is) in
          record {
            within = omega arith;
            requests = w.requests
                ∙ ap (λ l. passed ++ l)
                (requests_next (drop at s) whole ∙ ap₂ (λ r l. r ∷ l) here_is (ap requests_of behind))
                ∙ sym (append_assoc passed (here ∷ []) (requests_of (drop (at + (8 + len)) s)));
            rest = w.rest ∙ rest_next (drop at s) whole ∙ ap rest_of behind;
          }

-- how long the answers to the requests before a place are, up to one more than there is room for
pub record Measured (p : Profile) (s : List ℕ) (room needed at : ℕ) : Type 0 where
  pub passed : List Request
  pub walked : Walked s at passed
  pub is : needed ≡ min (answers_length p passed) (room + 1)

pub measured_none : (p : Profile) (s : List ℕ) (room : ℕ) → Measured p s room 0 0
measured_none p s room = record { passed = []; walked = at-start s; is = omega arith }

pub measured_next : {p : Profile} {s : List ℕ} {room needed at : ℕ} (m : Measured p s room needed at) {setup : List ℕ} {len : ℕ}
    → setup ≡ take 8 (drop at s) → len ≡ data_length setup → 8 + len ≤ length s - at → {payload : List ℕ}
    → payload ≡ take len (drop (at + 8) s) → {n : ℕ} → n ≡ reply_length p (record { setup = setup; payload = payload })
    → {next : ℕ} → next ≡ min (needed + 3 + n) (room + 1)
    → Measured p s room next (at + (8 + len))
measured_next {p} m {setup} is-setup is-len fits {payload} is-payload is-reply is-next =
    let r : Request = record { setup = setup; payload = payload } in
    record {
      passed = m.passed ++ (r ∷ []);
      walked = walked_next m.walked is-setup is-len fits is-payload;
      is = is-next ∙ omega (arith, m.is, is-reply, length_parts p m.passed (r ∷ []));
    }

-- the tests of a batch: it is cut, or measured to its end
module _ (p : Profile) (s : List ℕ) (room : ℕ) where
  pub refused_cut : is_whole s ≡ false → cut_batch ≡ first_of (batch_tests p s room)
  unfolding batch_tests
  refused_cut e = rw e

  module _ {needed at : ℕ} (m : Measured p s room needed at) (end : length s ≤ at) where
    pub refused_room : room < needed → no_room ≡ first_of (batch_tests p s room)
    unfolding batch_tests
    refused_room h =
        rw (
          walked_whole m.walked end,
          walked_all m.walked end,
          lt-ltb room (answers_length p m.passed) (omega (arith, m.is)),
        )

    pub accepted_here : needed ≤ room → 0 ≡ first_of (batch_tests p s room)
    unfolding batch_tests
    accepted_here h =
        rw (
          walked_whole m.walked end,
          walked_all m.walked end,
          le-ltb room (answers_length p m.passed) (omega (arith, m.is)),
        )
