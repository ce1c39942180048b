-- The number that answers a request, by how far its tests go. Assumes nothing.
use mathlib.Core.{Path.{◌≡◌, refl, ap, sym, ◌∙◌}, List.{List, [], ◌∷◌, ◌++◌}, Bool.{Bool, true, false, cond, not, ◌&&◌}}
use Prim.Native.Nat.{ℕ}
use native.Mathlib.Omega.{arith}
use lib.{Dec.{eqb, ltb, leb}, ListN.{length}}
use borrow.Author.Tests.{eq-eqb, ne_eqb, eqb-true, eqb-false, le-ltb, lt-ltb, leb-true, leb-false}
use Rattle.wire.specs.{Rows.{Row, ◌⇒◌, answers, first_of, Quiet}, Uvc.{malformed_record, no_room}}
use Rattle.wire.proofs.Laws.Rows.{Coded, first_append, quiet_own, own_coded, answers_number, Avoids, avoided}
use Rattle.request.specs.{Setup.{setup_selector, setup_code, setup_w_length, is_set_request}, Table.{Table}}
use Rattle.request.specs.Tests.{request_tests, value_tests, admission, asked, sent_count, request_rows, request_code}
use Rattle.request.specs.Reply.{sent_of, reply_of}
use Rattle.request.specs.Requests.{replied}

-- a row that comes to its own number
own : (n : ℕ) (rows : List Row) → first_of (answers n ∷ rows) ≡ cond (eqb n 0) (first_of rows) n
own n rows = go (eqb n 0)
  where
    go : (b : Bool) → cond (not b) n (first_of rows) ≡ cond b (first_of rows) n
    go true = refl
    go false = refl

module _ (t : Table) (setup payload : List ℕ) where
  -- tests 7 and on are asked where tests 2 to 6 have nothing to say
  pub then_rows : (rows : List Row)
      → first_of (request_tests t setup payload ++ rows)
      ≡ cond (eqb (first_of (request_tests t setup payload)) 0) (first_of rows) (first_of (request_tests t setup payload))
  unfolding request_tests
  then_rows rows = first_append (request_tests t setup payload) rows refl

  abbrev first : ℕ
  first = first_of (request_tests t setup payload)

  abbrev state : ℕ
  state = t.state (setup_selector setup) (setup_code setup)

  -- tests 1 to 7
  pub admission_unformed : t.formed ≡ false → admission t setup payload ≡ malformed_record
  unfolding admission request_tests
  admission_unformed w = rw w

  pub admission_formed : t.formed ≡ true → admission t setup payload ≡ cond (eqb first 0) state first
  unfolding admission
  admission_formed w =
      ap (λ b. cond (not b) malformed_record (first_of (request_tests t setup payload ++ (answers state ∷ [])))) w
      ∙ then_rows (answers state ∷ [])
      ∙ ap (λ (n : ℕ). cond (eqb first 0) n first) (answers_number state)

  pub admitted : admission t setup payload ≡ 0 → (t.formed ≡ true) × (first ≡ 0) × (state ≡ 0)
  admitted e = go t.formed refl
    where
      go : (b : Bool) → t.formed ≡ b → (t.formed ≡ true) × (first ≡ 0) × (state ≡ 0)
      go false w = absurd (omega (arith, sym (admission_unformed w) ∙ e))
      go true w = by (eqb first 0) refl (sym (admission_formed w) ∙ e)
        where
          by : (b : Bool) → eqb first 0 ≡ b → cond (eqb first 0) state first ≡ 0 → (t.formed ≡ true) × (first ≡ 0) × (state ≡ 0)
          by true p q = (w, eqb-true first 0 p, rw p at q)
          by false p q = absurd (eqb-false first 0 p (rw p at q))

  module _ (room : ℕ) where
    abbrev last : Row
    last = not (is_set_request setup) && ltb room (sent_count t setup) ⇒ no_room

    rows_coded : Coded (request_rows t setup payload room)
    unfolding request_rows request_tests value_tests
    rows_coded = (
      λ h e. omega arith,
      (
        λ h e. omega arith,
        (
          λ h e. omega arith,
          (
            λ h e. omega arith,
            (λ h e. omega arith, (λ h e. omega arith, (own_coded _, (own_coded _, (λ h e. omega arith, tt))))),
          ),
        ),
      ),
    )

    -- no test fails where the number is 0
    pub request_quiet : request_code t setup payload room ≡ 0 → Quiet (request_rows t setup payload room)
    unfolding request_code
    request_quiet = quiet_own (request_rows t setup payload room) rows_coded

    pub at_unformed : t.formed ≡ false → request_code t setup payload room ≡ malformed_record
    unfolding request_code request_rows
    at_unformed w = rw w

    module _ (w : t.formed ≡ true) where
      by_tests : request_code t setup payload room ≡ cond (eqb first 0) (first_of (value_tests t setup payload ++ (last ∷ []))) first
      unfolding request_code request_rows request_tests value_tests
      by_tests =
          ap (λ b. cond (not b) malformed_record (first_of (request_tests t setup payload ++ (value_tests t setup payload ++ (last ∷ []))))) w
          ∙ then_rows (value_tests t setup payload ++ (last ∷ []))

      pub at_tests : (first ≡ 0 → ⊥) → request_code t setup payload room ≡ first
      at_tests n = by_tests ∙ rw (ne_eqb first 0 n)

      module _ (z : first ≡ 0) where
        by_state : request_code t setup payload room
            ≡ cond (eqb state 0) (first_of (answers (cond (is_set_request setup) (t.values (setup_selector setup) payload) 0) ∷ last ∷ []))
            state
        unfolding value_tests
        by_state =
            by_tests
            ∙ rw (eq-eqb first 0 z)
            (own state (answers (cond (is_set_request setup) (t.values (setup_selector setup) payload) 0) ∷ last ∷ []))

        pub at_state : (state ≡ 0 → ⊥) → request_code t setup payload room ≡ state
        at_state n = by_state ∙ rw (ne_eqb state 0 n)

        module _ (y : state ≡ 0) where
          pub at_set : is_set_request setup ≡ true → request_code t setup payload room ≡ t.values (setup_selector setup) payload
          at_set e =
              by_state
              ∙ rw (eq-eqb state 0 y, e)
              (own (t.values (setup_selector setup) payload) ((false ⇒ no_room) ∷ []) ∙ zero_or (t.values (setup_selector setup) payload))
            where
              zero_or : (n : ℕ) → cond (eqb n 0) 0 n ≡ n
              zero_or n = go (eqb n 0) refl
                where
                  go : (b : Bool) → eqb n 0 ≡ b → cond b 0 n ≡ n
                  go true q = sym (eqb-true n 0 q)
                  go false q = refl

          pub at_get : is_set_request setup ≡ false → request_code t setup payload room ≡ cond (ltb room (sent_count t setup)) no_room 0
          at_get e = by_state ∙ rw (eq-eqb state 0 y, e)

    -- a request that tests 1 to 7 refuse
    pub at_admission : (admission t setup payload ≡ 0 → ⊥) → request_code t setup payload room ≡ admission t setup payload
    at_admission n = go t.formed refl
      where
        go : (b : Bool) → t.formed ≡ b → request_code t setup payload room ≡ admission t setup payload
        go false w = at_unformed w ∙ sym (admission_unformed w)
        go true w = by (eqb first 0) refl
          where
            by : (b : Bool) → eqb first 0 ≡ b → request_code t setup payload room ≡ admission t setup payload
            by true p =
                let a : admission t setup payload ≡ state = admission_formed w ∙ rw p in
                at_state w (eqb-true first 0 p) (λ z. n (a ∙ z)) ∙ sym a
            by false p = at_tests w (eqb-false first 0 p) ∙ sym (admission_formed w ∙ rw p)

    -- a well-formed record is never 0x21, unless tests 7 and 8 say so
    pub never_malformed : t.formed ≡ true → (state ≡ malformed_record → ⊥) → (t.values (setup_selector setup) payload ≡ malformed_record → ⊥)
        → request_code t setup payload room ≡ malformed_record → ⊥
    unfolding request_code request_rows request_tests value_tests
    never_malformed w y v e =
        avoided malformed_record rest
        (λ z. omega arith, (λ z. omega arith, (λ z. omega arith, (λ z. omega arith, (λ z. omega arith, (y, values_and_room))))))
        (sym (ap (λ b. cond (not b) malformed_record (first_of rest)) w) ∙ e)
      where
        rest : List Row
        rest = request_tests t setup payload ++ value_tests t setup payload ++ (last ∷ [])

        set_value : (b : Bool) → cond b (t.values (setup_selector setup) payload) 0 ≡ malformed_record → ⊥
        set_value true z = v z
        set_value false z = omega arith

        values_and_room : Avoids malformed_record
            (answers (cond (is_set_request setup) (t.values (setup_selector setup) payload) 0) ∷ last ∷ [])
        values_and_room = (set_value (is_set_request setup), (λ z. omega arith, λ z. omega arith))

  -- what a SET leaves in the reply buffer, and what a GET that is past test 8 reports and leaves there
  pub set_replied : (reply : List ℕ) → is_set_request setup ≡ true → reply ≡ replied t setup payload reply
  unfolding replied
  set_replied reply e = rw e (go (eqb (request_code t setup payload (length reply)) 0) _)
    where
      go : (b : Bool) (written : List ℕ) → reply ≡ cond (b && false) written reply
      go true written = refl
      go false written = refl

  pub get_sent : (reply : List ℕ) → is_set_request setup ≡ false
      → request_code t setup payload (length reply) ≡ cond (ltb (length reply) (sent_count t setup)) no_room 0
      → (reply_of (asked t setup) (setup_w_length setup) reply ≡ replied t setup payload reply)
      × (cond (eqb (request_code t setup payload (length reply)) 0) (record { code = 0; count = sent_count t setup })
      (record { code = request_code t setup payload (length reply); count = 0 })
      ≡ sent_of (asked t setup) (setup_w_length setup) (length reply))
  unfolding replied sent_of reply_of
  get_sent reply e n = go (leb (sent_count t setup) (length reply)) refl
    where
      code : ℕ
      code = request_code t setup payload (length reply)

      Sends : Type 0
      Sends = (reply_of (asked t setup) (setup_w_length setup) reply ≡ replied t setup payload reply)
          × (cond (eqb code 0) (record { code = 0; count = sent_count t setup }) (record { code = code; count = 0 }) ≡ sent_of
          (asked t setup) (setup_w_length setup) (length reply))

      go : (b : Bool) → leb (sent_count t setup) (length reply) ≡ b → Sends
      go true h = let z : code ≡ 0 = n ∙ rw (le-ltb (length reply) (sent_count t setup) (leb-true _ _ h)) in (rw (h, z, e), rw (h, z))
      go false h = let z : code ≡ no_room = n ∙ rw (lt-ltb (length reply) (sent_count t setup) (leb-false _ _ h)) in (rw (h, z), rw (h, z))
