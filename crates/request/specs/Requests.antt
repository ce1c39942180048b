-- What a request reports and leaves, over a table of controls.
use Rattle.std.specs.Prelude.{ℕ}
use mathlib.Core.{List.{List, ◌++◌}, Bool.{cond, not, ◌&&◌}}
use lib.{Dec.{eqb}, ListN.{length, take, drop}}
use Rattle.request.specs.{Setup.{is_set_request}, Table.{Table}, Tests.{asked, sent_count, request_code}}

-- a GET reports as many bytes as it sends, and a SET none
unfoldable pub request_count : Table → List ℕ → List ℕ → ℕ → ℕ
request_count t setup payload room =
    cond (eqb (request_code t setup payload room) 0 && not (is_set_request setup)) (sent_count t setup) 0

-- the reply buffer afterwards: a GET writes the bytes that it reports, and nothing else is written
unfoldable pub replied : Table → List ℕ → List ℕ → List ℕ → List ℕ
replied t setup payload reply =
    cond (eqb (request_code t setup payload (length reply)) 0 && not (is_set_request setup))
    (take (sent_count t setup) (asked t setup) ++ drop (sent_count t setup) reply)
    reply

-- What a call on a unit's record hands back, where `out` makes it of a number, a count and the next record. By its number a call is
-- refused, with no count and the record as it came in, or comes to what it does.
abbrev pub result_by : {R O : Type 0} → (ℕ → ℕ → R → O) → ℕ → R → O → O
result_by out code before done = cond (eqb code 0) done (out code 0 before)

-- what an accepted request does: a SET leaves the record `set`, a GET reports what it sends and leaves the record as it was
abbrev pub done_by : {R O : Type 0} → (ℕ → ℕ → R → O) → Table → (before set : R) → List ℕ → O
done_by out t before set setup = cond (is_set_request setup) (out 0 0 set) (out 0 (sent_count t setup) before)

-- what a request hands back
abbrev pub requested_by : {R O : Type 0} → (ℕ → ℕ → R → O) → Table → (before set : R) → List ℕ → List ℕ → ℕ → O
requested_by out t before set setup payload room =
    result_by out (request_code t setup payload room) before (done_by out t before set setup)
