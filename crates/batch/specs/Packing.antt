-- Requests packed one after another: each its eight setup bytes and, where its type is 0x21, as many bytes of payload as its wLength says.
use Rattle.std.specs.Prelude.{ℕ, zero, suc, ◌+◌}
use mathlib.Core.{Path.{◌≡◌}, List.{List, [], ◌∷◌, ◌++◌}, Bool.{Bool, cond}}
use lib.{Dec.{leb, eqb}, ListN.{length, take, drop}}
use Rattle.request.specs.Setup.{setup_type, setup_w_length}

pub record Request : Type 0 where
  pub setup : List ℕ
  pub payload : List ℕ

-- how many bytes of payload stand behind a setup: the code, the unit and the selector play no part, and a type other than 0x21 has none
abbrev pub data_length : List ℕ → ℕ
data_length setup = cond (eqb (setup_type setup) 0x21) (setup_w_length setup) 0

-- a whole request
pub record WholeRequest (r : Request) : Type 0 where
  pub setup : length r.setup ≡ 8
  pub payload : length r.payload ≡ data_length r.setup

abbrev pub EachWhole : List Request → Type 0
EachWhole [] = Unit {0}
EachWhole (r ∷ rs) = WholeRequest r × EachWhole rs

-- the batch of a list of requests
abbrev pub batch_of : List Request → List ℕ
batch_of [] = []
batch_of (r ∷ rs) = r.setup ++ r.payload ++ batch_of rs

-- the request at the start of a batch, and its size
abbrev pub first_setup : List ℕ → List ℕ
first_setup s = take 8 s

abbrev pub first_request : List ℕ → Request
first_request s = record { setup = first_setup s; payload = take (data_length (first_setup s)) (drop 8 s) }

abbrev pub first_size : List ℕ → ℕ
first_size s = 8 + data_length (first_setup s)

-- request by request, as far as they are whole: they, and the bytes behind them
unfoldable pub split_in : ℕ → List ℕ → List Request × List ℕ
split_in zero s = ([], s)
split_in (suc fuel) s =
    let rest = split_in fuel (drop (first_size s) s) in
    cond (leb (first_size s) (length s)) (first_request s ∷ rest.0, rest.1) ([], s)

-- the whole requests of a batch, and what is left: the start of a request inside which the batch stops, or nothing. (A request has
-- bytes, so there are no more requests than bytes.)
unfoldable pub requests_of : List ℕ → List Request
requests_of s = (split_in (length s) s).0

unfoldable pub rest_of : List ℕ → List ℕ
rest_of s = (split_in (length s) s).1

abbrev pub is_whole : List ℕ → Bool
is_whole s = eqb (length (rest_of s)) 0
