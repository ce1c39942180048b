-- Document 01, "The five controls": LEN answers two bytes and INFO one; the other answers are the control's.
use Rattle.std.specs.Prelude.{ℕ, ◌+◌, ◌*◌, min}
use mathlib.Core.{List.{List, [], ◌∷◌}, Bool.{cond}}
use lib.{Dec.{eqb}, ListN.{length, replicate}}
use Rattle.wire.specs.{Numbers.{bytes_of}, Writes.{overlay}, Endpoints.{endpoint_limit}, Uvc.{get_info, get_len}}
use Rattle.request.specs.declared.answers.Answer.{Answer}

-- the answer of a control to a GET's code, where `value` answers CUR, MIN, MAX, RES and DEF
unfoldable pub answer_by : (code len info : ℕ) → List ℕ → List ℕ
answer_by code len info value = cond (eqb code get_len) (bytes_of 2 len) (cond (eqb code get_info) (info ∷ []) value)

-- the longest answer: a count and an entry of eight bytes for each endpoint that a profile may list
abbrev pub longest_answer : ℕ
longest_answer = 1 + 8 * endpoint_limit

-- an answer as the code hands it on: its bytes with zeros behind them, and its length
unfoldable pub packed : List ℕ → Answer
packed l = record { bytes = overlay (replicate longest_answer 0) 0 l; len = min (length l) longest_answer }
