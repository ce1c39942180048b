-- What a GET reports and leaves in the reply buffer, by its full answer: min(wLength, full length) bytes at the start, and nothing else.
use Rattle.std.specs.Prelude.{ℕ, min, Result, Ok, Err}
use mathlib.Core.{List.{List, ◌++◌}, Bool.{cond}}
use lib.{Dec.{leb}, ListN.{length, take, drop}}
use Rattle.wire.specs.{Uvc.{no_room}, declared.refusal.Refusal.{Refusal}, Refusals.{code_of}}

-- what a GET reports: 01's number and how many bytes were written
pub record Sent : Type 0 where
  pub code : ℕ
  pub count : ℕ

-- what the code's result reports
abbrev pub sent_told : Result ℕ Refusal → Sent
sent_told (Ok n) = record { code = 0; count = n }
sent_told (Err e) = record { code = code_of e; count = 0 }

-- how many bytes are sent
abbrev pub sent_length : List ℕ → ℕ → ℕ
sent_length answer wLength = min wLength (length answer)

-- test 9: a buffer shorter than that is 0x20
unfoldable pub sent_of : List ℕ → ℕ → ℕ → Sent
sent_of answer wLength room =
    let n = sent_length answer wLength in
    cond (leb n room) (record { code = 0; count = n }) (record { code = no_room; count = 0 })

-- the buffer afterwards
unfoldable pub reply_of : List ℕ → ℕ → List ℕ → List ℕ
reply_of answer wLength reply =
    let n = sent_length answer wLength in
    cond (leb n (length reply)) (take n answer ++ drop n reply) reply
