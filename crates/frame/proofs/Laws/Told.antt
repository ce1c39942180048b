-- A refusal's number tells which refusal it is. Assumes nothing.
use Prim.Native.Nat.{ℕ}
use mathlib.Core.{Path.{◌≡◌, refl, sym, ap, ◌∙◌}, Bool.{cond}}
use lib.Dec.{eqb}
use Rattle.frame.specs.declared.refusals.Refusal.{Refusal}
use Rattle.frame.specs.declared.refusals.Refusal.TheVariants.{Truncated, InvalidId, ShortSize, TooLong, NoItem, NoRoom}
use Rattle.frame.specs.Answers.{code_of, ToldApart}

-- the refusal of a number
numbered : ℕ → Refusal
numbered n =
    cond (eqb n 0x40) Truncated
    (cond (eqb n 0x41) InvalidId
    (cond (eqb n 0x42) ShortSize
    (cond (eqb n 0x43) TooLong
    (cond (eqb n 0x44) NoItem NoRoom))))

numbered_back : (e : Refusal) → numbered (code_of e) ≡ e
unfolding numbered
numbered_back Truncated = refl
numbered_back InvalidId = refl
numbered_back ShortSize = refl
numbered_back TooLong = refl
numbered_back NoItem = refl
numbered_back NoRoom = refl

pub told_apart : ToldApart
told_apart e f h = sym (numbered_back e) ∙ ap numbered h ∙ numbered_back f
