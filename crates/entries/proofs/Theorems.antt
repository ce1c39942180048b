-- What an entry's seven flag bytes say of it; specs/Theorems says what the words of it mean. Assumes nothing.
use Prim.Native.Nat.{ℕ, ◌+◌, ◌*◌, ◌^◌}
use mathlib.Core.{Path.{◌≡◌, refl, ap, sym, ◌∙◌}, List.{List}, Bool.{cond}}
use native.Mathlib.Omega.{arith}
use lib.Dec.{lit≤}
use borrow.Author.Tests.{ne_eqb}
use Rattle.wire.specs.Uvc.{invalid_value}
use Rattle.wire.proofs.Laws.Numbers.{Bytes, below}
use Rattle.flags.specs.Flags.{Choice, one_flag}
use Rattle.std.specs.declared.option.Option.TheVariants.{Some, None}
use Rattle.flags.specs.Theorems.{Chooses}
use Rattle.flags.proofs.{Laws.Bits.{chosen_power}, Theorems.{all_choose}}
use Rattle.controls.specs.Controls.{Given}
use Rattle.controls.specs.declared.Setting.TheVariants.{Face}
use Rattle.face.specs.{declared.limits.FaceLimits.{FaceLimits}, Limits.{offers_of}}
use Rattle.entries.specs.Entries.{entry_address, entry_flags, is_choice, face_refusal, entry_refusal, face_item}
use Rattle.entries.specs.Theorems.{NewEndpoint, EntryFlag, EntryNoFlag, EntryTaken, AllEntriesByFlags}
use Rattle.entries.proofs.Laws.{Entries.{entry_given}, Payload.{accepted}}

module _ (l : FaceLimits) (payload : List ℕ) (b : Bytes payload) (i : ℕ) where
  abbrev offers : ℕ
  offers = offers_of l (entry_address payload i)

  abbrev choice : Choice
  choice = one_flag offers (entry_flags payload i)

  choices : Chooses payload (2 + 8 * i) offers
  choices = all_choose payload b (2 + 8 * i) offers

  refuses : NewEndpoint l payload i → EntryNoFlag l payload i → entry_refusal l payload i ≡ invalid_value
  unfolding entry_refusal is_choice
  refuses a none = rw (ne_eqb offers 0 a.listed, a.unseen, choices.refused.1 none)

  module _ (a : NewEndpoint l payload i) (k : ℕ) (o : EntryFlag l payload i k) where
    passes : entry_refusal l payload i ≡ 0
    unfolding entry_refusal is_choice
    passes = rw (ne_eqb offers 0 a.listed, a.unseen, (choices.chosen k).1 o)

    gives : face_item l payload i ≡ Given (Face (entry_address payload i) (2 ^ k))
    gives =
        entry_given l payload i 0 (sym passes) refl
        ∙ ap (λ (n : ℕ). Given (Face (entry_address payload i) n))
        (chosen_power offers (entry_flags payload i) k ((choices.chosen k).1 o) (below 7 7 payload (2 + 8 * i) b (lit≤ tt)))

  no_flag : NewEndpoint l payload i → entry_refusal l payload i ≡ invalid_value → EntryNoFlag l payload i
  no_flag a e k o = let z = passes a k o in absurd (omega arith)

  one-flag : entry_refusal l payload i ≡ 0 → EntryTaken l payload i
  unfolding face_refusal is_choice
  one-flag e =
      let t = accepted l payload i _ _ (entry_given l payload i 0 (sym e) refl) in
      (record { listed = t.known; unseen = t.new }, go choice refl t.sound)
    where
      go : (c : Choice) → choice ≡ c → cond (is_choice c) 0 invalid_value ≡ 0 → (k : ℕ) × EntryFlag l payload i k
      go (Some k) f z = (k, (choices.chosen k).0 f)
      go None f z = absurd (omega arith)

pub entry_by_flags : AllEntriesByFlags
entry_by_flags l payload b i = record {
  refused = λ a. (no_flag l payload b i a, refuses l payload b i a);
  taken = (one-flag l payload b i, λ t. passes l payload b i t.0 t.1.0 t.1.1);
  given = λ k a o. gives l payload b i a k o;
}
