-- What a SET's seven flag bytes say of it; specs/Theorems says what the words of it mean. Assumes nothing.
use Prim.Native.Nat.{ℕ, ◌^◌}
use mathlib.Core.{Path.{◌≡◌, refl, ap, sym, ◌∙◌}, List.{List}, Bool.{Bool, true, false, cond}}
use native.Mathlib.Omega.{arith}
use lib.{Dec.{lit≤}, IntN.{ℤ}}
use Rattle.wire.specs.Uvc.{invalid_value, out_of_range}
use Rattle.wire.proofs.Laws.Numbers.{Bytes, below}
use Rattle.std.specs.declared.option.Option.TheVariants.{Some}
use Rattle.flags.specs.Flags.{one_flag}
use Rattle.flags.specs.Theorems.{OnlyFlag, NoFlag}
use Rattle.flags.proofs.{Laws.Bits.{chosen_power}, Theorems.{all_choose}}
use Rattle.controls.specs.Controls.{Item, Refused, Given}
use Rattle.controls.specs.declared.Setting.{Setting}
use Rattle.controls.specs.declared.Setting.TheVariants.{Ev}
use Rattle.controls.proofs.Laws.Controls.{item_given, item_refused}
use Rattle.exposure.specs.{declared.EvLimits.{EvLimits}, Exposure.{divisor, in_range, ev_flags, ev_value, ev_item}}
use Rattle.exposure.specs.Theorems.{AllEvByFlags}
use Rattle.exposure.proofs.Laws.Exposure.{refused_flags, refused_value, accepted}

module _ (l : EvLimits) (payload : List ℕ) (b : Bytes payload) where
  abbrev flags : ℕ
  flags = ev_flags payload

  abbrev v : ℤ
  v = ev_value payload

  abbrev setting : ℕ → Setting
  setting n = Ev (record { flags = n; value = v })

  -- what it comes to by whether the value is in range at the step of k
  abbrev at : ℕ → Bool → Item
  at k c = cond c (Given (setting (2 ^ k))) (Refused out_of_range)

  by_value : (k : ℕ) → OnlyFlag payload 0 l.steps k → ev_item l payload ≡ at k (in_range l (divisor k) v)
  unfolding ev_item
  by_value k o = go (in_range l (divisor k) v) refl
    where
      e : one_flag l.steps flags ≡ Some k
      e = ((all_choose payload b 0 l.steps).chosen k).1 o

      go : (c : Bool) → in_range l (divisor k) v ≡ c → ev_item l payload ≡ at k c
      go true r =
          item_given _ (setting flags) (accepted l flags v k e r)
          ∙ ap (λ (n : ℕ). Given (setting n))
          (chosen_power l.steps flags k e (below 7 7 payload 0 b (lit≤ tt)))
      go false r =
          let n = refused_value l flags v k e r in
          rw n (item_refused out_of_range (setting flags) (λ z. absurd (omega arith)))

  no_flag : ev_item l payload ≡ Refused invalid_value → NoFlag payload 0 l.steps
  no_flag e k o = go (in_range l (divisor k) v) (sym (by_value k o) ∙ e)
    where
      go : (c : Bool) → at k c ≡ Refused invalid_value → ⊥
      go true f = let z : ◌≡◌ {A = ℕ} 0 1 = cc in absurd (omega arith)
      go false f = let z : out_of_range ≡ invalid_value = cc in absurd (omega arith)

  invalid : NoFlag payload 0 l.steps → ev_item l payload ≡ Refused invalid_value
  unfolding ev_item
  invalid none =
      let n = refused_flags l flags v ((all_choose payload b 0 l.steps).refused.1 none) in
      rw n (item_refused invalid_value (setting flags) (λ z. absurd (omega arith)))

pub ev_by_flags : AllEvByFlags
ev_by_flags l payload b = record { refused = (no_flag l payload b, invalid l payload b); ranged = by_value l payload b }
