-- What a SET comes to, by the code's value tests. Assumes nothing.
use mathlib.Core.{Path.{◌≡◌, ap, sym, ◌∙◌}, List.{List}}
use Prim.Native.Nat.{ℕ, ◌^◌, ◌<◌}
use mir.Syntax.{w8}
use mir.Val.{Fits}
use Rattle.std.specs.Prelude.{ℤ}
use Rattle.wire.specs.{declared.refusal.Refusal.{Refusal}, Refusals.{code_of}}
use Rattle.wire.proofs.Laws.Refusals.{not_accepted}
use Rattle.flags.proofs.Laws.Bits.{chosen_below}
use Rattle.controls.specs.Controls.{Refused, Given}
use Rattle.controls.specs.declared.Setting.TheVariants as S
use Rattle.controls.proofs.Laws.Controls.{item_given, item_refused}
use Rattle.exposure.specs.{declared.EvLimits.{EvLimits}, Exposure.{ev_refusal, ev_flags, ev_value, ev_item}}
use Rattle.exposure.proofs.Laws.Exposure.{accepts}

module _ (l : EvLimits) (payload : List ℕ) where
  pub refused : (e : Refusal) → code_of e ≡ ev_refusal l (ev_flags payload) (ev_value payload) → Refused (code_of e) ≡ ev_item l payload
  unfolding ev_item
  refused e h = ap Refused h ∙ sym (item_refused _ _ (λ z. not_accepted e (h ∙ z)))

  pub given : 0 ≡ ev_refusal l (ev_flags payload) (ev_value payload)
      → Given (S.Ev (record { flags = ev_flags payload; value = ev_value payload })) ≡ ev_item l payload
  unfolding ev_item
  given h = sym (item_given _ _ (sym h))

-- the one flag of what is accepted is of the low byte
pub fits : (l : EvLimits) (flags : ℕ) (v : ℤ) → ev_refusal l flags v ≡ 0 → Fits w8 l.steps → flags < 2 ^ 56 → Fits w8 flags
fits l flags v h s g = let a = accepts l flags v h in record { fits = chosen_below l.steps flags a.0 a.1.0 8 s.fits g }
