-- Lists of calls on records of one profile. Assumes nothing.
use mathlib.Core.{Path.{◌≡◌, refl, ap, ap₂, sym, ◌∙◌, fun_ext}, List.{List, [], ◌∷◌, ◌++◌, append_assoc}, Bool.{Bool, true}}
use Prim.Native.Nat.{ℕ}
use Rattle.snapshot.specs.Given.{over, last_of}
use Rattle.snapshot.proofs.Laws.Given.{over_assoc, over_none, last_append}
use Rattle.profile.specs.{declared.Profile.{Profile}, Profile.{profile_valid}}
use Rattle.settings.specs.{Settings.{no_settings}, Kept.{kept}}
use Rattle.camera.specs.{declared.record.Camera.{Camera}, Record.{fresh, held}}
use Rattle.demands.specs.Calls.{Call, next}
use Rattle.demands.specs.{Runs.{gives, leaves, flag_after, given, settings, run}, Cameras.{Ok}}
use Rattle.invariants.proofs.Laws.{Held.{none_held}, Kept.{none_formed}}
use Rattle.demands.proofs.Laws.Steps.{step}

-- the settings and the flag of a list of two parts
pub given_append : (p : Profile) (f : Bool) (xs ys : List Call) → given p f (xs ++ ys) ≡ given p f xs ++ given p (flag_after f xs) ys
given_append p f [] ys = refl
given_append p f (c ∷ xs) ys = ap (λ l. gives p f c ++ l) (given_append p (leaves f c) xs ys) ∙ sym (append_assoc (gives p f c) _ _)

-- a record after a list of calls
module _ (p : Profile) where
  pub run_ok : (c : Camera) → Ok p c → (cs : List Call) → Ok p (run c cs)
  run_ok c o [] = o
  run_ok c o (x ∷ cs) = run_ok (next c x) (step p c o x).ok cs

  run_streaming : (c : Camera) → Ok p c → (cs : List Call) → (run c cs).streaming ≡ flag_after c.streaming cs
  run_streaming c o [] = refl
  run_streaming c o (x ∷ cs) = run_streaming (next c x) (step p c o x).ok cs ∙ ap (λ f. flag_after f cs) (step p c o x).streaming_after

  run_held : (c : Camera) → Ok p c → (cs : List Call) (k : ℕ) → held (run c cs) k ≡ over (held c k) (settings p c.streaming cs k)
  run_held c o [] k = refl
  run_held c o (x ∷ cs) k =
      let s = step p c o x in
      run_held (next c x) s.ok cs k
      ∙ ap₂ (λ o f. over o (settings p f cs k)) (s.held_after k) s.streaming_after
      ∙ over_assoc (held c k) (last_of (gives p c.streaming x) k) (settings p (leaves c.streaming x) cs k)
      ∙ ap (over (held c k)) (sym (last_append (gives p c.streaming x) (given p (leaves c.streaming x) cs) k))

-- from a fresh camera of a valid profile
module _ (p : Profile) (v : profile_valid p ≡ true) (f : Bool) where
  pub fresh_ok : Ok p (fresh p f)
  unfolding no_settings kept
  fresh_ok = record { profile = refl; formed = none_formed p v; places = refl }

  pub held_after : (cs : List Call) → held (run (fresh p f) cs) ≡ settings p f cs
  held_after cs = fun_ext λ k.
      run_held p (fresh p f) fresh_ok cs k
      ∙ ap (λ o. over o (settings p f cs k)) (none_held k)
      ∙ over_none (settings p f cs k)

  pub flag_after_lem : (cs : List Call) → (run (fresh p f) cs).streaming ≡ flag_after f cs
  flag_after_lem cs = run_streaming p (fresh p f) fresh_ok cs
