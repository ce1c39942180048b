-- Laws of items taken one after the other. Assumes nothing.
use mathlib.Core.{Path.{◌≡◌, refl, ap, ap₂, sym, ◌∙◌, fun_ext}, List.{List, [], ◌∷◌, ◌++◌, append_assoc, append-nil}}
use mathlib.Core.Bool.{Bool, true, false, cond}
use Prim.Native.Nat.{ℕ, zero, suc, ◌+◌, ◌<◌}
use native.Mathlib.{Nat.{zero-add}, Numerals.{add-one}, Omega.{arith}}
use lib.{Dec.{eqb}, ListN.{get_or}}
use borrow.Author.Tests.{ne_eqb, eqb-true}
use Rattle.wire.specs.Selectors.{face}
use Rattle.controls.specs.Controls.{Item, Refused, Given, item_code, first_refusal}
use Rattle.controls.specs.declared.Setting.{Setting}
use Rattle.controls.specs.declared.Setting.TheVariants as S
use Rattle.entries.specs.Entries.{FacesTaken}
use Rattle.entries.specs.Entries.{entry_address, entry_flags, entry_refusal, face_item, entries_put, faces_taken}
use Rattle.entries.proofs.Laws.Entries.{entry_code, taken_entries}
use Rattle.profile.specs.{declared.Profile.{Profile}, Items.{profile_item, set_refusal}}
use Rattle.settings.specs.declared.settings.Settings.{Settings}
use Rattle.settings.specs.Items.{SetTaken}
use Rattle.settings.specs.Settings.{put}
use Rattle.settings.specs.Items.{given_of, all_given, put_all, set_gives, set_taken}

-- one more
given_more : (i k : ℕ) (given : ℕ → List (ℕ × Setting)) → all_given (suc i) k given ≡ all_given i k given ++ given (i + k)
unfolding all_given
given_more zero k given = rw zero-add (append-nil (given k))
given_more (suc i) k given =
    let e : i + suc k ≡ suc i + k = omega arith in
    ap (λ l. given k ++ l) (given_more i (suc k) given ∙ ap (λ (m : ℕ). all_given i (suc k) given ++ given m) e)
    ∙ sym (append_assoc (given k) (all_given i (suc k) given) (given (suc i + k)))

pub given_next : (i : ℕ) (given : ℕ → List (ℕ × Setting)) → all_given (suc i) 0 given ≡ all_given i 0 given ++ given i
given_next i given = let e : i + 0 ≡ i = omega arith in given_more i 0 given ∙ ap (λ (m : ℕ). all_given i 0 given ++ given m) e

pub puts_append : (h : Settings) (a b : List (ℕ × Setting)) → put_all h (a ++ b) ≡ put_all (put_all h a) b
unfolding put_all
puts_append h [] b = refl
puts_append h (s ∷ a) b = puts_append (put h s.1) a b

-- the settings with i + 1 items are those with i of them, and the next
pub puts_next : (h : Settings) (i : ℕ) (given : ℕ → List (ℕ × Setting))
    → put_all h (all_given (i + 1) 0 given) ≡ put_all (put_all h (all_given i 0 given)) (given i)
puts_next h i given =
    ap (λ (m : ℕ). put_all h (all_given m 0 given)) (add-one i)
    ∙ ap (put_all h) (given_next i given)
    ∙ puts_append h (all_given i 0 given) (given i)

-- a SET of one item is that item taken
one_code : (i : Item) → item_code i ≡ cond (eqb (item_code i) 0) 0 (item_code i)
one_code i = go (eqb (item_code i) 0) refl
  where
    go : (b : Bool) → eqb (item_code i) 0 ≡ b → item_code i ≡ cond b 0 (item_code i)
    go true e = eqb-true (item_code i) 0 e
    go false e = refl

one_given : (h : Settings) (i : Item) → put_all h (given_of i) ≡ cond (eqb (item_code i) 0) (put_all h (given_of i)) h
unfolding given_of put_all item_code
one_given h (Refused code) = go (eqb code 0)
  where
    go : (b : Bool) → h ≡ cond b h h
    go true = refl
    go false = refl
one_given h (Given s) = refl

pub one_item : (p : Profile) (h : Settings) (selector : ℕ) (payload : List ℕ) → (selector ≡ face → ⊥)
    → ◌≡◌ {A = SetTaken} (record {
      code = item_code (profile_item p selector payload 0);
      settings = put_all h
          (given_of (profile_item p selector payload 0));
    }) (set_taken p h selector payload)
unfolding set_taken set_refusal set_gives first_refusal all_given
one_item p h selector payload n =
    let i = profile_item p selector payload 0 in
    rw (ne_eqb selector face n, append-nil (given_of i), ← one_code i)
    (ap (λ s. record { code = item_code i; settings = s }) (one_given h i))

-- by what the code's item is
module _ (p : Profile) (h : Settings) (selector : ℕ) (payload : List ℕ) (other : selector ≡ face → ⊥) where
  of_item : Item → SetTaken
  of_item i = record { code = item_code i; settings = put_all h (given_of i) }

  pub one_refused : {code : ℕ} → Refused code ≡ profile_item p selector payload 0
      → ◌≡◌ {A = SetTaken} (record { code = code; settings = h }) (set_taken p h selector payload)
  unfolding of_item item_code given_of put_all
  one_refused e = ap of_item e ∙ one_item p h selector payload other

  pub one_taken : {s : Setting} → Given s ≡ profile_item p selector payload 0
      → ◌≡◌ {A = SetTaken} (record { code = 0; settings = put h s }) (set_taken p h selector payload)
  unfolding of_item item_code given_of put_all
  one_taken e = ap of_item e ∙ one_item p h selector payload other

-- entries of face authentication, one after the other
abbrev with_face : Settings → List ℕ → Settings
with_face h l = record { ev = h.ev; face = l; metadata = h.metadata; hdr = h.hdr; throttle = h.throttle }

entries_put_lem : (h : Settings) (payload : List ℕ) (n : ℕ) (item : ℕ → Item)
    → ((i : ℕ) → i < n → item i ≡ Given (S.Face (entry_address payload i) (entry_flags payload i)))
    → put_all h (all_given n 0 (λ i. given_of (item i))) ≡ with_face h (entries_put h.face payload n)
unfolding put_all all_given entries_put given_of put
entries_put_lem h payload zero item t = refl
entries_put_lem h payload (suc n) item t =
    let given : ℕ → List (ℕ × Setting) = λ i. given_of (item i) in
    ap (put_all h) (given_next n given)
    ∙ puts_append h (all_given n 0 given) (given n)
    ∙ ap₂ (λ k (l : List (ℕ × Setting)). put_all k l) (entries_put_lem h payload n item (λ i l. t i (omega arith)))
    (ap given_of (t n (omega arith)))

-- a SET's value tests of face authentication are its entries'
pub face_refusal_lem : (p : Profile) (payload : List ℕ)
    → set_refusal p face payload ≡ first_refusal (get_or payload 0 0) 0 (entry_refusal p.face payload)
unfolding set_refusal profile_item
face_refusal_lem p payload = ap (first_refusal (get_or payload 0 0) 0) (fun_ext λ i. entry_code p.face payload i)

-- a SET of face authentication, by what taking its entries comes to
pub face_set : (p : Profile) (h : Settings) (payload : List ℕ) {taken : FacesTaken} → taken ≡ faces_taken p.face h.face payload
    → ◌≡◌ {A = SetTaken} (record { code = taken.code; settings = with_face h taken.held }) (set_taken p h face payload)
unfolding set_taken set_gives faces_taken profile_item
face_set p h payload {taken} is =
    rw (is, face_refusal_lem p payload) (ap (λ s. record { code = code; settings = s }) (go (eqb code 0) refl))
  where
    n : ℕ
    n = get_or payload 0 0

    code : ℕ
    code = first_refusal n 0 (entry_refusal p.face payload)

    go : (b : Bool) → eqb code 0 ≡ b
        → with_face h (cond b (entries_put h.face payload n) h.face)
        ≡ cond b (put_all h (all_given n 0 (λ i. given_of (face_item p.face payload i)))) h
    go true e = sym (entries_put_lem h payload n (face_item p.face payload) (taken_entries p.face payload n (eqb-true _ 0 e)))
    go false e = refl

-- what `set` goes by
pub ruleset set_by = (one_refused, one_taken, face_set)
