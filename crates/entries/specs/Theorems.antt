-- What an entry's seven flag bytes say of it. proofs/Theorems proves it.
use Rattle.std.specs.Prelude.{ℕ, ◌+◌, ◌*◌, ◌^◌}
use mathlib.Core.{Path.{◌≡◌}, List.{List}, Bool.{false}, Logic.{◌↔◌}}
use Rattle.wire.specs.Uvc.{invalid_value}
use Rattle.wire.proofs.Laws.Numbers.{Bytes}
use Rattle.flags.specs.Theorems.{OnlyFlag, NoFlag}
use Rattle.controls.specs.Controls.{Given}
use Rattle.controls.specs.declared.Setting.TheVariants.{Face}
use Rattle.face.specs.{declared.limits.FaceLimits.{FaceLimits}, Limits.{offers_of}}
use Rattle.entries.specs.Entries.{entry_address, seen_before, entry_refusal, face_item}

-- entry i is past the tests of its address: an endpoint has it, and no entry before this one
pub record NewEndpoint (l : FaceLimits) (payload : List ℕ) (i : ℕ) : Type 0 where
  pub listed : offers_of l (entry_address payload i) ≡ 0 → ⊥
  pub unseen : seen_before payload i ≡ false

-- k is the one flag that is set in the seven bytes behind that address, and its endpoint offers it; or there is no such k
abbrev pub EntryFlag : FaceLimits → List ℕ → ℕ → ℕ → Type 0
EntryFlag l payload i = OnlyFlag payload (2 + 8 * i) (offers_of l (entry_address payload i))

abbrev pub EntryNoFlag : FaceLimits → List ℕ → ℕ → Type 0
EntryNoFlag l payload i = NoFlag payload (2 + 8 * i) (offers_of l (entry_address payload i))

-- it is past the tests of its address, and has such a flag
abbrev pub EntryTaken : FaceLimits → List ℕ → ℕ → Type 0
EntryTaken l payload i = NewEndpoint l payload i × ((k : ℕ) × EntryFlag l payload i k)

-- Past the tests of its address an entry is 0x08 exactly where it has no such flag. It is taken exactly where it is past them and has one,
-- and gives its endpoint that flag.
pub record EntryByFlags (l : FaceLimits) (payload : List ℕ) (i : ℕ) : Type 0 where
  pub refused : NewEndpoint l payload i → (entry_refusal l payload i ≡ invalid_value) ↔ EntryNoFlag l payload i
  pub taken : (entry_refusal l payload i ≡ 0) ↔ EntryTaken l payload i
  pub given : (k : ℕ) → NewEndpoint l payload i → EntryFlag l payload i k
      → face_item l payload i ≡ Given (Face (entry_address payload i) (2 ^ k))

abbrev pub AllEntriesByFlags : Type 0
AllEntriesByFlags = (l : FaceLimits) (payload : List ℕ) → Bytes payload → (i : ℕ) → EntryByFlags l payload i
