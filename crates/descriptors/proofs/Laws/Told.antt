-- What an answer says in document 01's numbers tells which answer it is. Assumes nothing.
use Prim.Native.Nat.{ℕ, ◌<◌}
use mathlib.Core.{Path.{◌≡◌, refl, sym, ap, ◌∙◌}, Bool.{cond}}
use native.Mathlib.Omega.{arith}
use lib.Dec.{eqb}
use Rattle.std.specs.Prelude.{Option, None, Some, Result, Ok, Err}
use Rattle.descriptors.specs.declared.codes.Refusal.{Refusal}
use Rattle.descriptors.specs.declared.codes.Refusal.TheVariants.{BadSetHeader, PastParent, BadType, BadLength, BadField, NoProperty}
use Rattle.descriptors.specs.declared.{set.Fault.{Fault}, properties.RegistryProperty.{RegistryProperty}}
use Rattle.descriptors.specs.{Codes.{code_of}, Header.{Interface, Nowhere, First}, Set.{FaultAnswer}}
use Rattle.descriptors.specs.Properties.{PropertyAnswer, refused_property}
use Rattle.descriptors.specs.Told.{fault_told, interface_told, property_told}

-- no refusal's number is 0
pub coded : (e : Refusal) → 0 < code_of e
coded BadSetHeader = omega arith
coded PastParent = omega arith
coded BadType = omega arith
coded BadLength = omega arith
coded BadField = omega arith
coded NoProperty = omega arith

-- and no two have one
numbered : ℕ → Refusal
numbered n =
    cond (eqb n 0x30) BadSetHeader
    (cond (eqb n 0x31) PastParent
    (cond (eqb n 0x32) BadType
    (cond (eqb n 0x33) BadLength
    (cond (eqb n 0x34) BadField NoProperty))))

numbered_back : (e : Refusal) → numbered (code_of e) ≡ e
unfolding numbered
numbered_back BadSetHeader = refl
numbered_back PastParent = refl
numbered_back BadType = refl
numbered_back BadLength = refl
numbered_back BadField = refl
numbered_back NoProperty = refl

fault_is : (e : Refusal) (offset : ℕ) (f : Fault) → numbered (code_of e) ≡ f.refusal → offset ≡ f.offset
    → ◌≡◌ {A = Fault} (record { refusal = e; offset = offset }) f
fault_is e offset f h k = rw (← h, ← k, numbered_back e)

same_fault : (f g : Fault) → code_of f.refusal ≡ code_of g.refusal → f.offset ≡ g.offset → f ≡ g
same_fault f g h k = fault_is f.refusal f.offset g (ap numbered h ∙ numbered_back g.refusal) k

-- two answers of the check that say the same are the same
pub check_known : (a b : Result (Unit {0}) Fault) → fault_told a ≡ fault_told b → a ≡ b
check_known (Ok a) (Ok b) h = refl
check_known (Ok a) (Err g) h = absurd (omega (arith, coded g.refusal, ap (λ (x : FaultAnswer). x.code) h))
check_known (Err f) (Ok b) h = absurd (omega (arith, coded f.refusal, ap (λ (x : FaultAnswer). x.code) h))
check_known (Err f) (Err g) h =
    ap Err (same_fault f g (ap (λ (x : FaultAnswer). x.code) h) (ap (λ (x : FaultAnswer). x.offset) h))

-- and so are two answers to a property
interface_read : Interface → Option ℕ
interface_read Nowhere = None
interface_read (First i) = Some i

interface_back : (i : Option ℕ) → interface_read (interface_told i) ≡ i
unfolding interface_read
interface_back None = refl
interface_back (Some i) = refl

-- an answer that is no refusal, without its code
without_code : PropertyAnswer → RegistryProperty
without_code p = record { offset = p.offset; kind = p.kind; name = p.name; value = p.value; interface = interface_read p.interface }

found_back : (p : RegistryProperty) → without_code (property_told (Ok p)) ≡ p
unfolding without_code
found_back p = rw (interface_back p.interface)

property_code : (f : Fault) → (property_told (Err f)).code ≡ code_of f.refusal
unfolding refused_property
property_code f = refl

property_offset : (f : Fault) → (property_told (Err f)).offset ≡ f.offset
unfolding refused_property
property_offset f = refl

pub property_known : (a b : Result RegistryProperty Fault) → property_told a ≡ property_told b → a ≡ b
property_known (Ok p) (Ok q) h = ap Ok (sym (found_back p) ∙ ap without_code h ∙ found_back q)
property_known (Ok p) (Err g) h = absurd (omega (arith, coded g.refusal, ap (λ (x : PropertyAnswer). x.code) h, property_code g))
property_known (Err f) (Ok q) h = absurd (omega (arith, coded f.refusal, ap (λ (x : PropertyAnswer). x.code) h, property_code f))
property_known (Err f) (Err g) h =
    ap Err
    (same_fault f g (sym (property_code f) ∙ ap (λ (x : PropertyAnswer). x.code) h ∙ property_code g)
    (sym (property_offset f) ∙ ap (λ (x : PropertyAnswer). x.offset) h ∙ property_offset g))
