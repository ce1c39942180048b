-- What an answer of `src/` says in document 01's numbers, as the definitions have it: 0 for no refusal. No refusal's number is 0, so that
-- an answer is known by what it says here (`proofs/Laws/Told.antt`).
use Rattle.std.specs.Prelude.{ℕ, Option, None, Some, Result, Ok, Err}
use Rattle.wire.specs.Refusals.{number_by}
use Rattle.descriptors.specs.declared.{codes.Refusal.{Refusal}, set.Fault.{Fault}, properties.RegistryProperty.{RegistryProperty}}
use Rattle.descriptors.specs.declared.header.Descriptor.{Descriptor}
use Rattle.descriptors.specs.declared.header.Descriptor.TheVariants as descriptors
use Rattle.descriptors.specs.{Codes.{code_of}, Header.{Interface, Nowhere, First, DescriptorReading, Refused, Opaque, Property, Subset}}
use Rattle.descriptors.specs.{Set.{FaultAnswer}, Properties.{PropertyAnswer, refused_property}}

abbrev pub refusal_told : {A : Type 0} → Result A Refusal → ℕ
refusal_told = number_by code_of

abbrev pub fault_told : {A : Type 0} → Result A Fault → FaultAnswer
fault_told (Ok a) = record { code = 0; offset = 0 }
fault_told (Err f) = record { code = code_of f.refusal; offset = f.offset }

abbrev pub descriptor_told : Result Descriptor Refusal → DescriptorReading
descriptor_told (Ok (descriptors.Opaque size)) = Opaque size
descriptor_told (Ok (descriptors.Property size)) = Property size
descriptor_told (Ok (descriptors.Subset size q)) = Subset size q
descriptor_told (Err e) = Refused (code_of e)

abbrev pub interface_told : Option ℕ → Interface
interface_told None = Nowhere
interface_told (Some i) = First i

abbrev pub property_told : Result RegistryProperty Fault → PropertyAnswer
property_told (Ok p) = record {
  code = 0;
  offset = p.offset;
  kind = p.kind;
  name = p.name;
  value = p.value;
  interface = interface_told p.interface;
}
property_told (Err f) = refused_property (code_of f.refusal) f.offset
