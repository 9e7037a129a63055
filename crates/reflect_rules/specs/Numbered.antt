-- Numbers of fields and of the values of enums, each of which one entry of their list may have.
use Rattle.std.specs.Prelude.{ℤ, pos}
use Rattle.reflect_faults.specs.Faults.{Fault, Place, duplicate_number, duplicate_enum_number}
use Rattle.reflect_rules.specs.declared.repeats.Numbered.{Numbered}
use Rattle.reflect_rules.specs.declared.repeats.Numbered.TheVariants as what

-- that a number at a place is an earlier entry's
abbrev pub fault_of : Numbered → ℤ → Place → Fault
fault_of what.Fields number at = duplicate_number number at
fault_of what.EnumValues number at = duplicate_enum_number number at

-- the list in the record that declares it
abbrev pub list_tag : Numbered → ℤ
list_tag what.Fields = pos 2
list_tag what.EnumValues = pos 2

-- the number in the record of an entry
abbrev pub number_tag : Numbered → ℤ
number_tag what.Fields = pos 3
number_tag what.EnumValues = pos 2
