-- The faults of numbers and of ranges, of `reserved` and `extensions` statements and of enums.
--
-- Source: "Assigning Field Numbers", "Reserved Fields", "Extension Declarations" and "Enumerations"
-- of the language guides on protobuf.dev.
use Rattle.std.specs.Prelude.{◌++◌, ◌^◌, ◌&&◌, ℕ, ℤ, pos, negsuc, Bool, false, not, if◌then◌else◌, nat_le, nat_lt, int_lt, List, []}
use Rattle.std.specs.List.{flat_map}
use Rattle.protox_check.specs.Texts.{text_faults}
use Rattle.protox_check.specs.Words.{told_if, is_proto3}
use Rattle.protox_check.specs.declared.range.Numbers.{Numbers}
use Rattle.protox_check.specs.declared.range.Numbers.TheVariants as numbers
use Rattle.protox_lex.specs.Signed.{signed}
use Rattle.protox_lex.specs.declared.literal.Int.{Int}
use Rattle.protox_lex.specs.declared.span.Span.{Span}
use Rattle.protox_tree.specs.Nest.{Extensions}
use Rattle.protox_tree.specs.Places.{range_span}
use Rattle.protox_tree.specs.Tree.{ReservedItems, reserved_ranges, reserved_names, Enum, EnumItem, enum_value, enum_option, enum_reserved, enum_empty}
use Rattle.protox_tree.specs.declared.error.ParseErrorKind.{ParseErrorKind}
use Rattle.protox_tree.specs.declared.error.ParseErrorKind.TheVariants as kinds
use Rattle.protox_tree.specs.declared.range.RangeEnd.{RangeEnd}
use Rattle.protox_tree.specs.declared.range.RangeEnd.TheVariants as ends
use Rattle.protox_tree.specs.declared.range.ReservedRange.{ReservedRange}
use Rattle.protox_tree.specs.declared.types.Syntax.{Syntax}

-- ---- numbers

-- from the first of these numbers to the last
abbrev pub lies_from : ℕ → ℕ → ℤ → Bool
lies_from first last (pos n) = nat_le first n && nat_le n last
lies_from first last (negsuc n) = false

-- 32 bits hold it
abbrev pub is_i32 : ℤ → Bool
is_i32 (pos n) = nat_lt n (2 ^ 31)
is_i32 (negsuc n) = nat_lt n (2 ^ 31)

abbrev pub is_number_of : Numbers → ℤ → Bool
is_number_of numbers.Fields z = lies_from 1 536870911 z
is_number_of numbers.EnumValues z = is_i32 z

abbrev pub is_bound : Numbers → Int → Bool
is_bound ns n = is_number_of ns (signed n)

-- ---- ranges

-- a bound is one of the numbers
abbrev pub bound_faults : Numbers → Int → List ParseErrorKind
bound_faults ns n = told_if (not (is_bound ns n)) (kinds.InvalidRange n.span)

-- A range does not begin above its end. Each bound is one of the numbers.
abbrev pub bounds_faults : Numbers → Int → Int → Span → List ParseErrorKind
bounds_faults ns first last span =
    if is_bound ns first && is_bound ns last
    then told_if (int_lt (signed last) (signed first)) (kinds.InvalidRange span)
    else bound_faults ns first ++ bound_faults ns last

abbrev pub range_faults_to : Numbers → ReservedRange → RangeEnd → List ParseErrorKind
range_faults_to ns range ends.None = bound_faults ns range.start
range_faults_to ns range (ends.Int last) = bounds_faults ns range.start last (range_span range)
range_faults_to ns range (ends.Max span) = bound_faults ns range.start

abbrev pub range_faults : Numbers → ReservedRange → List ParseErrorKind
range_faults ns range = range_faults_to ns range range.end

abbrev pub ranges_faults : Numbers → List ReservedRange → List ParseErrorKind
ranges_faults ns ranges = flat_map (range_faults ns) ranges

-- proto3 has no numbers for extensions
abbrev pub extensions_faults : Syntax → Extensions → List ParseErrorKind
extensions_faults s e = told_if (is_proto3 s) (kinds.ExtensionRangeInProto3 e.span)
    ++ ranges_faults numbers.Fields e.ranges

-- the names are texts
abbrev pub reserved_faults : Numbers → ReservedItems → List ParseErrorKind
reserved_faults ns (reserved_ranges ranges) = ranges_faults ns ranges
reserved_faults ns (reserved_names names) = flat_map text_faults names

-- ---- enums

-- 32 bits hold the number of a value
abbrev pub enum_item_faults : EnumItem → List ParseErrorKind
enum_item_faults (enum_value v) =
    told_if (not (is_i32 (signed v.number))) (kinds.InvalidEnumNumber v.number.span)
enum_item_faults (enum_reserved r) = reserved_faults numbers.EnumValues r.items
enum_item_faults (enum_option o) = []
enum_item_faults (enum_empty span) = []

abbrev pub enum_faults : Enum → List ParseErrorKind
enum_faults e = flat_map enum_item_faults e.items
