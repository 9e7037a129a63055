-- The definitions compute the worked parts of records.
use lib.Utf8.{encode}
use Rattle.protox_declaration_records.specs.EnumRecords.{enum_range_of}
use Rattle.protox_declaration_records.specs.OptionRecords.{with_int}
use Rattle.protox_declaration_records.specs.ServiceRecords.{method_of}
use Rattle.protox_field_records.specs.FieldRecords.{default_text, entry_name_of}
use Rattle.protox_field_records.specs.Places.{place_of}
use Rattle.protox_laws.specs.WorkedRecords.{IsTyped, entry_names, bare, enum_ranges, field_types, four_imports, int_defaults, int_options, list_places, message_ranges, odd_bytes, odd_text, of_type, presences, scalar_numbers, taking_stream, told_of_stream}
use Rattle.protox_lex.specs.Escapes.{escaped}
use Rattle.protox_message_records.specs.MessageRecords.{reserved_range_of, tells_presence}
use Rattle.protox_record.specs.FileRecords.{places_from}
use Rattle.protox_tree.specs.Nest.{Group, MapType}
use Rattle.protox_tree.specs.Scalar.{scalar_of}
use Rattle.protox_tree.specs.Tree.{joined}
use Rattle.protox_tree.specs.View.{strings_view}
use Rattle.protox_tree.specs.declared.file.ImportKind.TheVariants as imports
use Rattle.protox_tree.specs.declared.ident.Ident.{Ident}
use Rattle.protox_tree.specs.declared.ident.TypeName.{TypeName}
use Rattle.protox_tree.specs.declared.option.OptionValue.TheVariants as values
use Rattle.protox_tree.specs.declared.text.Strings.{Strings}
use Rattle.descriptor_records.specs.FieldNumbers.{type_number}
use Rattle.descriptor_records.specs.declared.field.FieldType.TheVariants as types
use Rattle.std.proofs.Common.{◌≡◌, ◌∷◌, ◌∙◌, [], Some, ap, pos, refl}
use Rattle.std.specs.Fmt.{char_count, digits as digits_of, padded_integral}
use Rattle.std.specs.List.{AllByRecursion}
use Rattle.std.specs.Option.{option_map}

pub all_entries : AllByRecursion (λ e. entry_name_of e.0 ≡ e.1) entry_names
unfolding encode
all_entries = (refl, (refl, (refl, (refl, (refl, tt)))))

pub all_message_ranges : AllByRecursion (λ e. reserved_range_of e.0 ≡ e.1) message_ranges
all_message_ranges = (refl, (refl, (refl, tt)))

pub all_enum_ranges : AllByRecursion (λ e. enum_range_of e.0 ≡ e.1) enum_ranges
all_enum_ranges = (refl, (refl, (refl, tt)))

pub all_int_defaults : AllByRecursion (λ e. default_text e.0 (values.Int e.1) ≡ e.2) int_defaults
unfolding digits_of
all_int_defaults = (refl, (refl, (refl, (refl, tt))))

odd_escaped : escaped (joined odd_bytes) ≡ odd_text
unfolding char_count digits_of padded_integral
odd_escaped = refl

pub odd_default : (s : Strings) → strings_view s ≡ odd_bytes → default_text (of_type types.Bytes) (values.String s) ≡ odd_text
odd_default s e = ap (λ ws. escaped (joined ws)) e ∙ odd_escaped

pub all_int_options : AllByRecursion (λ e. with_int e.0 bare ≡ e.1) int_options
all_int_options = (refl, (refl, (refl, (refl, tt))))

pub all_places : AllByRecursion (λ e. place_of e.0 ≡ e.1) list_places
all_places = (refl, (refl, (refl, tt)))

pub all_scalars : AllByRecursion (λ e. option_map type_number (scalar_of e.0) ≡ Some e.1) scalar_numbers
all_scalars =
    (refl, (refl, (refl, (refl, (refl, (refl, (refl, (refl, (refl, (refl, (refl, (refl, (refl, (refl, (refl, tt)))))))))))))))

pub all_typed : (g : Group) (m : MapType) → AllByRecursion IsTyped (field_types g m)
unfolding encode
all_typed g m =
    ((refl, refl, refl), ((refl, refl, refl), ((refl, refl, refl), ((refl, refl, refl), tt))))

pub all_presences : AllByRecursion (λ e. tells_presence e.0 e.1 ≡ e.2) presences
all_presences = (refl, (refl, (refl, (refl, tt))))

pub two_public : (a b c d : Strings) → places_from imports.Public 0 (four_imports a b c d) ≡ pos 1 ∷ pos 3 ∷ []
two_public a b c d = refl

pub one_weak : (a b c d : Strings) → places_from imports.Weak 0 (four_imports a b c d) ≡ pos 2 ∷ []
one_weak a b c d = refl

pub a_stream : (name : Ident) (input output : TypeName) → method_of (taking_stream name input output) ≡ told_of_stream name input output
a_stream name input output = refl
