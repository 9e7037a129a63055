-- The definitions compute the faults of the worked sources.
use Rattle.protox_lex.specs.Lex.{past_exponent, past_fraction, octal, number, hex, octal_escape, unicode, escape, unescaped_from, contents_from, quoted, block_comment, front, lexemes_from}
use Rattle.protox_tokens.specs.Parser.{eat_in, expect_in, word, digits, literal, loop_from, loop}
use Rattle.protox_aggregates.specs.AggregateGrammar.{an_ident_as, dotted, behind_slash, field_name, a_literal, literals, a_plain, scalar, separator, value_with, list_with, field_value_with, fields_with, braces, aggregate}
use Rattle.protox_aggregates.specs.AggregateGrammar as braces_grammar
use Rattle.protox_options.specs.NameGrammar.{parts_after, full_ident, type_name, an_int, strings}
use Rattle.protox_options.specs.OptionGrammar.{in_parens, name_part, name, negative, plain_value, value, body, option, bodies, in_brackets, options}
use Rattle.protox_options.specs.RangeGrammar.{range_end, range, ranges, names, reserved_items, reserved}
use Rattle.protox_declarations.specs.EnumGrammar.{an_enum_value, enum_item, enum_items, enumeration}
use Rattle.protox_declarations.specs.ServiceGrammar.{method_type, method_item, method_items, method_body, a_method, service_item, service_items, service}
use Rattle.protox_fields.specs.FieldGrammar.{ty, map_type, map_or_name, field_type, extensions, label, plain_field}
use Rattle.protox_messages.specs.MessageGrammar.{group_with, field_with, message_with, member_with, members_with, oneof_with, added_with, all_added_with, extend_with, item_with, items_with, inside_with, block}
use Rattle.protox_file.specs.FileGrammar.{syntax_behind, syntax, import_kind, an_import, a_package, file_item, file_items, file}
use Rattle.protox_laws.proofs.WorkedSources.{tells}
use Rattle.protox_laws.specs.WorkedFaults.{of_defaults, of_fields, of_numbers, of_other_fields}
use Rattle.protox_parse.specs.Answers.{AreAtFault}
use Rattle.std.proofs.Common.{refl}
use Rattle.std.specs.Fmt.{digits as digits_of}
use Rattle.std.specs.List.{AllByRecursion}
use Rattle.std.specs.Str.{chars as chars_of, is_utf8 as is_utf8_of}

pub told_of_numbers : AllByRecursion (λ e. AreAtFault e.0 e.1) of_numbers
unfolding chars_of is_utf8_of digits_of past_exponent past_fraction octal number hex octal_escape unicode escape unescaped_from contents_from quoted block_comment front lexemes_from eat_in expect_in word digits literal loop_from loop an_ident_as dotted behind_slash field_name a_literal literals a_plain scalar separator value_with list_with field_value_with fields_with braces aggregate braces_grammar.field_with parts_after full_ident type_name an_int strings in_parens name_part name negative plain_value value body option bodies in_brackets options range_end range ranges names reserved_items reserved an_enum_value enum_item enum_items enumeration method_type method_item method_items method_body a_method service_item service_items service ty map_type map_or_name field_type extensions label plain_field group_with field_with message_with member_with members_with oneof_with added_with all_added_with extend_with item_with items_with inside_with block syntax_behind syntax import_kind an_import a_package file_item file_items file
told_of_numbers = (tells _ _ _ refl refl, (tells _ _ _ refl refl, (tells _ _ _ refl refl, tt)))

pub told_of_fields : AllByRecursion (λ e. AreAtFault e.0 e.1) of_fields
unfolding chars_of is_utf8_of digits_of past_exponent past_fraction octal number hex octal_escape unicode escape unescaped_from contents_from quoted block_comment front lexemes_from eat_in expect_in word digits literal loop_from loop an_ident_as dotted behind_slash field_name a_literal literals a_plain scalar separator value_with list_with field_value_with fields_with braces aggregate braces_grammar.field_with parts_after full_ident type_name an_int strings in_parens name_part name negative plain_value value body option bodies in_brackets options range_end range ranges names reserved_items reserved an_enum_value enum_item enum_items enumeration method_type method_item method_items method_body a_method service_item service_items service ty map_type map_or_name field_type extensions label plain_field group_with field_with message_with member_with members_with oneof_with added_with all_added_with extend_with item_with items_with inside_with block syntax_behind syntax import_kind an_import a_package file_item file_items file
told_of_fields = (tells _ _ _ refl refl, (tells _ _ _ refl refl, (tells _ _ _ refl refl, tt)))

pub told_of_defaults : AllByRecursion (λ e. AreAtFault e.0 e.1) of_defaults
unfolding chars_of is_utf8_of digits_of past_exponent past_fraction octal number hex octal_escape unicode escape unescaped_from contents_from quoted block_comment front lexemes_from eat_in expect_in word digits literal loop_from loop an_ident_as dotted behind_slash field_name a_literal literals a_plain scalar separator value_with list_with field_value_with fields_with braces aggregate braces_grammar.field_with parts_after full_ident type_name an_int strings in_parens name_part name negative plain_value value body option bodies in_brackets options range_end range ranges names reserved_items reserved an_enum_value enum_item enum_items enumeration method_type method_item method_items method_body a_method service_item service_items service ty map_type map_or_name field_type extensions label plain_field group_with field_with message_with member_with members_with oneof_with added_with all_added_with extend_with item_with items_with inside_with block syntax_behind syntax import_kind an_import a_package file_item file_items file
told_of_defaults = (tells _ _ _ refl refl, (tells _ _ _ refl refl, tt))

pub told_of_other_fields : AllByRecursion (λ e. AreAtFault e.0 e.1) of_other_fields
unfolding chars_of is_utf8_of digits_of past_exponent past_fraction octal number hex octal_escape unicode escape unescaped_from contents_from quoted block_comment front lexemes_from eat_in expect_in word digits literal loop_from loop an_ident_as dotted behind_slash field_name a_literal literals a_plain scalar separator value_with list_with field_value_with fields_with braces aggregate braces_grammar.field_with parts_after full_ident type_name an_int strings in_parens name_part name negative plain_value value body option bodies in_brackets options range_end range ranges names reserved_items reserved an_enum_value enum_item enum_items enumeration method_type method_item method_items method_body a_method service_item service_items service ty map_type map_or_name field_type extensions label plain_field group_with field_with message_with member_with members_with oneof_with added_with all_added_with extend_with item_with items_with inside_with block syntax_behind syntax import_kind an_import a_package file_item file_items file
told_of_other_fields = (tells _ _ _ refl refl, (tells _ _ _ refl refl, tt))
