-- The definitions compute the worked sources.
use Rattle.protox_lex.specs.Lex.{past_exponent, past_fraction, octal, number, hex, octal_escape, unicode, escape, unescaped_from, contents_from, quoted, block_comment, front, lexemes_from}
use Rattle.protox_tokens.specs.Parser.{eat_in, expect_in, word, digits, literal, loop_from, loop}
use Rattle.protox_aggregates.specs.AggregateGrammar.{an_ident_as, dotted, behind_slash, field_name, a_literal, literals, a_plain, scalar, separator, value_with, list_with, field_value_with, fields_with, braces, aggregate}
use Rattle.protox_aggregates.specs.AggregateGrammar as braces_grammar
use Rattle.protox_options.specs.NameGrammar.{parts_after, full_ident, type_name, an_int, strings}
use Rattle.protox_options.specs.OptionGrammar.{in_parens, name_part, name, negative, plain_value, value, body, option, bodies, in_brackets, options}
use Rattle.protox_options.specs.RangeGrammar.{range_end, range, ranges, names, reserved_items, reserved}
use Rattle.protox_declarations.specs.EnumGrammar.{an_enum_value, enum_item, enum_items, enumeration}
use Rattle.protox_declarations.specs.ServiceGrammar.{method_type, method_item, method_items, method_body, a_method, service_item, service_items, service}
use Rattle.protox_fields.specs.FieldGrammar.{ty, map_type, map_or_name, field_type, extensions, label, plain_field}
use Rattle.protox_messages.specs.MessageGrammar.{group_with, field_with, message_with, member_with, members_with, oneof_with, added_with, all_added_with, extend_with, item_with, items_with, inside_with, block}
use Rattle.protox_file.specs.FileGrammar.{syntax_behind, syntax, import_kind, an_import, a_package, file_item, file_items, file}
use Rattle.protox_check.specs.Faults.{faults_of}
use Rattle.protox_file.specs.Sources.{RefusedBy, Spells}
use Rattle.protox_laws.specs.WorkedSources.{at_fault, braces as nested, in_option, messages, read, refused}
use Rattle.protox_lex.proofs.Lexing.{all_longest}
use Rattle.protox_lex.specs.Class.{Text}
use Rattle.protox_lex.specs.Lex.{lexemes}
use Rattle.protox_parse.specs.Answers.{AreAtFault}
use Rattle.protox_tokens.specs.Parser.{Outcome}
use Rattle.protox_tokens.specs.Refusal.{Fault}
use Rattle.protox_tokens.specs.Stream.{Stream, gather}
use Rattle.protox_tree.specs.FileTree.{File}
use Rattle.protox_tree.specs.declared.error.ParseErrorKind.{ParseErrorKind}
use Rattle.std.proofs.Common.{◌≡◌, ◌<◌, List, [], ◌∷◌, length, None, Ok, Err, inr, refl, arith}
use Rattle.std.specs.Fmt.{digits as digits_of}
use Rattle.std.specs.List.{AllByRecursion}
use Rattle.std.specs.Str.{chars as chars_of, is_utf8 as is_utf8_of}

-- the tokens of a text
abbrev pub tokens_of : Text → Stream
tokens_of z = gather None (lexemes z)

pub spells : (z : Text) (tree : File) → file (tokens_of z) ≡ Ok (tree, []) → Spells z tree
spells z tree h = (tokens_of z, (lexemes z, all_longest z, refl), h)

refuses : (z : Text) (f : Fault) → file (tokens_of z) ≡ Err f → RefusedBy z f
refuses z f h = (tokens_of z, (lexemes z, all_longest z, refl), h)

-- this is read to the end, as a tree that has these faults
abbrev pub IsFaulty : Outcome File → List ParseErrorKind → Type 0
IsFaulty (Ok (tree, [])) (k ∷ ks) = k ∷ ks ≡ faults_of tree
IsFaulty o faults = ⊥

some : (k : ParseErrorKind) (ks : List ParseErrorKind) → 0 < length (k ∷ ks)
some k ks = omega (arith)

pub tells : (z : Text) (faults : List ParseErrorKind) (o : Outcome File) → file (tokens_of z) ≡ o → IsFaulty o faults → AreAtFault z faults
tells z (k ∷ ks) (Ok (tree, [])) h e = inr (tree, spells z tree h, (e, some k ks))
tells z [] (Ok (tree, [])) h e = absurd e
tells z faults (Ok (tree, t ∷ ts)) h e = absurd e
tells z faults (Err f) h e = absurd e

-- this is read to the end
abbrev IsWhole : Outcome File → Type 0
IsWhole (Ok (tree, [])) = Unit {0}
IsWhole o = ⊥

whole : (z : Text) (o : Outcome File) → file (tokens_of z) ≡ o → IsWhole o → (tree : File) × Spells z tree
whole z (Ok (tree, [])) h k = (tree, spells z tree h)
whole z (Ok (tree, t ∷ ts)) h k = absurd k
whole z (Err f) h k = absurd k

pub all_read : AllByRecursion (λ e. Spells e.0 e.1) read
unfolding digits_of past_exponent past_fraction octal number hex octal_escape unicode escape unescaped_from contents_from quoted block_comment front lexemes_from eat_in expect_in word digits literal loop_from loop an_ident_as dotted behind_slash field_name a_literal literals a_plain scalar separator value_with list_with field_value_with fields_with braces aggregate braces_grammar.field_with parts_after full_ident type_name an_int strings in_parens name_part name negative plain_value value body option bodies in_brackets options range_end range ranges names reserved_items reserved an_enum_value enum_item enum_items enumeration method_type method_item method_items method_body a_method service_item service_items service ty map_type map_or_name field_type extensions label plain_field group_with field_with message_with member_with members_with oneof_with added_with all_added_with extend_with item_with items_with inside_with block syntax_behind syntax import_kind an_import a_package file_item file_items file
all_read = (spells _ _ refl, (spells _ _ refl, (spells _ _ refl, (spells _ _ refl, (spells _ _ refl, (spells _ _ refl, tt))))))

pub all_refused : AllByRecursion (λ e. RefusedBy e.0 e.1) refused
unfolding digits_of past_exponent past_fraction octal number hex octal_escape unicode escape unescaped_from contents_from quoted block_comment front lexemes_from eat_in expect_in word digits literal loop_from loop an_ident_as dotted behind_slash field_name a_literal literals a_plain scalar separator value_with list_with field_value_with fields_with braces aggregate braces_grammar.field_with parts_after full_ident type_name an_int strings in_parens name_part name negative plain_value value body option bodies in_brackets options range_end range ranges names reserved_items reserved an_enum_value enum_item enum_items enumeration method_type method_item method_items method_body a_method service_item service_items service ty map_type map_or_name field_type extensions label plain_field group_with field_with message_with member_with members_with oneof_with added_with all_added_with extend_with item_with items_with inside_with block syntax_behind syntax import_kind an_import a_package file_item file_items file
all_refused = (refuses _ _ refl, (refuses _ _ refl, (refuses _ _ refl, (refuses _ _ refl, (refuses _ _ refl, (refuses _ _ refl, (refuses _ _ refl, (refuses _ _ refl, (refuses _ _ refl, (refuses _ _ refl, (refuses _ _ refl, (refuses _ _ refl, (refuses _ _ refl, (refuses _ _ refl, (refuses _ _ refl, (refuses _ _ refl, (refuses _ _ refl, (refuses _ _ refl, (refuses _ _ refl, (refuses _ _ refl, (refuses _ _ refl, (refuses _ _ refl, (refuses _ _ refl, tt)))))))))))))))))))))))

pub all_at_fault : AllByRecursion (λ e. AreAtFault e.0 e.1) at_fault
unfolding chars_of is_utf8_of digits_of past_exponent past_fraction octal number hex octal_escape unicode escape unescaped_from contents_from quoted block_comment front lexemes_from eat_in expect_in word digits literal loop_from loop an_ident_as dotted behind_slash field_name a_literal literals a_plain scalar separator value_with list_with field_value_with fields_with braces aggregate braces_grammar.field_with parts_after full_ident type_name an_int strings in_parens name_part name negative plain_value value body option bodies in_brackets options range_end range ranges names reserved_items reserved an_enum_value enum_item enum_items enumeration method_type method_item method_items method_body a_method service_item service_items service ty map_type map_or_name field_type extensions label plain_field group_with field_with message_with member_with members_with oneof_with added_with all_added_with extend_with item_with items_with inside_with block syntax_behind syntax import_kind an_import a_package file_item file_items file
all_at_fault = (tells _ _ _ refl refl, (tells _ _ _ refl refl, (tells _ _ _ refl refl, (tells _ _ _ refl refl, (tells _ _ _ refl refl, (tells _ _ _ refl refl, (tells _ _ _ refl refl, (tells _ _ _ refl refl, (tells _ _ _ refl refl, (tells _ _ _ refl refl, (tells _ _ _ refl refl, (tells _ _ _ refl refl, (tells _ _ _ refl refl, (tells _ _ _ refl refl, (tells _ _ _ refl refl, (tells _ _ _ refl refl, (tells _ _ _ refl refl, (tells _ _ _ refl refl, (tells _ _ _ refl refl, (tells _ _ _ refl refl, (tells _ _ _ refl refl, tt)))))))))))))))))))))

pub levels_read : (tree : File) × Spells (messages 31) tree
unfolding digits_of past_exponent past_fraction octal number hex octal_escape unicode escape unescaped_from contents_from quoted block_comment front lexemes_from eat_in expect_in word digits literal loop_from loop an_ident_as dotted behind_slash field_name a_literal literals a_plain scalar separator value_with list_with field_value_with fields_with braces aggregate braces_grammar.field_with parts_after full_ident type_name an_int strings in_parens name_part name negative plain_value value body option bodies in_brackets options range_end range ranges names reserved_items reserved an_enum_value enum_item enum_items enumeration method_type method_item method_items method_body a_method service_item service_items service ty map_type map_or_name field_type extensions label plain_field group_with field_with message_with member_with members_with oneof_with added_with all_added_with extend_with item_with items_with inside_with block syntax_behind syntax import_kind an_import a_package file_item file_items file
levels_read = whole _ _ refl tt

pub braces_read : (tree : File) × Spells (in_option (nested 100)) tree
unfolding digits_of past_exponent past_fraction octal number hex octal_escape unicode escape unescaped_from contents_from quoted block_comment front lexemes_from eat_in expect_in word digits literal loop_from loop an_ident_as dotted behind_slash field_name a_literal literals a_plain scalar separator value_with list_with field_value_with fields_with braces aggregate braces_grammar.field_with parts_after full_ident type_name an_int strings in_parens name_part name negative plain_value value body option bodies in_brackets options range_end range ranges names reserved_items reserved an_enum_value enum_item enum_items enumeration method_type method_item method_items method_body a_method service_item service_items service ty map_type map_or_name field_type extensions label plain_field group_with field_with message_with member_with members_with oneof_with added_with all_added_with extend_with item_with items_with inside_with block syntax_behind syntax import_kind an_import a_package file_item file_items file
braces_read = whole _ _ refl tt
