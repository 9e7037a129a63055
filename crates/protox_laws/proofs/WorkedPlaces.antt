-- The definitions compute the places of the worked sources, but for the texts of comments, which are
-- UTF-8 as they stand.
use Rattle.protox_lex.specs.Lex.{past_exponent, past_fraction, octal, number, hex, octal_escape, unicode, escape, unescaped_from, contents_from, quoted, block_comment, front, lexemes_from}
use Rattle.protox_tokens.specs.Parser.{eat_in, expect_in, word, digits, literal, loop_from, loop}
use Rattle.protox_aggregates.specs.AggregateGrammar.{an_ident_as, dotted, behind_slash, field_name, a_literal, literals, a_plain, scalar, separator, value_with, list_with, field_value_with, fields_with, braces, aggregate}
use Rattle.protox_aggregates.specs.AggregateGrammar as braces_grammar
use Rattle.protox_options.specs.NameGrammar.{parts_after, full_ident, type_name, an_int, strings}
use Rattle.protox_options.specs.OptionGrammar.{in_parens, name_part, name, negative, plain_value, value, body, option, bodies, in_brackets, options}
use Rattle.protox_options.specs.RangeGrammar.{range_end, range, ranges, names, reserved_items, reserved}
use Rattle.protox_declarations.specs.EnumGrammar.{an_enum_value, enum_item, enum_items, enumeration}
use Rattle.protox_declarations.specs.ServiceGrammar.{method_type, method_item, method_items, method_body, a_method, service_item, service_items, service}
use Rattle.protox_fields.specs.FieldGrammar.{ty, map_type, map_or_name, field_type, extensions, label, plain_field}
use Rattle.protox_messages.specs.MessageGrammar.{group_with, field_with, message_with, member_with, members_with, oneof_with, added_with, all_added_with, extend_with, item_with, items_with, inside_with, block}
use Rattle.protox_file.specs.FileGrammar.{syntax_behind, syntax, import_kind, an_import, a_package, file_item, file_items, file}
use Rattle.descriptor_records.specs.Content.{LocationContent}
use Rattle.memchr.specs.Find.{places_from}
use Rattle.protox_laws.proofs.WorkedGaps.{IsText, one, three}
use Rattle.protox_laws.proofs.WorkedSources.{spells, tokens_of}
use Rattle.protox_laws.specs.WorkedLocations.{comment_places, file_places}
use Rattle.protox_laws.specs.WorkedPlaces.{HasPlaces, placed}
use Rattle.protox_lex.specs.Class.{Text}
use Rattle.protox_lex.specs.Lines.{feeds_of}
use Rattle.protox_locate.specs.Files.{file_events}
use Rattle.protox_locate.specs.Gap.{pieces_behind}
use Rattle.protox_locate.specs.Located.{located}
use Rattle.protox_tokens.specs.Parser.{Outcome}
use Rattle.protox_tree.specs.FileTree.{File}
use Rattle.std.proofs.Common.{◌≡◌, List, [], ◌∷◌, Ok, Err, refl}
use Rattle.std.specs.Fmt.{digits as digits_of}
use Rattle.std.specs.List.{AllByRecursion}
use Rattle.std.specs.Prelude.{codes}
use Rattle.std.specs.Str.Lossy.{utf8_lossy}

-- this is read to the end, as a tree that has these places
abbrev ArePlaces : Text → Outcome File → List LocationContent → Type 0
ArePlaces z (Ok (tree, [])) places = located z (feeds_of z) (file_events tree) ≡ places
ArePlaces z o places = ⊥

has : (z : Text) (places : List LocationContent) (o : Outcome File) → file (tokens_of z) ≡ o → ArePlaces z o places → HasPlaces z places
has z places (Ok (tree, [])) h e = (tree, spells z tree h, e)
has z places (Ok (tree, t ∷ ts)) h e = absurd e
has z places (Err f) h e = absurd e

four : {X : Type 0} (n : X) (f : Text → Text → Text → Text → X) (q r s t : Text) → n ≡ f (utf8_lossy q) (utf8_lossy r) (utf8_lossy s) (utf8_lossy t) → IsText q → IsText r → IsText s → IsText t → n ≡ f q r s t
four n f q r s t e u v w x = three n (f q) r s t (one n (λ y. f y (utf8_lossy r) (utf8_lossy s) (utf8_lossy t)) q e u) v w x

pub all_placed : AllByRecursion (λ e. HasPlaces e.0 e.1) placed
unfolding digits_of past_exponent past_fraction octal number hex octal_escape unicode escape unescaped_from contents_from quoted block_comment front lexemes_from eat_in expect_in word digits literal loop_from loop an_ident_as dotted behind_slash field_name a_literal literals a_plain scalar separator value_with list_with field_value_with fields_with braces aggregate braces_grammar.field_with parts_after full_ident type_name an_int strings in_parens name_part name negative plain_value value body option bodies in_brackets options range_end range ranges names reserved_items reserved an_enum_value enum_item enum_items enumeration method_type method_item method_items method_body a_method service_item service_items service ty map_type map_or_name field_type extensions label plain_field group_with field_with message_with member_with members_with oneof_with added_with all_added_with extend_with item_with items_with inside_with block syntax_behind syntax import_kind an_import a_package file_item file_items file pieces_behind places_from
all_placed = (
  has _ _ _ refl (three _ file_places (codes " a\n") (codes " b\n") (codes " c\n") refl refl refl refl),
  (
    has _ _ _ refl refl,
    (
      has _ _ _ refl refl,
      (
        has _ _ _ refl refl,
        (
          has _ _ _ refl (four _ comment_places (codes " a\n") (codes " b\n") (codes " c\n") (codes " e\n") refl refl refl refl refl),
          tt,
        ),
      ),
    ),
  ),
)
