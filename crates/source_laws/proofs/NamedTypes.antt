-- The records of types that sources declare have names as sources spell them, and no dots in them.
use Rattle.std.proofs.Common.{◌≡◌, ℤ, pos, true, List, [], ◌∷◌, length, Option, Some, codes, flat_map, inl, inr, refl, subst, sym}
use Rattle.std.specs.List.{AllByRecursion}
use Rattle.descriptor_records.specs.Content.{EnumContent, ExtensionRangeContent, FieldContent, MessageContent, message, MessageContents, no_messages, more_messages, OneofContent, OptionContent, OptionsContent}
use Rattle.descriptor_records.specs.declared.message.ReservedRange.{ReservedRange}
use Rattle.protox_declaration_records.specs.OptionRecords.{options_of}
use Rattle.protox_field_records.specs.FieldRecords.{entry_name_of}
use Rattle.protox_field_records.specs.MapEntries.{entry_field, entry_fields, entry_of, entry_options}
use Rattle.protox_lex.specs.Class.{Text}
use Rattle.protox_message_records.specs.MessageRecords.{AreTypes, Declared, IsOfItems, IsType, of_items, of_map, oneof_at, option_at, types_at}
use Rattle.protox_message_records.specs.SyntheticOneofs.{names_of}
use Rattle.protox_tokens.specs.Marks.{Each}
use Rattle.protox_tree.specs.View.{ty_view}
use Rattle.protox_tree.specs.declared.message.Map.{Map}
use Rattle.protox_tree.specs.declared.message.MessageItem.{MessageItem}
use Rattle.protox_tree.specs.declared.types.Syntax.{Syntax}
use Rattle.protox_tree.specs.declared.types.Ty.{Ty}
use Rattle.schema_view.specs.Plain.{ArePlainMessages, IsPlainMessage}
use Rattle.source_laws.proofs.DeclaredTypes.{AreNamedTypes, IsNamedType, declares, items_types}
use Rattle.source_laws.proofs.Lists.{all_so}
use Rattle.source_laws.proofs.NamedFields.{HasItsNames, HasName, items_named, items_extensions, no_group_number}
use Rattle.source_laws.proofs.NamedParts.{HasEnumNames, enums_spelled, enums_undotted, items_enums, oneofs_undotted}
use Rattle.source_laws.proofs.Texts.{entry_words}
use Rattle.source_laws.proofs.Undotted.{fields_undotted, type_undotted, words_undotted}
use Rattle.source_laws.specs.TreeNames.{IsNoGroup}
use Rattle.source_laws.proofs.NamedValues.{HasNamedItem}
use Rattle.source_records.specs.SourceNames.{AreSourceMessages, AreSpelled, HasOwnNames, IsEntry, IsGroup, IsGroupField, IsPart, IsSourceMessage, IsSpelled}
use Rattle.text_model.specs.Identifiers.{is_identifier}

-- ---- the entries of maps

entry_part : (name : Text) (number : ℤ) (ty : Ty) → IsNoGroup (ty_view ty)
    → IsPart name number (entry_field name number ty)
entry_part name number ty h = record {
  named = refl;
  numbered = refl;
  plain = no_group_number (ty_view ty) h;
  usual = refl;
  alone = refl;
}

entry_own : (name : Text) (m : Map) → IsNamedType (of_map name m)
    → HasOwnNames (Some (entry_name_of name)) (entry_fields m) [] no_messages []
    (Some entry_options)
entry_own name m h = record {
  named = inr (refl, entry_words name h.0);
  fields_are = (refl, (refl, tt));
  extensions_are = tt;
  values = tt;
  groups = (
    (λ e. absurd (no_group_number (ty_view m.key) h.1.0 e)),
    ((λ e. absurd (no_group_number (ty_view m.value) h.1.1 e)), tt),
  );
  parts = λ e. (
    entry_part (codes "key") (pos 1) m.key h.1.0,
    entry_part (codes "value") (pos 2) m.value h.1.1,
  );
  none_extended = λ e. refl;
  none_nested = λ e. refl;
}

-- a message has names as sources spell them, and none of its names has a dot
abbrev HasNames : MessageContent → Type 0
HasNames m = IsSourceMessage m × IsPlainMessage m

entry_names : (name : Text) (m : Map) → IsNamedType (of_map name m) → HasNames (entry_of name m)
entry_names name m h = (
  (entry_own name m h, tt),
  (words_undotted (entry_name_of name) (entry_words name h.0), (refl, (refl, tt)), tt, tt, tt, tt),
)

-- ---- messages and groups

-- no options that a source writes are those of entries
no_entry : (os : List OptionContent) → IsEntry (options_of os) → ⊥
no_entry [] h = h
no_entry (o ∷ os) h = cc h

module _ (s : Syntax) (name : Text) (items : List MessageItem) (given : Option Text)
    (fields extensions : List FieldContent) (nested : MessageContents) (enums : List EnumContent)
    (ranges : List ExtensionRangeContent) (oneofs : List OneofContent)
    (options : Option OptionsContent) (reserved : List ReservedRange) (names : List Text)
    (spelled : is_identifier name ≡ true) (h : Each HasNamedItem items)
    (own : IsOfItems s name items given fields extensions nested enums ranges oneofs options
    reserved names) where
  enum_names : AllByRecursion HasEnumNames enums
  enum_names = subst (AllByRecursion HasEnumNames) (sym own.enums_are) (items_enums items h)

  own_names : AreTypes s (flat_map types_at items) nested
      → HasOwnNames given fields extensions nested enums options
  own_names inside =
      let there = declares s (flat_map types_at items) nested inside in
      let written = items_named nested s 0 (length (flat_map oneof_at items)) items h there in
      let all = subst (AllByRecursion (HasItsNames nested)) (sym own.fields_are) written in
      let wrong : IsEntry options → ⊥ =
      λ e. no_entry (flat_map option_at items) (subst IsEntry own.options_are e) in
      record {
        named = inl (subst IsSpelled (sym own.named) spelled);
        fields_are = all_so (HasItsNames nested) HasName (λ f both. both.0) fields all;
        extensions_are = subst AreSpelled (sym own.extensions_are) (items_extensions items h);
        values = enums_spelled enums enum_names;
        groups = all_so (HasItsNames nested) (λ f. IsGroup f → IsGroupField nested f)
            (λ f both. both.1) fields all;
        parts = λ e. absurd (wrong e);
        none_extended = λ e. absurd (wrong e);
        none_nested = λ e. absurd (wrong e);
      }

  -- all its names, where those in it are so
  all_names : AreTypes s (flat_map types_at items) nested
      → AreSourceMessages nested × ArePlainMessages nested
      → HasNames (message given fields extensions nested enums ranges oneofs options reserved
      names)
  all_names inside those =
      let mine = own_names inside in
      let taken = names_of fields extensions nested enums (flat_map oneof_at items) in
      let more = own.oneofs_are in (
        (mine, those.0),
        (
          type_undotted given options mine.named,
          fields_undotted fields mine.fields_are,
          those.1,
          enums_undotted enums enum_names,
          fields_undotted extensions mine.extensions_are,
          oneofs_undotted s items taken oneofs more.0 h more.1 more.2,
        ),
      )

mutual
  type_names : (s : Syntax) (t : Declared) (m : MessageContent) → IsNamedType t → IsType s t m
      → HasNames m
  type_names s (of_items name items)
      (message given fields extensions nested enums ranges oneofs options reserved names) h is =
      all_names s name items given fields extensions nested enums ranges oneofs options reserved
      names h.0 h.1 is.0 is.1 (types_names s (flat_map types_at items) nested (items_types items h.1)
      is.1)
  type_names s (of_map name m)
      (message given fields extensions nested enums ranges oneofs options reserved names) h is =
      subst HasNames (sym is) (entry_names name m h)

  pub types_names : (s : Syntax) (ts : List Declared) (ms : MessageContents) → AreNamedTypes ts
      → AreTypes s ts ms → AreSourceMessages ms × ArePlainMessages ms
  types_names s [] no_messages h are = (tt, tt)
  types_names s [] (more_messages m ms) h are = absurd are
  types_names s (t ∷ ts) no_messages h are = absurd are
  types_names s (t ∷ ts) (more_messages m ms) h are =
      let first = type_names s t m h.0 are.0 in
      let rest = types_names s ts ms h.1 are.1 in
      ((first.0, rest.0), (first.1, rest.1))
