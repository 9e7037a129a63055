use Rattle.std.proofs.Common.{◌≡◌, ◌∙◌, ◌++◌, List, Some, length, map, refl, rules, ap, sym, subst}
use Rattle.std.proofs.lemmas.List.{length-map, map-append}
use Rattle.std.specs.List.{flat_map}
use Rattle.descriptor_records.specs.Content.{OneofContent, enum_view, field_view, message_view, messages_of, oneof_view}
use Rattle.descriptor_records.specs.declared.message.DescriptorProto.{DescriptorProto}
use Rattle.descriptor_records.specs.declared.message.DescriptorProto.TheOpen.{DescriptorProto-F}
use Rattle.protox_lex.specs.Class.{Text}
use Rattle.protox_message_records.proofs.Messages.{unrolled, with_oneofs_view}
use Rattle.descriptor_records.proofs.Messages.{message_view-roll}
use Rattle.protox_message_records.specs.MessageRecords.{IsMessage, alone_at, fields_from, oneof_at}
use Rattle.protox_message_records.specs.SyntheticOneofs.{AreNamedAfter, names_in, names_of}
use Rattle.protox_message_records.proofs.message.message_of.Goals as goal

pub returns : goal.returns
returns c =
    let s = c.args.syntax in
    let items = c.args.items.now.items in
    let own = c.in_ok-oneof_decl.oneof_decl in
    let more = c.in_ok-more.more in
    let x : DescriptorProto-F DescriptorProto = record {
      name = Some c.in_ok-from_str.field-0;
      field = c.in_ok-fields.field-0;
      extension = c.in_ok-own_extensions.field-0;
      nested_type = c.args.nested_type;
      enum_type = c.in_ok-enums.field-0;
      extension_range = c.in_ok-extension_ranges.field-0;
      oneof_decl = own;
      options = c.in_ok-options.field-0;
      reserved_range = c.in_ok-reserved_ranges.field-0;
      reserved_name = c.in_ok-reserved_names.field-0;
    } in
    let count : c.len.result ≡ length own.items = search rules in
    let places : c.len.result ≡ length (flat_map oneof_at items) = count ∙ sym (length-map own.items oneof_view) ∙ ap length c.in_ok-oneof_decl.ensures in
    let oneofs : map oneof_view c.append.new.self.items ≡ flat_map oneof_at items ++ map oneof_view more.items =
    ap (map oneof_view) (c.in_ok-append.ensures.items ∙ ap (λ (o : DescriptorProto-F DescriptorProto). o.oneof_decl.items ++ more.items) (unrolled x))
    ∙ map-append oneof_view own.items more.items ∙ ap (λ ys. ys ++ map oneof_view more.items) c.in_ok-oneof_decl.ensures in
    let inside = messages_of (map message_view c.args.nested_type.items) in
    let taken : List OneofContent → List Text = λ os. names_of (map field_view x.field.items) (map field_view x.extension.items) inside (map enum_view x.enum_type.items) os in
    let named : AreNamedAfter (taken (flat_map oneof_at items)) (flat_map (alone_at s) items) (map oneof_view more.items) =
    subst (λ ns. AreNamedAfter ns (flat_map (alone_at s) items) (map oneof_view more.items)) (ap names_in (message_view-roll x) ∙ ap taken c.in_ok-oneof_decl.ensures) c.in_ok-more.ensures in
    subst (IsMessage s c.args.name.now items inside) (sym (with_oneofs_view x c.append.new.self)) (
      record {
        named = search rules;
        fields_are = c.in_ok-fields.ensures ∙ ap (λ n. fields_from s 0 n items) places;
        extensions_are = c.in_ok-own_extensions.ensures;
        enums_are = c.in_ok-enums.ensures;
        ranges_are = c.in_ok-extension_ranges.ensures;
        oneofs_are = (map oneof_view more.items, oneofs, named);
        options_are = c.in_ok-options.ensures;
        reserved_are = c.in_ok-reserved_ranges.ensures;
        names_are = c.in_ok-reserved_names.ensures;
      },
      refl,
    )
