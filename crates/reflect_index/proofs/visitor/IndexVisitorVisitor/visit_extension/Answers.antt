-- There is one extension more.
use Rattle.std.proofs.Common.{◌≡◌, ◌∙◌, ◌++◌, ◌∷◌, [], List, map, sym, subst, ap, string_bytes, rules, refl}
use Rattle.std.proofs.lemmas.List.{map-append}
use Rattle.reflect_references.specs.Meanings.{meaning, behind}
use Rattle.reflect_tables.specs.Names.{FullName}
use Rattle.reflect_tables.specs.Types.{ExtensionType}
use Rattle.reflect_tables.specs.Views.{field_of, kind_of, extension_of}
use Rattle.reflect_index.specs.DraftNames.{stored_extension_name}
use Rattle.reflect_index.specs.Entries.{HasKind}
use Rattle.reflect_index.proofs.visitor.IndexVisitorVisitor.visit_extension.Goals as goal

pub returns-clause-step : goal.returns-clause-step
returns-clause-step c =
    let r = c.args.extension.now in
    let e = c.in_ok-extension_entry.field-0 in
    let holds = kind_of c.in_ok-kind.kind in
    let old = c.args.self.now.drafts.extensions.items in
    let made = c.in_ok-declare.ensures in
    let x : ExtensionType = record {
      file = c.args.file;
      parent = c.args.parent;
      extendee = c.in_ok-extendee.extendee;
      field = field_of e;
      json_name = string_bytes c.in_ok-format.field-0;
    } in
    let named : string_bytes e.full_name ≡ c.args.full_name.now = c.in_ok-extension_entry.ensures.says.full_name in
    record {
      messages = made.kept.names;
      enums = refl;
      extensions =
          ap (map stored_extension_name) c.in_ok-push.ensures.items
          ∙ map-append stored_extension_name old _
          ∙ ap {B = List FullName} (λ n. map stored_extension_name old ++ (n, c.args.file) ∷ []) named;
      services = refl;
      ranges = made.kept.ranges;
      values = refl;
      value_types = refl;
      fields = made.kept.fields;
      oneofs = made.kept.oneofs;
      methods = refl;
      declared = (
        x,
        record {
          file = refl;
          parent = refl;
          extendee = sym c.meaning_of.ensures.meaning ∙ c.in_ok-extendee.ensures;
          holds = holds;
          kind = subst (λ l. HasKind r (meaning r.type_name l) holds) c.meaning_of.ensures.rest c.in_ok-kind.ensures.kind;
          field = c.in_ok-extension_entry.ensures;
          json_name = search rules;
        },
        ap (map extension_of) c.in_ok-push.ensures.items ∙ map-append extension_of old _,
      );
      message_heads = made.kept.heads;
      enum_heads = refl;
      service_heads = refl;
      nested = made.nested;
      outside = made.outside;
      syntax = refl;
      rest = c.in_ok-kind.ensures.rest ∙ ap (behind r.type_name) c.meaning_of.ensures.rest;
      first = refl;
      before = refl;
    }
