-- The record of a source has names as sources spell them, and no dots in those of declarations.
use Rattle.std.proofs.Common.{List, [], ◌∷◌, Option, None, Ok, fold, flat_map, map, subst, sym}
use Rattle.std.specs.List.{AllByRecursion}
use Rattle.descriptor_records.specs.Content as records
use Rattle.descriptor_records.specs.Content.{FileContent, MessageContent, messages_of}
use Rattle.descriptor_records.specs.declared.file.FileDescriptorProto.{FileDescriptorProto}
use Rattle.protox_lex.specs.Class.{Text}
use Rattle.protox_parse.specs.Answers.{IsAnswered}
use Rattle.protox_record.specs.FileRecords.{IsFile, enum_at, extensions_at, package_after, service_at, types_at}
use Rattle.protox_tokens.specs.Marks.{Each}
use Rattle.protox_tree.specs.FileTree.{syntax_of}
use Rattle.protox_tree.specs.FileView.{file_item_view, file_view}
use Rattle.protox_tree.specs.View.{full_view}
use Rattle.protox_tree.specs.declared.file.File.{File}
use Rattle.protox_tree.specs.declared.file.FileItem.{FileItem}
use Rattle.protox_tree.specs.declared.file.FileItem.TheVariants as items
use Rattle.schema_view.specs.Plain.{ArePlainMessages, IsPlainFile, IsPlainMessage, IsPlainService}
use Rattle.source_laws.proofs.DeclaredTypes.{AreNamedTypes, IsNamedType, extend_types, message_type}
use Rattle.source_laws.proofs.FileRules.{spelled_named}
use Rattle.source_laws.proofs.Lists.{all_made}
use Rattle.source_laws.proofs.NamedFields.{HasName, extend_spelled}
use Rattle.source_laws.proofs.NamedParts.{HasEnumNames, enum_names, enums_spelled, enums_undotted, service_undotted}
use Rattle.source_laws.specs.TreeNames.{HasIdentifiers, IsNamedStatement}
use Rattle.source_laws.proofs.NamedTypes.{types_names}
use Rattle.source_laws.proofs.Texts.{dotted_name}
use Rattle.source_laws.proofs.Undotted.{fields_undotted}
use Rattle.source_records.specs.SourceNames.{AreSourceMessages, AreSpelled, IsPackage, IsSourceFile}

-- ---- statements

abbrev HasNamedStatement : FileItem → Type 0
HasNamedStatement i = IsNamedStatement (file_item_view i)

each_statement : (is : List FileItem) → Each IsNamedStatement (map file_item_view is)
    → Each HasNamedStatement is
each_statement [] h = tt
each_statement (i ∷ is) h = (h.0, each_statement is h.1)

package_named : (before : Option Text) → IsPackage before → (i : FileItem) → HasNamedStatement i
    → IsPackage (package_after before i)
package_named before named (items.Package p) h = dotted_name (full_view p.name) h
package_named before named i h = named

packages_named : (before : Option Text) → IsPackage before → (is : List FileItem)
    → Each HasNamedStatement is → IsPackage (fold package_after before is)
packages_named before named [] h = named
packages_named before named (i ∷ is) h =
    packages_named (package_after before i) (package_named before named i h.0) is h.1

statement_types : (i : FileItem) → HasNamedStatement i → AreNamedTypes (types_at i)
statement_types (items.Message m) h = (message_type m h, tt)
statement_types (items.Extend e) h = extend_types e h
statement_types i h = tt

statement_enums : (i : FileItem) → HasNamedStatement i → AllByRecursion HasEnumNames (enum_at i)
statement_enums (items.Enum e) h = (enum_names e h, tt)
statement_enums i h = tt

statement_services : (i : FileItem) → HasNamedStatement i
    → AllByRecursion IsPlainService (service_at i)
statement_services (items.Service s) h = (service_undotted s h, tt)
statement_services i h = tt

statement_extensions : (i : FileItem) → HasNamedStatement i → AreSpelled (extensions_at i)
statement_extensions (items.Extend e) h = extend_spelled e h
statement_extensions i h = tt

-- ---- files

-- messages as a file has them
each_message : (ms : List MessageContent) → ArePlainMessages (messages_of ms)
    → AllByRecursion IsPlainMessage ms
each_message [] h = tt
each_message (m ∷ ms) h = (h.0, each_message ms h.1)

module _ (name : Text) (f : File) (made : FileContent) (h : HasIdentifiers (file_view f))
    (is : IsFile name f made) where
  abbrev all : List FileItem
  all = f.items.items

  each : Each HasNamedStatement all
  each = each_statement all h

  messages : AreSourceMessages (messages_of made.message_type)
      × ArePlainMessages (messages_of made.message_type)
  messages =
      let types = all_made HasNamedStatement IsNamedType types_at statement_types all each in
      types_names (syntax_of (file_view f).syntax) (flat_map types_at all)
      (messages_of made.message_type) types is.types_are

  enums : AllByRecursion HasEnumNames made.enum_type
  enums = subst (λ (m : FileContent). AllByRecursion HasEnumNames m.enum_type) (sym is.is)
      (all_made HasNamedStatement HasEnumNames enum_at statement_enums all each)

  extensions : AreSpelled made.extension
  extensions = subst (λ (m : FileContent). AreSpelled m.extension) (sym is.is)
      (all_made HasNamedStatement HasName extensions_at statement_extensions all each)

  file_names : IsSourceFile made
  file_names = record {
    packaged = subst (λ (m : FileContent). IsPackage m.package_name) (sym is.is)
        (packages_named None tt all each);
    messages = messages.0;
    enums = enums_spelled made.enum_type enums;
    extensions = extensions;
  }

  file_undotted : IsPlainFile made
  file_undotted = record {
    messages = each_message made.message_type messages.1;
    enums = enums_undotted made.enum_type enums;
    services = subst (λ (m : FileContent). AllByRecursion IsPlainService m.service) (sym is.is)
        (all_made HasNamedStatement IsPlainService service_at statement_services all each);
    extensions = fields_undotted made.extension extensions;
  }

pub source_names : (name z : Text) (made : FileDescriptorProto) → IsAnswered name z (Ok made)
    → IsSourceFile (records.file_view made)
source_names name z made h =
    let named = spelled_named z (file_view h.0) h.1 in
    let bare = file_names name h.0 h.3.bare named h.3.bare_is in
    subst IsSourceFile (sym h.3.is) (record {
      packaged = bare.packaged;
      messages = bare.messages;
      enums = bare.enums;
      extensions = bare.extensions;
    })

pub source_undotted : (name z : Text) (made : FileDescriptorProto) → IsAnswered name z (Ok made)
    → IsPlainFile (records.file_view made)
source_undotted name z made h =
    let named = spelled_named z (file_view h.0) h.1 in
    let bare = file_undotted name h.0 h.3.bare named h.3.bare_is in
    subst IsPlainFile (sym h.3.is) (record {
      messages = bare.messages;
      enums = bare.enums;
      services = bare.services;
      extensions = bare.extensions;
    })
