-- The record of a source is plain.
use Rattle.std.proofs.Common.{◌+◌, ◌-◌, ℕ, Bool, true, false, cond, List, [], ◌∷◌, Ok, flat_map, map, subst, sym, arith}
use Rattle.std.specs.List.{AllByRecursion}
use Rattle.descriptor_records.specs.Content as records
use Rattle.descriptor_records.specs.Content.{FileContent, messages_of}
use Rattle.descriptor_records.specs.declared.file.FileDescriptorProto.{FileDescriptorProto}
use Rattle.plain_records.proofs.Both.{file_weaker}
use Rattle.plain_records.specs.SaidOptions.{SaysOrWaits}
use Rattle.plain_records.specs.SourceOptions.{AreOfSource}
use Rattle.plain_records.specs.PlainRecords.{ArePlainOptions, FitsInt32, IsInside, IsPlainEnum, IsPlainField, IsPlainFile, IsPlainService}
use Rattle.protox_field_records.specs.Places.{place_of}
use Rattle.protox_lex.specs.Class.{Text}
use Rattle.protox_parse.specs.Answers.{IsAnswered}
use Rattle.protox_record.specs.FileRecords.{enum_at, extensions_at, import_at, is_kind, option_at, place_at, places_from, service_at, types_at}
use Rattle.protox_tokens.specs.Marks.{Each}
use Rattle.protox_tree.specs.FileTree.{syntax_of}
use Rattle.protox_tree.specs.FileView.{file_item_view, file_view}
use Rattle.protox_tree.specs.declared.file.FileItem.{FileItem}
use Rattle.protox_tree.specs.declared.file.FileItem.TheVariants as items
use Rattle.protox_tree.specs.declared.file.Import.{Import}
use Rattle.protox_tree.specs.declared.file.ImportKind.{ImportKind}
use Rattle.protox_tree.specs.declared.file.ImportKind.TheVariants as kinds
use Rattle.option_parts.specs.declared.option_scope.OptionScope.TheVariants as scopes
use Rattle.source_laws.proofs.Depth.{IsStatementWithin, spelled_within}
use Rattle.source_laws.proofs.Lists.{all_append, all_each, all_made}
use Rattle.source_laws.proofs.PlainLocations.{located_plain}
use Rattle.source_laws.proofs.PlainMessages.{AreTypesWithin, IsTypeWithin, extend_types, message_type, types_plain}
use Rattle.source_laws.proofs.PlainOptions.{SourceSays, written_plain}
use Rattle.source_laws.proofs.SmallNumbers.{IsSmall, statement_small}
use Rattle.source_laws.proofs.PlainParts.{enum_plain, extend_plain, place_fits, service_plain}

-- ---- statements

abbrev HasStatementWithin : FileItem → Type 0
HasStatementWithin i = IsStatementWithin (file_item_view i)

each_statement : (is : List FileItem) → Each IsStatementWithin (map file_item_view is)
    → Each HasStatementWithin is
each_statement [] h = tt
each_statement (i ∷ is) h = (h.0, each_statement is h.1)

statement_types : (i : FileItem) → HasStatementWithin i → AreTypesWithin 31 (types_at i)
statement_types (items.Message m) h = (message_type 31 m h, tt)
statement_types (items.Extend e) h = extend_types 31 e h
statement_types i h = tt

statement_enums : (i : FileItem)
    → AllByRecursion (IsInside (IsPlainEnum SourceSays) 99) (enum_at i)
statement_enums (items.Enum e) = ((omega arith, enum_plain (99 - 1) (omega arith) e), tt)
statement_enums i = tt

statement_services : (i : FileItem)
    → AllByRecursion (IsInside (IsPlainService SourceSays) 99) (service_at i)
statement_services (items.Service s) = ((omega arith, service_plain (99 - 1) (omega arith) s), tt)
statement_services i = tt

statement_extensions : (i : FileItem)
    → AllByRecursion (IsInside (IsPlainField SourceSays) 99) (extensions_at i)
statement_extensions (items.Extend e) = extend_plain 99 (omega arith) e
statement_extensions i = tt

-- ---- imports

place_plain : (kind : ImportKind) (n : ℕ) (i : Import)
    → AllByRecursion FitsInt32 (place_at kind n i)
place_plain kind n i = by (is_kind kind i.kind) where
  by : (b : Bool) → AllByRecursion FitsInt32 (cond b (place_of n ∷ []) [])
  by true = (place_fits n, tt)
  by false = tt

places_plain : (kind : ImportKind) (n : ℕ) (is : List Import)
    → AllByRecursion FitsInt32 (places_from kind n is)
places_plain kind n [] = tt
places_plain kind n (i ∷ is) =
    all_append FitsInt32 (place_at kind n i) (places_from kind (n + 1) is) (place_plain kind n i)
    (places_plain kind (n + 1) is)

-- ---- files

source_says : (name z : Text) (made : FileDescriptorProto) → IsAnswered name z (Ok made)
    → IsPlainFile SourceSays 99 (records.file_view made)
source_says name z made h =
    let f = h.0 in
    let all = f.items.items in
    let bare = h.3.bare in
    let is = h.3.bare_is in
    let each = each_statement all (spelled_within z (file_view f) h.1) in
    let types = all_made HasStatementWithin (IsTypeWithin 31) types_at statement_types all each in
    let memory = made.dependency.alloc in
    subst (IsPlainFile SourceSays 99) (sym h.3.is) (record {
      message_type = types_plain memory (syntax_of (file_view f).syntax) 31 99 (omega arith)
          (flat_map types_at all) (messages_of bare.message_type) types is.types_are;
      enum_type = subst
          (λ (m : FileContent). AllByRecursion (IsInside (IsPlainEnum SourceSays) 99) m.enum_type)
          (sym is.is)
          (all_each (IsInside (IsPlainEnum SourceSays) 99) enum_at statement_enums all);
      service = subst
          (λ (m : FileContent). AllByRecursion (IsInside (IsPlainService SourceSays) 99) m.service)
          (sym is.is)
          (all_each (IsInside (IsPlainService SourceSays) 99) service_at statement_services all);
      extension = subst
          (λ (m : FileContent). AllByRecursion (IsInside (IsPlainField SourceSays) 99) m.extension)
          (sym is.is)
          (all_each (IsInside (IsPlainField SourceSays) 99) extensions_at statement_extensions
          all);
      options = subst (λ (m : FileContent). ArePlainOptions SourceSays scopes.File 99 m.options)
          (sym is.is) (written_plain scopes.File 99 (omega arith) (flat_map option_at all)
          (all_each IsSmall option_at statement_small all));
      source_code_info = (
        omega arith,
        located_plain z (99 - 1) (omega arith) (file_view f)
            h.3.locations h.3.located,
      );
      public_dependency = subst (λ (m : FileContent). AllByRecursion FitsInt32 m.public_dependency)
          (sym is.is) (places_plain kinds.Public 0 (flat_map import_at all));
      weak_dependency = subst (λ (m : FileContent). AllByRecursion FitsInt32 m.weak_dependency)
          (sym is.is) (places_plain kinds.Weak 0 (flat_map import_at all));
    })

pub source_plain : (name z : Text) (made : FileDescriptorProto) → IsAnswered name z (Ok made)
    → IsPlainFile SaysOrWaits 99 (records.file_view made)
source_plain name z made h =
    file_weaker SourceSays SaysOrWaits (λ scope o says. says.0) 99 (records.file_view made)
    (source_says name z made h)

pub source_options : (name z : Text) (made : FileDescriptorProto) → IsAnswered name z (Ok made)
    → IsPlainFile AreOfSource 99 (records.file_view made)
source_options name z made h =
    file_weaker SourceSays AreOfSource (λ scope o says. says.1) 99 (records.file_view made)
    (source_says name z made h)
