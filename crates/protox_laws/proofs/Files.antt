-- Files that are the same but for their places have one record.
use Rattle.std.proofs.Common.{◌≡◌, ◌∙◌, ◌+◌, ◌++◌, ℕ, if◌then◌else◌, List, [], ◌∷◌, Option, Some, None, fold, map, flat_map, option_map, refl, ap, subst}
use Rattle.descriptor_records.specs.Content.{FileContent, MessageContent, messages_of}
use Rattle.protox_declaration_records.specs.OptionRecords.{options_of}
use Rattle.protox_declaration_records.specs.Texts.{text_of}
use Rattle.protox_field_records.specs.Places.{place_of}
use Rattle.protox_laws.proofs.Declarations.{same_enum, same_service}
use Rattle.protox_laws.proofs.Fields.{same_extensions}
use Rattle.protox_laws.proofs.Lists.{flat_maps, folds, seen_maps}
use Rattle.protox_laws.proofs.Messages.{types_carried}
use Rattle.protox_laws.proofs.Options.{same_statement, same_text}
use Rattle.protox_laws.proofs.Types.{declared_view, same_extend_types, same_message_type}
use Rattle.protox_laws.proofs.Unplaced.{one_dotted, one_is_kind, one_syntax}
use Rattle.protox_laws.specs.Unplaced.{a_file_item, a_message, a_package, a_service, an_enum, an_extend, an_import, an_option, unmarked, unplaced}
use Rattle.protox_lex.specs.Class.{Text}
use Rattle.protox_lex.specs.declared.span.Span.{Span}
use Rattle.protox_message_records.specs.MessageRecords.{AreTypes}
use Rattle.protox_record.proofs.OneFile.{same_file}
use Rattle.protox_record.specs.FileRecords.{IsFile, enum_at, extensions_at, file_with, import_at, names_of, option_at, package_after, places_from, service_at, syntax_name, types_at}
use Rattle.protox_tree.specs.FileTree as tree
use Rattle.protox_tree.specs.FileTree.{syntax_of}
use Rattle.protox_tree.specs.FileView.{file_item_view, file_view, import_view, package_view}
use Rattle.protox_tree.specs.NestView.{extend_view, message_view}
use Rattle.protox_tree.specs.View.{enum_view, full_view, option_view, service_view}
use Rattle.protox_tree.specs.declared.file.File.{File}
use Rattle.protox_tree.specs.declared.file.FileItem.{FileItem}
use Rattle.protox_tree.specs.declared.file.FileItem.TheVariants as items
use Rattle.protox_tree.specs.declared.file.Import.{Import}
use Rattle.protox_tree.specs.declared.file.ImportKind.{ImportKind}
use Rattle.protox_tree.specs.declared.file.ImportKind.TheVariants as kinds

-- ---- imports

-- the word behind `import`
abbrev kind_of : Import → Option (ImportKind × Span)
kind_of i = option_map unmarked i.kind

same_places : (kind : ImportKind) (n : ℕ) (xs ys : List Import) → map kind_of xs ≡ map kind_of ys → places_from kind n xs ≡ places_from kind n ys
same_places kind n [] [] e = refl
same_places kind n (x ∷ xs) (y ∷ ys) e =
    let first : kind_of x ≡ kind_of y = cc in
    let others : map kind_of xs ≡ map kind_of ys = cc in
    let asked = one_is_kind kind x.kind y.kind first in
    let behind = same_places kind (n + 1) xs ys others in
    λ i. (if asked i then place_of n ∷ [] else []) ++ behind i
same_places kind n xs ys e = absurd (cc)

-- ---- items

-- what an item of a file tells
record SameItem (a b : FileItem) : Type 0 where
  packages : (before : Option Text) → package_after before a ≡ package_after before b
  import_names : names_of (import_at a) ≡ names_of (import_at b)
  import_kinds : map kind_of (import_at a) ≡ map kind_of (import_at b)
  options : option_at a ≡ option_at b
  enums : enum_at a ≡ enum_at b
  services : service_at a ≡ service_at b
  extensions : extensions_at a ≡ extensions_at b
  types : map declared_view (types_at a) ≡ map declared_view (types_at b)

same_item : (a b : FileItem) → a_file_item (file_item_view a) ≡ a_file_item (file_item_view b) → SameItem a b
same_item (items.Import i) (items.Import j) e =
    let seen : an_import (import_view i) ≡ an_import (import_view j) = cc e in
    let import_names = ap (λ t. t ∷ []) (same_text i.value j.value (ap (λ (v : tree.Import). v.value) seen)) in
    let import_kinds = ap (λ (v : tree.Import). v.kind ∷ []) seen in
    search (import_names, import_kinds)
same_item (items.Package p) (items.Package q) e =
    let seen : a_package (package_view p) ≡ a_package (package_view q) = cc e in
    let name = one_dotted (full_view p.name) (full_view q.name) (ap (λ (v : tree.Package). v.name) seen) in
    let packages = λ (before : Option Text). ap Some name in
    search packages
same_item (items.Option o) (items.Option p) e =
    let seen : an_option (option_view o) ≡ an_option (option_view p) = cc e in
    let options = ap (λ x. x ∷ []) (same_statement o p seen) in
    search options
same_item (items.Message m) (items.Message n) e =
    let seen : a_message (message_view m) ≡ a_message (message_view n) = cc e in
    let types = same_message_type m n seen in
    search types
same_item (items.Enum x) (items.Enum y) e =
    let seen : an_enum (enum_view x) ≡ an_enum (enum_view y) = cc e in
    let enums = ap (λ v. v ∷ []) (same_enum x y seen) in
    search enums
same_item (items.Service s) (items.Service t) e =
    let seen : a_service (service_view s) ≡ a_service (service_view t) = cc e in
    let services = ap (λ v. v ∷ []) (same_service s t seen) in
    search services
same_item (items.Extend x) (items.Extend y) e =
    let seen : an_extend (extend_view x) ≡ an_extend (extend_view y) = cc e in
    let extensions = same_extensions x y seen in
    let types = same_extend_types x y seen in
    search (extensions, types)
same_item (items.Empty a) (items.Empty b) e = search
same_item a b e = absurd (cc e)

-- ---- files

-- all items of one file and of another that is the same but for its places
module _ (f g : File) (e : unplaced (file_view f) ≡ unplaced (file_view g)) where
  items_seen : map a_file_item (map file_item_view f.items.items) ≡ map a_file_item (map file_item_view g.items.items)
  items_seen = ap (λ (v : tree.File). v.items) e

  same_syntax : syntax_of (file_view f).syntax ≡ syntax_of (file_view g).syntax
  same_syntax = one_syntax (file_view f).syntax (file_view g).syntax (ap (λ (v : tree.File). v.syntax) e)

  same_made : (name : Text) (messages : List MessageContent) → file_with name f messages ≡ file_with name g messages
  same_made name messages =
      let xs = f.items.items in
      let ys = g.items.items in
      let packages : fold package_after None xs ≡ fold package_after None ys =
      folds file_item_view a_file_item package_after package_after (λ before x y h. (same_item x y h).packages before) None xs ys items_seen in
      let names : names_of (flat_map import_at xs) ≡ names_of (flat_map import_at ys) =
      seen_maps file_item_view a_file_item (λ (i : Import). text_of i.value) import_at (λ x y h. (same_item x y h).import_names) xs ys items_seen in
      let import_kinds = seen_maps file_item_view a_file_item kind_of import_at (λ x y h. (same_item x y h).import_kinds) xs ys items_seen in
      let public_places = same_places kinds.Public 0 (flat_map import_at xs) (flat_map import_at ys) import_kinds in
      let weak_places = same_places kinds.Weak 0 (flat_map import_at xs) (flat_map import_at ys) import_kinds in
      let enums = flat_maps file_item_view a_file_item enum_at enum_at (λ x y h. (same_item x y h).enums) xs ys items_seen in
      let services = flat_maps file_item_view a_file_item service_at service_at (λ x y h. (same_item x y h).services) xs ys items_seen in
      let extensions = flat_maps file_item_view a_file_item extensions_at extensions_at (λ x y h. (same_item x y h).extensions) xs ys items_seen in
      let options = flat_maps file_item_view a_file_item option_at option_at (λ x y h. (same_item x y h).options) xs ys items_seen in
      λ i. record {
        name = Some name;
        package_name = packages i;
        dependency = names i;
        public_dependency = public_places i;
        weak_dependency = weak_places i;
        message_type = messages;
        enum_type = enums i;
        service = services i;
        extension = extensions i;
        options = options_of (options i);
        source_code_info = None;
        syntax_name = syntax_name (same_syntax i);
      }

  same_types : map declared_view (flat_map types_at f.items.items) ≡ map declared_view (flat_map types_at g.items.items)
  same_types = seen_maps file_item_view a_file_item declared_view types_at (λ x y h. (same_item x y h).types) f.items.items g.items.items items_seen

  pub file_carried : (name : Text) (made : FileContent) → IsFile name f made → IsFile name g made
  file_carried name made h = record {
    is = h.is ∙ same_made name made.message_type;
    types_are = subst (λ s. AreTypes s (flat_map types_at g.items.items) (messages_of made.message_type)) same_syntax
        (types_carried (syntax_of (file_view f).syntax) (flat_map types_at f.items.items) (flat_map types_at g.items.items) (messages_of made.message_type) same_types h.types_are);
  }

pub one_record : (name : Text) (f g : File) (a b : FileContent) → unplaced (file_view f) ≡ unplaced (file_view g) → IsFile name f a → IsFile name g b → a ≡ b
one_record name f g a b e h k = same_file name g a b (file_carried f g e name a h) k
