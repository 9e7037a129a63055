-- What files declare, refer to and tell each other, where of options only what linking reads is
-- left: the same declarations without other options, the same references and outlines.
use Rattle.std.proofs.Common.{◌≡◌, suc, List, [], ◌∷◌, ◌++◌, map, length, refl, ap, ◌∙◌}
use Rattle.std.specs.List.{flat_map}
use Rattle.std.specs.Option.{option_map}
use Rattle.std.proofs.lemmas.List.Folds.{flat_map-map}
use Rattle.descriptor_records.specs.Content.{Text, FieldContent, OneofContent, EnumContent, ServiceContent, MessageContent, message, MessageContents, no_messages, more_messages, FileContent}
use Rattle.schema_view.specs.Files.{text_of, join, imports_of, file_name, package_of}
use Rattle.schema_view.specs.Declarations.{MessageFacts, ServiceFacts, facts_of, extension_range, reserved_range, Body, of_message, of_field, of_oneof, of_enum, of_value, of_service, of_method, of_extension, Declaration, one_field, one_oneof, one_extension, one_value, one_enum, one_method, one_service, in_message, in_messages, declarations}
use Rattle.schema_view.specs.References.{references_of, references}
use Rattle.schema_view.specs.Outlines.{message_sort, enum_sort, value_name, sort_of, head_of, outline_of}
use Rattle.schema_view.proofs.Renames.{map_same}
use Rattle.texts_view.specs.ReadOptions.{read_options, read_field, read_oneof, read_value, read_enum, read_method, read_service, read_range, read_message, read_messages, read_file}
use Rattle.texts_view.proofs.Lists.{map_maps, both_mapped, flat_maps}

-- ---- what a declaration says

abbrev pub read_facts : MessageFacts → MessageFacts
read_facts m = record m {
  extensions = map read_range m.extensions;
  options = option_map read_options m.options;
}

abbrev pub read_service_facts : ServiceFacts → ServiceFacts
read_service_facts s = record s { options = option_map read_options s.options }

abbrev pub read_body : Body → Body
read_body (of_message m) = of_message (read_facts m)
read_body (of_field f) = of_field (read_field f)
read_body (of_oneof o) = of_oneof (read_oneof o)
read_body (of_enum e) = of_enum (read_enum e)
read_body (of_value v) = of_value (read_value v)
read_body (of_service s) = of_service (read_service_facts s)
read_body (of_method m) = of_method (read_method m)
read_body (of_extension x) = of_extension (read_field x)

abbrev pub read_declaration : Declaration → Declaration
read_declaration d = record d { body = read_body d.body }

-- ---- declarations

fields_read : (n : Text) (fs : List FieldContent)
    → map (one_field n) (map read_field fs) ≡ map read_declaration (map (one_field n) fs)
fields_read n fs = map_maps (one_field n) read_field read_declaration (one_field n) (λ f. refl) fs

extensions_read : (n : Text) (xs : List FieldContent)
    → map (one_extension n) (map read_field xs) ≡ map read_declaration (map (one_extension n) xs)
extensions_read n xs =
    map_maps (one_extension n) read_field read_declaration (one_extension n) (λ x. refl) xs

oneofs_read : (n : Text) (os : List OneofContent)
    → map (one_oneof n) (map read_oneof os) ≡ map read_declaration (map (one_oneof n) os)
oneofs_read n os = map_maps (one_oneof n) read_oneof read_declaration (one_oneof n) (λ o. refl) os

enum_read : (n : Text) (e : EnumContent)
    → one_enum n (read_enum e) ≡ map read_declaration (one_enum n e)
enum_read n e = ap
    (λ ds. record { name = join n (text_of e.name); body = of_enum (read_enum e) } ∷ ds)
    (map_maps (one_value n) read_value read_declaration (one_value n) (λ v. refl) e.value)

enums_read : (n : Text) (es : List EnumContent)
    → flat_map (one_enum n) (map read_enum es) ≡ map read_declaration (flat_map (one_enum n) es)
enums_read n es = flat_maps (one_enum n) read_enum read_declaration (enum_read n) es

service_read : (n : Text) (s : ServiceContent)
    → one_service n (read_service s) ≡ map read_declaration (one_service n s)
service_read n s = ap
    (λ ds. record {
      name = join n (text_of s.name);
      body = of_service (record { name = s.name; options = option_map read_options s.options });
    } ∷ ds)
    (map_maps (one_method (join n (text_of s.name))) read_method read_declaration
    (one_method (join n (text_of s.name))) (λ m. refl) s.method)

same_facts : (fs : List FieldContent) → map facts_of (map read_field fs) ≡ map facts_of fs
same_facts fs = map_same facts_of read_field facts_of (λ f. refl) fs

same_count : (os : List OneofContent) → length (map read_oneof os) ≡ length os
same_count [] = refl
same_count (o ∷ os) = ap suc (same_count os)

mutual
  message_read : (scope : Text) (m : MessageContent)
      → in_message scope (read_message m) ≡ map read_declaration (in_message scope m)
  message_read scope (message name fs xs nested es rs os o rr rn) =
      let n : Text = join scope (text_of name) in
      let fields : List Declaration = map (one_field n) fs in
      let inner : List Declaration = in_messages n nested in
      let enums : List Declaration = flat_map (one_enum n) es in
      let extensions : List Declaration = map (one_extension n) xs in
      let oneofs : List Declaration = map (one_oneof n) os in
      let parts = both_mapped read_declaration _ _ fields
      (inner ++ (enums ++ (extensions ++ oneofs))) (fields_read n fs)
      (both_mapped read_declaration _ _ inner (enums ++ (extensions ++ oneofs))
      (messages_read n nested)
      (both_mapped read_declaration _ _ enums (extensions ++ oneofs) (enums_read n es)
      (both_mapped read_declaration _ _ extensions oneofs (extensions_read n xs)
      (oneofs_read n os)))) in
      λ i. record {
        name = n;
        body = of_message (record {
          name = name;
          fields = same_facts fs i;
          oneofs = same_count os i;
          extensions = map read_range rs;
          reserved = rr;
          reserved_names = rn;
          options = option_map read_options o;
        });
      } ∷ parts i

  messages_read : (scope : Text) (ms : MessageContents)
      → in_messages scope (read_messages ms) ≡ map read_declaration (in_messages scope ms)
  messages_read scope no_messages = refl
  messages_read scope (more_messages m ms) =
      both_mapped read_declaration _ _ (in_message scope m) (in_messages scope ms)
      (message_read scope m) (messages_read scope ms)

pub declarations_read : (f : FileContent)
    → declarations (read_file f) ≡ map read_declaration (declarations f)
declarations_read f =
    let p : Text = package_of f in
    let messages : List Declaration = flat_map (in_message p) f.message_type in
    let enums : List Declaration = flat_map (one_enum p) f.enum_type in
    let services : List Declaration = flat_map (one_service p) f.service in
    let extensions : List Declaration = map (one_extension p) f.extension in
    both_mapped read_declaration _ _ messages (enums ++ (services ++ extensions))
    (flat_maps (in_message p) read_message read_declaration (message_read p) f.message_type)
    (both_mapped read_declaration _ _ enums (services ++ extensions) (enums_read p f.enum_type)
    (both_mapped read_declaration _ _ services extensions
    (flat_maps (one_service p) read_service read_declaration (service_read p) f.service)
    (extensions_read p f.extension)))

-- ---- references

refers_same : (n : Text) (b : Body)
    → references_of (record { name = n; body = read_body b })
    ≡ references_of (record { name = n; body = b })
refers_same n (of_message m) = refl
refers_same n b = refl

pub references_read : (f : FileContent) → references (read_file f) ≡ references f
references_read f =
    ap (flat_map references_of) (declarations_read f)
    ∙ flat_map-map references_of read_declaration (declarations f)
    ∙ (λ i. flat_map (λ (d : Declaration). refers_same d.name d.body i) (declarations f))

-- ---- outlines

sort_same : (b : Body) → sort_of (read_body b) ≡ sort_of b
sort_same (of_message m) = ap (λ rs. message_sort rs (map reserved_range m.reserved))
    (map_same extension_range read_range extension_range (λ r. refl) m.extensions)
sort_same (of_enum e) = ap enum_sort (map_same value_name read_value value_name (λ v. refl) e.value)
sort_same b = refl

pub outline_read : (f : FileContent) → outline_of (read_file f) ≡ outline_of f
outline_read f =
    let heads = ap (map head_of) (declarations_read f)
    ∙ map_same head_of read_declaration head_of
    (λ d. ap (λ s. record { name = d.name; sort = s }) (sort_same d.body)) (declarations f) in
    λ i. record {
      name = file_name f;
      package_name = package_of f;
      imports = imports_of f;
      heads = heads i;
    }
