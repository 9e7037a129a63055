-- The names that the records of messages and files give, one level at a time.
use Rattle.std.proofs.Common.{◌≡◌, ◌∙◌, List, [], ◌∷◌, map, ap, sym, refl, rules}
use Rattle.descriptor_records.specs.Content.{text_view}
use Rattle.descriptor_records.specs.declared.message.DescriptorProto.{DescriptorProto}
use Rattle.descriptor_records.specs.declared.message.DescriptorProto.TheOpen.{DescriptorProto-F}
use Rattle.descriptor_records.specs.declared.message.DescriptorProto.TheFolds.{fold-roll-DescriptorProto, fold_out-DescriptorProto}
use Rattle.descriptor_records.specs.declared.message.DescriptorProto.TheViews.{roll-DescriptorProto, out-DescriptorProto, the_lemmas}
use Rattle.descriptor_records.specs.declared.file.FileDescriptorProto.{FileDescriptorProto}
use Rattle.reflect_declarations.specs.Tree.{Message, message, messages_of, message_step, parts, tree_of}
use Rattle.reflect_known.specs.GivenNames.{Given, MessageNames, message_names, NestedNames, no_names, more_names, field_name, oneof_name, enum_names, service_names, names_in, names_in_each, names_of_message, names_of_file}

abbrev pub nested_of : List MessageNames → NestedNames
nested_of [] = no_names
nested_of (m ∷ ms) = more_names m (nested_of ms)

pub each_named : (ms : List DescriptorProto) → names_in_each (messages_of (map tree_of ms))
    ≡ nested_of (map names_of_message ms)
each_named [] = refl
each_named (m ∷ ms) = ap (λ ns. more_names (names_of_message m) ns) (each_named ms)

-- the names of a level with other fields, messages and extensions
abbrev pub names_with : DescriptorProto-F DescriptorProto → List Given → List MessageNames
    → List Given → MessageNames
names_with m fields nested extensions =
    message_names (text_view m.name) fields (nested_of nested) (map enum_names m.enum_type.items)
    extensions (map oneof_name m.oneof_decl.items)

-- what names are seen of one level
abbrev pub level_names : DescriptorProto-F DescriptorProto → MessageNames
level_names m =
    names_with m (map field_name m.field.items) (map names_of_message m.nested_type.items)
    (map field_name m.extension.items)

of_level : (m : DescriptorProto-F DescriptorProto)
    → names_in (message (parts m) (messages_of (map tree_of m.nested_type.items))) ≡ level_names m
of_level m =
    ap (λ ns. message_names (text_view m.name) (map field_name m.field.items) ns
    (map enum_names m.enum_type.items) (map field_name m.extension.items)
    (map oneof_name m.oneof_decl.items)) (each_named m.nested_type.items)

pub names-roll : (m : DescriptorProto-F DescriptorProto) → names_of_message (roll-DescriptorProto m)
    ≡ level_names m
names-roll m = ap names_in (fold-roll-DescriptorProto Message message_step m) ∙ of_level m

pub names-out : (m : DescriptorProto) → names_of_message m ≡ level_names (out-DescriptorProto m)
names-out m =
    ap names_in (fold_out-DescriptorProto Message message_step m) ∙ of_level (out-DescriptorProto m)

-- two messages of one level's names give the same
pub same_level : (x : DescriptorProto-F DescriptorProto) (m : DescriptorProto) → level_names x
    ≡ level_names (out-DescriptorProto m) → names_of_message (roll-DescriptorProto x)
    ≡ names_of_message m
same_level x m h = names-roll x ∙ h ∙ sym (names-out m)

pub unrolled : (x : DescriptorProto-F DescriptorProto)
    → out-DescriptorProto (roll-DescriptorProto x) ≡ x
unrolled x = let e : x
    ≡ out-DescriptorProto (roll-DescriptorProto x) = search (rules, the_lemmas) in sym e

-- two files of one level's names give the same
pub same_file : (g f : FileDescriptorProto) → text_view g.«package» ≡ text_view f.«package»
    → map names_of_message g.message_type.items ≡ map names_of_message f.message_type.items
    → map enum_names g.enum_type.items ≡ map enum_names f.enum_type.items
    → map service_names g.service.items ≡ map service_names f.service.items
    → map field_name g.extension.items ≡ map field_name f.extension.items → names_of_file g
    ≡ names_of_file f
same_file g f package_name nested enums services extensions =
    let messages = each_named g.message_type.items ∙ ap nested_of nested
    ∙ sym (each_named f.message_type.items) in
    λ i. record {
      package_name = package_name i;
      messages = messages i;
      enums = enums i;
      services =
          services i;
      extensions = extensions i;
    }
