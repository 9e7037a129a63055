-- The records of enums have identifiers for names, and those of services and oneofs names without
-- dots, as have the oneofs that no source wrote.
use Rattle.std.proofs.Common.{◌≡◌, ◌∙◌, ◌++◌, Bool, true, false, List, [], ◌∷◌, Some, flat_map, map, string_bytes, ap, subst, sym}
use Rattle.std.specs.Prelude.{if◌then◌else◌}
use Rattle.std.specs.List.{AllByRecursion}
use Rattle.descriptor_records.specs.Content.{EnumContent, EnumValueContent, MethodContent, OneofContent}
use Rattle.protox_declaration_records.specs.EnumRecords.{enum_of, value_at}
use Rattle.protox_declaration_records.specs.ServiceRecords.{method_at, service_of}
use Rattle.protox_field_records.specs.FieldName.{field_name_of}
use Rattle.protox_field_records.specs.FieldRecords.{is_group}
use Rattle.protox_field_records.specs.Layers.{ItemLayer}
use Rattle.protox_laws.proofs.Layers.{item_seen}
use Rattle.protox_lex.specs.Class.{Text}
use Rattle.protox_message_records.specs.MessageRecords.{alone_at, alone_in, enum_at, enum_in, oneof_at, oneof_in, tells_presence}
use Rattle.protox_message_records.specs.SyntheticOneofs.{AreNamedAfter, IsNamedAfter}
use Rattle.protox_tokens.specs.Marks.{Each}
use Rattle.protox_tree.specs.NestView.{kind_view}
use Rattle.protox_tree.specs.View.{enum_item_view, enum_view, service_item_view, service_view}
use Rattle.protox_tree.specs.declared.enumeration.Enum.{Enum}
use Rattle.protox_tree.specs.declared.enumeration.EnumItem.{EnumItem}
use Rattle.protox_tree.specs.declared.enumeration.EnumItem.TheVariants as enum_items
use Rattle.protox_tree.specs.declared.message.ExtendItem.TheOpen.{MessageItem-F}
use Rattle.protox_tree.specs.declared.message.ExtendItem.TheViews.{out-MessageItem}
use Rattle.protox_tree.specs.declared.message.MessageItem.{MessageItem}
use Rattle.protox_tree.specs.declared.service.Service.{Service}
use Rattle.protox_tree.specs.declared.service.ServiceItem.{ServiceItem}
use Rattle.protox_tree.specs.declared.service.ServiceItem.TheVariants as service_items
use Rattle.protox_tree.specs.declared.types.Syntax.{Syntax}
use Rattle.schema_view.specs.Files.{text_of}
use Rattle.schema_view.specs.Means.{has_dot}
use Rattle.schema_view.specs.Plain.{HasPlainName, IsPlainEnum, IsPlainService}
use Rattle.source_laws.proofs.Lists.{all_append, all_made, all_so}
use Rattle.source_laws.proofs.NamedFields.{field_spelled}
use Rattle.source_laws.proofs.NamedValues.{HasNamedItem, field_names, oneof_name}
use Rattle.source_laws.proofs.Undotted.{IsUndotted, freed_undotted, identifier_undotted, spelled_undotted}
use Rattle.source_laws.specs.TreeNames.{IsNamedEnum, IsNamedItem, IsNamedMethod, IsNamedService, IsNamedValue}
use Rattle.source_records.specs.SourceNames.{HasSpelledValues, IsSpelled}

-- ---- enums

abbrev HasValueName : EnumValueContent → Type 0
HasValueName v = IsSpelled v.name

-- an enum of such a name, with such values
abbrev pub HasEnumNames : EnumContent → Type 0
HasEnumNames e = IsSpelled e.name × HasSpelledValues e

value_spelled : (i : EnumItem) → IsNamedValue (enum_item_view i)
    → AllByRecursion HasValueName (value_at i)
value_spelled (enum_items.Value v) h = (h, tt)
value_spelled i h = tt

values_spelled : (is : List EnumItem) → Each IsNamedValue (map enum_item_view is)
    → AllByRecursion HasValueName (flat_map value_at is)
values_spelled [] h = tt
values_spelled (i ∷ is) h =
    all_append HasValueName (value_at i) (flat_map value_at is) (value_spelled i h.0)
    (values_spelled is h.1)

pub enum_names : (e : Enum) → IsNamedEnum (enum_view e) → HasEnumNames (enum_of e)
enum_names e h = (h.0, values_spelled e.items.items h.1)

item_enums : (o : ItemLayer) → IsNamedItem (item_seen o) → AllByRecursion HasEnumNames (enum_in o)
item_enums (MessageItem-F.Enum e) h = (enum_names e h, tt)
item_enums o h = tt

pub items_enums : (is : List MessageItem) → Each HasNamedItem is
    → AllByRecursion HasEnumNames (flat_map enum_at is)
items_enums is h =
    all_made HasNamedItem HasEnumNames enum_at (λ i. item_enums (out-MessageItem i)) is h

-- their values alone
pub enums_spelled : (es : List EnumContent) → AllByRecursion HasEnumNames es
    → AllByRecursion HasSpelledValues es
enums_spelled es h = all_so HasEnumNames HasSpelledValues (λ e both. both.1) es h

abbrev HasUndottedValue : EnumValueContent → Type 0
HasUndottedValue v = HasPlainName v.name

enum_undotted : (e : EnumContent) → HasEnumNames e → IsPlainEnum e
enum_undotted e both = record {
  name = spelled_undotted e.name both.0;
  values = all_so HasValueName HasUndottedValue (λ v. spelled_undotted v.name) e.value both.1;
}

pub enums_undotted : (es : List EnumContent) → AllByRecursion HasEnumNames es
    → AllByRecursion IsPlainEnum es
enums_undotted es h = all_so HasEnumNames IsPlainEnum enum_undotted es h

-- ---- services

abbrev HasUndottedMethod : MethodContent → Type 0
HasUndottedMethod m = HasPlainName m.name

method_undotted : (i : ServiceItem) → IsNamedMethod (service_item_view i)
    → AllByRecursion HasUndottedMethod (method_at i)
method_undotted (service_items.Method m) h =
    (identifier_undotted (string_bytes m.name.value) h, tt)
method_undotted i h = tt

methods_undotted : (is : List ServiceItem) → Each IsNamedMethod (map service_item_view is)
    → AllByRecursion HasUndottedMethod (flat_map method_at is)
methods_undotted [] h = tt
methods_undotted (i ∷ is) h =
    all_append HasUndottedMethod (method_at i) (flat_map method_at is) (method_undotted i h.0)
    (methods_undotted is h.1)

pub service_undotted : (s : Service) → IsNamedService (service_view s)
    → IsPlainService (service_of s)
service_undotted s h = record {
  name = identifier_undotted (string_bytes s.name.value) h.0;
  methods = methods_undotted s.items.items h.1;
}

-- ---- oneofs

abbrev HasUndottedOneof : OneofContent → Type 0
HasUndottedOneof o = HasPlainName o.name

item_oneofs : (o : ItemLayer) → IsNamedItem (item_seen o)
    → AllByRecursion HasUndottedOneof (oneof_in o)
item_oneofs (MessageItem-F.Oneof o) h =
    (identifier_undotted (string_bytes o.name.value) (oneof_name o h), tt)
item_oneofs o h = tt

-- the name of a field that has a oneof of its own
if_undotted : (b : Bool) (t : Text) → IsUndotted t
    → AllByRecursion IsUndotted (if b then t ∷ [] else [])
if_undotted true t h = (h, tt)
if_undotted false t h = tt

item_alone : (s : Syntax) (o : ItemLayer) → IsNamedItem (item_seen o)
    → AllByRecursion IsUndotted (alone_in s o)
item_alone s (MessageItem-F.«MessageItem::Field» f) h =
    let written = string_bytes f.name.value in
    let name = field_name_of written (is_group (kind_view f.kind)) in
    if_undotted (tells_presence s f.label) name
    (spelled_undotted (Some name) (field_spelled written (kind_view f.kind) (field_names f h).name))
item_alone s o h = tt

after_undotted : (taken : List Text) (name : Text) (o : OneofContent) → IsUndotted name
    → IsNamedAfter taken name o → HasUndottedOneof o
after_undotted taken name o h is =
    ap (λ (q : OneofContent). has_dot (text_of q.name)) is.2
    ∙ freed_undotted taken (95 ∷ name) is.0 h is.1

all_after : (taken names : List Text) (os : List OneofContent) → AllByRecursion IsUndotted names
    → AreNamedAfter taken names os → AllByRecursion HasUndottedOneof os
all_after taken [] [] h are = tt
all_after taken [] (o ∷ os) h are = absurd are
all_after taken (n ∷ ns) [] h are = absurd are
all_after taken (n ∷ ns) (o ∷ os) h are =
    (after_undotted taken n o h.0 are.0, all_after taken ns os h.1 are.1)

pub oneofs_undotted : (s : Syntax) (is : List MessageItem) (taken : List Text)
    (oneofs more : List OneofContent) → Each HasNamedItem is
    → oneofs ≡ flat_map oneof_at is ++ more → AreNamedAfter taken (flat_map (alone_at s) is) more
    → AllByRecursion HasUndottedOneof oneofs
oneofs_undotted s is taken oneofs more h are after =
    let written = all_made HasNamedItem HasUndottedOneof oneof_at
    (λ i. item_oneofs (out-MessageItem i)) is h in
    let alone = all_made HasNamedItem IsUndotted (alone_at s)
    (λ i. item_alone s (out-MessageItem i)) is h in
    subst (AllByRecursion HasUndottedOneof) (sym are)
    (all_append HasUndottedOneof (flat_map oneof_at is) more written
    (all_after taken (flat_map (alone_at s) is) more alone after))
