-- Loops that change the entries of a list in turn, and messages whose parts are changed, as they are seen.
use Rattle.std.proofs.Common.{◌≡◌, ◌∙◌, refl, ◌<◌, ◌+◌, ◌++◌, ℕ, List, [], ◌∷◌, map, take, drop, length, slice_set, get_or, ap, sym, subst, rules}
use Rattle.std.proofs.lemmas.List.{map-set, get_or-map}
use Rattle.std.proofs.lemmas.List.Edits.{map_over_more}
use Rattle.std.specs.Option.{option_map}
use Rattle.std.specs.declared.alloc.Global.{Global}
use Rattle.std.specs.declared.vec.Vec.{Vec}
use Rattle.descriptor_records.specs.Content.{MessageContent, message, messages_of, more_messages, message_view, text_view, texts_view, field_view, enum_view, extension_range_view, oneof_view, options_view}
use Rattle.descriptor_records.specs.declared.enums.EnumDescriptorProto.{EnumDescriptorProto}
use Rattle.descriptor_records.specs.declared.field.FieldDescriptorProto.{FieldDescriptorProto}
use Rattle.descriptor_records.specs.declared.message.DescriptorProto.{DescriptorProto}
use Rattle.descriptor_records.specs.declared.message.DescriptorProto.TheOpen.{DescriptorProto-F}
use Rattle.descriptor_records.specs.declared.message.DescriptorProto.TheViews.{out-DescriptorProto, roll-DescriptorProto, the_lemmas}
use Rattle.descriptor_records.proofs.Messages.{level_view}
use Rattle.option_parts.specs.TypedOptions.{typed_field, typed_enum, typed_message, typed_messages}

-- the entry at a place is changed, behind those that were
pub one_more : {A B : Type 0} (view : A → B) (f : B → B) (xs : List B) (items : List A) (i : ℕ) (was now : A) → i < length items → length items ≡ length xs → map view items ≡ map f (take i xs) ++ drop i xs → was ≡ get_or items i was → view now ≡ f (view was) →
    map view (slice_set items i now) ≡ map f (take (i + 1) xs) ++ drop (i + 1) xs
one_more view f xs items i was now lt same before here changed =
    map-set view items i now ∙ ap (λ x. slice_set (map view items) i x) changed
    ∙ map_over_more f xs (map view items) i (view was) (subst (λ n. i < n) same lt) before (ap view here ∙ sym (get_or-map view items i was (view was) lt))

-- so it is of the messages in a message
pub typed_all : (ms : List MessageContent) → messages_of (map typed_message ms) ≡ typed_messages (messages_of ms)
typed_all [] = refl
typed_all (m ∷ ms) = ap (more_messages (typed_message m)) (typed_all ms)

-- one level of a message is what it was made of
pub unrolled : (x : DescriptorProto-F DescriptorProto) → out-DescriptorProto (roll-DescriptorProto x) ≡ x
unrolled x = let e : x ≡ out-DescriptorProto (roll-DescriptorProto x) = search (rules, the_lemmas) in sym e

-- a level whose fields, extensions, enums and messages are changed
typed_level : (m : DescriptorProto-F DescriptorProto) (fields extensions : Vec FieldDescriptorProto Global) (enums : Vec EnumDescriptorProto Global) (nested : Vec DescriptorProto Global) →
    map field_view fields.items ≡ map typed_field (map field_view m.field.items) → map field_view extensions.items ≡ map typed_field (map field_view m.extension.items) →
    map enum_view enums.items ≡ map typed_enum (map enum_view m.enum_type.items) → map message_view nested.items ≡ map typed_message (map message_view m.nested_type.items) →
    level_view (record m { field = fields; extension = extensions; enum_type = enums; nested_type = nested }) ≡ typed_message (level_view m)
typed_level m fields extensions enums nested f x e n = λ i. message (text_view m.name) (f i) (x i) ((ap messages_of n ∙ typed_all (map message_view m.nested_type.items)) i) (e i) (map extension_range_view m.extension_range.items) (map oneof_view m.oneof_decl.items) (option_map options_view m.options) m.reserved_range.items (texts_view m.reserved_name)

abbrev with_fields : DescriptorProto-F DescriptorProto → Vec FieldDescriptorProto Global → DescriptorProto-F DescriptorProto
with_fields m fields = record m { field = fields }

abbrev with_extensions : DescriptorProto-F DescriptorProto → Vec FieldDescriptorProto Global → DescriptorProto-F DescriptorProto
with_extensions m extensions = record m { extension = extensions }

abbrev with_enums : DescriptorProto-F DescriptorProto → Vec EnumDescriptorProto Global → DescriptorProto-F DescriptorProto
with_enums m enums = record m { enum_type = enums }

abbrev with_nested : DescriptorProto-F DescriptorProto → Vec DescriptorProto Global → DescriptorProto-F DescriptorProto
with_nested m nested = record m { nested_type = nested }

abbrev again : DescriptorProto-F DescriptorProto → DescriptorProto-F DescriptorProto
again x = out-DescriptorProto (roll-DescriptorProto x)

-- a message that is changed in steps: its fields, its extensions, its enums, its messages
pub typed_steps : (m : DescriptorProto-F DescriptorProto) (fields extensions : Vec FieldDescriptorProto Global) (enums : Vec EnumDescriptorProto Global) (nested : Vec DescriptorProto Global) →
    map field_view fields.items ≡ map typed_field (map field_view m.field.items) →
    map field_view extensions.items ≡ map typed_field (map field_view (again (with_fields m fields)).extension.items) →
    map enum_view enums.items ≡ map typed_enum (map enum_view (again (with_extensions (again (with_fields m fields)) extensions)).enum_type.items) →
    map message_view nested.items ≡ map typed_message (map message_view (again (with_enums (again (with_extensions (again (with_fields m fields)) extensions)) enums)).nested_type.items) →
    level_view (with_nested (again (with_enums (again (with_extensions (again (with_fields m fields)) extensions)) enums)) nested) ≡ typed_message (level_view m)
typed_steps m fields extensions enums nested f x e n =
    let one = unrolled (with_fields m fields) in
    let two : again (with_extensions (again (with_fields m fields)) extensions) ≡ with_extensions (with_fields m fields) extensions = unrolled _ ∙ ap (λ o. with_extensions o extensions) one in
    let three : again (with_enums (again (with_extensions (again (with_fields m fields)) extensions)) enums) ≡ with_enums (with_extensions (with_fields m fields) extensions) enums = unrolled _ ∙ ap (λ o. with_enums o enums) two in
    ap (λ o. level_view (with_nested o nested)) three ∙ typed_level m fields extensions enums nested f
    (x ∙ ap (λ (o : DescriptorProto-F DescriptorProto). map typed_field (map field_view o.extension.items)) one)
    (e ∙ ap (λ (o : DescriptorProto-F DescriptorProto). map typed_enum (map enum_view o.enum_type.items)) two)
    (n ∙ ap (λ (o : DescriptorProto-F DescriptorProto). map typed_message (map message_view o.nested_type.items)) three)
