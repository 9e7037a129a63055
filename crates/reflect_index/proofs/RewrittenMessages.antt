-- A message whose references are rewritten in place: its fields, its messages, its extensions.
use Rattle.std.proofs.Common.{◌≡◌, ◌∙◌, map, ap, Global}
use Rattle.std.specs.Prelude.{Vec}
use Rattle.descriptor_records.specs.declared.field.FieldDescriptorProto.{FieldDescriptorProto}
use Rattle.descriptor_records.specs.declared.message.DescriptorProto.{DescriptorProto}
use Rattle.descriptor_records.specs.declared.message.DescriptorProto.TheOpen.{DescriptorProto-F}
use Rattle.descriptor_records.specs.declared.message.DescriptorProto.TheViews.{roll-DescriptorProto, out-DescriptorProto}
use Rattle.reflect_known.specs.GivenNames.{field_name, names_of_message}
use Rattle.reflect_known.proofs.MessageNames.{names_with, same_level, unrolled}

abbrev pub Level : Type 0
Level = DescriptorProto-F DescriptorProto

abbrev pub again : Level → Level
again x = out-DescriptorProto (roll-DescriptorProto x)

abbrev pub with_fields : Level → Vec FieldDescriptorProto Global → Level
with_fields m fields = record m { field = fields }

abbrev pub with_nested : Level → Vec DescriptorProto Global → Level
with_nested m nested = record m { nested_type = nested }

abbrev pub with_extensions : Level → Vec FieldDescriptorProto Global → Level
with_extensions m extensions = record m { extension = extensions }

pub names_kept : (was : DescriptorProto) (fields : Vec FieldDescriptorProto Global)
    (nested : Vec DescriptorProto Global) (extensions : Vec FieldDescriptorProto Global)
    → map field_name fields.items ≡ map field_name (out-DescriptorProto was).field.items
    → map names_of_message nested.items
    ≡ map names_of_message
    (again (with_fields (out-DescriptorProto was) fields)).nested_type.items
    → map field_name extensions.items
    ≡ map field_name
    (again (with_nested (again (with_fields (out-DescriptorProto was) fields))
    nested)).extension.items
    → names_of_message
    (roll-DescriptorProto (with_extensions
    (again (with_nested (again (with_fields (out-DescriptorProto was) fields)) nested))
    extensions)) ≡ names_of_message was
names_kept was fields nested extensions e f g =
    let m = out-DescriptorProto was in
    let a : Level = with_fields m fields in
    let b : Level = with_nested a nested in
    let one : again a ≡ a = unrolled a in
    let two : again (with_nested (again a) nested) ≡ b = unrolled (with_nested (again a) nested)
    ∙ ap (λ (o : Level). with_nested o nested) one in
    let inner = f ∙ ap (λ (o : Level). map names_of_message o.nested_type.items) one in
    let last = g ∙ ap (λ (o : Level). map field_name o.extension.items) two in
    ap (λ (o : Level). names_of_message (roll-DescriptorProto (with_extensions o extensions))) two
    ∙ same_level (with_extensions b extensions) was
    (ap (λ fs. names_with m fs (map names_of_message nested.items)
    (map field_name extensions.items)) e
    ∙ ap (λ ns. names_with m (map field_name m.field.items) ns (map field_name extensions.items))
    inner
    ∙ ap (λ xs. names_with m (map field_name m.field.items)
    (map names_of_message m.nested_type.items) xs) last)
