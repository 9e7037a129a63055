-- Messages whose oneofs are set behind their other parts.
use Rattle.std.proofs.Common.{◌≡◌, ◌∙◌, ap, sym, rules, Vec, Global}
use Rattle.descriptor_records.specs.Content.{message_view}
use Rattle.descriptor_records.specs.declared.field.OneofDescriptorProto.{OneofDescriptorProto}
use Rattle.descriptor_records.specs.declared.message.DescriptorProto.{DescriptorProto}
use Rattle.descriptor_records.specs.declared.message.DescriptorProto.TheOpen.{DescriptorProto-F}
use Rattle.descriptor_records.specs.declared.message.DescriptorProto.TheViews.{out-DescriptorProto, roll-DescriptorProto, the_lemmas}
use Rattle.descriptor_records.proofs.Messages.{level_view, message_view-roll}

-- one level of a message is what it was made of
pub unrolled : (x : DescriptorProto-F DescriptorProto) → out-DescriptorProto (roll-DescriptorProto x) ≡ x
unrolled x = let e : x ≡ out-DescriptorProto (roll-DescriptorProto x) = search (rules, the_lemmas) in sym e

abbrev with_oneofs : DescriptorProto-F DescriptorProto → Vec OneofDescriptorProto Global → DescriptorProto-F DescriptorProto
with_oneofs x oneofs = record x { oneof_decl = oneofs }

pub with_oneofs_view : (x : DescriptorProto-F DescriptorProto) (oneofs : Vec OneofDescriptorProto Global) →
    message_view (roll-DescriptorProto (with_oneofs (out-DescriptorProto (roll-DescriptorProto x)) oneofs)) ≡ level_view (with_oneofs x oneofs)
with_oneofs_view x oneofs = message_view-roll _ ∙ ap (λ o. level_view (with_oneofs o oneofs)) (unrolled x)
