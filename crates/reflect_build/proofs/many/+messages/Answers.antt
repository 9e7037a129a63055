use Rattle.std.proofs.Common.{◌≡◌, ◌+◌, ℕ, length, map, sum, sum_by, subst, arith}
use Rattle.std.proofs.lemmas.List.Sums.{sum-map}
use Rattle.descriptor_records.specs.declared.message.DescriptorProto.TheFolds.{fold_out-DescriptorProto}
use Rattle.descriptor_records.specs.declared.message.DescriptorProto.TheViews.{out-DescriptorProto}
use Rattle.reflect_build.specs.Many.{in_enum, in_message, message_step, as_u64}
use Rattle.reflect_build.proofs.many.+messages.Goals as goal

pub count_message-returns : goal.count_message-returns
count_message-returns t c =
    let m = c.args.message.now in
    let l = out-DescriptorProto m in
    let whole : in_message m ≡ 1 + (length l.field.items + (length l.extension.items
    + (length l.oneof_decl.items + (sum_by in_enum l.enum_type.items
    + sum (map in_message l.nested_type.items))))) = fold_out-DescriptorProto ℕ message_step m in
    let inside : sum (map in_message l.nested_type.items) ≡ sum_by in_message l.nested_type.items
    = sum-map in_message l.nested_type.items in
    let nested : c.count_messages-nested.result ≡ as_u64 (sum_by in_message l.nested_type.items) =
    subst (λ ms. c.count_messages-nested.result ≡ as_u64 (sum_by in_message ms)) c.as_slice.ensures.value
    c.count_messages-nested.ensures in
    let enums : c.count_enums.result ≡ as_u64 (sum_by in_enum l.enum_type.items) =
    subst (λ es. c.count_enums.result ≡ as_u64 (sum_by in_enum es)) c.as_slice-2.ensures.value
    c.count_enums.ensures in
    grind (
      arith,
      whole,
      inside,
      nested,
      enums,
      c.saturating_add.ensures,
      c.saturating_add-2.ensures,
      c.saturating_add-3.ensures,
      c.saturating_add-4.ensures,
      c.saturating_add-5.ensures,
      c.len.ensures,
      c.len-2.ensures,
      c.len-3.ensures,
    )
