use Rattle.std.proofs.Common.{◌∙◌, ◌+◌, ◌++◌, length, take, ap, sym, arith, zero-add}
use Rattle.std.proofs.lemmas.List.{length-append}
use Rattle.std.specs.List.{flat_map}
use Rattle.protox_field_records.proofs.Loops.{next, one_more}
use Rattle.protox_message_records.proofs.Rows.{fields_at_limit, fields_more}
use Rattle.protox_message_records.specs.MessageRecords.{alone_at, fields_at, fields_from, oneof_at}
use Rattle.protox_message_records.proofs.member.fields.Goals as goal

pub each-preserved : goal.each-preserved
each-preserved c =
    let s = c.args.syntax in
    let own = c.args.own in
    let xs = c.deref-item-items.result.now in
    let i = c.each.item-index in
    let x = c.item-item.result in
    let lt = c.each-test.true in
    let before = c.each.invariant in
    let oneofs = flat_map oneof_at (take i xs) in
    let alone = flat_map (alone_at s) (take i xs) in
    let fields = fields_from s 0 own (take i xs) in
    let oneofs_more = ap length (next oneof_at xs i x lt c.item-item.is) ∙ length-append oneofs (oneof_at x) in
    let alone_more = ap length (next (alone_at s) xs i x lt c.item-item.is) ∙ length-append alone (alone_at s x) in
    record {
      next_is = omega (arith, before.next_is, c.oneofs_in-next.ensures.is, oneofs_more);
      within = omega (arith, before.within, c.oneofs_in-next.ensures.one);
      behind_is = omega (arith, before.behind_is, c.saturating_add-behind.ensures, c.optional_fields_in.ensures.is, alone_more);
      so_far = c.in_ok-add_fields.ensures ∙ ap (λ ys. ys ++ fields_at s c.each.next c.each.behind x) before.so_far
          ∙ ap (λ k. fields ++ fields_at s c.each.next k x) before.behind_is
          ∙ ap (λ ys. fields ++ ys) (fields_at_limit s c.each.next (own + length alone) x)
          ∙ ap (λ n. fields ++ fields_at s n (own + length alone) x) (before.next_is ∙ sym (zero-add (length oneofs)))
          ∙ sym (fields_more s 0 own (take i xs) x) ∙ ap (fields_from s 0 own) (sym (one_more xs i x lt c.item-item.is));
    }
