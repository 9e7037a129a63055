use Rattle.std.proofs.Common.{Some, None, sym, ap, ◌∙◌, subst}
use Rattle.reflect_any.specs.Any.{IsAny}
use Rattle.reflect_message.specs.Shown.{shown}
use Rattle.reflect_pool.specs.declared.message.MessageDescriptor.{MessageDescriptor}
use Rattle.print_parts.specs.Expands.{FindsByUrl, bytes_of, other, refused, text_of, without_bytes, without_type, without_url}
use Rattle.print_parts.proofs.AnyParts.{held_under_url, under}
use Rattle.print_parts.proofs.any.held_message.Goals as goal

pub returns-in_default : goal.returns-in_default
returns-in_default c = other (λ any. c.in_default.ensures.other (subst IsAny (sym c.descriptor.ensures) any))

pub returns-in_default-text_in : goal.returns-in_default-text_in
returns-in_default-text_in c =
    without_url (shown c.in_ok-type_url.type_url)
    (under c.args.message.now c.descriptor.result c.in-Some.fields.type_url 1 c.in_ok-type_url.type_url c.descriptor.ensures c.in-Some.ensures.type_url c.in_ok-type_url.ensures.shows)
    (sym (c.in_default-text_in.ensures ∙ ap text_of c.value.ensures))

pub returns-in_default-named_type : goal.returns-in_default-named_type
returns-in_default-named_type c =
    without_type (shown c.in_ok-type_url.type_url) c.in-Some-text_in.url.now
    (under c.args.message.now c.descriptor.result c.in-Some.fields.type_url 1 c.in_ok-type_url.type_url c.descriptor.ensures c.in-Some.ensures.type_url c.in_ok-type_url.ensures.shows)
    (sym (c.in-Some-text_in.ensures ∙ ap text_of c.value.ensures))
    (subst (λ (d : MessageDescriptor). FindsByUrl d.pool.now c.in-Some-text_in.url.now None) c.descriptor-2.ensures c.in_default-named_type.ensures.finds)

pub returns-in_default-bytes_in : goal.returns-in_default-bytes_in
returns-in_default-bytes_in c =
    without_bytes (shown c.in_ok-value.value)
    (under c.args.message.now c.descriptor.result c.in-Some.fields.value 2 c.in_ok-value.value c.descriptor.ensures c.in-Some.ensures.value c.in_ok-value.ensures.shows)
    (sym (c.in_default-bytes_in.ensures ∙ ap bytes_of c.value-2.ensures))

pub returns-in-Ok : goal.returns-in-Ok
returns-in-Ok c =
    held_under_url c.args.message.now c.in_ok-type_url.type_url c.in_ok-value.value c.in-Some-text_in.url.now c.in-Some-bytes_in.bytes.now c.in-Some-named_type.kind c.in-Ok.body
    (subst IsAny c.descriptor.ensures c.in-Some.ensures.any)
    (under c.args.message.now c.descriptor.result c.in-Some.fields.type_url 1 c.in_ok-type_url.type_url c.descriptor.ensures c.in-Some.ensures.type_url c.in_ok-type_url.ensures.shows)
    (sym (c.in-Some-text_in.ensures ∙ ap text_of c.value.ensures))
    (subst (λ (d : MessageDescriptor). FindsByUrl d.pool.now c.in-Some-text_in.url.now (Some c.in-Some-named_type.kind)) c.descriptor-2.ensures c.in-Some-named_type.ensures.finds)
    (c.in-Some-named_type.ensures.pool ∙ ap (λ (d : MessageDescriptor). d.pool.now) c.descriptor-2.ensures)
    (under c.args.message.now c.descriptor.result c.in-Some.fields.value 2 c.in_ok-value.value c.descriptor.ensures c.in-Some.ensures.value c.in_ok-value.ensures.shows)
    (sym (c.in-Some-bytes_in.ensures ∙ ap bytes_of c.value-2.ensures))
    c.in-Ok.ensures.same_type c.in-Ok.ensures.read

pub returns : goal.returns
returns c =
    refused (shown c.in_ok-type_url.type_url) (shown c.in_ok-value.value) c.in-Some-text_in.url.now c.in-Some-bytes_in.bytes.now c.in-Some-named_type.kind c.in-Err.fault
    (under c.args.message.now c.descriptor.result c.in-Some.fields.type_url 1 c.in_ok-type_url.type_url c.descriptor.ensures c.in-Some.ensures.type_url c.in_ok-type_url.ensures.shows)
    (sym (c.in-Some-text_in.ensures ∙ ap text_of c.value.ensures))
    (subst (λ (d : MessageDescriptor). FindsByUrl d.pool.now c.in-Some-text_in.url.now (Some c.in-Some-named_type.kind)) c.descriptor-2.ensures c.in-Some-named_type.ensures.finds)
    (c.in-Some-named_type.ensures.pool ∙ ap (λ (d : MessageDescriptor). d.pool.now) c.descriptor-2.ensures)
    (under c.args.message.now c.descriptor.result c.in-Some.fields.value 2 c.in_ok-value.value c.descriptor.ensures c.in-Some.ensures.value c.in_ok-value.ensures.shows)
    (sym (c.in-Some-bytes_in.ensures ∙ ap bytes_of c.value-2.ensures))
    c.in_ok-pass_fault-in-Err.ensures c.in-Err.ensures.fault
