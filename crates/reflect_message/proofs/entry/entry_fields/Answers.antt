use Rattle.std.proofs.Common.{rules, ◌≡◌, inl, inr, IfNone, Option, None, Some, sym, ap, ◌∙◌, subst}
use Rattle.reflect_pool.specs.FieldsLeft.{field_type}
use Rattle.reflect_pool.specs.Kinds.{IsKind}
use Rattle.reflect_pool.specs.declared.kind.Kind.{Kind}
use Rattle.reflect_pool.specs.declared.kind.Kind.TheVariants as kinds
use Rattle.reflect_pool.specs.declared.message.MessageDescriptor.{MessageDescriptor}
use Rattle.reflect_message.proofs.Known.{entry_is, field_missing, here}
use Rattle.reflect_message.proofs.entry.entry_fields.Goals as goal

if_none : {T : Type 0} (P : Type 0) (o : Option T) → o ≡ None → P → IfNone o P
if_none P o e h = subst (λ o. IfNone o P) (sym e) h

pub returns-in_err-get_field-in-Message-clause-none : goal.returns-in_err-get_field-in-Message-clause-none
returns-in_err-get_field-in-Message-clause-none c = λ pool k is.
    let m = c.in-Message.entry in
    let kind : IsKind pool (kinds.Message m) k = subst (λ (kind : Kind). IsKind pool kind k) c.in-Message.is is in
    let none : c.from_residual.result ≡ None = search rules in
    if_none _ c.from_residual.result none (inl (entry_is pool k m 1 None kind (field_missing m.pool.now m.index 1 c.in_err-get_field-in-Message.ensures.first)))

pub returns-in_err-get_field-in-Message-2-clause-none : goal.returns-in_err-get_field-in-Message-2-clause-none
returns-in_err-get_field-in-Message-2-clause-none c = λ pool k is.
    let m = c.in-Message.entry in
    let kind : IsKind pool (kinds.Message m) k = subst (λ (kind : Kind). IsKind pool kind k) c.in-Message.is is in
    let r = c.from_residual-in_err-get_field-in-Message-2.result in
    let none : r ≡ None = search rules in
    if_none _ r none (inr (entry_is pool k m 2 None kind (field_missing m.pool.now m.index 2 c.in_err-get_field-in-Message-2.ensures.first)))

pub returns-in_ok-get_field-in-Message-2-clause-some : goal.returns-in_ok-get_field-in-Message-2-clause-some
returns-in_ok-get_field-in-Message-2-clause-some c = λ pool k is.
    let m = c.in-Message.entry in
    let kind : IsKind pool (kinds.Message m) k = subst (λ (kind : Kind). IsKind pool kind k) c.in-Message.is is in
    let keys = c.in_ok-get_field-in-Message in
    let values = c.in_ok-get_field-in-Message-2 in (
      ap (λ (d : MessageDescriptor). d.pool.now) keys.ensures.message ∙ kind.0,
      ap (λ (d : MessageDescriptor). d.pool.now) values.ensures.message ∙ kind.0,
      entry_is pool k m 1 (Some (field_type keys.field-0)) kind (here m 1 keys.field-0 keys.ensures.message keys.ensures.first),
      entry_is pool k m 2 (Some (field_type values.field-0)) kind (here m 2 values.field-0 values.ensures.message values.ensures.first),
    )
