use Rattle.std.proofs.Common.{rules, ◌∙◌, ap, subst, sym, true, false, map, ℕ, Option}
use Rattle.std.specs.Prelude.{All}
use Rattle.std.specs.Option.{unwrap_or}
use Rattle.std.proofs.lemmas.List.Elements.{All-nil, All-cons}
use Rattle.reflect_numbered.specs.Called.{HasNumber, TellsMeant}
use Rattle.reflect_pool.specs.FieldsLeft.{field_type, type_in}
use Rattle.reflect_pool.specs.Parts.{members_of}
use Rattle.reflect_pool.specs.PartsLeft.{members_left}
use Rattle.reflect_tables.specs.Types.{FieldType}
use Rattle.reflect_message.specs.Names.{DynamicMessage}
use Rattle.reflect_format.specs.Filled.{IsAlone}
use Rattle.reflect_format.specs.Refusals.{HoldsAmong}
use Rattle.reflect_format.proofs.Among.{first_held, held_behind}
use Rattle.reflect_format.proofs.target.Target.rival.Goals as goal

abbrev Unset : DynamicMessage → FieldType → Type 0
Unset m g = TellsMeant (HasNumber g.number) m false

pub members-init : goal.members-init
members-init c =
    let same = ap (λ s. map type_in (members_left s)) c.into_iter-member-iterator.ensures.into_iter_gives ∙ c.fields-member-items.ensures.members in
    (λ h. subst (HoldsAmong c.args.message.now) same h, λ h. subst (All (Unset c.args.message.now)) same h)

pub returns-then-has_field_by_number-clause-set : goal.returns-then-has_field_by_number-clause-set
returns-then-has_field_by_number-clause-set c =
    let m = c.args.message.now in
    let told = subst (λ n. TellsMeant (HasNumber n) m true) c.number.ensures (subst (TellsMeant (HasNumber c.number.result) m) c.if-has_field_by_number.true c.has_field_by_number.ensures.tells) in
    (search rules, c.members.invariant.0 (subst (HoldsAmong m) (sym (ap (map type_in) c.in-Some.ensures.steps)) (first_held m (field_type c.in-Some.member) _ told)))

pub members-preserved : goal.members-preserved
members-preserved c =
    let m = c.args.message.now in
    let told = subst (λ n. TellsMeant (HasNumber n) m false) c.number.ensures (subst (TellsMeant (HasNumber c.number.result) m) c.if-has_field_by_number.false c.has_field_by_number.ensures.tells) in (
      λ h. c.members.invariant.0 (subst (HoldsAmong m) (sym (ap (map type_in) c.in-Some.ensures.steps)) (held_behind m (field_type c.in-Some.member) _ h)),
      λ h. c.members.invariant.1 (subst (All (Unset m)) (sym (ap (map type_in) c.in-Some.ensures.steps)) (All-cons (Unset m) (field_type c.in-Some.member) _ told h)),
    )

pub returns-clause-alone : goal.returns-clause-alone
returns-clause-alone c =
    let m = c.args.message.now in
    let f = c.in-Field.field in
    let o = c.in_ok-oneof.oneof in
    let none = c.members.invariant.1 (subst (All (Unset m)) (sym (ap (map type_in) c.in-None.ensures.steps.0)) (All-nil (Unset m))) in
    let here = subst (λ d. All (Unset m) (members_of d.pool.now d.index o.index)) c.in_ok-oneof.ensures.message none in
    subst (λ t. IsAlone t m) (sym c.in-Field.is)
    (λ k e. subst (λ k. All (Unset m) (members_of f.message.pool.now f.message.index k))
    (sym (ap (λ (x : Option ℕ). unwrap_or x k) (sym e ∙ c.in_ok-oneof.ensures.place))) here)
