use Rattle.std.proofs.Common.{IfNone, IfSome, ap, subst}
use Rattle.std.specs.Option.{option_map}
use Rattle.descriptor_records.specs.Content.{options_view}
use Rattle.reflect_options.specs.Settled.{Settles, StayAsTheyAre, lists_of}
use Rattle.reflect_options.specs.Visiting.{entity_of}
use Rattle.reflect_options.proofs.Deciding.{kept_ok, left, none_noted, nothing_to_settle, refused_ok}
use Rattle.reflect_options.proofs.options_visitor.OptionsVisitor.settle.Goals as goal

pub returns-in_default : goal.returns-in_default
returns-in_default c = nothing_to_settle c.args.self.now (entity_of c.args.entity) (ap (option_map (λ o. o.now)) c.in_default.is)

pub returns-in-Ok-Some : goal.returns-in-Ok-Some
returns-in-Ok-Some c =
    let clean = none_noted c.args.self.now.fault c.is_some.result c.is_some.ensures c.if-is_some.false in
    let settled = c.in-Ok-Some.settled in
    kept_ok c.args.self.now (entity_of c.args.entity) c.in-Some.options.now (ap (option_map (λ o. o.now)) c.in-Some.is) c.names_from-names.result c.names_from-names.ensures.pool c.names_from-names.ensures.seen c.names_from-names.ensures.name c.keep.result c.keep.new.self clean settled.options (lists_of settled.targets)
    (subst (λ o. IfSome o (λ s. Settles c.args.entity.scope c.names_from-names.result c.in-Some.options.now (options_view s.options) (lists_of s.targets))) c.in-Ok-Some.field-0-is c.in-Ok-Some.ensures.settled) c.keep.ensures.same c.keep.ensures.fault c.keep.ensures.edit c.keep.ensures.moves

pub returns-in-Ok-None : goal.returns-in-Ok-None
returns-in-Ok-None c =
    left c.args.self.now (entity_of c.args.entity) c.in-Some.options.now (ap (option_map (λ o. o.now)) c.in-Some.is) c.names_from-names.result c.names_from-names.ensures.pool c.names_from-names.ensures.seen c.names_from-names.ensures.name
    (subst (λ o. IfNone o (StayAsTheyAre c.args.entity.scope c.names_from-names.result c.in-Some.options.now)) c.in-Ok-None.field-0-is c.in-Ok-None.ensures.none)

pub returns-in-Err : goal.returns-in-Err
returns-in-Err c =
    let clean = none_noted c.args.self.now.fault c.is_some.result c.is_some.ensures c.if-is_some.false in
    refused_ok c.args.self.now (entity_of c.args.entity) c.in-Some.options.now (ap (option_map (λ o. o.now)) c.in-Some.is) c.names_from-names.result c.names_from-names.ensures.pool c.names_from-names.ensures.seen c.names_from-names.ensures.name c.refuse.result c.refuse.new.self clean c.in-Err.fault.kind c.in-Err.fault.option
    c.in-Err.ensures.refused c.refuse.ensures.same c.refuse.ensures.noted
