use Rattle.std.proofs.Common.{rules, subst, sym}
use Rattle.reflect_pool.specs.Kinds.{IsKind}
use Rattle.reflect_pool.specs.declared.kind.Kind.TheVariants as kinds
use Rattle.reflect_message.specs.declared.value.ValueOf.{the_lemmas}
use Rattle.reflect_message.proofs.defaults.default_one.Goals as goal

pub returns-in-Message-clause-message : goal.returns-in-Message-clause-message
returns-in-Message-clause-message g c = λ type.
    let pool = g.F.FieldDescriptorLike.pool c.args.field.now in
    let t = (g.F.FieldDescriptorLike.says c.args.field.now).kind in
    let is = subst (λ k. IsKind pool k t) c.in-Message.is c.kind.ensures in
    (c.new.result, search (rules, the_lemmas), (subst (λ d. IsKind pool (kinds.Message d) t) (sym c.new.ensures.same_type) is, c.new.ensures.empty))
