use Rattle.std.proofs.Common.{◌≡◌, None, inl, subst, rules, arith}
use Rattle.reflect_pool.specs.FindsNames.{FindsMessage}
use Rattle.option_parts.specs.OptionTypes.{IsThere, TellsName}
use Rattle.option_parts.proofs.OptionTypes.{one_more, every_scope, none_there, all_good, one_told, there}
use Rattle.option_parts.proofs.option_types.require_option_types.Goals as goal

pub loop-scope-init : goal.loop-scope-init
loop-scope-init c i lt = absurd (omega (arith, lt))

pub returns-then-is_none-clause-told : goal.returns-then-is_none-clause-told
returns-then-is_none-clause-told c =
    let none : c.get_message_by_name.result ≡ None = search rules in
    let finds = subst (FindsMessage c.args.pool.now c.type_name.result.now) none c.get_message_by_name.ensures.finds in
    inl (
      c.loop-scope.scope-index,
      subst (λ n. TellsName n c.in_ok-bad.field-0) c.type_name-then-is_none.ensures c.in_ok-bad.ensures,
      none_there c.args.pool.now _ c.type_name.result.now c.type_name.ensures finds,
      c.loop-scope.invariant,
    )

pub loop-scope-preserved : goal.loop-scope-preserved
loop-scope-preserved c = one_more (IsThere c.args.pool.now) c.loop-scope.scope-index c.loop-scope.invariant
    (there c.args.pool.now _ c.type_name.result.now c.get_message_by_name.result c.type_name.ensures c.get_message_by_name.ensures.finds c.if-is_none.ensures)

pub returns-clause-good : goal.returns-clause-good
returns-clause-good c =
    all_good c.args.pool.now c.check_option_types.result
    (every_scope (IsThere c.args.pool.now) c.loop-scope.scope-index (omega (arith, c.loop-scope-test.false)) c.loop-scope.invariant)
    c.check_option_types.ensures.good

pub returns-clause-told : goal.returns-clause-told
returns-clause-told c =
    one_told c.args.pool.now c.check_option_types.result
    (every_scope (IsThere c.args.pool.now) c.loop-scope.scope-index (omega (arith, c.loop-scope-test.false)) c.loop-scope.invariant)
    c.check_option_types.ensures.told
