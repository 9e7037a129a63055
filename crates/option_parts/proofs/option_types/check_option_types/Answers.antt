use Rattle.std.proofs.Common.{subst, arith}
use Rattle.option_parts.specs.OptionTypes.{CanRead, IsOptionType, TellsName, scope_at}
use Rattle.option_parts.proofs.OptionTypes.{one_more, every_scope, none_can_read, one_can_read, one_cannot, fails}
use Rattle.option_parts.proofs.option_types.check_option_types.Goals.{in-Some+else-not-is_good, in_default}
use Rattle.option_parts.proofs.option_types.check_option_types.Goals as goal

pub loop-scope-init : goal.loop-scope-init
loop-scope-init c i lt = absurd (omega (arith, lt))

pub returns-then-not-is_good-clause-told : goal.returns-then-not-is_good-clause-told
returns-then-not-is_good-clause-told c =
    let pool = c.args.pool.now in
    let d = c.in-Some.options in
    let s = scope_at c.loop-scope.scope-index in
    let bad = subst (λ p. IsOptionType p s d.index → ⊥) c.in-Some.ensures.pool (fails c.is_good.result c.is_good.ensures c.if-not-is_good.true) in (
      c.loop-scope.scope-index,
      subst (λ n. TellsName n c.in_ok-bad.field-0) c.type_name-then-not-is_good.ensures c.in_ok-bad.ensures,
      one_cannot pool s c.type_name.result.now c.type_name.ensures d.index c.in-Some.ensures.finds bad,
      c.loop-scope.invariant,
    )

pub loop-scope-preserved : goal.loop-scope-preserved
loop-scope-preserved c =
    one_more (CanRead c.args.pool.now) c.loop-scope.scope-index c.loop-scope.invariant
    (elim c.match-get_message_by_name.branch [
      | in-Some+else-not-is_good w ↦
          one_can_read c.args.pool.now _ c.type_name.result.now c.type_name.ensures w.in-Some.options.index w.in-Some.ensures.finds
          (subst (λ p. IsOptionType p _ w.in-Some.options.index) w.in-Some.ensures.pool (w.is_good.ensures.0 w.if-not-is_good.false))
      | in_default w ↦ none_can_read c.args.pool.now _ c.type_name.result.now c.type_name.ensures w.in_default.ensures.finds
    ])

pub returns-clause-good : goal.returns-clause-good
returns-clause-good c = every_scope (CanRead c.args.pool.now) c.loop-scope.scope-index (omega (arith, c.loop-scope-test.false)) c.loop-scope.invariant
