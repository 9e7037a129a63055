use Rattle.option_parts.specs.OptionTypes.{CanRead, HoldsBefore}
use Rattle.option_parts.proofs.option_types.check_option_types.Given as goal

abbrev pub invariant-loop-scope : goal.invariant-loop-scope
invariant-loop-scope l = HoldsBefore (CanRead l.pool) l.scope-index
