use Rattle.option_parts.specs.OptionTypes.{HoldsBefore, IsThere}
use Rattle.option_parts.proofs.option_types.require_option_types.Given as goal

abbrev pub invariant-loop-scope : goal.invariant-loop-scope
invariant-loop-scope l = HoldsBefore (IsThere l.pool) l.scope-index
