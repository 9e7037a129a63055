use Rattle.std.proofs.Common.{rules}
use Rattle.std.proofs.lemmas.Bool.Decides.{not_from_Decides}
use Rattle.reflect_tables.specs.Types.{MethodWithin}
use Rattle.reflect_tables.specs.Views.{method_of}
use Rattle.reflect_growth.proofs.More.{one_fails}
use Rattle.reflect_growth.proofs.within.methods_within.Goals as goal

-- the method is not within
pub returns-then-not-method_within : goal.returns-then-not-method_within
returns-then-not-method_within c =
    one_fails (MethodWithin c.args.counts) method_of c.args.items.now c.loop-method.method-index c.method-item.result (search) (search) (not_from_Decides c.method_within.result c.method_within.ensures (search rules))
