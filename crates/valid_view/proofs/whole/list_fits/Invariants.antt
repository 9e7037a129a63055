use Rattle.std.proofs.Common.{take}
use Rattle.std.specs.List.{AllByRecursion}
use Rattle.reflect_scalar.specs.Written.{Fits}
use Rattle.valid_view.specs.Inside.{IfSingle}
use Rattle.valid_view.proofs.whole.list_fits.Given as goal

abbrev pub invariant-values : goal.invariant-values
invariant-values l = AllByRecursion (IfSingle Fits) (take l.value-index l.values)
