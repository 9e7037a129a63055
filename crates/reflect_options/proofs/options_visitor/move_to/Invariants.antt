use Rattle.std.specs.declared.alloc.Global.{Global}
use Rattle.std.proofs.Common.{ℤ, Vec, map, take}
use Rattle.reflect_options.specs.Settling.{moves_from}
use Rattle.reflect_options.specs.Visiting.{MovesMore}
use Rattle.reflect_options.proofs.options_visitor.move_to.Given as goal

abbrev pub invariant-targets : goal.invariant-targets
invariant-targets l = MovesMore l.initial.moved (moves_from l.options 0 (map (λ (p : Vec ℤ Global). p.items) (take l.place l.target-items))) l.moved
