use Rattle.std.proofs.Common.{◌≡◌, ◌<◌, ℕ, List, Bool, length, take}
use Rattle.std.specs.List.{Contains}
use Rattle.reflect_scope.specs.Marks.{IsMarked, Extends, AreListed}
use Rattle.reflect_scope.proofs.seen.mark_all.Given as goal

pub record Turns (marks was : List Bool) (order old files : List ℕ) : Type 0 where
  pub marked : IsMarked was old → IsMarked marks order
  pub same : length marks ≡ length was
  pub grown : Extends (Contains files) old order
  pub there : IsMarked was old → (g : ℕ) → Contains files g → g < length was → Contains order g
  pub listed : AreListed was old → AreListed marks order

abbrev pub invariant-turns : goal.invariant-turns
invariant-turns l = Turns l.marks.items l.initial.marks.items l.order.items l.initial.order.items (take l.file-index l.files)
