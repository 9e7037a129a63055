-- Faults that tell no size.
use Rattle.protox_tree.specs.declared.error.ParseErrorKind.{ParseErrorKind}
use Rattle.protox_tree.specs.declared.error.ParseErrorKind.TheVariants as kinds

-- This is not that a source is too large.
abbrev pub IsNoSize : ParseErrorKind → Type 0
IsNoSize kinds.FileTooLarge = ⊥
IsNoSize _ = Unit {0}
