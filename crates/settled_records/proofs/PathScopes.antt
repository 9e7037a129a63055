-- The scope of options by their path alone: each list has parts of one kind.
use Rattle.std.proofs.Common.{ℤ, pos, List, [], ◌∷◌, cond}
use Rattle.std.specs.Ordering.{int_eq}
use Rattle.option_parts.specs.declared.option_scope.OptionScope.{OptionScope}
use Rattle.option_parts.specs.declared.option_scope.OptionScope.TheVariants as scopes

abbrev pub enum_scope : List ℤ → OptionScope
enum_scope [] = scopes.Enum
enum_scope (number ∷ rest) = scopes.EnumValue

abbrev pub service_scope : List ℤ → OptionScope
service_scope [] = scopes.Service
service_scope (number ∷ rest) = scopes.Method

abbrev pub message_scope : List ℤ → OptionScope
message_scope [] = scopes.Message
message_scope (number ∷ []) = scopes.Message
message_scope (number ∷ place ∷ rest) =
    cond (int_eq number (pos 3)) (message_scope rest)
    (cond (int_eq number (pos 4)) (enum_scope rest)
    (cond (int_eq number (pos 5)) scopes.ExtensionRange
    (cond (int_eq number (pos 8)) scopes.Oneof scopes.Field)))

abbrev pub file_scope : List ℤ → OptionScope
file_scope [] = scopes.File
file_scope (number ∷ []) = scopes.File
file_scope (number ∷ place ∷ rest) =
    cond (int_eq number (pos 4)) (message_scope rest)
    (cond (int_eq number (pos 5)) (enum_scope rest)
    (cond (int_eq number (pos 6)) (service_scope rest) scopes.Field))
