-- Words of which the rules are made.
use Rattle.std.specs.Prelude.{Bool, true, false, if◌then◌else◌, List, [], ◌∷◌, ◌++◌, Option, slice_get}
use Rattle.std.specs.List.{flat_map}
use Rattle.protox_tree.specs.declared.error.ParseErrorKind.{ParseErrorKind}
use Rattle.protox_tree.specs.declared.types.Syntax.{Syntax}
use Rattle.protox_tree.specs.declared.types.Syntax.TheVariants as syntaxes

-- this fault, where there is reason to tell it
abbrev pub told_if : Bool → ParseErrorKind → List ParseErrorKind
told_if reason fault = if reason then fault ∷ [] else []

-- the first of all that the items of a list give
abbrev pub first_in : {A B : Type 0} → (A → List B) → List A → Option B
first_in f xs = slice_get (flat_map f xs) 0

-- what the items of a list give, each by the items before it, of which these stand before the list
abbrev pub each_behind : {A B : Type 0} → (List A → A → List B) → List A → List A → List B
each_behind f before [] = []
each_behind f before (x ∷ xs) = f before x ++ each_behind f (before ++ x ∷ []) xs

abbrev pub is_proto3 : Syntax → Bool
is_proto3 syntaxes.Proto2 = false
is_proto3 syntaxes.Proto3 = true
