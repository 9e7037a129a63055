-- The words for what a reference may mean.
use Rattle.std.specs.Prelude.{ℕ, List, codes}
use Rattle.reflect_scope.specs.declared.definition.ResolveNameFilter.{ResolveNameFilter}
use Rattle.reflect_scope.specs.declared.definition.ResolveNameFilter.TheVariants as filter

-- what is wanted, as a refusal says it
abbrev pub wanted_words : ResolveNameFilter → List ℕ
wanted_words filter.Message = codes "a message type"
wanted_words filter.FieldType = codes "a message or enum type"
wanted_words filter.Extension = codes "an extension"
