use Rattle.std.proofs.Common.{sym, subst}
use Rattle.reflect_scope.specs.Known.{known_of}
use Rattle.reflect_scope.specs.Means.{means}
use Rattle.reflect_scope.specs.Says.{NameMeans}
use Rattle.reflect_scope.specs.Seen.{tells}
use Rattle.reflect_scope.specs.declared.definition.ResolveNameFilter.TheVariants as filters
use Rattle.option_setter.proofs.option_setter.OptionSetter.extension.Goals as goal

-- src/option_setter.rt:154:5
pub returns-in-Some-get_extension_by_name-clause-refused :
    goal.returns-in-Some-get_extension_by_name-clause-refused
returns-in-Some-get_extension_by_name-clause-refused c =
    let scope = c.args.self.now.scope in
    let full = c.as_str-full_name.result.now in
    let there = subst (λ k. NameMeans k (tells scope.seen.now) filters.Extension scope.name.now c.args.name.now (means full c.in-Ok.resolved.definition)) c.names-names.ensures
    (subst (λ n. NameMeans (known_of c.names-names.result.now) (tells scope.seen.now) filters.Extension scope.name.now c.args.name.now (means n c.in-Ok.resolved.definition))
    (sym c.as_str-full_name.ensures.value) c.in-Ok.ensures.means) in (
      full,
      c.in-Some-get_extension_by_name.field-0,
      (c.in-Ok.resolved.definition, there),
      c.in_default.ensures.finds,
      c.in-Some-get_extension_by_name.ensures.finds,
    )
