-- What full names stand for, as a function, and how declarations add to it.
use Rattle.std.specs.Prelude.{◌≡◌, ◌<◌, ℕ, List, Bool, true, false, ◌&&◌, Option, Some, None, IfSome, nat_lt}
use Rattle.name_table.specs.Known.{known_in, first_stays, kept}
use Rattle.name_table.specs.declared.table.NameTable.{NameTable}
use Rattle.reflect_scope.specs.declared.definition.Definition.{Definition}
use Rattle.reflect_scope.specs.declared.definition.DefinitionKind.{DefinitionKind}
use Rattle.reflect_scope.specs.declared.definition.DefinitionKind.TheVariants as kind

abbrev pub Known : Type 0
Known = List ℕ → Option Definition

abbrev pub known_of : NameTable Definition → Known
known_of names = known_in names

abbrev pub is_package : DefinitionKind → Bool
is_package kind.Package = true
is_package _ = false

-- a package name may repeat as a package, and no other name
abbrev pub may_repeat : DefinitionKind → DefinitionKind → Bool
may_repeat first next = is_package first && is_package next

-- the first definition of a name stays
abbrev pub declared : Known → List ℕ → Definition → Known
declared known name d = first_stays known name d

-- the name is taken by what may not repeat
abbrev pub is_taken : Known → List ℕ → Definition → Bool
is_taken known name d = elim (known name)
    [ None ↦ false | Some e ↦ elim (may_repeat e.kind d.kind) [ true ↦ false | false ↦ true ] ]

-- the definition, if it is of a file below the mark
abbrev pub kept_first : ℕ → Option Definition → Option Definition
kept_first mark found = kept (λ d. nat_lt d.file mark) found

-- the files below the mark define the same
abbrev pub KeepsFirst : ℕ → Known → Known → Type 0
KeepsFirst mark old new = (t : List ℕ) → kept_first mark (new t) ≡ kept_first mark (old t)

-- each definition is of a file below the top
abbrev pub AllBelow : ℕ → Known → Type 0
AllBelow top known = (t : List ℕ) → IfSome (known t) (λ d. d.file < top)
