-- What files tell each other: names, imports, and what is declared under which full name. It has no
-- reference, and linking leaves it.
use Rattle.std.specs.Prelude.{◌≡◌, ◌≤◌, ℕ, List, [], ◌∷◌, ◌++◌, ◌⊎◌, map, sum_by, true, cond, Contains}
use Rattle.std.specs.Str.{bytes_eq}
use Rattle.descriptor_records.specs.Content.{Text, EnumValueContent, FileContent}
use Rattle.schema_view.specs.Files.{text_of, Import, imports_of, file_name, package_of}
use Rattle.schema_view.specs.Declarations.{Range, extension_range, reserved_range, Body, of_message, of_field, of_oneof, of_enum, of_value, of_service, of_method, of_extension, Declaration, declarations}

-- a message with the numbers that it keeps for extensions and for nobody, an enum with the names of
-- its values
pub data Sort : Type 0 where
  message_sort : (extensions reserved : List Range) → Sort
  enum_sort : List Text → Sort
  service_sort : Sort
  other_sort : Sort

abbrev pub value_name : EnumValueContent → Text
value_name v = text_of v.name

abbrev pub sort_of : Body → Sort
sort_of (of_message m) = message_sort (map extension_range m.extensions)
    (map reserved_range m.reserved)
sort_of (of_field f) = other_sort
sort_of (of_oneof o) = other_sort
sort_of (of_enum e) = enum_sort (map value_name e.value)
sort_of (of_value v) = other_sort
sort_of (of_service s) = service_sort
sort_of (of_method m) = other_sort
sort_of (of_extension x) = other_sort

-- a full name, and what sort of thing it stands for
pub record Head : Type 0 where
  pub name : Text
  pub sort : Sort

abbrev pub head_of : Declaration → Head
head_of d = record { name = d.name; sort = sort_of d.body }

pub record Outline : Type 0 where
  pub name : Text
  pub package_name : Text
  pub imports : List Import
  pub heads : List Head

abbrev pub outline_of : FileContent → Outline
outline_of f = record {
  name = file_name f;
  package_name = package_of f;
  imports = imports_of f;
  heads = map head_of (declarations f);
}

-- p is the scope, or what stands before a dot of it, or the empty scope
abbrev pub IsScope : Text → Text → Type 0
IsScope s p = (p ≡ s) ⊎ ((p ≡ []) ⊎ ((rest : Text) × (s ≡ p ++ (46 ∷ rest))))

abbrev pub IsNamed : List Outline → Text → Type 0
IsNamed os n = (o : Outline) × Contains os o × (o.name ≡ n)

-- the full name is declared, as this sort
abbrev pub IsDeclared : List Outline → Text → Sort → Type 0
IsDeclared os n s = (o : Outline) × (h : Head) × Contains os o × Contains o.heads h × (h.name ≡ n)
    × (h.sort ≡ s)

-- public imports lead from the file of the first name along these to that of the last
abbrev pub IsChain : List Outline → Text → List Text → Text → Type 0
IsChain os m [] n = m ≡ n
IsChain os m (k ∷ ks) n =
    ((o : Outline) × Contains os o × (o.name ≡ m)
    × Contains o.imports (record { file = k; is_public = true })) × IsChain os k ks n

-- a file sees itself, its imports, and what a chain of public imports reaches from those
abbrev pub Sees : List Outline → Outline → Text → Type 0
Sees os o n = (n ≡ o.name) ⊎ ((i : Import) × (ks : List Text) × Contains o.imports i
    × IsChain os i.file ks n)

-- how often a list has a text
abbrev pub times : Text → List Text → ℕ
times n xs = sum_by (λ x. cond (bytes_eq x n) 1 0) xs

abbrev pub times_named : Text → List Outline → ℕ
times_named n os = sum_by (λ o. cond (bytes_eq o.name n) 1 0) os

abbrev pub times_declared : Text → List Outline → ℕ
times_declared n os = sum_by (λ o. times n (map (λ h. h.name) o.heads)) os

abbrev pub IsPackage : List Outline → Text → Type 0
IsPackage os n = (o : Outline) × Contains os o × IsScope o.package_name n

-- no two files have one name, no two declarations one full name, and none that of a package
pub record AreApart (os : List Outline) : Type 0 where
  pub files : (n : Text) → times_named n os ≤ 1
  pub names : (n : Text) → times_declared n os ≤ 1
  pub packages : (n : Text) (o : Outline) (h : Head)
      → Contains os o → Contains o.heads h → h.name ≡ n → IsPackage os n → n ≡ []
