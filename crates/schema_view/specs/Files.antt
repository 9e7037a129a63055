-- What files are called and import, and a text that may be missing. A text is its bytes; 46 is the
-- dot.
use Rattle.std.specs.Prelude.{◌≡◌, ◌⊎◌, ◌<◌, ℕ, ℤ, pos, ◌+◌, List, [], ◌∷◌, length, Bool, ◌||◌, false, Option, Some, None, codes, Contains, ◌++◌}
use Rattle.std.specs.Ordering.{int_eq}
use Rattle.std.specs.Str.{bytes_eq}
use Rattle.descriptor_records.specs.Content.{Text, FileContent}

abbrev pub text_of : Option Text → Text
text_of None = []
text_of (Some t) = t

abbrev pub IsThere : {A : Type 0} → Option A → Type 0
IsThere {A} o = (a : A) × (o ≡ Some a)

-- the full name of `name` in `scope`
abbrev pub join : Text → Text → Text
join [] name = name
join (s ∷ scope) name = (s ∷ scope) ++ (46 ∷ name)

abbrev pub file_name : FileContent → Text
file_name f = text_of f.name

abbrev pub package_of : FileContent → Text
package_of f = text_of f.package_name

abbrev pub is_proto3 : FileContent → Bool
is_proto3 f = bytes_eq (text_of f.syntax_name) (codes "proto3")

-- without a syntax a file is of proto2
abbrev pub HasSyntax : FileContent → Type 0
HasSyntax f = (f.syntax_name ≡ None)
    ⊎ ((f.syntax_name ≡ Some (codes "proto2")) ⊎ (f.syntax_name ≡ Some (codes "proto3")))

-- an import, and whether those who import the file have it too
pub record Import : Type 0 where
  pub file : Text
  pub is_public : Bool

abbrev pub has_place : ℕ → List ℤ → Bool
has_place k [] = false
has_place k (i ∷ is) = int_eq i (pos k) || has_place k is

-- imports, the first of which stands at this place
abbrev pub imports_from : List ℤ → ℕ → List Text → List Import
imports_from publics k [] = []
imports_from publics k (t ∷ ts) = record { file = t; is_public = has_place k publics }
    ∷ imports_from publics (k + 1) ts

abbrev pub imports_of : FileContent → List Import
imports_of f = imports_from f.public_dependency 0 f.dependency

-- each public import is one of the imports
abbrev pub HavePlaces : FileContent → Type 0
HavePlaces f = (i : ℤ) → Contains f.public_dependency i → (k : ℕ) × (i ≡ pos k)
    × (k < length f.dependency)
