-- The view of linked files: three maps, without order, places or locations.
use Rattle.std.specs.Prelude.{◌≡◌, List, [], ◌∷◌, Bool, cond, Option, Some, None}
use Rattle.std.specs.Str.{bytes_eq}
use Rattle.descriptor_records.specs.Content.{Text, OptionsContent, FileContent}
use Rattle.schema_view.specs.Files.{Import, imports_of, file_name, package_of}
use Rattle.schema_view.specs.Declarations.{Body, declarations}
use Rattle.schema_view.specs.Lawful.{Key, has_key}

pub record FileFacts : Type 0 where
  pub syntax : Option Text
  pub package_name : Text
  pub imports : List Import
  pub options : Option OptionsContent

abbrev pub facts_of : FileContent → FileFacts
facts_of f = record {
  syntax = f.syntax_name;
  package_name = package_of f;
  imports = imports_of f;
  options = f.options;
}

-- a declaration, and the name of the file that holds it
pub record Held : Type 0 where
  pub body : Body
  pub file : Text

pub record View : Type 0 where
  pub files : Text → Option FileFacts
  pub declared : Text → Option Held
  pub extensions : Key → Option Text

abbrev pub or_else : {Y : Type 0} → Option Y → Option Y → Option Y
or_else None other = other
or_else (Some y) other = Some y

-- the first that is given
abbrev pub first : {X Y : Type 0} → (X → Option Y) → List X → Option Y
first g [] = None
first g (x ∷ xs) = or_else (g x) (first g xs)

abbrev pub when : {Y : Type 0} → Bool → Y → Option Y
when b y = cond b (Some y) None

abbrev pub file_at : Text → FileContent → Option FileFacts
file_at n f = when (bytes_eq (file_name f) n) (facts_of f)

abbrev pub declared_at : Text → FileContent → Option Held
declared_at n f = first (λ d. when (bytes_eq d.name n)
    (record { body = d.body; file = file_name f })) (declarations f)

-- the full name of the extension of a message and a number
abbrev pub extension_at : Key → FileContent → Option Text
extension_at k f = first (λ d. when (has_key k d.body) d.name) (declarations f)

abbrev pub view_of : List FileContent → View
view_of fs = record {
  files = λ n. first (file_at n) fs;
  declared = λ n. first (declared_at n) fs;
  extensions = λ k. first (extension_at k) fs;
}

-- what the first view says, the second says too
pub record Grows (old new : View) : Type 0 where
  pub files : (n : Text) (x : FileFacts) → old.files n ≡ Some x → new.files n ≡ Some x
  pub declared : (n : Text) (x : Held) → old.declared n ≡ Some x → new.declared n ≡ Some x
  pub extensions : (k : Key) (x : Text) → old.extensions k ≡ Some x → new.extensions k ≡ Some x
