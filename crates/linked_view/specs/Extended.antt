-- What the entries of a pool's extensions tell of its records.
use Rattle.std.specs.Prelude.{◌≡◌, ℕ, ℤ, List, [], ◌∷◌, map, Option, Some, unwrap_or, slice_get}
use Rattle.std.specs.List.{AllZip, flat_map}
use Rattle.descriptor_records.specs.Content.{Text, FileContent, file_view}
use Rattle.reflect_fields.specs.Fields.{natural}
use Rattle.reflect_known.specs.KnownNames.{known_of_files}
use Rattle.reflect_pool.specs.Linked.{key_of}
use Rattle.reflect_tables.specs.ExtensionNumbers.{KeyType}
use Rattle.reflect_tables.specs.Names.{FullName, AreNamed, names_of, messages}
use Rattle.reflect_tables.specs.Types.{PoolType, ExtensionType}
use Rattle.schema_view.specs.Declarations.{Declaration, declarations, of_message, of_field, of_oneof, of_enum, of_value, of_service, of_method, of_extension}

-- a full name stands for an entry exactly where the entry has it, and no two extensions have one
-- message and one number
pub record IsIndexed (p : PoolType) : Type 0 where
  pub named : AreNamed (known_of_files p.records) (names_of p)
  pub numbers : (k : KeyType) (i j : ℕ) → slice_get (map key_of p.extensions) i ≡ Some k
      → slice_get (map key_of p.extensions) j ≡ Some k → i ≡ j

-- how an extension's record writes the message that it extends, and its number there
abbrev pub WrittenKey : Type 0
WrittenKey = Option Text × Option ℤ

abbrev pub keys_of : Declaration → List WrittenKey
keys_of d = elim d.body [
  | of_message m ↦ []
  | of_field f ↦ []
  | of_oneof o ↦ []
  | of_enum e ↦ []
  | of_value v ↦ []
  | of_service s ↦ []
  | of_method m ↦ []
  | of_extension x ↦ (x.extendee, x.number) ∷ []
]

-- of all extensions of files, in their order
abbrev pub written_keys : List FileContent → List WrittenKey
written_keys fs = flat_map (λ f. flat_map keys_of (declarations f)) fs

-- an extension's entry has the number that is written, and the index of the message whose full name
-- is written behind a dot
pub record HasWritten (names : List FullName) (k : WrittenKey) (x : ExtensionType) : Type 0 where
  pub full : Text
  pub file : ℕ
  pub extendee : k.0 ≡ Some (46 ∷ full)
  pub message : slice_get names x.extendee ≡ Some (full, file)
  pub number : x.field.number ≡ unwrap_or (natural k.1) 0

-- the entries of a pool's extensions are those of its records, one after another
abbrev pub TellsExtensions : PoolType → Type 0
TellsExtensions p = AllZip (HasWritten (names_of p messages))
    (written_keys (map file_view p.records)) p.extensions
