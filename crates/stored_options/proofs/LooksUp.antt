-- What it is that names of extensions are looked up by what is known and seen.
use Rattle.std.proofs.Common.{◌≡◌, ℕ, Bool, true, List, [], Some, ap, refl}
use Rattle.std.specs.List.{Contains}
use Rattle.descriptor_records.specs.Content.{FileContent, Text}
use Rattle.reflect_known.specs.KnownNames.{known_of_files}
use Rattle.reflect_scope.specs.Known.{Known}
use Rattle.reflect_scope.specs.Means.{is_seen, is_wanted}
use Rattle.reflect_scope.specs.Seen.{tells}
use Rattle.reflect_scope.specs.declared.definition.Definition.{Definition}
use Rattle.reflect_scope.specs.declared.definition.DefinitionKind.{DefinitionKind}
use Rattle.reflect_scope.specs.declared.definition.DefinitionKind.TheVariants as kind
use Rattle.reflect_scope.specs.declared.definition.ResolveNameFilter.TheVariants as filters
use Rattle.reflect_tables.specs.Names.{extensions, place_of}
use Rattle.option_setter.specs.declared.option_setter.NameScope.{NameScope}
use Rattle.schema_view.specs.Files.{file_name}
use Rattle.schema_view.specs.Lawful.{outlines}
use Rattle.schema_view.specs.Means.{HoldsNames}
use Rattle.schema_view.specs.Outlines.{Outline, outline_of}
use Rattle.linked_view.proofs.Means.{Holding, Wanted}
use Rattle.stored_options.proofs.Seen.{IsSeenExtension}

-- ---- kinds

-- what is wanted where an extension is looked for is one
pub extension_kind : (k : DefinitionKind) → is_wanted filters.Extension k ≡ true
    → (i : ℕ) × (k ≡ kind.Extension i)
extension_kind (kind.Extension i) e = (i, refl)
extension_kind kind.Package e = absurd (cc e)
extension_kind (kind.Message i) e = absurd (cc e)
extension_kind kind.Field e = absurd (cc e)
extension_kind kind.Oneof e = absurd (cc e)
extension_kind (kind.Enum i) e = absurd (cc e)
extension_kind kind.EnumValue e = absurd (cc e)
extension_kind (kind.Service i) e = absurd (cc e)
extension_kind kind.Method e = absurd (cc e)

-- and so is what has a place among the extensions
pub extension_place : (k : DefinitionKind) (i : ℕ) → place_of extensions k ≡ Some i
    → k ≡ kind.Extension i
extension_place (kind.Extension j) i e = let same : j ≡ i = cc e in ap kind.Extension same
extension_place kind.Package i e = absurd (cc e)
extension_place (kind.Message j) i e = absurd (cc e)
extension_place kind.Field i e = absurd (cc e)
extension_place kind.Oneof i e = absurd (cc e)
extension_place (kind.Enum j) i e = absurd (cc e)
extension_place kind.EnumValue i e = absurd (cc e)
extension_place (kind.Service j) i e = absurd (cc e)
extension_place kind.Method i e = absurd (cc e)

-- an extension is seen where its file is
pub extension_seen : (sees : ℕ → Bool) (d : Definition) (i : ℕ) → d.kind ≡ kind.Extension i
    → is_seen sees d ≡ sees d.file
extension_seen sees d i e = ap (λ k. is_seen sees (record { file = d.file; kind = k })) e

-- ---- what is looked up

-- what is known and seen are the extensions that files declare where the file of this outline sees
-- them, and what holds names there is known to hold them
pub record LooksUp (fs : List FileContent) (from : Outline) (known : Known)
    (sees : ℕ → Bool) : Type 0 where
  pub to : (n : Text) → Wanted known sees filters.Extension n → IsSeenExtension fs from n
  pub back : (n : Text) → IsSeenExtension fs from n → Wanted known sees filters.Extension n
  pub holds : (n : Text) → (n ≡ [] → ⊥) → HoldsNames (outlines fs) n
      → Holding known sees filters.Extension n

-- options stand in one of the files, where their names are looked up by it
pub record StandsAmong (fs : List FileContent) (s : NameScope) (file : Text) : Type 0 where
  pub home : FileContent
  pub there : Contains fs home
  pub name : file_name home ≡ file
  pub looks_up : LooksUp fs (outline_of home) (known_of_files s.pool.now.records) (tells s.seen.now)
