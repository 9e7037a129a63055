-- What a run of the program reads of files, and the schema that it makes of them.
use Rattle.std.specs.List.{zip}
use Rattle.std.specs.Prelude.{◌≡◌, ◌⊎◌, ◌∷◌, [], ℕ, List, Option, None, Some, Ok, Err, map, option_map}
use Rattle.std.specs.Str.{IsUtf8}
use Rattle.option_parts.specs.OptionTypes.{ReadsOptions}
use Rattle.option_parts.specs.declared.option_scope.OptionScope.{OptionScope}
use Rattle.reflect_pool.specs.Linked.{empty_pool}
use Rattle.reflect_tables.specs.Types.{PoolType}
use Rattle.run_parts.specs.Reads.{Gives, IsToldAs, ReadsEach, RefusesSources}
use Rattle.run_parts.specs.Refusals.{AreTexts, RefusesOne, RefusesText}
use Rattle.run_parts.specs.declared.files.ReadFault.{ReadFault}
use Rattle.schema_core.specs.Refusals.{DescriptorRefused, SetLinked, SetRefused, SourcesLinked, SourcesRefused, descriptor_name}
use Rattle.schema_words.specs.declared.request.Request.{Request}
use Rattle.reflect_schema.specs.declared.program.RunFault.{RunFault}
use Rattle.reflect_schema.specs.declared.program.RunFault.TheVariants as run

-- the one source that declares the types of options
abbrev pub first_source : List ℕ → List (List ℕ × List ℕ)
first_source text = (descriptor_name, text) ∷ []

-- ---- what is made

-- the first schema: of the file at the path, which declares the types of options, or one without
-- files
abbrev pub Begins : {F : Type 0} → Gives F → Option (List ℕ) → F → PoolType → F → Type 0
Begins gives None f p g = (p ≡ empty_pool) × (f ≡ g)
Begins gives (Some path) f p g = (text : List ℕ) × gives f path (Ok text) g × IsUtf8 text
    × SourcesLinked empty_pool (first_source text) p
    × ((scope : OptionScope) → ReadsOptions p scope)

-- the set at the path is added, where one is asked for
abbrev pub AddsSet : {F : Type 0} → Gives F → Option (List ℕ) → F → PoolType → F → PoolType → Type 0
AddsSet gives None f old g new = (new ≡ old) × (f ≡ g)
AddsSet gives (Some path) f old g new = (bytes : List ℕ) × gives f path (Ok bytes) g
    × SetLinked old bytes new

-- the named sources under the root are added
abbrev pub AddsSources : {F : Type 0} → Gives F → List ℕ
    → List (List ℕ) → F → PoolType → F → PoolType → Type 0
AddsSources gives root names f old g new = (texts : List (List ℕ))
    × ReadsEach gives root names texts f g × AreTexts (zip names texts)
    × SourcesLinked old (zip names texts) new

-- the paths and names of a request
abbrev pub descriptor_path : Request → Option (List ℕ)
descriptor_path wanted = option_map (λ s. s.now) wanted.descriptor

abbrev pub set_path : Request → Option (List ℕ)
set_path wanted = option_map (λ s. s.now) wanted.set

abbrev pub source_names : Request → List (List ℕ)
source_names wanted = map (λ n. n.now) wanted.names.now

-- the schema that is asked for, and what the files are behind its reads: first the types of
-- options, then the set, then the sources
pub record MakesSchema {F : Type 0} (gives : Gives F) (wanted : Request) (f : F)
    (p : PoolType) (g : F) : Type 0 where
  pub first : PoolType
  pub second : PoolType
  pub begun : F
  pub added : F
  pub begins : Begins gives (descriptor_path wanted) f first begun
  pub set : AddsSet gives (set_path wanted) begun first added second
  pub sources : AddsSources gives wanted.root.now (source_names wanted) added second g p

-- ---- why none is

-- the file at the path is not read
abbrev pub RefusesRead : {F : Type 0} → Gives F → List ℕ → F → RunFault → F → Type 0
RefusesRead gives path f (run.File e) g = (r : ReadFault) × gives f path (Err r) g
    × IsToldAs path r e
RefusesRead gives path f _ g = ⊥

-- the bytes of the file that is to declare the types of options are no text, or are refused
abbrev pub RefusesFirstText : List ℕ → List ℕ → RunFault → Type 0
RefusesFirstText path text (run.File e) = RefusesText text path e
RefusesFirstText path text (run.Schema e) = IsUtf8 text × DescriptorRefused (first_source text) e
RefusesFirstText path text (run.Payload e) = ⊥

-- there is no first schema
abbrev pub RefusesFirst : {F : Type 0} → Gives F → Option (List ℕ) → F → RunFault → F → Type 0
RefusesFirst gives None f e g = ⊥
RefusesFirst gives (Some path) f e g = RefusesRead gives path f e g
    ⊎ ((text : List ℕ) × gives f path (Ok text) g × RefusesFirstText path text e)

abbrev pub RefusesSetBytes : PoolType → List ℕ → RunFault → Type 0
RefusesSetBytes old bytes (run.Schema e) = SetRefused old bytes e
RefusesSetBytes old bytes _ = ⊥

-- the set is not read, or is refused
abbrev pub RefusesSet : {F : Type 0} → Gives F → Option (List ℕ) → F
    → PoolType → RunFault → F → Type 0
RefusesSet gives None f old e g = ⊥
RefusesSet gives (Some path) f old e g = RefusesRead gives path f e g
    ⊎ ((bytes : List ℕ) × gives f path (Ok bytes) g × RefusesSetBytes old bytes e)

-- the sources are not all read, or not all texts, or are refused
abbrev pub RefusesNamed : {F : Type 0} → Gives F → List ℕ
    → List (List ℕ) → F → PoolType → RunFault → F → Type 0
RefusesNamed gives root names f old (run.File e) g = RefusesSources gives root names f e g
    ⊎ ((texts : List (List ℕ)) × ReadsEach gives root names texts f g
    × RefusesOne (zip names texts) e)
RefusesNamed gives root names f old (run.Schema e) g = (texts : List (List ℕ))
    × ReadsEach gives root names texts f g × AreTexts (zip names texts)
    × SourcesRefused old (zip names texts) e
RefusesNamed gives root names f old (run.Payload e) g = ⊥

-- the first of the three that is refused, and what the files are then
abbrev pub RefusesSchema : {F : Type 0} → Gives F → Request → F → RunFault → F → Type 0
RefusesSchema gives wanted f e g = RefusesFirst gives (descriptor_path wanted) f e g
    ⊎ ((first : PoolType) × (begun : _) × Begins gives (descriptor_path wanted) f first begun
    × (RefusesSet gives (set_path wanted) begun first e g
    ⊎ ((second : PoolType) × (added : _)
    × AddsSet gives (set_path wanted) begun first added second
    × RefusesNamed gives wanted.root.now (source_names wanted) added second e g)))
