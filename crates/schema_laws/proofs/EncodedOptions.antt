-- An option of a source that is given in braces holds what `encode` gives for its text.
use Rattle.std.proofs.Common.{◌≡◌, ℕ, List, [], ◌∷◌, ◌++◌, Option, sym, ◌∙◌, subst}
use Rattle.descriptor_records.specs.Content.{options_view}
use Rattle.descriptor_records.specs.declared.options.Options.{Options}
use Rattle.known_messages.specs.KnownMessages.{KnowsAll}
use Rattle.message_view.specs.Types.{types_of}
use Rattle.option_parts.specs.OptionTypes.{type_name}
use Rattle.option_parts.specs.declared.option_scope.OptionScope.{OptionScope}
use Rattle.option_setter.specs.declared.option_setter.NameScope.{NameScope}
use Rattle.protobuf_model.specs.Bytes.{bytes_of}
use Rattle.protobuf_model.specs.Types.{Name}
use Rattle.protobuf_model.specs.Values.{Message, content, message, nothing}
use Rattle.reflect_pool.specs.Dots.{without_dot}
use Rattle.stored_options.specs.Braces.{held_along}
use Rattle.stored_options.specs.NamedNumbers.{numbers_named}
use Rattle.stored_options.specs.SetOptions.{SetsAll}
use Rattle.stored_options.proofs.BracesSet.{message_held}
use Rattle.text_model.specs.Schemas.{Schema as TextSchema}
use Rattle.text_model.specs.Texts.{Gives}
use Rattle.text_view.specs.Schemas.{schema_of}
use Rattle.text_view.proofs.SoundTypes.{sound_types}
use Rattle.schema_core.specs.Payloads.{Encoded}
use Rattle.schema_core.specs.declared.schema.Schema.{Schema}
use Rattle.schema_laws.specs.InBraces.{ComeTo, IsInBraces}
use Rattle.schema_laws.specs.LyingBytes.{LieAlong}
use Rattle.schema_laws.proofs.Lying.{lie_along}
use Rattle.schema_laws.proofs.SetBySource.{AreSet, are_set, given_bytes}

-- a list with something in it is not empty
not_empty : {A : Type 0} (front back : List A) (x : A) → front ++ (x ∷ back) ≡ [] → ⊥
not_empty [] back x e = cc e
not_empty (y ∷ front) back x e = cc e

module _ (s : Schema) (decoded : Name → List ℕ → Option Message) (n : NameScope) (scope : OptionScope) (o settled : Options) (come : ComeTo s.pool n scope o settled) (ns name text out : List ℕ)
    (braces : IsInBraces (schema_of s.pool decoded) (numbers_named n) (type_name scope) (options_view o).uninterpreted_option ns (without_dot name) text) (encodes : Encoded s.pool name text out) where
  abbrev w : TextSchema
  w = schema_of s.pool decoded

  set : AreSet s decoded n scope o settled
  set = are_set s decoded n scope o settled come (λ e. not_empty braces.front braces.back braces.option (sym braces.among ∙ e))

  sets : SetsAll w (numbers_named n) (type_name scope) (braces.front ++ (braces.option ∷ braces.back)) nothing set.m set.paths
  sets = subst (λ os. SetsAll w (numbers_named n) (type_name scope) os nothing set.m set.paths) braces.among set.sets

  held : (inner : Message) × Gives w (without_dot name) text inner × (held_along ns set.m ≡ content (message inner))
  held =
      message_held w (numbers_named n) set.alike (type_name scope) (without_dot name) braces.front braces.back braces.option nothing set.m set.paths ns text sets
      braces.along braces.braces braces.apart

  its_bytes : bytes_of (types_of s.pool) (without_dot name) held.0 ≡ out
  its_bytes = given_bytes s decoded name text out encodes held.0 held.1

  pub held_encoded : (m inner : Message) × KnowsAll (types_of s.pool) (type_name scope) m × (settled.encoded.items ≡ bytes_of (types_of s.pool) (type_name scope) m) × (held_along ns m ≡ content (message inner))
      × (bytes_of (types_of s.pool) (without_dot name) inner ≡ out)
  held_encoded = (set.m, held.0, set.knows, set.stored, held.2, its_bytes)

  pub bytes_lie : LieAlong ns settled.encoded.items out
  bytes_lie =
      let lie = lie_along w (sound_types s.pool s.sound decoded) (numbers_named n) braces.option.name (type_name scope) ns (without_dot name) braces.along set.m held.0 held.2 in
      subst (λ bytes. LieAlong ns bytes out) (sym set.stored) (subst (LieAlong ns (bytes_of (types_of s.pool) (type_name scope) set.m)) its_bytes lie)
