-- What is stored of the options of a source is written of the message that they set where nothing was,
-- and the message that a text gives is written in what `encode` gives for it.
use Rattle.std.proofs.Common.{◌≡◌, inl, inr, ℕ, ℤ, List, [], Option, refl, sym, ap, ◌∙◌, subst}
use Rattle.descriptor_records.specs.Content.{OptionsContent, options_view}
use Rattle.descriptor_records.specs.declared.options.Options.{Options}
use Rattle.known_messages.specs.KnownMessages.{KnowsAll}
use Rattle.message_view.specs.Sound.{IsSound}
use Rattle.message_view.specs.Types.{types_of}
use Rattle.option_parts.specs.OptionTypes.{type_name}
use Rattle.option_parts.specs.declared.option_scope.OptionScope.{OptionScope}
use Rattle.option_setter.specs.declared.option_setter.NameScope.{NameScope}
use Rattle.plain_records.specs.SourceOptions.{as_read}
use Rattle.protobuf_model.specs.Bytes.{bytes_of}
use Rattle.protobuf_model.specs.Types.{Name}
use Rattle.protobuf_model.specs.Values.{Message, nothing}
use Rattle.reflect_pool.specs.Dots.{without_dot}
use Rattle.stored_options.specs.NamedNumbers.{numbers_named}
use Rattle.stored_options.specs.SetOptions.{LeadAlike, SetsAll}
use Rattle.stored_options.proofs.OfSources.{sources_set}
use Rattle.stored_options.proofs.OneNumber.{one_number}
use Rattle.stored_options.proofs.SameScopes.{alike_itself}
use Rattle.text_model.specs.Schemas.{Schema as TextSchema}
use Rattle.text_model.specs.Texts.{Gives}
use Rattle.text_model.proofs.Merging.{one_message}
use Rattle.text_view.specs.Schemas.{schema_of}
use Rattle.schema_core.specs.Payloads.{Encoded}
use Rattle.schema_core.specs.declared.schema.Schema.{Schema}
use Rattle.schema_laws.specs.InBraces.{ComeTo}
use Rattle.schema_laws.proofs.Encoding.{IsGiven, encoded}
use Rattle.schema_laws.proofs.Linked.{linked_sound}

-- the message that the options set, of which their type knows all and whose bytes are stored; and a
-- part of a name leads to one number
pub record AreSet (s : Schema) (decoded : Name → List ℕ → Option Message) (n : NameScope) (scope : OptionScope) (o settled : Options) : Type 0 where
  pub m : Message
  pub paths : List (List ℤ)
  pub knows : KnowsAll (types_of s.pool) (type_name scope) m
  pub stored : settled.encoded.items ≡ bytes_of (types_of s.pool) (type_name scope) m
  pub sets : SetsAll (schema_of s.pool decoded) (numbers_named n) (type_name scope) (options_view o).uninterpreted_option nothing m paths
  pub alike : LeadAlike (numbers_named n) (numbers_named n)

module _ (s : Schema) (decoded : Name → List ℕ → Option Message) (n : NameScope) (scope : OptionScope) (o settled : Options) (come : ComeTo s.pool n scope o settled)
    (some : (options_view o).uninterpreted_option ≡ [] → ⊥) where
  -- what the pool says to texts it said before options were settled
  before : schema_of n.pool.now decoded ≡ schema_of s.pool decoded
  before = sym (ap (λ p. schema_of p decoded) come.changes.settled)

  sound : IsSound n.pool.now
  sound = linked_sound n.pool.now s.pool come.changes.settled s.sound

  -- a source wrote them: they are not those of a map's entries, which have none
  written : options_view o ≡ as_read scope (options_view o).uninterpreted_option
  written = elim come.given.0 [
    | inl is ↦ is
    | inr entries ↦ absurd (some (ap (λ (c : OptionsContent). c.uninterpreted_option) entries.1))
  ]

  set : (m : Message) × KnowsAll (types_of n.pool.now) (type_name scope) m × (settled.encoded.items ≡ bytes_of (types_of n.pool.now) (type_name scope) m)
      × SetsAll (schema_of n.pool.now decoded) (numbers_named n) (type_name scope) (options_view o).uninterpreted_option nothing m come.paths
  set = sources_set scope n o settled come.paths decoded sound come.readable written come.given.1 come.settles

  pub are_set : AreSet s decoded n scope o settled
  are_set = record {
    m = set.0;
    paths = come.paths;
    knows = subst (λ (v : TextSchema). KnowsAll v.types (type_name scope) set.0) before set.1;
    stored = set.2 ∙ ap (λ (v : TextSchema). bytes_of v.types (type_name scope) set.0) before;
    sets = subst (λ (v : TextSchema). SetsAll v (numbers_named n) (type_name scope) (options_view o).uninterpreted_option nothing set.0 come.paths) before set.3;
    alike = one_number n n (alike_itself n) refl sound;
  }

pub given_bytes : (s : Schema) (decoded : Name → List ℕ → Option Message) (name text out : List ℕ) → Encoded s.pool name text out → (x : Message) → Gives (schema_of s.pool decoded) (without_dot name) text x
    → bytes_of (types_of s.pool) (without_dot name) x ≡ out
given_bytes s decoded name text out encodes x gives =
    let is : IsGiven s.pool decoded (without_dot name) text out = encoded s.pool s.sound decoded name text out encodes in
    ap (bytes_of (types_of s.pool) (without_dot name)) (one_message (schema_of s.pool decoded) (without_dot name) nothing text x is.0 gives is.1) ∙ sym is.2
