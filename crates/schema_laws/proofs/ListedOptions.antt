-- Options of a source that are given in braces and lead to a list add to it, in their order, what
-- `encode` gives for their texts.
use Rattle.std.proofs.Common.{◌≡◌, inl, inr, ℕ, Bool, false, List, [], ◌∷◌, map, Option, refl, sym, ap, ◌∙◌, subst}
use Rattle.descriptor_records.specs.Content.{OptionContent, options_view}
use Rattle.descriptor_records.specs.declared.options.Options.{Options}
use Rattle.known_messages.specs.KnownMessages.{KnowsAll}
use Rattle.message_view.specs.Types.{types_of}
use Rattle.option_parts.specs.OptionTypes.{type_name}
use Rattle.option_parts.specs.declared.option_scope.OptionScope.{OptionScope}
use Rattle.option_setter.specs.declared.option_setter.NameScope.{NameScope}
use Rattle.print_parts.specs.Pairwise.{Pairwise}
use Rattle.protobuf_model.specs.Bytes.{bytes_of}
use Rattle.protobuf_model.specs.Meaning.{if_any}
use Rattle.protobuf_model.specs.Types.{Name}
use Rattle.protobuf_model.specs.Values.{Held, Message, absent, chain_of, content, list, message, nothing}
use Rattle.protox_lex.specs.Class.{Text}
use Rattle.reflect_pool.specs.Dots.{without_dot}
use Rattle.stored_options.specs.Braces.{ListsEach, ListsInto, held_along, with_messages}
use Rattle.stored_options.specs.NamedNumbers.{numbers_named}
use Rattle.stored_options.specs.SetOptions.{Leads}
use Rattle.stored_options.proofs.BracesKept.{absent_inside, are_through}
use Rattle.stored_options.proofs.BracesListed.{list_held, one_leads}
use Rattle.text_model.specs.Schemas.{Schema as TextSchema}
use Rattle.text_model.specs.Texts.{Gives}
use Rattle.text_view.specs.Schemas.{schema_of}
use Rattle.text_view.proofs.SoundTypes.{sound_types}
use Rattle.schema_core.specs.Payloads.{Encoded}
use Rattle.schema_core.specs.declared.schema.Schema.{Schema}
use Rattle.schema_laws.specs.InBraces.{ComeTo}
use Rattle.schema_laws.specs.LyingBytes.{AllLieAlong}
use Rattle.schema_laws.proofs.LyingLists.{all_lie_along}
use Rattle.schema_laws.proofs.SetBySource.{AreSet, are_set, given_bytes}

-- ---- where nothing was set

-- options keep clear of no field, and lead to none, where there are no numbers; and along some
-- nothing is held where nothing is set
nothing_along : (w : TextSchema) (leads : Leads) (t u : Name) (ns : List ℕ) (begun : Bool) (os : List OptionContent) (zs : List Text) → (os ≡ [] → ⊥) → ListsEach w leads t ns u begun os zs → held_along ns nothing ≡ absent
nothing_along w leads t u (n ∷ ns) begun os zs some lists = absent_inside ns
nothing_along w leads t u [] begun [] zs some lists = absurd (some refl)
nothing_along w leads t u [] begun (o ∷ os) zs some (inl (clear, more)) = absurd clear.0
nothing_along w leads t u [] begun (o ∷ os) zs some (inr (z, rest, along, has, more, is)) = absurd (are_through w leads (λ v part n. ListsInto w leads v part n u) o.name t [] along)

added_to_none : (xs : List Message) → with_messages absent xs ≡ if_any (map message xs)
added_to_none [] = refl
added_to_none (x ∷ xs) = refl

not_none : (text : Text) (texts : List Text) → text ∷ texts ≡ [] → ⊥
not_none text texts e = cc e

-- ---- each message in its own bytes

module _ (s : Schema) (decoded : Name → List ℕ → Option Message) (name : List ℕ) where
  abbrev bytes : Message → List ℕ
  bytes = bytes_of (types_of s.pool) (without_dot name)

  all_bytes : (texts : List Text) (xs : List Message) (outs : List (List ℕ)) → Pairwise (Gives (schema_of s.pool decoded) (without_dot name)) texts xs → Pairwise (Encoded s.pool name) texts outs → map bytes xs ≡ outs
  all_bytes [] xs outs gives encodes = ap (map bytes) gives ∙ sym encodes
  all_bytes (z ∷ zs) xs outs (x, more, gives, others, is) (out, rest, encodes, further, same) =
      ap (map bytes) is ∙ ap (λ (b : List ℕ). b ∷ map bytes more) (given_bytes s decoded name z out encodes x gives) ∙ ap (λ (bs : List (List ℕ)). out ∷ bs) (all_bytes zs more rest others further) ∙ sym same

-- ---- behind all options

module _ (s : Schema) (decoded : Name → List ℕ → Option Message) (n : NameScope) (scope : OptionScope) (o settled : Options) (ns name : List ℕ) where
  abbrev w : TextSchema
  w = schema_of s.pool decoded

  abbrev os : List OptionContent
  os = (options_view o).uninterpreted_option

  -- the texts are those that the options add to the list
  abbrev Lists : List Text → Type 0
  Lists texts = ListsEach w (numbers_named n) (type_name scope) ns (without_dot name) false os texts

  listed : (a : AreSet s decoded n scope o settled) → (os ≡ [] → ⊥) → (texts : List Text) → Lists texts
      → (xs : List Message) × Pairwise (Gives w (without_dot name)) texts xs × (held_along ns a.m ≡ if_any (map message xs))
  listed a some texts lists =
      let r = list_held w (numbers_named n) a.alike (type_name scope) (without_dot name) os nothing a.m a.paths ns texts a.sets lists in
      let before : held_along ns nothing ≡ absent = nothing_along w (numbers_named n) (type_name scope) (without_dot name) ns false os texts some lists in
      (r.0, r.1, r.2 ∙ ap (λ (h : Held). with_messages h r.0) before ∙ added_to_none r.0)

  pub listed_encoded : ComeTo s.pool n scope o settled → (os ≡ [] → ⊥) → (texts : List Text) (outs : List (List ℕ)) → Lists texts → Pairwise (Encoded s.pool name) texts outs
      → (m : Message) × (inners : List Message) × KnowsAll (types_of s.pool) (type_name scope) m × (settled.encoded.items ≡ bytes_of (types_of s.pool) (type_name scope) m)
      × (held_along ns m ≡ if_any (map message inners)) × (map (bytes_of (types_of s.pool) (without_dot name)) inners ≡ outs)
  listed_encoded come some texts outs lists encodes =
      let a : AreSet s decoded n scope o settled = are_set s decoded n scope o settled come some in
      let r = listed a some texts lists in
      (a.m, r.0, a.knows, a.stored, r.2, all_bytes s decoded name texts r.0 outs r.1 encodes)

  pub listed_lie : ComeTo s.pool n scope o settled → (text : Text) (texts : List Text) (outs : List (List ℕ)) → Lists (text ∷ texts) → Pairwise (Encoded s.pool name) (text ∷ texts) outs
      → AllLieAlong ns settled.encoded.items outs
  listed_lie come text texts outs lists encodes =
      let some : os ≡ [] → ⊥ = λ e. not_none text texts (subst (λ xs. ListsEach w (numbers_named n) (type_name scope) ns (without_dot name) false xs (text ∷ texts)) e lists) in
      let a : AreSet s decoded n scope o settled = are_set s decoded n scope o settled come some in
      let r = listed a some (text ∷ texts) lists in
      let x : Message = r.1.0 in
      let xs : List Message = r.1.1 in
      let is : r.0 ≡ x ∷ xs = r.1.4 in
      let one = one_leads w (numbers_named n) (type_name scope) (without_dot name) ns false os text texts lists in
      let held : held_along ns a.m ≡ content (list (chain_of (map message (x ∷ xs)))) = r.2 ∙ ap (λ (ys : List Message). if_any (map message ys)) is in
      let bytes : List ℕ = bytes_of (types_of s.pool) (type_name scope) a.m in
      let lie : AllLieAlong ns bytes (map (bytes_of (types_of s.pool) (without_dot name)) (x ∷ xs)) =
      all_lie_along w (sound_types s.pool s.sound decoded) (numbers_named n) one.0.name (type_name scope) ns (without_dot name) one.1 a.m (x ∷ xs) held in
      let same : map (bytes_of (types_of s.pool) (without_dot name)) (x ∷ xs) ≡ outs =
      ap (map (bytes_of (types_of s.pool) (without_dot name))) (sym is) ∙ all_bytes s decoded name (text ∷ texts) r.0 outs r.1 encodes in
      subst (λ bs. AllLieAlong ns bs outs) (sym a.stored) (subst (AllLieAlong ns bytes) same lie)
