-- What is set and unset in a message, as the view of it has it.
use Rattle.std.proofs.Common.{◌≡◌, ◌≢◌, ℕ, zero, suc, ◌==◌, ◌&&◌, not, Bool, true, false, true≢false, List, [], Option, None, Some, option_map, refl, sym, ap, ◌∙◌}
use Rattle.protobuf_model.specs.Meaning.{payloads}
use Rattle.protobuf_model.specs.Typed.{IsTyped}
use Rattle.protobuf_model.specs.Types.{Field, Name, Types, oneof_of, rival, same_oneof}
use Rattle.protobuf_model.specs.Values.{Held, Message, absent}
use Rattle.reflect_entries.specs.Entries.{value_at}
use Rattle.reflect_message.specs.Contents.{Content, content_of, nothing}
use Rattle.reflect_message.specs.Declares.{NoField, Owns, OwnsExtension}
use Rattle.reflect_message.specs.Held.{Same, UpdatesExtension, UpdatesField, extensions_of, fields_of, unknown_of}
use Rattle.reflect_message.specs.Known.{known_extension, known_field}
use Rattle.reflect_message.specs.Names.{DynamicMessage, Value}
use Rattle.reflect_message.specs.Oneofs.{IsExclusive, IsSibling, SetsField}
use Rattle.reflect_pool.specs.FieldsLeft.{field_type}
use Rattle.reflect_pool.specs.declared.extension.ExtensionDescriptor.{ExtensionDescriptor}
use Rattle.reflect_pool.specs.declared.field.FieldDescriptor.{FieldDescriptor}
use Rattle.reflect_pool.specs.declared.message.MessageDescriptor.{MessageDescriptor}
use Rattle.reflect_scalar.specs.FieldTypes.{extension_type}
use Rattle.reflect_tables.specs.Types.{FieldType}
use Rattle.reflect_wire.specs.Records.{Payload}
use Rattle.message_view.specs.Sound.{IsSound}
use Rattle.message_view.specs.Types.{either_field, field_at, name_at, types_of}
use Rattle.message_view.specs.Views.{content_view, contents_view, held_either, held_in, view}
use Rattle.message_view.proofs.Fields.{extension_owned, none_known, owned}
use Rattle.message_view.proofs.Oneofs.{rival_is_sibling, sibling_is_rival}
use Rattle.message_view.proofs.Seen.{value_at-view, view_opened}
use Rattle.message_view.proofs.Sound.{named}
use Rattle.set_view.specs.Puts.{IsPut, IsUnset}
use Rattle.set_view.proofs.Suited.{nothing_typed}

-- what stands under a number, by what the fields, the extensions and the records have there
abbrev seen : MessageDescriptor → ℕ → (field extension : Option Value) → List (ℕ × Payload) → Held
seen d n field extension unknown =
    held_either d.pool.now (known_field d.pool.now d.index n) (known_extension d.pool.now d.index n)
    (option_map content_view field) (option_map content_view extension) (payloads n unknown)

abbrev pub by_fields : MessageDescriptor → ℕ → Option FieldType → Option FieldType → (field extension : Option Value) → List (ℕ × Payload) → Held
by_fields d n f x field extension unknown = held_either d.pool.now f x (option_map content_view field) (option_map content_view extension) (payloads n unknown)

pub view_at : (m : DynamicMessage) (n : ℕ) → view m n ≡ seen m.descriptor n (value_at (fields_of m) n) (value_at (extensions_of m) n) (unknown_of m)
view_at m n =
    let d = m.descriptor in
    let f = known_field d.pool.now d.index n in
    let x = known_extension d.pool.now d.index n in
    ap (λ (v : Message). v n) (view_opened m)
    ∙ ap (λ o. held_either d.pool.now f x o (value_at (contents_view (extensions_of m)) n) (payloads n (unknown_of m))) (value_at-view (fields_of m) n)
    ∙ ap (λ o. held_either d.pool.now f x (option_map content_view (value_at (fields_of m) n)) o (payloads n (unknown_of m))) (value_at-view (extensions_of m) n)

-- nothing is set
pub empty_view : (m : DynamicMessage) → content_of m ≡ nothing → (n : ℕ) → view m n ≡ absent
empty_view m empty n =
    let d = m.descriptor in
    view_at m n ∙ ap (λ (c : Content). seen d n (value_at c.fields n) (value_at c.extensions n) c.unknown) empty
    ∙ none (known_field d.pool.now d.index n) (known_extension d.pool.now d.index n) where
      none : (f x : Option FieldType) → by_fields m.descriptor n f x None None [] ≡ absent
      none (Some f) x = refl
      none None (Some x) = refl
      none None None = refl

pub empty_suits : (levels : ℕ) (types : Types) (t : Name) (m : DynamicMessage) → content_of m ≡ nothing → IsTyped levels types t (view m)
empty_suits zero types t m empty = nothing_typed (λ u m. ⊥) zero (types t) (view m) (empty_view m empty)
empty_suits (suc levels) types t m empty = nothing_typed (IsTyped levels types) (suc levels) (types t) (view m) (empty_view m empty)

module _ (old new : DynamicMessage) (type : new.descriptor ≡ old.descriptor) where
  abbrev d : MessageDescriptor
  d = old.descriptor

  pub view_new : (n : ℕ) → view new n ≡ seen d n (value_at (fields_of new) n) (value_at (extensions_of new) n) (unknown_of new)
  view_new n = view_at new n ∙ ap (λ (d : MessageDescriptor). seen d n (value_at (fields_of new) n) (value_at (extensions_of new) n) (unknown_of new)) type

  -- under a number under which the same stands
  pub stays : (n : ℕ) → value_at (fields_of new) n ≡ value_at (fields_of old) n → value_at (extensions_of new) n ≡ value_at (extensions_of old) n → unknown_of new ≡ unknown_of old → view new n ≡ view old n
  stays n fields extensions unknown =
      view_new n ∙ ap (λ o. seen d n o (value_at (extensions_of new) n) (unknown_of new)) fields
      ∙ ap (λ o. seen d n (value_at (fields_of old) n) o (unknown_of new)) extensions
      ∙ ap (seen d n (value_at (fields_of old) n) (value_at (extensions_of old) n)) unknown ∙ sym (view_at old n)

  -- under that of a field
  pub of_field : (f : FieldDescriptor) → Owns d f → (o : Option Value) → value_at (fields_of new) (field_type f).number ≡ o
      → view new (field_type f).number ≡ held_in d.pool.now (field_type f) (option_map content_view o)
  of_field f owns o is =
      let n = (field_type f).number in
      view_new n ∙ ap (λ o. seen d n o (value_at (extensions_of new) n) (unknown_of new)) is
      ∙ ap (λ k. by_fields d n k (known_extension d.pool.now d.index n) o (value_at (extensions_of new) n) (unknown_of new)) (owned d f owns)

  -- and under that of an extension
  pub of_extension : (x : ExtensionDescriptor) → OwnsExtension d x → NoField d (extension_type x).number → (o : Option Value) → value_at (extensions_of new) (extension_type x).number ≡ o
      → view new (extension_type x).number ≡ held_in d.pool.now (extension_type x) (option_map content_view o)
  of_extension x owns none o is =
      let n = (extension_type x).number in
      view_new n ∙ ap (λ o. seen d n (value_at (fields_of new) n) o (unknown_of new)) is
      ∙ ap (λ k. by_fields d n k (known_extension d.pool.now d.index n) (value_at (fields_of new) n) o (unknown_of new)) (none_known d n none)
      ∙ ap (λ k. by_fields d n None k (value_at (fields_of new) n) o (unknown_of new)) (extension_owned d x owns)

  pub field_unset : (f : FieldDescriptor) → Owns d f → UpdatesField old new (field_type f).number None → IsUnset (field_type f).number (view old) (view new)
  field_unset f owns updates = record {
    here = of_field f owns None updates.field.here;
    others = λ q other. stays q (updates.field.others q other) (ap (λ es. value_at es q) updates.extensions) updates.unknown;
  }

  pub extension_unset : (x : ExtensionDescriptor) → OwnsExtension d x → NoField d (extension_type x).number → UpdatesExtension old new (extension_type x).number None
      → IsUnset (extension_type x).number (view old) (view new)
  extension_unset x owns none updates = record {
    here = of_extension x owns none None updates.extension.here;
    others = λ q other. stays q (ap (λ es. value_at es q) updates.fields) (updates.extension.others q other) updates.unknown;
  }

-- what is set, by the types of a pool
module _ (old new : DynamicMessage) (sound : IsSound old.descriptor.pool.now) (type : new.descriptor ≡ old.descriptor) where
  abbrev its : MessageDescriptor
  its = old.descriptor

  abbrev fields : ℕ → Option Field
  fields = types_of its.pool.now (name_at its.pool.now its.index)

  told : (n : ℕ) → fields n ≡ field_at its.pool.now its.index n
  told n = named its.pool.now sound.names its.index n its.in_range

  -- under the number of a field stands something, and under those of other members of its oneof nothing
  pub field_holds : (f : FieldDescriptor) → Owns its f → (o : Option Value) → value_at (fields_of new) (field_type f).number ≡ o
      → ((q : ℕ) → IsSibling its f q → value_at (fields_of new) q ≡ None)
      → ((q : ℕ) → q ≢ (field_type f).number → (IsSibling its f q → ⊥) → Same (fields_of old) (fields_of new) q)
      → extensions_of new ≡ extensions_of old → unknown_of new ≡ unknown_of old
      → IsPut fields (field_type f).number (held_in its.pool.now (field_type f) (option_map content_view o)) (view old) (view new)
  field_holds f owns o under unset stay extensions unknown = record {
    here = of_field old new type f owns o under;
    rivals = λ q is. gone q (rival_is_sibling its fields told f owns q is);
    others = λ q other is. stays old new type q
        (stay q other (λ sibling. true≢false (sym (sibling_is_rival its fields told f owns q sibling) ∙ is)))
        (ap (λ es. value_at es q) extensions) unknown;
  } where
    gone : (q : ℕ) → IsSibling its f q → view new q ≡ absent
    gone q sibling =
        let g = sibling.1 in
        let is = sibling.3 in
        ap (view new) (sym is)
        ∙ of_field old new type g sibling.2 None (ap (value_at (fields_of new)) is ∙ unset q sibling)

  pub field_put : IsExclusive old → (f : FieldDescriptor) → Owns its f → (v : Value) → SetsField old new f v
      → IsPut fields (field_type f).number (held_in its.pool.now (field_type f) (Some (content_view v))) (view old) (view new)
  field_put exclusive f owns v sets = field_holds f owns (Some v) sets.here (sets.siblings owns exclusive) (sets.others owns exclusive) sets.extensions sets.unknown

  -- the same of an extension
  pub extension_holds : (x : ExtensionDescriptor) → OwnsExtension its x → NoField its (extension_type x).number → (o : Option Value) → value_at (extensions_of new) (extension_type x).number ≡ o
      → ((q : ℕ) → q ≢ (extension_type x).number → Same (extensions_of old) (extensions_of new) q)
      → fields_of new ≡ fields_of old → unknown_of new ≡ unknown_of old
      → IsPut fields (extension_type x).number (held_in its.pool.now (extension_type x) (option_map content_view o)) (view old) (view new)
  extension_holds x owns none o under stay same_fields unknown = record {
    here = of_extension old new type x owns none o under;
    rivals = λ q is. absurd (true≢false (sym is ∙ alone q));
    others = λ q other is. stays old new type q (ap (λ es. value_at es q) same_fields) (stay q other) unknown;
  } where
    -- an extension is in no oneof
    no_oneof : oneof_of (fields (extension_type x).number) ≡ None
    no_oneof =
        ap oneof_of (told (extension_type x).number)
        ∙ ap (λ k. oneof_of (either_field its.pool.now its.index k (known_extension its.pool.now its.index (extension_type x).number))) (none_known its (extension_type x).number none)
        ∙ ap (λ k. oneof_of (either_field its.pool.now its.index None k)) (extension_owned its x owns)

    never : (b : Bool) → (b && false) ≡ false
    never true = refl
    never false = refl

    alone : (q : ℕ) → rival fields (extension_type x).number q ≡ false
    alone q = ap (λ o. not (q == (extension_type x).number) && same_oneof o (oneof_of (fields q))) no_oneof ∙ never (not (q == (extension_type x).number))

  pub extension_put : (x : ExtensionDescriptor) → OwnsExtension its x → NoField its (extension_type x).number → (v : Value) → UpdatesExtension old new (extension_type x).number (Some v)
      → IsPut fields (extension_type x).number (held_in its.pool.now (extension_type x) (Some (content_view v))) (view old) (view new)
  extension_put x owns none v updates = extension_holds x owns none (Some v) updates.extension.here updates.extension.others updates.fields updates.unknown
