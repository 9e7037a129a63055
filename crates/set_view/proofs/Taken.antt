-- What messages mean out of which fields, extensions or records are taken.
use Rattle.std.proofs.Common.{◌≡◌, ◌⊎◌, inl, inr, ℕ, zero, suc, List, Option, None, Some, option_map, refl, sym, ◌∙◌}
use Rattle.protobuf_model.specs.Meaning.{payloads}
use Rattle.protobuf_model.specs.Typed.{IsTyped}
use Rattle.protobuf_model.specs.Types.{Name, Types}
use Rattle.protobuf_model.specs.Values.{Held, absent, records}
use Rattle.reflect_entries.specs.Entries.{value_at}
use Rattle.reflect_message.specs.Held.{extensions_of, fields_of, unknown_of}
use Rattle.reflect_message.specs.Known.{known_extension, known_field}
use Rattle.reflect_message.specs.Names.{DynamicMessage, Value}
use Rattle.reflect_pool.specs.declared.message.MessageDescriptor.{MessageDescriptor}
use Rattle.reflect_tables.specs.Types.{FieldType}
use Rattle.message_view.specs.Taken.{TakesOut}
use Rattle.message_view.specs.Views.{content_view, held_in, view}
use Rattle.message_view.proofs.Taken.{left_with}
use Rattle.set_view.proofs.Suited.{left_typed}
use Rattle.set_view.proofs.Viewed.{by_fields, view_at, view_new}

module _ (old new : DynamicMessage) (taken : TakesOut old new) where
  abbrev d : MessageDescriptor
  d = old.descriptor

  abbrev held : FieldType → ℕ → List (ℕ × Value) → Held
  held g n es = held_in d.pool.now g (option_map content_view (value_at es n))

  -- what a message of the type shows under a number, by its field and its extension
  abbrev shown : DynamicMessage → ℕ → Option FieldType → Option FieldType → Held
  shown m n f x =
      by_fields d n f x (value_at (fields_of m) n) (value_at (extensions_of m) n) (unknown_of m)

  -- what was there is left, or nothing
  abbrev IsLeft : Held → Held → Type 0
  IsLeft before after = (after ≡ before) ⊎ (after ≡ absent)

  shown_left : (n : ℕ) (f x : Option FieldType) → IsLeft (shown old n f x) (shown new n f x)
  shown_left n (Some g) x =
      left_with (λ es. IsLeft (held g n (fields_of old)) (held g n es)) (fields_of old)
      (fields_of new) taken.fields (inl refl) (inr refl)
  shown_left n None (Some g) =
      left_with (λ es. IsLeft (held g n (extensions_of old)) (held g n es)) (extensions_of old)
      (extensions_of new) taken.extensions (inl refl) (inr refl)
  shown_left n None None =
      left_with (λ rs. IsLeft (records (payloads n (unknown_of old))) (records (payloads n rs)))
      (unknown_of old) (unknown_of new) taken.unknown (inl refl) (inr refl)

  abbrev known : ℕ → DynamicMessage → Held
  known n m =
      shown m n (known_field d.pool.now d.index n) (known_extension d.pool.now d.index n)

  view_left : (n : ℕ) → IsLeft (view old n) (view new n)
  view_left n =
      by (shown_left n (known_field d.pool.now d.index n) (known_extension d.pool.now d.index n)) where
        now : view new n ≡ known n new
        now = view_new old new taken.same_type n

        by : IsLeft (known n old) (known n new) → IsLeft (view old n) (view new n)
        by (inl same) = inl (now ∙ same ∙ sym (view_at old n))
        by (inr gone) = inr (now ∙ gone)

pub taken_suits : (levels : ℕ) (types : Types) (t : Name) (old new : DynamicMessage)
    → TakesOut old new → IsTyped levels types t (view old) → IsTyped levels types t (view new)
taken_suits zero types t old new taken typed =
    left_typed (λ u m. ⊥) zero (types t) (view old) (view new) typed (view_left old new taken)
taken_suits (suc levels) types t old new taken typed =
    left_typed (IsTyped levels types) (suc levels) (types t) (view old) (view new) typed
    (view_left old new taken)
