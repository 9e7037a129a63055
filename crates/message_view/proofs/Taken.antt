-- Messages stay in shape when fields, extensions or records are taken out.
use Rattle.std.proofs.Common.{◌≡◌, inl, inr, ℕ, List, [], None, Some, refl, sym, subst}
use Rattle.protobuf_model.specs.Meaning.{payloads}
use Rattle.reflect_decode.specs.Ordered.{AreNumbered, Ascend, IsOrdered, last}
use Rattle.reflect_decode.proofs.Ordering.{nothing_ordered}
use Rattle.reflect_entries.specs.Entries.{value_at}
use Rattle.reflect_message.specs.Contents.{content_of}
use Rattle.reflect_message.specs.Held.{extensions_of, fields_of, unknown_of}
use Rattle.reflect_message.specs.Names.{DynamicMessage, Value}
use Rattle.reflect_pool.specs.FieldsLeft.{field_type}
use Rattle.reflect_pool.specs.declared.message.MessageDescriptor.{MessageDescriptor}
use Rattle.reflect_scalar.specs.FieldTypes.{extension_type}
use Rattle.reflect_tables.specs.Types.{FieldType}
use Rattle.reflect_wire.specs.Records.{Payload}
use Rattle.message_view.specs.Shaped.{FitsShaped, IsShaped}
use Rattle.message_view.specs.Taken.{AllOrNothing, TakesOut}

-- what holds of all that was held, and of nothing, holds of what is left
pub left_with : {X : Type 0} (P : List X → Type 0) (old new : List X) → AllOrNothing old new
    → P old → P [] → P new
left_with P old new (inl same) all none = subst P (sym same) all
left_with P old new (inr gone) all none = subst P (sym gone) none

module _ (old new : DynamicMessage) (taken : TakesOut old new) where
  of_fields : (P : List (ℕ × Value) → Type 0) → P (fields_of old) → P [] → P (fields_of new)
  of_fields P = left_with P (fields_of old) (fields_of new) taken.fields

  of_extensions : (P : List (ℕ × Value) → Type 0) → P (extensions_of old) → P []
      → P (extensions_of new)
  of_extensions P = left_with P (extensions_of old) (extensions_of new) taken.extensions

  of_records : (P : List (ℕ × Payload) → Type 0) → P (unknown_of old) → P [] → P (unknown_of new)
  of_records P = left_with P (unknown_of old) (unknown_of new) taken.unknown

  -- in order
  pub taken_ordered : IsOrdered (content_of old) → IsOrdered (content_of new)
  taken_ordered ordered = record {
    fields = of_fields AreNumbered ordered.fields nothing_ordered.fields;
    extensions = of_extensions AreNumbered ordered.extensions nothing_ordered.extensions;
    unknown = of_records (Ascend 1 last) ordered.unknown nothing_ordered.unknown;
  }

  module _ (inner : DynamicMessage → Type 0)
      (shape : IsShaped inner old.descriptor (content_of old)) where
    -- what stands under a field's number suits it
    abbrev Here : FieldType → List (ℕ × Value) → Type 0
    Here f es = (v : Value) → value_at es f.number ≡ Some v
        → FitsShaped inner old.descriptor.pool.now f v

    none_here : (f : FieldType) → Here f []
    none_here f v at = absurd (cc at)

    still_shaped : IsShaped inner old.descriptor (content_of new)
    still_shaped = record {
      ordered = taken_ordered shape.ordered;
      fields = λ f owns.
          of_fields (Here (field_type f)) (shape.fields f owns) (none_here (field_type f));
      extensions = λ x owns none.
          of_extensions (Here (extension_type x)) (shape.extensions x owns none)
          (none_here (extension_type x));
      apart = λ f owns.
          of_extensions (λ es. value_at es (field_type f).number ≡ None) (shape.apart f owns) refl;
      unowned = λ n none. of_fields (λ es. value_at es n ≡ None) (shape.unowned n none) refl;
      declared = λ n is. of_records (λ rs. payloads n rs ≡ []) (shape.declared n is) refl;
    }

    pub taken_shaped : IsShaped inner new.descriptor (content_of new)
    taken_shaped =
        subst (λ (d : MessageDescriptor). IsShaped inner d (content_of new)) (sym taken.same_type)
        still_shaped
