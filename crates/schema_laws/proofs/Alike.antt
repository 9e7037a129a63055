-- Two pools that say the same to texts read options by the same types.
use Rattle.std.proofs.Common.{◌≡◌, ◌∙◌, ◌<◌, ℕ, List, length, Option, None, ap, sym}
use Rattle.std.proofs.lemmas.Option.{IfSome_then}
use Rattle.message_view.specs.Sound.{IsSound}
use Rattle.message_view.specs.Types.{name_at}
use Rattle.option_parts.specs.OptionTypes.{CanRead, IsNamedType, IsOptionType, type_name, typed_option}
use Rattle.option_parts.specs.declared.option_scope.OptionScope.{OptionScope}
use Rattle.schema_laws.proofs.OptionFields.{lists_alike, truth_alike}
use Rattle.schema_laws.proofs.ScopeTypes.{named_in_both}
use Rattle.protobuf_model.specs.Types.{Name}
use Rattle.protobuf_model.specs.Values.{Message}
use Rattle.reflect_tables.specs.Types.{PoolType, no_type}
use Rattle.text_model.specs.Schemas.{Schema, shape_of}
use Rattle.text_view.proofs.Shapes.{shape_is}
use Rattle.text_view.specs.Schemas.{schema_of, shape_at}
use Rattle.schema_laws.specs.ToldMessages.{KeepAlike}

-- nothing is read of the messages that bytes mean
abbrev pub unread : Name → List ℕ → Option Message
unread t bytes = None

module _ (p q : PoolType) (sound : IsSound p) (also : IsSound q) (alike : schema_of p unread ≡ schema_of q unread) where
  -- types of one name say the same
  shapes_alike : (i k : ℕ) → i < length p.messages → k < length q.messages → name_at p i ≡ name_at q k → shape_at p i ≡ shape_at q k
  shapes_alike i k lt less e =
      sym (shape_is p sound.names unread i lt) ∙ ap (λ (w : Schema). shape_of w (name_at p i)) alike
      ∙ ap (shape_of (schema_of q unread)) e ∙ shape_is q also.names unread k less

  -- so the one reads the options of a scope by such a type as the other does
  pub read_alike : KeepAlike p q → (scope : OptionScope) → CanRead p scope → CanRead q scope
  read_alike keep scope can k first =
      let there : (i : ℕ) × IsNamedType p scope i = named_in_both scope p q (ap (λ (w : Schema). w.message (type_name scope)) alike) k first in
      let i : ℕ = there.0 in
      let e : name_at p i ≡ name_at q k = there.1.1.0 no_type ∙ sym (first.1.0 no_type) in
      let shape : shape_at p i ≡ shape_at q k = shapes_alike i k there.1.0 first.0 e in
      let its : IsOptionType p scope i = can i there.1 in
      record {
        uninterpreted = lists_alike p q i k 999 shape its.uninterpreted;
        extensions = keep i k there.1.0 first.0 e its.extensions;
        typed = IfSome_then (typed_option scope) its.typed (λ o. truth_alike p q i k o.1 shape sound.lists o.0);
      }
