-- The fields that a type has to have so that options can be read by it.
use Rattle.std.proofs.Common.{◌≡◌, inl, ℕ, ◌<◌, ◌==◌, Bool, true, false, true≢false, cond, not, ◌&&◌, ◌||◌, length, Option, Some, None, unwrap_or, refl, sym, ap, ◌∙◌, subst}
use Rattle.std.specs.Option.{option_and_then}
use Rattle.reflect_tables.specs.Finding.{IsFirst}
use Rattle.reflect_tables.specs.Types.{PoolType, FieldType, KindType, type_at, type_of_field, no_field, extension_at}
use Rattle.reflect_tables.specs.Types as types
use Rattle.reflect_pool.specs.FieldsLeft.{field_type}
use Rattle.reflect_pool.specs.Shapes.{holds_map, is_entry, is_repeated}
use Rattle.reflect_pool.specs.declared.message.MessageDescriptor.{MessageDescriptor}
use Rattle.reflect_pool.specs.declared.field.FieldDescriptor.{FieldDescriptor}
use Rattle.reflect_scalar.proofs.First.{find_place}
use Rattle.reflect_message.specs.Declares.{IsDeclared}
use Rattle.reflect_message.specs.Known.{has_floats, holds_floats, if_held, is_float, known_field, known_extension, numbered_field}
use Rattle.reflect_message.proofs.Known.{floats_held, numbered}
use Rattle.reflect_numbered.specs.Called.{HasNumber, IsMeant}
use Rattle.option_parts.specs.OptionTypes.{IsOfMessages, ListsMessages}
use Rattle.message_view.specs.Sound.{IsNotKept, IsSound}
use Rattle.message_view.proofs.Fields.{known, known_extension_is}

-- a list is no map
list_no_map : (repeated map : Bool) → repeated && not map ≡ true → map ≡ false
list_no_map true true e = absurd (cc e)
list_no_map true false e = refl
list_no_map false map e = absurd (cc e)

message_whole : (k : KindType) → IsOfMessages k → is_float k ≡ false
message_whole (types.message i) h = refl
message_whole k h = absurd h

-- neither holds floating-point numbers
pub listed_whole : (pool : PoolType) (g : FieldType) → ListsMessages pool g → holds_floats pool g ≡ false
listed_whole pool g h =
    let no_map = list_no_map (is_repeated g.cardinality) (holds_map pool g) h.listed in
    ap (λ b. b || (holds_map pool g && has_floats pool g.kind)) (message_whole g.kind h.messages) ∙ ap (λ b. b && has_floats pool g.kind) no_map

pub truth_whole : (pool : PoolType) (g : FieldType) → g.kind ≡ types.bool → holds_floats pool g ≡ false
truth_whole pool g e = ap (λ k. is_float k || ((is_entry pool k && (is_repeated g.cardinality && not g.group)) && has_floats pool k)) e

module _ (m : MessageDescriptor) (n : ℕ) (g : FieldType) (is : numbered_field m.pool.now m.index n ≡ Some g) where
  -- the first field of the number
  pub first_field : (f : FieldDescriptor) × (f.message ≡ m) × IsFirst (λ f. f.number ≡ n) (type_at m.pool.now m.index).fields (Some f.index) × (field_type f ≡ g) × (g.number ≡ n)
  first_field =
      let place = find_place (λ (g : FieldType). g.number ≡ n) (λ g. g.number == n) (numbered n) (type_at m.pool.now m.index).fields g is in
      let f : FieldDescriptor = record { message = m; index = place.0; in_range = place.1.0 } in
      let same : g ≡ field_type f = ap (λ o. unwrap_or o g) (sym is ∙ place.2 no_field) in
      (f, refl, place.1, sym same, ap (λ (t : FieldType). t.number) same ∙ place.1.1.0 no_field)

  module _ (whole : holds_floats m.pool.now g ≡ false) where
    pub field_known : known_field m.pool.now m.index n ≡ Some g
    field_known = ap (option_and_then (if_held m.pool.now)) is ∙ ap (λ b. cond b None (Some g)) whole

    pub field_declared : IsDeclared m n
    field_declared = let h = known m n g field_known in inl (h.0, h.1, ap (λ (t : FieldType). t.number) h.2 ∙ h.3)

    -- it is what the number means
    pub field_meant : (f : FieldDescriptor) × IsMeant (HasNumber n) m f
    field_meant =
        let h = first_field in
        let pool : h.0.message.pool.now ≡ m.pool.now = ap (λ (d : MessageDescriptor). d.pool.now) h.1 in (
          h.0,
          record {
            message = h.1;
            first = h.2;
            held = λ floats. true≢false (sym (floats_held h.0.message.pool.now (field_type h.0) floats) ∙ ap (λ p. holds_floats p (field_type h.0)) pool ∙ ap (holds_floats m.pool.now) h.3 ∙ whole);
          },
        )

  module _ (sound : IsSound m.pool.now) where
    -- no extension has it
    pub no_extension : known_extension m.pool.now m.index n ≡ None
    no_extension = by (known_extension m.pool.now m.index n) refl where
      free : IsNotKept m.pool.now m.index n
      free =
          let h = first_field in
          let number : (type_of_field m.pool.now m.index h.0.index).number ≡ n = h.2.1.0 no_field in
          subst (IsNotKept m.pool.now m.index) number (sound.apart.free m.index h.0.index h.2.0)

      by : (o : Option FieldType) → known_extension m.pool.now m.index n ≡ o → o ≡ None
      by None e = refl
      by (Some x) e =
          let h = known_extension_is m n x e in
          let pool : h.0.pool.now ≡ m.pool.now = h.1.0.0 in
          let there : h.0.index < length m.pool.now.extensions = subst (λ (p : PoolType). h.0.index < length p.extensions) pool h.0.in_range in
          let extendee : (extension_at m.pool.now h.0.index).extendee ≡ m.index = ap (λ p. (extension_at p h.0.index).extendee) (sym pool) ∙ h.1.0.1 in
          let number : (extension_at m.pool.now h.0.index).field.number ≡ n = ap (λ p. (extension_at p h.0.index).field.number) (sym pool) ∙ ap (λ (t : FieldType). t.number) h.2 ∙ h.3 in
          absurd (sound.apart.kept h.0.index there (subst (λ k. IsNotKept m.pool.now k (extension_at m.pool.now h.0.index).field.number) (sym extendee) (subst (IsNotKept m.pool.now m.index) (sym number) free)))

    -- each field of the type that has the number is it
    pub same_field : (f : FieldDescriptor) → f.message ≡ m → (field_type f).number ≡ n → field_type f ≡ g
    same_field f there number =
        let h = first_field in
        let its : field_type f ≡ type_of_field m.pool.now m.index f.index = ap (λ (d : MessageDescriptor). type_of_field d.pool.now d.index f.index) there in
        let within : f.index < length (type_at m.pool.now m.index).fields = subst (λ (d : MessageDescriptor). f.index < length (type_at d.pool.now d.index).fields) there f.in_range in
        let one : (type_of_field m.pool.now m.index f.index).number ≡ (type_of_field m.pool.now m.index h.0.index).number = sym (ap (λ (t : FieldType). t.number) its) ∙ number ∙ sym (h.2.1.0 no_field) in
        let place : f.index ≡ h.0.index = sound.apart.fields m.index f.index h.0.index within h.2.0 one in
        its ∙ ap (type_of_field m.pool.now m.index) place ∙ sym (ap (λ (d : MessageDescriptor). type_of_field d.pool.now d.index h.0.index) h.1) ∙ h.3

    -- a field with presence holds one value
    pub holds_one : holds_floats m.pool.now g ≡ false → g.presence ≡ true → is_repeated g.cardinality ≡ false
    holds_one whole presence = by (is_repeated g.cardinality) refl where
      by : (b : Bool) → is_repeated g.cardinality ≡ b → b ≡ false
      by false e = refl
      by true e = absurd (true≢false (sym presence ∙ sound.lists.unset m.index n g (inl (field_known whole)) e))
