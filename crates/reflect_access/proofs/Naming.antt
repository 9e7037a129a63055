-- The field that is found by a name is the one that is meant.
use Rattle.std.proofs.Common.{◌≡◌, ℕ, List, Option, None, Some, bytes_eq, sym, ap, ◌∙◌, subst}
use Rattle.std.proofs.lemmas.Slice.Eq.{bytes_eq-Decides}
use Rattle.std.specs.List.{find}
use Rattle.reflect_tables.specs.Types.{FieldType, type_at, no_field}
use Rattle.reflect_pool.specs.FieldsLeft.{field_type}
use Rattle.reflect_pool.specs.Finds.{FindsField}
use Rattle.reflect_pool.specs.declared.field.FieldDescriptor.{FieldDescriptor}
use Rattle.reflect_pool.specs.declared.message.MessageDescriptor.{MessageDescriptor}
use Rattle.reflect_scalar.proofs.First.{Tells, find_none, find_some}
use Rattle.reflect_scalar.specs.FieldTypes.{field_pool}
use Rattle.reflect_scalar.specs.Floats.{HoldsFloats}
use Rattle.reflect_numbered.specs.Called.{HasName, NoneMeant}

named : (name : List ℕ) → Tells (HasName name) (λ f. bytes_eq f.name name)
named name = record {
  says = λ f e. (bytes_eq-Decides f.name name).0 e;
  passes = λ f e. (bytes_eq-Decides f.name name).1 e;
}

module _ (m : MessageDescriptor) (name : List ℕ) where
  -- the first field of the name
  named_field : Option FieldType
  named_field = find (λ f. bytes_eq f.name name) (type_at m.pool.now m.index).fields

  found : (f : FieldDescriptor) → f.message ≡ m → FindsField (HasName name) m (Some f) → named_field ≡ Some (field_type f)
  unfolding named_field
  found f is first =
      find_some (HasName name) (λ f. bytes_eq f.name name) (named name) (type_at m.pool.now m.index).fields no_field f.index first
      ∙ sym (ap (λ (d : MessageDescriptor). Some (Rattle.reflect_tables.specs.Types.type_of_field d.pool.now d.index f.index)) is)

  missing : FindsField (HasName name) m None → named_field ≡ None
  unfolding named_field
  missing none = find_none (HasName name) (λ f. bytes_eq f.name name) (named name) (type_at m.pool.now m.index).fields none

  pub none_by_name : FindsField (HasName name) m None → NoneMeant (HasName name) m
  none_by_name none f meant = absurd (cc (missing none, found f meant.message meant.first))

  -- two fields of the name that messages may hold are of one type
  pub floats_by_name : (f : FieldDescriptor) → f.message ≡ m → FindsField (HasName name) m (Some f) → HoldsFloats (field_pool f) (field_type f) → NoneMeant (HasName name) m
  floats_by_name f is first floats g meant =
      let same : field_type f ≡ field_type g = cc (found f is first, found g meant.message meant.first) in
      let pools : field_pool f ≡ field_pool g = ap (λ (d : MessageDescriptor). d.pool.now) (is ∙ sym meant.message) in
      meant.held (subst (λ p. HoldsFloats p (field_type g)) pools (subst (HoldsFloats (field_pool f)) same floats))
