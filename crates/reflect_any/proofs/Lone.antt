-- The fields that are looked up are those by which a type keeps a message of any type.
use Rattle.std.proofs.Common.{◌≡◌, ℕ, Option, Some, None, sym, ap, ◌∙◌, subst}
use Rattle.std.specs.Prelude.{IfNone}
use Rattle.reflect_tables.specs.Types.{KindType, type_of_field}
use Rattle.reflect_pool.specs.FieldsLeft.{field_type}
use Rattle.reflect_pool.specs.Finds.{FindsField}
use Rattle.reflect_pool.specs.declared.message.MessageDescriptor.{MessageDescriptor}
use Rattle.reflect_pool.specs.declared.field.FieldDescriptor.{FieldDescriptor}
use Rattle.reflect_message.specs.Known.{numbered_field}
use Rattle.reflect_message.proofs.Known.{field_found, field_missing}
use Rattle.reflect_any.specs.Any.{IsLone, StandsAlone}

-- a fact is so where there is no value
pub where_none : {T : Type 0} (o : Option T) (P : Type 0) → P → IfNone o P
where_none None P p = p
where_none (Some x) P p = tt

module _ (m : MessageDescriptor) (n : ℕ) (kind : KindType) where
  -- no field has the number
  pub lone_missing : FindsField (λ g. g.number ≡ n) m None → IsLone m.pool.now m.index kind (numbered_field m.pool.now m.index n) → ⊥
  lone_missing none lone = subst (IsLone m.pool.now m.index kind) (field_missing m.pool.now m.index n none) lone

  module _ (f : FieldDescriptor) (same : f.message ≡ m) (first : FindsField (λ g. g.number ≡ n) m (Some f)) where
    found : numbered_field m.pool.now m.index n ≡ Some (field_type f)
    found = field_found m.pool.now m.index n f.index first ∙ ap (λ d. Some (type_of_field d.pool.now d.index f.index)) (sym same)

    -- the field of the number stands alone, and holds the kind
    pub lone_found : IsLone m.pool.now m.index kind (numbered_field m.pool.now m.index n) → ((field_type f).kind ≡ kind) × StandsAlone f.message.pool.now f.message.index (field_type f)
    lone_found lone =
        let here : IsLone m.pool.now m.index kind (Some (field_type f)) = subst (IsLone m.pool.now m.index kind) found lone in
        (here.0, subst (λ d. StandsAlone d.pool.now d.index (field_type f)) (sym same) here.1)

    pub found_lone : (field_type f).kind ≡ kind → StandsAlone f.message.pool.now f.message.index (field_type f) → IsLone m.pool.now m.index kind (numbered_field m.pool.now m.index n)
    found_lone holds alone = subst (IsLone m.pool.now m.index kind) (sym found) (holds, subst (λ d. StandsAlone d.pool.now d.index (field_type f)) same alone)
