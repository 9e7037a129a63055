-- The field of a number, of which the printer reads what stands there, is the one that is found by it.
use Rattle.std.proofs.Common.{◌≡◌, ℕ, ◌<◌, length, Some, refl, sym, ap, ◌∙◌, subst}
use Rattle.reflect_tables.specs.Finding.{IsFirst}
use Rattle.reflect_tables.specs.Types.{FieldType, PoolType, type_at, type_of_field}
use Rattle.reflect_pool.specs.FieldsLeft.{field_type}
use Rattle.reflect_pool.specs.declared.field.FieldDescriptor.{FieldDescriptor}
use Rattle.reflect_entries.specs.Entries.{value_at}
use Rattle.reflect_message.specs.Held.{fields_of}
use Rattle.reflect_message.specs.Known.{numbered_field}
use Rattle.reflect_message.specs.Names.{DynamicMessage, Value}
use Rattle.reflect_message.specs.Shown.{IsHeldOrDefault}
use Rattle.reflect_message.proofs.Known.{field_found}
use Rattle.print_parts.specs.Expands.{IsUnder}
use Rattle.message_view.specs.Sound.{AreApart}
use Rattle.text_view.proofs.Apart.{field_first}

module _ (m : DynamicMessage) (apart : AreApart m.descriptor.pool.now) (n : ℕ) (v : Value) (under : IsUnder m n v) where
  abbrev pool : PoolType
  pool = m.descriptor.pool.now

  abbrev i : ℕ
  i = m.descriptor.index

  abbrev f : FieldDescriptor
  f = under.field

  abbrev g : FieldType
  g = field_type under.field

  place : type_of_field pool i f.index ≡ g
  place = ap (λ j. type_of_field pool j f.index) (sym under.declared.0) ∙ ap (λ p. type_of_field p f.message.index f.index) (sym under.declared.1)

  in_fields : f.index < length (type_at pool i).fields
  in_fields = subst (λ (p : PoolType). f.index < length (type_at p i).fields) under.declared.1 (subst (λ j. f.index < length (type_at f.message.pool.now j).fields) under.declared.0 f.in_range)

  first : IsFirst (λ (h : FieldType). h.number ≡ g.number) (type_at pool i).fields (Some f.index)
  first =
      subst (λ (t : FieldType). IsFirst (λ (h : FieldType). h.number ≡ t.number) (type_at pool i).fields (Some f.index)) place
      (field_first m.descriptor apart (record { message = m.descriptor; index = f.index; in_range = in_fields }) refl in_fields)

  pub under_found : numbered_field m.descriptor.pool.now m.descriptor.index n ≡ Some (field_type under.field)
  under_found = ap (numbered_field pool i) (sym under.number) ∙ field_found pool i g.number f.index first ∙ ap Some place

  pub under_value : IsHeldOrDefault m.descriptor.pool.now (field_type under.field) (value_at (fields_of m) n) v
  under_value = subst (λ q. IsHeldOrDefault pool g (value_at (fields_of m) q) v) under.number (subst (λ p. IsHeldOrDefault p g (value_at (fields_of m) g.number) v) under.declared.1 under.value)
