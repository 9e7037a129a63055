-- Other members of a field's oneof, which are unset when the field gets values (protobuf.dev,
-- "Language Guide", Oneof).
use Rattle.std.specs.Prelude.{◌≡◌, ◌≢◌, ℕ, List, None, Some}
use Rattle.reflect_entries.specs.Entries.{value_at}
use Rattle.reflect_pool.specs.FieldsLeft.{field_type}
use Rattle.reflect_pool.specs.declared.field.FieldDescriptor.{FieldDescriptor}
use Rattle.reflect_message.specs.Held.{Same}
use Rattle.reflect_message.specs.Oneofs.{sibling}
use Rattle.reflect_message.specs.Names.{Value}

-- the other member of the field's oneof that is noted, if there is one, holds nothing
abbrev pub LacksSibling : FieldDescriptor → List (ℕ × ℕ) → List (ℕ × Value) → Type 0
LacksSibling f choices held = (n : ℕ) → sibling f choices ≡ Some n → value_at held n ≡ None

-- nothing changes under other numbers than the field's, and so under none of another member
abbrev pub KeepsRest : FieldDescriptor → List (ℕ × Value) → List (ℕ × Value) → Type 0
KeepsRest f old new = (n : ℕ) → n ≢ (field_type f).number → Same old new n
