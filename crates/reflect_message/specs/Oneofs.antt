-- Members of oneofs (protobuf.dev, "Language Guide", Oneof). A oneof is told by the number of its
-- first member.
use Rattle.std.specs.Prelude.{◌≡◌, ◌≢◌, ◌⊎◌, ℕ, List, Option, None, Some}
use Rattle.std.specs.Option.{IsSome, option_and_then}
use Rattle.reflect_entries.specs.Entries.{IsAscending, value_at}
use Rattle.reflect_entries.specs.Members.{other_than, first_member_of}
use Rattle.reflect_pool.specs.FieldsLeft.{field_type}
use Rattle.reflect_pool.specs.declared.message.MessageDescriptor.{MessageDescriptor}
use Rattle.reflect_pool.specs.declared.field.FieldDescriptor.{FieldDescriptor}
use Rattle.reflect_message.specs.Declares.{Owns}
use Rattle.reflect_message.specs.Held.{fields_of, choices_of, extensions_of, unknown_of}
use Rattle.reflect_message.specs.Names.{DynamicMessage, Value}

-- the number is that of another member of the field's oneof
abbrev pub IsSibling : MessageDescriptor → FieldDescriptor → ℕ → Type 0
IsSibling m f n = (first : ℕ) × (g : FieldDescriptor) × Owns m g × ((field_type g).number ≡ n)
    × (n ≢ (field_type f).number) × (first_member_of f ≡ Some first)
    × (first_member_of g ≡ Some first)

-- the members that are noted are members of their oneofs, and no other one holds anything
pub record AreChosen (m : MessageDescriptor) (choices : List (ℕ × ℕ))
    (held : List (ℕ × Value)) : Type 0 where
  pub member : (first n : ℕ) → value_at choices first ≡ Some n → (g : FieldDescriptor) × Owns m g
      × ((field_type g).number ≡ n) × (first_member_of g ≡ Some first)
  pub noted : (f : FieldDescriptor) → Owns m f → (first : ℕ) → first_member_of f ≡ Some first
      → IsSome (value_at held (field_type f).number) → value_at choices first
      ≡ Some (field_type f).number

-- of each oneof of the message one member at most holds anything, and it is noted
abbrev pub IsExclusive : DynamicMessage → Type 0
IsExclusive m = AreChosen m.descriptor (choices_of m) (fields_of m)

-- the member of the field's oneof that is noted, if it is another
abbrev pub sibling : FieldDescriptor → List (ℕ × ℕ) → Option ℕ
sibling f choices = option_and_then
    (λ first. other_than (field_type f).number (value_at choices first)) (first_member_of f)

-- the field is noted as the member of its oneof, and what is noted of others stays
pub record Chooses (f : FieldDescriptor) (old new : List (ℕ × ℕ)) : Type 0 where
  pub noted : (first : ℕ) → first_member_of f ≡ Some first → value_at new first
      ≡ Some (field_type f).number
  pub others : (first : ℕ) → first_member_of f ≢ Some first → value_at new first
      ≡ value_at old first

-- room is made for the field's choice: where nothing was noted of its oneof, it may be noted itself
abbrev pub MakesRoom : FieldDescriptor → List (ℕ × ℕ) → List (ℕ × ℕ) → Type 0
MakesRoom f old new = (first : ℕ) → (value_at new first ≡ value_at old first)
    ⊎ ((first_member_of f ≡ Some first) × (value_at old first ≡ None)
    × (value_at new first ≡ Some (field_type f).number))

-- under other numbers than the field's nothing changes, but that the other member of its oneof that
-- was noted is unset
pub record Changes (f : FieldDescriptor) (choices : List (ℕ × ℕ))
    (old new : List (ℕ × Value)) : Type 0 where
  pub unset : (n : ℕ) → sibling f choices ≡ Some n → value_at new n ≡ None
  pub others : (n : ℕ) → n ≢ (field_type f).number → sibling f choices ≢ Some n → value_at new n
      ≡ value_at old n

-- the other member of the field's oneof that was noted is unset, and nothing else
pub record Unsets (f : FieldDescriptor) (choices : List (ℕ × ℕ))
    (old new : List (ℕ × Value)) : Type 0 where
  pub unset : (n : ℕ) → sibling f choices ≡ Some n → value_at new n ≡ None
  pub others : (n : ℕ) → sibling f choices ≢ Some n → value_at new n ≡ value_at old n

-- under the field's number stands the value, other members of its oneof are unset, and nothing else
-- is changed
pub record SetsField (old new : DynamicMessage) (f : FieldDescriptor) (v : Value) : Type 0 where
  pub here : value_at (fields_of new) (field_type f).number ≡ Some v
  pub changes : Changes f (choices_of old) (fields_of old) (fields_of new)
  pub siblings : Owns old.descriptor f → IsExclusive old → (n : ℕ) → IsSibling old.descriptor f n
      → value_at (fields_of new) n ≡ None
  pub others : Owns old.descriptor f → IsExclusive old → (n : ℕ) → n ≢ (field_type f).number
      → (IsSibling old.descriptor f n → ⊥) → value_at (fields_of new) n ≡ value_at (fields_of old) n
  pub extensions : extensions_of new ≡ extensions_of old
  pub unknown : unknown_of new ≡ unknown_of old

-- so it is set, its type stays, and of each oneof still one member at most holds anything
pub record PutsField (old new : DynamicMessage) (f : FieldDescriptor) (v : Value) : Type 0 where
  pub same_type : new.descriptor ≡ old.descriptor
  pub set : SetsField old new f v
  pub ascending : IsAscending (fields_of new)
  pub exclusive : Owns old.descriptor f → IsExclusive old → IsExclusive new

-- what the message holds stays, where room may have been made for the field's choice
pub record LeavesHeld (old new : DynamicMessage) (f : FieldDescriptor) : Type 0 where
  pub same_type : new.descriptor ≡ old.descriptor
  pub fields : fields_of new ≡ fields_of old
  pub exclusive : Owns old.descriptor f → IsExclusive old → IsExclusive new
  pub extensions : extensions_of new ≡ extensions_of old
  pub unknown : unknown_of new ≡ unknown_of old
