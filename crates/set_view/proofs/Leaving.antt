-- What refused calls leave of other members of a field's oneof, and of the message.
use Rattle.std.proofs.Common.{◌≡◌, ◌≢◌, ℕ, ◌==◌, Bool, true, false, List, None, Some, refl, sym, ap, ◌∙◌, arith}
use Rattle.std.specs.Option.{IsSome}
use Rattle.reflect_entries.specs.Entries.{value_at}
use Rattle.reflect_extend.specs.Others.{StaysUnset}
use Rattle.reflect_extend.specs.Siblings.{KeepsRest, LacksSibling}
use Rattle.reflect_message.specs.Declares.{Owns}
use Rattle.reflect_message.specs.Held.{Same, choices_of, fields_of}
use Rattle.reflect_message.specs.Names.{DynamicMessage, Value}
use Rattle.reflect_message.specs.Oneofs.{IsExclusive}
use Rattle.reflect_message.proofs.Choosing.{sibling_is}
use Rattle.reflect_pool.specs.FieldsLeft.{field_type}
use Rattle.reflect_pool.specs.declared.field.FieldDescriptor.{FieldDescriptor}
use Rattle.message_view.specs.Views.{view}
use Rattle.set_view.specs.Extends.{ExtendsField}
use Rattle.set_view.proofs.Viewed.{stays}

-- a field that holds something is the member of its oneof that was noted
pub none_noted : (old : DynamicMessage) → IsExclusive old → (f : FieldDescriptor) → Owns old.descriptor f → IsSome (value_at (fields_of old) (field_type f).number)
    → (held : List (ℕ × Value)) → LacksSibling f (choices_of old) held
none_noted old exclusive f owns some held n noted =
    let is = sibling_is f (choices_of old) n noted in
    let other : n ≢ (field_type f).number = is.3 in
    let itself : value_at (choices_of old) is.0 ≡ Some (field_type f).number = exclusive.noted f owns is.0 is.1 some in
    let same : n ≡ (field_type f).number = cc (is.2, itself) in
    absurd (other same)

-- where nothing stood under the field's number, nothing changes
pub unset_stays : (old new : DynamicMessage) → (f : FieldDescriptor) → ExtendsField old new f → KeepsRest f (fields_of old) (fields_of new)
    → StaysUnset (value_at (fields_of old) (field_type f).number) (value_at (fields_of new) (field_type f).number)
    → value_at (fields_of old) (field_type f).number ≡ None → (n : ℕ) → view new n ≡ view old n
unset_stays old new f extends rest absent none n =
    stays old new extends.same_type n (by (n == (field_type f).number) refl) (ap (λ es. value_at es n) extends.extensions) extends.unknown where
      by : (b : Bool) → (n == (field_type f).number) ≡ b → Same (fields_of old) (fields_of new) n
      by true e =
          let same : n ≡ (field_type f).number = grind (arith, e) in
          ap (value_at (fields_of new)) same ∙ absent none ∙ sym (ap (value_at (fields_of old)) same ∙ none)
      by false e = rest n (λ same. grind (arith, e, same))
