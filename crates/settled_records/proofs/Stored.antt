-- What stored bytes leave under the numbers that options are read by, and what is left when the list
-- of uninterpreted options is unset.
use Rattle.std.proofs.Common.{◌≡◌, inl, inr, ℕ, ◌==◌, Bool, true, false, cond, not, ◌&&◌, List, [], ◌∷◌, Option, Some, None, refl, sym, ap, ◌∙◌, subst, arith}
use Rattle.reflect_tables.specs.Types.{FieldType, no_field, type_of_field}
use Rattle.reflect_tables.specs.Types as types
use Rattle.reflect_wire.specs.Records.{Payload}
use Rattle.reflect_pool.specs.FieldsLeft.{field_type}
use Rattle.reflect_pool.specs.Shapes.{holds_list, holds_map, is_repeated}
use Rattle.reflect_pool.specs.declared.field.FieldDescriptor.{FieldDescriptor}
use Rattle.reflect_pool.specs.declared.message.MessageDescriptor.{MessageDescriptor}
use Rattle.reflect_entries.specs.Entries.{value_at}
use Rattle.reflect_scalar.specs.FieldTypes.{field_pool}
use Rattle.reflect_decode.specs.Fields.{LeavesField}
use Rattle.reflect_decode.specs.Keeps.{numbered, payloads}
use Rattle.reflect_decode.specs.Levels.{TakesAt}
use Rattle.reflect_decode.specs.Scalars.{HoldsLast, LeavesAs}
use Rattle.reflect_decode.specs.Spelled.{IsSpelled}
use Rattle.reflect_decode.specs.Taking.{Leaves}
use Rattle.reflect_message.specs.Declares.{IsDeclared, Owns}
use Rattle.reflect_message.specs.Held.{UpdatesField, fields_of, unknown_of}
use Rattle.reflect_message.specs.KindTypes.{IsScalarType}
use Rattle.reflect_message.specs.Known.{numbered_field}
use Rattle.reflect_message.specs.Names.{DynamicMessage, Value}
use Rattle.reflect_numbered.specs.Called.{HasNumber, UnsetsMeant}
use Rattle.option_parts.specs.OptionTypes.{ListsMessages}
use Rattle.message_view.specs.Sound.{IsSound}
use Rattle.message_view.proofs.Fields.{known}
use Rattle.settled_records.proofs.Fields.{field_known, field_meant, holds_one, listed_whole, truth_whole}
use Rattle.settled_records.proofs.Kept.{IsPlain, PlainAt, none_plain, some_plain}
use Rattle.settled_records.proofs.Under.{Lacks}

lacks_from : (n : ℕ) (rs : List (ℕ × Payload)) → numbered n rs ≡ [] → Lacks n rs
lacks_from n [] e = tt
lacks_from n (r ∷ rs) e = by (r.0 == n) refl e (lacks_from n rs) where
  by : (b : Bool) → (r.0 == n) ≡ b → cond b (r ∷ numbered n rs) (numbered n rs) ≡ [] → (numbered n rs ≡ [] → Lacks n rs) → Lacks n (r ∷ rs)
  by true is e h = absurd (cc e)
  by false is e h = ((λ same. grind (arith, is, same)), h e)

module _ (d : MessageDescriptor) (bytes : List ℕ) (stored : DynamicMessage) (spelled : IsSpelled d bytes stored) where
  -- no other record has a number that is declared
  pub stored_lacks : (n : ℕ) → IsDeclared d n → Lacks n (unknown_of stored)
  stored_lacks n is = lacks_from n (unknown_of stored) (spelled.2.declared n is)

  module _ (sound : IsSound d.pool.now) (n : ℕ) (g : FieldType) (is : numbered_field d.pool.now d.index n ≡ Some g) (kind : g.kind ≡ types.bool) (presence : g.presence ≡ true) where
    owned_plain : (f : FieldDescriptor) → Owns d f → field_type f ≡ g → PlainAt (field_type f).number stored
    owned_plain f owns same = by (spelled.5 f owns) where
      scalar : IsScalarType (field_type f).kind
      scalar = subst IsScalarType (sym (ap (λ (t : FieldType). t.kind) same ∙ kind)) tt

      no_list : holds_list (field_pool f) (field_type f) ≡ false
      no_list =
          ap (λ b. b && not (holds_map (field_pool f) (field_type f))) (ap (λ (t : FieldType). is_repeated t.cardinality) same ∙ holds_one d n g is sound (truth_whole d.pool.now g kind) presence)

      left : (new : Option Value) (ps : List Payload) → Leaves (TakesAt 100) (field_pool f) (field_type f) None new ps → IsPlain new
      left new [] leaves = subst IsPlain (sym leaves) none_plain
      left new (p ∷ ps) leaves =
          let last : HoldsLast (field_pool f) (field_type f).kind new (p ∷ ps) = subst (λ b. LeavesAs b (field_pool f) (field_type f).kind None new (p ∷ ps)) no_list (leaves.0 scalar) in
          subst IsPlain (sym last.2) (some_plain last.0 last.1 last.3)

      by : LeavesField (TakesAt 100) d f None (value_at (fields_of stored) (field_type f).number) (spelled.0) → PlainAt (field_type f).number stored
      by (inl (none, leaves)) = left (value_at (fields_of stored) (field_type f).number) (payloads (field_type f).number spelled.0) leaves
      by (inr (before, behind, r, at, sibling, none, leaves)) = left (value_at (fields_of stored) (field_type f).number) (payloads (field_type f).number behind) leaves

    -- a single value stands under the number of a truth value
    pub stored_plain : PlainAt n stored
    stored_plain =
        let h = known d n g (field_known d n g is (truth_whole d.pool.now g kind)) in
        let number : (field_type h.0).number ≡ n = ap (λ (t : FieldType). t.number) h.2 ∙ h.3 in
        subst (λ k. PlainAt k stored) number (owned_plain h.0 h.1 h.2)

-- the list that the number means is unset
pub list_unset : (d : MessageDescriptor) (n : ℕ) (g : FieldType) → numbered_field d.pool.now d.index n ≡ Some g → ListsMessages d.pool.now g → (set whole : DynamicMessage) → set.descriptor ≡ d → UnsetsMeant (HasNumber n) set whole → UpdatesField set whole n None
list_unset d n g is lists set whole there (inl (f, meant, updates)) =
    let number : (field_type f).number ≡ n = ap (λ (m : MessageDescriptor). (type_of_field m.pool.now m.index f.index).number) meant.message ∙ meant.first.1.0 no_field in
    subst (λ k. UpdatesField set whole k None) number updates
list_unset d n g is lists set whole there (inr (none, same)) =
    let here : numbered_field set.descriptor.pool.now set.descriptor.index n ≡ Some g = ap (λ (m : MessageDescriptor). numbered_field m.pool.now m.index n) there ∙ is in
    let meant = field_meant set.descriptor n g here (listed_whole set.descriptor.pool.now g (subst (λ (m : MessageDescriptor). ListsMessages m.pool.now g) (sym there) lists)) in
    absurd (none meant.0 meant.1)
