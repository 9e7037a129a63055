-- Fields of one message have presence in types whose fields without presence are read as not set where they have their defaults.
use Rattle.std.proofs.Common.{◌≡◌, ◌⊎◌, inl, inr, ◌<◌, ◌≤◌, ◌==◌, Bool, true, false, true≢false, cond, not, length, refl, sym, ap, ◌∙◌, subst}
use Rattle.std.proofs.lemmas.Bool.{cases_lt}
use Rattle.std.proofs.lemmas.List.{get_or_past}
use Rattle.std.specs.List.{find}
use Rattle.std.specs.Option.{option_and_then}
use Rattle.reflect_tables.specs.Types.{PoolType, FieldType, KindType, MessageType, no_type}
use Rattle.reflect_tables.specs.Types as types
use Rattle.reflect_pool.specs.Shapes.{is_repeated, holds_map}
use Rattle.reflect_message.specs.KindTypes.{IsMessageType}
use Rattle.reflect_message.specs.Known.{if_held, known_extension}
use Rattle.protobuf_model.specs.Types.{one, many, keyed}
use Rattle.text_model.specs.Printed.{lacks_presence}
use Rattle.text_model.specs.Unset.{HaveReadDefaults, HasReadDefault, IsOfKind}
use Rattle.message_view.specs.Sound.{IsSound}
use Rattle.message_view.specs.Types.{default_of, either_field, entry_part, field_of, key_of, kind_in, label_of, name_at, oneof_at, part_of, types_of, values_of}
use Rattle.message_view.proofs.Sound.{named}
use Rattle.text_view.proofs.Set.{map_repeats}
use Rattle.print_view.specs.Forms.{HaveMessagePresence}

-- no value stands for a message
no_default : (pool : PoolType) (f : FieldType) (k : KindType) → IsMessageType k → IsOfKind (kind_in pool f.group k) (default_of pool f) → ⊥
no_default pool f (types.message i) type h = h
no_default pool f k type h = type

pub have_presence : (pool : PoolType) → IsSound pool → HaveReadDefaults (types_of pool) → HaveMessagePresence pool
have_presence pool sound reads i n f known type alone = by f.presence refl (cases_lt i (length pool.messages)) where
  part_in : Bool → FieldType
  part_in b = cond b (entry_part pool f 2) f

  no_map : holds_map pool f ≡ false
  no_map = within (holds_map pool f) refl where
    within : (b : Bool) → holds_map pool f ≡ b → b ≡ false
    within false is = refl
    within true is = absurd (true≢false (sym (map_repeats pool f is) ∙ alone))

  by : (b : Bool) → f.presence ≡ b → (i < length pool.messages) ⊎ (length pool.messages ≤ i) → b ≡ true
  by true is place = refl
  by false is (inr past) =
      absurd (cc (sym known ∙ ap (λ (t : MessageType). option_and_then (if_held pool) (find (λ (g : FieldType). g.number == n) t.fields)) (get_or_past pool.messages i no_type past)))
  by false is (inl there) =
      let field = named pool sound.names i n there ∙ ap (λ o. either_field pool i o (known_extension pool i n)) known in
      let lacks : lacks_presence (part_of pool (values_of pool f)) (label_of pool f) ≡ true =
      ap (λ b. lacks_presence (part_of pool (part_in b)) (cond b (keyed (key_of pool (entry_part pool f 1))) (cond (is_repeated f.cardinality) (many f.packed) one))) no_map
      ∙ ap (λ c. lacks_presence (part_of pool f) (cond c (many f.packed) one)) alone ∙ ap not is in
      let read = (reads (name_at pool i) n (field_of pool (oneof_at pool i f) false f) field refl lacks).1 in
      absurd (no_default pool f f.kind type
      (subst (λ c. HasReadDefault (part_of pool f) (cond c (many f.packed) one)) alone
      (subst (λ b. HasReadDefault (part_of pool (part_in b)) (cond b (keyed (key_of pool (entry_part pool f 1))) (cond (is_repeated f.cardinality) (many f.packed) one))) no_map read)))
