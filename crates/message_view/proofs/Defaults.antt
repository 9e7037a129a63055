-- Defaults of maps' keys and values, in the words of the model.
use Rattle.std.proofs.Common.{◌≡◌, ℕ, ◌==◌, ◌&&◌, Bool, true, false, cond, Option, Some, None, unwrap_or, refl, sym, ◌∙◌, subst, arith}
use Rattle.std.specs.List.{find}
use Rattle.std.specs.Option.{option_and_then}
use Rattle.reflect_tables.specs.Types.{PoolType, FieldType, KindType, ExtensionType, no_field}
use Rattle.reflect_tables.specs.Types as types
use Rattle.reflect_pool.specs.Shapes.{is_repeated, holds_map}
use Rattle.reflect_message.specs.KindTypes.{IsMessageType}
use Rattle.reflect_message.specs.Known.{entry_field, holds_floats, if_held, known_field, known_extension}
use Rattle.message_laws.specs.MapKeys.{HaveMapKeys}
use Rattle.protobuf_model.specs.Values.{Single}
use Rattle.protobuf_model.specs.Types.{one, many, keyed}
use Rattle.protobuf_model.specs.Scalars.{Suits}
use Rattle.protobuf_model.specs.Typed.{HasDefault, HasEntryDefaults, HasDefaults, HaveDefaults}
use Rattle.message_view.specs.Singles.{scalar_of}
use Rattle.message_view.specs.Sound.{HaveEntryDefaults}
use Rattle.message_view.specs.Types.{default_of, part_of, key_of, kind_in, entry_part, field_of, oneof_at, either_field, place_in, types_of}
use Rattle.message_view.proofs.Elements.{kind_scalar}
use Rattle.message_view.proofs.Entries.{Sort, plain, floating, message_type, sort_of, key_scalar, no_float_values, entry_of_map}
use Rattle.message_view.proofs.Fields.{held_is}

-- what stands for a part that is not there has the default of its kind
absent_suits : (pool : PoolType) → Suits (scalar_of no_field.kind) (default_of pool no_field)
absent_suits pool = record { sfits = omega arith }

of_message : (pool : PoolType) (b : Bool) (t : KindType) → IsMessageType t → (d : Single) → HasDefault (kind_in pool b t) d
of_message pool b (types.message i) type d = tt
of_message pool b t type d = absurd type

module _ (pool : PoolType) (keys : HaveMapKeys pool) (defaults : HaveEntryDefaults pool) where
  key_default : (f : FieldType) → holds_map pool f ≡ true → Suits (scalar_of (entry_part pool f 1).kind) (default_of pool (entry_part pool f 1))
  key_default f map = by (entry_field pool f.kind 1) refl where
    by : (o : Option FieldType) → entry_field pool f.kind 1 ≡ o → Suits (scalar_of (unwrap_or (entry_field pool f.kind 1) no_field).kind) (default_of pool (unwrap_or (entry_field pool f.kind 1) no_field))
    by None is = subst (λ o. Suits (scalar_of (unwrap_or o no_field).kind) (default_of pool (unwrap_or o no_field))) (sym is) (absent_suits pool)
    by (Some g) is =
        let type = key_scalar g.kind (keys f.kind g (entry_of_map pool f map) is).0 in
        subst (λ o. Suits (scalar_of (unwrap_or o no_field).kind) (default_of pool (unwrap_or o no_field))) (sym is) (defaults f.kind 1 g (entry_of_map pool f map) is type)

  value_default : (f : FieldType) → holds_floats pool f ≡ false → holds_map pool f ≡ true → HasDefault (part_of pool (entry_part pool f 2)).kind (part_of pool (entry_part pool f 2)).default
  value_default f whole map = by (entry_field pool f.kind 2) refl where
    of : (g : FieldType) → entry_field pool f.kind 2 ≡ Some g → Sort g.kind → HasDefault (kind_in pool g.group g.kind) (default_of pool g)
    of g is (plain type) = subst (λ k. HasDefault k (default_of pool g)) (sym (kind_scalar pool g.group g.kind type)) (defaults f.kind 2 g (entry_of_map pool f map) is type)
    of g is (floating e) = absurd (cc (sym e ∙ no_float_values pool f g whole map is))
    of g is (message_type type) = of_message pool g.group g.kind type (default_of pool g)

    by : (o : Option FieldType) → entry_field pool f.kind 2 ≡ o → HasDefault (kind_in pool (unwrap_or (entry_field pool f.kind 2) no_field).group (unwrap_or (entry_field pool f.kind 2) no_field).kind) (default_of pool (unwrap_or (entry_field pool f.kind 2) no_field))
    by None is = subst (λ o. HasDefault (kind_in pool (unwrap_or o no_field).group (unwrap_or o no_field).kind) (default_of pool (unwrap_or o no_field))) (sym is) (absent_suits pool)
    by (Some g) is = subst (λ o. HasDefault (kind_in pool (unwrap_or o no_field).group (unwrap_or o no_field).kind) (default_of pool (unwrap_or o no_field))) (sym is) (of g is (sort_of g.kind))

  field_default : (f : FieldType) → holds_floats pool f ≡ false → (o : Option ℕ) (x : Bool) → HasDefaults (Some (field_of pool o x f))
  field_default f whole o x = by (holds_map pool f) refl where
    by : (b : Bool) → holds_map pool f ≡ b → HasEntryDefaults (part_of pool (cond (holds_map pool f) (entry_part pool f 2) f)) (cond (holds_map pool f) (keyed (key_of pool (entry_part pool f 1))) (cond (is_repeated f.cardinality) (many f.packed) one))
    by true is = subst (λ b. HasEntryDefaults (part_of pool (cond b (entry_part pool f 2) f)) (cond b (keyed (key_of pool (entry_part pool f 1))) (cond (is_repeated f.cardinality) (many f.packed) one))) (sym is) (key_default f is, value_default f whole is)
    by false is = subst (λ b. HasEntryDefaults (part_of pool (cond b (entry_part pool f 2) f)) (cond b (keyed (key_of pool (entry_part pool f 1))) (cond (is_repeated f.cardinality) (many f.packed) one))) (sym is) (no_entry (is_repeated f.cardinality)) where
      no_entry : (b : Bool) → HasEntryDefaults (part_of pool f) (cond b (many f.packed) one)
      no_entry true = tt
      no_entry false = tt

  of_held : (o : Option FieldType) (g : FieldType) → option_and_then (if_held pool) o ≡ Some g → holds_floats pool g ≡ false
  of_held None g e = absurd (cc e)
  of_held (Some h) g e = let kept = held_is pool h g e in subst (λ t. holds_floats pool t ≡ false) kept.1 kept.0

  extension_held : (i n : ℕ) (g : FieldType) → known_extension pool i n ≡ Some g → holds_floats pool g ≡ false
  extension_held i n g e = by (find (λ (x : ExtensionType). (x.extendee == i) && (x.field.number == n)) pool.extensions) e where
    by : (o : Option ExtensionType) → option_and_then (λ (x : ExtensionType). if_held pool x.field) o ≡ Some g → holds_floats pool g ≡ false
    by None k = absurd (cc k)
    by (Some y) k = of_held (Some y.field) g k

  pub have_defaults : HaveDefaults (types_of pool)
  have_defaults t n = by (known_field pool i n) refl (known_extension pool i n) refl where
    i : ℕ
    i = place_in pool.messages t

    by : (f : Option FieldType) → known_field pool i n ≡ f → (x : Option FieldType) → known_extension pool i n ≡ x → HasDefaults (either_field pool i (known_field pool i n) (known_extension pool i n))
    by (Some g) is x also = subst (λ o. HasDefaults (either_field pool i o (known_extension pool i n))) (sym is) (field_default g (of_held _ g is) (oneof_at pool i g) false)
    by None none (Some g) is = subst (λ o. HasDefaults (either_field pool i o (known_extension pool i n))) (sym none) (subst (λ o. HasDefaults (either_field pool i None o)) (sym is) (field_default g (extension_held i n g is) None true))
    by None none None also = subst (λ o. HasDefaults (either_field pool i o (known_extension pool i n))) (sym none) (subst (λ o. HasDefaults (either_field pool i None o)) (sym also) tt)
