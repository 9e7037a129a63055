-- The type of a scope's options in the pool, and the truth value that linking reads by it, in the
-- words of the model.
use Rattle.std.proofs.Common.{◌≡◌, inl, ℕ, ◌&&◌, not, Bool, true, false, true≢false, cond, List, [], ◌∷◌, None, Some, refl, sym, ap, ◌∙◌, subst}
use Rattle.std.specs.Option.{option_and_then}
use Rattle.std.specs.Prelude.{codes}
use Rattle.reflect_tables.specs.Finding.{IsFirst}
use Rattle.reflect_tables.specs.Types.{FieldType, PoolType, no_type}
use Rattle.reflect_entries.specs.Members.{first_number}
use Rattle.reflect_pool.specs.Parts.{members_of}
use Rattle.reflect_pool.specs.Shapes.{holds_map, is_entry, is_repeated}
use Rattle.reflect_pool.specs.declared.message.MessageDescriptor.{MessageDescriptor}
use Rattle.reflect_message.specs.Known.{if_held, known_extension, known_field, numbered_field}
use Rattle.option_parts.specs.OptionTypes.{CanRead, IsNamedType, IsOptionType, IsTruthValue, ReadsOptions, type_name}
use Rattle.option_parts.specs.declared.option_scope.OptionScope.{OptionScope}
use Rattle.option_parts.specs.declared.option_scope.OptionScope.TheVariants as scopes
use Rattle.option_setter.specs.declared.option_setter.NameScope.{NameScope}
use Rattle.reflect_options.specs.Settled.{IsType}
use Rattle.protobuf_model.specs.Types.{Field, Name, Types, keyed, many, one, scalar}
use Rattle.protobuf_model.specs.Types as kinds
use Rattle.message_view.specs.Sound.{IsSound}
use Rattle.message_view.specs.Types.{either_field, entry_part, field_at, field_of, key_of, kind_in, name_at, oneof_at, types_of, values_of}
use Rattle.message_view.proofs.Sound.{named}
use Rattle.known_messages.specs.KnownMessages.{AreFormOf}
use Rattle.settled_records.proofs.Fields.{truth_whole}
use Rattle.settled_records.proofs.Said.{no_dot}
use Rattle.stored_options.proofs.EntryMessage.{entry_formed, entry_message}

-- ---- a type of the scope's name

-- its fields are found by the name
found_by_name : (pool : PoolType) (scope : OptionScope) (i : ℕ) → IsSound pool → IsNamedType pool scope i → (n : ℕ)
    → types_of pool (type_name scope) n ≡ field_at pool i n
found_by_name pool scope i sound is n = subst (λ t. types_of pool t n ≡ field_at pool i n) (is.1.0 no_type) (named pool sound.names i n is.0)

-- the one that is found by it
module _ (scope : OptionScope) (s : NameScope) (d : MessageDescriptor) (is : IsType scope s d) where
  pub named_type : IsNamedType s.pool.now scope d.index
  named_type = subst (λ n. IsFirst (λ m. m.full_name ≡ n) s.pool.now.messages (Some d.index)) (no_dot scope) is.1

  pub type_sound : IsSound s.pool.now → IsSound d.pool.now
  type_sound sound = subst IsSound (sym is.0) sound

  pub option_type : CanRead s.pool.now scope → IsOptionType d.pool.now scope d.index
  option_type can = subst (λ p. IsOptionType p scope d.index) (sym is.0) (can d.index named_type)

  its_name : name_at d.pool.now d.index ≡ type_name scope
  its_name = ap (λ p. name_at p d.index) is.0 ∙ named_type.1.0 no_type

  -- what is told of the type by its name is told of the descriptor's
  pub of_type : (P : Types → Name → Type 0) → P (types_of s.pool.now) (type_name scope) → P (types_of d.pool.now) (name_at d.pool.now d.index)
  of_type P h = subst (P (types_of d.pool.now)) (sym its_name) (subst (λ p. P (types_of p) (type_name scope)) (sym is.0) h)

  pub of_name : (P : Types → Name → Type 0) → P (types_of d.pool.now) (name_at d.pool.now d.index) → P (types_of s.pool.now) (type_name scope)
  of_name P h = subst (λ p. P (types_of p) (type_name scope)) is.0 (subst (P (types_of d.pool.now)) its_name h)

-- ---- a truth value

-- a field of one truth value, in no oneof
pub record IsTruthField (f : Field) : Type 0 where
  pub kind : f.part.kind ≡ scalar kinds.bool
  pub presence : f.part.presence ≡ true
  pub label : f.label ≡ one
  pub alone : f.oneof ≡ None
  pub declared : f.extension ≡ false

module _ (pool : PoolType) (sound : IsSound pool) (i n : ℕ) (name : List ℕ) (g : FieldType) (is : numbered_field pool i n ≡ Some g)
    (truth : IsTruthValue name g) where
  pub truth_known : known_field pool i n ≡ Some g
  truth_known = ap (option_and_then (if_held pool)) is ∙ ap (λ b. cond b None (Some g)) (truth_whole pool g truth.truth)

  pub holds_one : is_repeated g.cardinality ≡ false
  holds_one = by (is_repeated g.cardinality) refl where
    by : (b : Bool) → is_repeated g.cardinality ≡ b → b ≡ false
    by false e = refl
    by true e = absurd (true≢false (sym truth.presence ∙ sound.lists.unset i n g (inl truth_known) e))

  no_map : holds_map pool g ≡ false
  no_map = ap (λ k. is_entry pool k && (is_repeated g.cardinality && not g.group)) truth.truth

  its_values : values_of pool g ≡ g
  its_values = ap (λ b. cond b (entry_part pool g 2) g) no_map

  -- it is one of the model's
  truth_field : (f : Field) × (field_at pool i n ≡ Some f) × IsTruthField f
  truth_field = (
    field_of pool (oneof_at pool i g) false g,
    ap (λ o. either_field pool i o (known_extension pool i n)) truth_known,
    record {
      kind = ap (λ (v : FieldType). kind_in pool v.group v.kind) its_values ∙ ap (kind_in pool g.group) truth.truth;
      presence = ap (λ (v : FieldType). v.presence) its_values ∙ truth.presence;
      label = ap (λ b. cond b (keyed (key_of pool (entry_part pool g 1))) (cond (is_repeated g.cardinality) (many g.packed) one)) no_map ∙ ap (λ b. cond b (many g.packed) one) holds_one;
      alone = ap (option_and_then (λ k. first_number (members_of pool i k))) truth.alone;
      declared = refl;
    },
  )

-- ---- the message of options of a map's entries

pub entry_form : (pool : PoolType) → IsSound pool → ReadsOptions pool scopes.Message
    → AreFormOf (types_of pool) (type_name scopes.Message) entry_message (56 ∷ 1 ∷ [])
entry_form pool sound (i, named, is) =
    let f = truth_field pool sound i 7 (codes "map_entry") is.typed.0 is.typed.1 is.typed.2 in
    entry_formed (types_of pool) (type_name scopes.Message) f.0 (found_by_name pool scopes.Message i sound named 7 ∙ f.1) f.2.kind f.2.presence f.2.label f.2.alone f.2.declared
