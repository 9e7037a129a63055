-- What texts give to a field, read by the names of its type.
use Rattle.std.proofs.Common.{◌≡◌, ◌⊎◌, inl, inr, ℕ, Bool, true, false, cond, Some, None, option_map, refl, sym, ap, ◌∙◌, subst}
use Rattle.std.specs.Option.{option_and_then}
use Rattle.std.specs.Str.{bytes_eq}
use Rattle.std.proofs.lemmas.Slice.Eq.{bytes_eq-Decides}
use Rattle.protox_lex.specs.Class.{Text}
use Rattle.protobuf_model.specs.Types.{one, many, keyed}
use Rattle.reflect_tables.specs.Types.{PoolType, FieldType, KindType, MessageType, no_type}
use Rattle.reflect_tables.specs.Types as types
use Rattle.reflect_pool.specs.Dots.{without_dot}
use Rattle.reflect_pool.specs.FieldsLeft.{field_type}
use Rattle.reflect_pool.specs.FindsNames.{FindsMessage}
use Rattle.reflect_pool.specs.Kinds.{IsKind}
use Rattle.reflect_pool.specs.Shapes.{holds_map, is_repeated}
use Rattle.reflect_pool.specs.declared.kind.Kind.{Kind}
use Rattle.reflect_pool.specs.declared.message.MessageDescriptor.{MessageDescriptor}
use Rattle.reflect_scalar.specs.FieldTypes.{extension_type}
use Rattle.reflect_scalar.specs.Floats.{IsFloat}
use Rattle.reflect_scalar.proofs.First.{Tells, find_none, find_some}
use Rattle.reflect_message.specs.Known.{is_float, known_extension}
use Rattle.reflect_message.specs.Names.{Value}
use Rattle.text_model.specs.Schemas.{Schema}
use Rattle.text_model.specs.Tree.{ScalarValue}
use Rattle.text_model.specs.Value.{scalar_content, wanted_in, wanted_of}
use Rattle.reflect_format.specs.Filled.{IsScalar}
use Rattle.reflect_format.specs.Kinds.{scalar_given}
use Rattle.reflect_format.specs.Named.{NamesField, NamesExtension}
use Rattle.reflect_format.specs.Takes.{target_pool, target_type}
use Rattle.reflect_format.specs.declared.target.Target.{Target}
use Rattle.reflect_format.specs.declared.target.Target.TheVariants as targets
use Rattle.message_view.specs.Types.{entry_part, key_of, kind_in, label_of, name_at, part_of, values_of}
use Rattle.message_view.specs.Views.{content_view}
use Rattle.message_view.proofs.Fields.{owned, extension_owned}
use Rattle.message_view.specs.Sound.{AreApart}
use Rattle.text_view.specs.Names.{entry_name, kind_at, names_of, number_in, kind_name, value_kind}
use Rattle.text_view.specs.Schemas.{type_called}
use Rattle.text_view.specs.Targets.{target_field}
use Rattle.text_view.proofs.Apart.{named_owns, no_field_there}
use Rattle.text_view.proofs.Owned.{OwnsTarget, named_target, pool_is}
use Rattle.text_view.proofs.Scalars.{scalar_is_given, none_is_given}

module _ (w : Schema) (pool : PoolType) (i n : ℕ) (f : FieldType) (whole : holds_map pool f ≡ false) (at : kind_at pool i n ≡ Some (values_of pool f).kind) where
  enums : (names_of pool i).enum_number n ≡ number_in pool f.kind
  enums = ap (λ o. λ v. option_and_then (λ k. number_in pool k v) o) (at ∙ ap (λ b. Some (cond b (entry_part pool f 2) f).kind) whole)

  of_label : (b : Bool) → wanted_of w (names_of pool i) n (part_of pool (values_of pool f)) (cond b (many f.packed) one)
      ≡ wanted_in w ((names_of pool i).enum_number n) (kind_in pool (values_of pool f).group (values_of pool f).kind)
  of_label true = refl
  of_label false = refl

  -- a field that is no map wants what is of its kind
  plain : wanted_of w (names_of pool i) n (part_of pool (values_of pool f)) (label_of pool f) ≡ wanted_in w (number_in pool f.kind) (kind_in pool f.group f.kind)
  plain =
      ap (λ b. wanted_of w (names_of pool i) n (part_of pool (values_of pool f)) (cond b (keyed (key_of pool (entry_part pool f 1))) (cond (is_repeated f.cardinality) (many f.packed) one))) whole
      ∙ of_label (is_repeated f.cardinality)
      ∙ ap (λ e. wanted_in w e (kind_in pool (values_of pool f).group (values_of pool f).kind)) enums
      ∙ ap (λ b. wanted_in w (number_in pool f.kind) (kind_in pool (cond b (entry_part pool f 2) f).group (cond b (entry_part pool f 2) f).kind)) whole

no_float_kind : (k : KindType) → (IsFloat k → ⊥) → is_float k ≡ false
no_float_kind types.double h = absurd (h tt)
no_float_kind types.float h = absurd (h tt)
no_float_kind k h = refl

module _ (d : MessageDescriptor) (apart : AreApart d.pool.now) where
  -- of which kind the values of a target are, by its number
  kind_under : (t : Target) → OwnsTarget d t → kind_at d.pool.now d.index (target_type t).number ≡ Some (values_of d.pool.now (target_type t)).kind
  kind_under (targets.Field f) owns = ap (λ o. value_kind d.pool.now o (known_extension d.pool.now d.index (field_type f).number)) (owned d f owns)
  kind_under (targets.Extension x) owns =
      ap (λ o. value_kind d.pool.now o (known_extension d.pool.now d.index (extension_type x).number)) (no_field_there d apart x owns)
      ∙ ap (value_kind d.pool.now None) (extension_owned d x owns)

  -- of which type the entries of a target are, by its number
  pub entry_under : (t : Target) → OwnsTarget d t → (names_of d.pool.now d.index).entry (target_type t).number ≡ kind_name d.pool.now (target_type t).kind
  entry_under (targets.Field f) owns = ap (λ o. entry_name d.pool.now o (known_extension d.pool.now d.index (field_type f).number)) (owned d f owns)
  entry_under (targets.Extension x) owns =
      ap (λ o. entry_name d.pool.now o (known_extension d.pool.now d.index (extension_type x).number)) (no_field_there d apart x owns)
      ∙ ap (entry_name d.pool.now None) (extension_owned d x owns)

  -- what a target wants that is no map
  pub wanted_target : (w : Schema) (t : Target) → OwnsTarget d t → holds_map d.pool.now (target_type t) ≡ false
      → wanted_of w (names_of d.pool.now d.index) (target_type t).number (target_field d t).part (target_field d t).label
      ≡ wanted_in w (number_in d.pool.now (target_type t).kind) (kind_in d.pool.now (target_type t).group (target_type t).kind)
  wanted_target w (targets.Field f) owns whole = plain w d.pool.now d.index (field_type f).number (field_type f) whole (kind_under (targets.Field f) owns)
  wanted_target w (targets.Extension x) owns whole = plain w d.pool.now d.index (extension_type x).number (extension_type x) whole (kind_under (targets.Extension x) owns)

module _ (m : MessageDescriptor) (apart : AreApart m.pool.now) (w : Schema) (name : Text) where
  -- what it wants of a target
  wanted : (t : Target) → NamesField m name t ⊎ NamesExtension m name t → holds_map (target_pool t) (target_type t) ≡ false
      → wanted_of w (names_of m.pool.now m.index) (target_type t).number (target_field m t).part (target_field m t).label
      ≡ wanted_in w (number_in (target_pool t) (target_type t).kind) (kind_in (target_pool t) (target_type t).group (target_type t).kind)
  wanted t h whole =
      let owns = named_target m apart name t h in
      let pool = pool_is m apart t owns in
      wanted_target m apart w t owns (subst (λ p. holds_map p (target_type t) ≡ false) pool whole)
      ∙ ap (λ p. wanted_in w (number_in p (target_type t).kind) (kind_in p (target_type t).group (target_type t).kind)) (sym pool)

  target_whole : (t : Target) → NamesField m name t ⊎ NamesExtension m name t → is_float (target_type t).kind ≡ false
  target_whole (targets.Field f) (inl h) = let owns = named_owns m apart name f h in no_float_kind (field_type f).kind (λ e. owns.2 (inl e))
  target_whole (targets.Field f) (inr h) = absurd h
  target_whole (targets.Extension x) (inl h) = absurd h
  target_whole (targets.Extension x) (inr h) = no_float_kind (extension_type x).kind (λ e. h.1 (inl e))

  pub given_read : (t : Target) → NamesField m name t ⊎ NamesExtension m name t → holds_map (target_pool t) (target_type t) ≡ false
      → (s : ScalarValue) (k : Kind) (v : Value) → IsKind (target_pool t) k (target_type t).kind → IsScalar k s v
      → scalar_content (wanted_of w (names_of m.pool.now m.index) (target_type t).number (target_field m t).part (target_field m t).label) s ≡ Some (content_view v)
  given_read t h whole s k v is given =
      ap (λ o. scalar_content o s) (wanted t h whole) ∙ scalar_is_given w (target_pool t) (target_type t).group s k (target_type t).kind v is given

  pub none_read : (t : Target) → NamesField m name t ⊎ NamesExtension m name t → holds_map (target_pool t) (target_type t) ≡ false
      → (s : ScalarValue) (k : Kind) → IsKind (target_pool t) k (target_type t).kind → scalar_given k s ≡ None
      → scalar_content (wanted_of w (names_of m.pool.now m.index) (target_type t).number (target_field m t).part (target_field m t).label) s ≡ None
  none_read t h whole s k is none =
      ap (λ o. scalar_content o s) (wanted t h whole) ∙ none_is_given w (target_pool t) (target_type t).group s k (target_type t).kind is (target_whole t h) none

type_named : (w : Text) → Tells (λ (m : MessageType). m.full_name ≡ without_dot w) (λ m. bytes_eq m.full_name (without_dot w))
type_named w = record {
  says = λ m e. (bytes_eq-Decides m.full_name (without_dot w)).0 e;
  passes = λ m e. (bytes_eq-Decides m.full_name (without_dot w)).1 e;
}

pub type_found : (pool : PoolType) (w : Text) (d : MessageDescriptor) → FindsMessage pool w (Some d) → type_called pool w ≡ Some (name_at pool d.index)
type_found pool w d h = ap (option_map (λ m. m.full_name)) (find_some (λ (m : MessageType). m.full_name ≡ without_dot w) (λ m. bytes_eq m.full_name (without_dot w)) (type_named w) pool.messages no_type d.index h)

pub type_missing : (pool : PoolType) (w : Text) → FindsMessage pool w None → type_called pool w ≡ None
type_missing pool w h = ap (option_map (λ m. m.full_name)) (find_none (λ (m : MessageType). m.full_name ≡ without_dot w) (λ m. bytes_eq m.full_name (without_dot w)) (type_named w) pool.messages h)
