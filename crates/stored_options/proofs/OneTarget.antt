-- A part of an option's name leads to fields or extensions of one number in types of one name, in two pools that say the
-- same to texts, and not to one in the one and to none in the other.
use Rattle.std.proofs.Common.{◌≡◌, inl, inr, ℕ, Bool, true, false, Option, None, Some, sym, ap, ◌∙◌, subst}
use Rattle.std.specs.Prelude.{MatchBool, string_bytes}
use Rattle.descriptor_records.specs.declared.options.NamePart.{NamePart}
use Rattle.option_parts.specs.declared.option_error.OptionErrorKind.{OptionErrorKind}
use Rattle.option_parts.specs.declared.option_error.OptionErrorKind.TheVariants as kinds
use Rattle.option_setter.specs.OptionNames.{FindsOwn, LacksExtension, LacksField, LacksTarget, MeansExtension, MeansNone, NamesExtension, NamesField, NamesTarget}
use Rattle.option_setter.specs.declared.option_setter.NameScope.{NameScope}
use Rattle.protox_lex.specs.Class.{Text}
use Rattle.reflect_format.specs.Takes.{target_type}
use Rattle.reflect_format.specs.declared.target.Target.{Target}
use Rattle.reflect_format.specs.declared.target.Target.TheVariants as targets
use Rattle.reflect_pool.specs.FieldsLeft.{field_type}
use Rattle.reflect_pool.specs.declared.extension.ExtensionDescriptor.{ExtensionDescriptor}
use Rattle.reflect_pool.specs.declared.field.FieldDescriptor.{FieldDescriptor}
use Rattle.reflect_pool.specs.declared.message.MessageDescriptor.{MessageDescriptor}
use Rattle.reflect_scalar.specs.FieldTypes.{extension_type}
use Rattle.reflect_tables.specs.Finding.{IsFirst}
use Rattle.reflect_tables.specs.Types.{ExtensionType, FieldType, PoolType, extension_at, no_extension, no_field, type_at, type_of_field}
use Rattle.reflect_tables.proofs.Firsts.{one_first}
use Rattle.stored_options.proofs.TwinPools.{AreTwinPools, called_there, extension_number, field_number, own_there}

-- in both scopes a name in parentheses means one extension, if any
pub record NameAlike (s t : NameScope) : Type 0 where
  pub one : (name x y : Text) → MeansExtension s name x → MeansExtension t name y → x ≡ y
  pub none : (name y : Text) → MeansNone s name → MeansExtension t name y → ⊥

-- ---- of two descriptors of one type

module _ (s t : NameScope) (alike : NameAlike s t) (d e : MessageDescriptor) (twins : AreTwinPools d.pool.now e.pool.now) (index : d.index ≡ e.index) where
  abbrev IsCalled : Text → FieldType → Type 0
  IsCalled name f = f.name ≡ name

  abbrev IsOwn : ℕ → Text → ExtensionType → Type 0
  IsOwn i full x = (x.extendee ≡ i) × (x.field.full_name ≡ full)

  -- what is found of the one is found of the other
  its_called : (name : Text) (o : Option ℕ) → IsFirst (IsCalled name) (type_at d.pool.now d.index).fields o → IsFirst (IsCalled name) (type_at e.pool.now e.index).fields o
  its_called name o h = called_there d.pool.now e.pool.now twins d.index e.index index name o h

  its_own : (full : Text) (o : Option ℕ) → IsFirst (IsOwn d.index full) d.pool.now.extensions o → IsFirst (IsOwn e.index full) e.pool.now.extensions o
  its_own full o h = own_there d.pool.now e.pool.now twins d.index e.index index full o h

  one_field : (name : Text) (f g : FieldDescriptor) → NamesField d name (targets.Field f) → NamesField e name (targets.Field g) → (field_type f).number ≡ (field_type g).number
  one_field name f g (own, first) (also, other) =
      let place : f.index ≡ g.index = one_first (IsCalled name) (type_at e.pool.now e.index).fields no_field f.index g.index (its_called name (Some f.index) first) other in
      ap (λ (m : MessageDescriptor). (type_of_field m.pool.now m.index f.index).number) own
      ∙ field_number d.pool.now e.pool.now twins d.index e.index index f.index
      ∙ ap (λ k. (type_of_field e.pool.now e.index k).number) place
      ∙ sym (ap (λ (m : MessageDescriptor). (type_of_field m.pool.now m.index g.index).number) also)

  one_extension : (name : Text) (x y : ExtensionDescriptor) → NamesExtension s d name (targets.Extension x) → NamesExtension t e name (targets.Extension y)
      → (extension_type x).number ≡ (extension_type y).number
  one_extension name x y (in_pool, full, means, first) (also, other, means_too, second) =
      let same : full ≡ other = alike.one name full other means means_too in
      let moved = subst (λ n. IsFirst (IsOwn e.index n) e.pool.now.extensions (Some x.index)) same (its_own full (Some x.index) first) in
      let place : x.index ≡ y.index = one_first (IsOwn e.index other) e.pool.now.extensions no_extension x.index y.index moved second in
      ap (λ (p : PoolType). (extension_at p x.index).field.number) in_pool
      ∙ extension_number d.pool.now e.pool.now twins x.index
      ∙ ap (λ k. (extension_at e.pool.now k).field.number) place
      ∙ sym (ap (λ (p : PoolType). (extension_at p y.index).field.number) also)

  one_of_name : (b : Bool) (name : Text) (x y : Target) → MatchBool b (NamesExtension s d name x) (NamesField d name x)
      → MatchBool b (NamesExtension t e name y) (NamesField e name y) → (target_type x).number ≡ (target_type y).number
  one_of_name true name (targets.Extension x) (targets.Extension y) h k = one_extension name x y h k
  one_of_name true name (targets.Field f) y h k = absurd h
  one_of_name true name (targets.Extension x) (targets.Field g) h k = absurd k
  one_of_name false name (targets.Field f) (targets.Field g) h k = one_field name f g h k
  one_of_name false name (targets.Extension x) y h k = absurd h
  one_of_name false name (targets.Field f) (targets.Extension y) h k = absurd k

  pub one_target : (part : NamePart) (x y : Target) → NamesTarget s d part x → NamesTarget t e part y → (target_type x).number ≡ (target_type y).number
  one_target part x y h k = one_of_name part.is_extension (string_bytes part.name_part) x y h k

  -- ---- it does not lead to none

  no_field_called : (name : Text) (k : OptionErrorKind) (y : Target) → LacksField d name k → NamesField e name y → ⊥
  no_field_called name (kinds.OptionNotFound n) (targets.Field g) lacks (own, first) = its_called name None lacks g.index no_field first.0 (first.1.0 no_field)
  no_field_called name (kinds.OptionNotFound n) (targets.Extension y) lacks named = named
  no_field_called name k y lacks named = absurd lacks

  none_own : (name full : Text) (y : ExtensionDescriptor) → MeansExtension s name full → FindsOwn d full None → NamesExtension t e name (targets.Extension y) → ⊥
  none_own name full y means lacks (also, other, means_too, second) =
      let same : full ≡ other = alike.one name full other means means_too in
      let none = subst (λ n. IsFirst (IsOwn e.index n) e.pool.now.extensions None) same (its_own full None lacks) in
      none y.index no_extension second.0 (second.1.0 no_extension)

  no_extension_meant : (name : Text) (k : OptionErrorKind) (y : Target) → LacksExtension s d name k → NamesExtension t e name y → ⊥
  no_extension_meant name k (targets.Field g) lacks named = named
  no_extension_meant name (kinds.OptionNotFound n) (targets.Extension y) (inl none) named = alike.none name named.1 none named.2
  no_extension_meant name (kinds.OptionNotFound n) (targets.Extension y) (inr (full, means, lacks, nowhere)) named = none_own name full y means lacks named
  no_extension_meant name (kinds.InvalidOptionExtendee n) (targets.Extension y) (full, x, means, lacks, there) named = none_own name full y means lacks named
  no_extension_meant name k (targets.Extension y) lacks named = absurd lacks

  not_both : (b : Bool) (name : Text) (k : OptionErrorKind) (y : Target) → MatchBool b (LacksExtension s d name k) (LacksField d name k)
      → MatchBool b (NamesExtension t e name y) (NamesField e name y) → ⊥
  not_both true name k y lacks named = no_extension_meant name k y lacks named
  not_both false name k y lacks named = no_field_called name k y lacks named

  pub not_lacking : (part : NamePart) (k : OptionErrorKind) (y : Target) → LacksTarget s d part k → NamesTarget t e part y → ⊥
  not_lacking part k y lacks named = not_both part.is_extension (string_bytes part.name_part) k y lacks named
