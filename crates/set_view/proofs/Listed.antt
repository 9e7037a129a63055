-- Lists that values are put behind.
use Rattle.std.proofs.Common.{◌≡◌, ◌&&◌, not, Bool, true, false, List, [], ◌++◌, Option, None, Some, IfSome, refl, sym, ap, ◌∙◌, subst, append-nil}
use Rattle.std.specs.List.{AllByRecursion}
use Rattle.protobuf_model.proofs.Arranged.{all_append}
use Rattle.reflect_entries.specs.Entries.{value_at}
use Rattle.reflect_message.specs.Contents.{content_of}
use Rattle.reflect_message.specs.Declares.{Owns, OwnsExtension}
use Rattle.reflect_message.specs.Held.{extensions_of, fields_of}
use Rattle.reflect_message.specs.Lists.{KeepsList, Lengthens, items_held}
use Rattle.reflect_message.specs.Names.{DynamicMessage, Value}
use Rattle.reflect_pool.specs.Shapes.{holds_list, holds_map, is_repeated}
use Rattle.reflect_pool.specs.FieldsLeft.{field_type}
use Rattle.reflect_pool.specs.declared.extension.ExtensionDescriptor.{ExtensionDescriptor}
use Rattle.reflect_pool.specs.declared.field.FieldDescriptor.{FieldDescriptor}
use Rattle.reflect_pool.specs.declared.message.MessageDescriptor.{MessageDescriptor}
use Rattle.reflect_scalar.specs.FieldTypes.{extension_type}
use Rattle.reflect_tables.specs.Types.{FieldType, PoolType}
use Rattle.message_view.specs.Shaped.{FitsShaped, FitsAs, FitsOne, IsShaped}
use Rattle.message_view.specs.Sound.{IsSound}
use Rattle.set_view.specs.Extends.{ExtendsExtension, ExtendsField}
use Rattle.set_view.proofs.Extended.{extension_fits, extension_in_shape, field_fits, field_in_shape}

-- values behind what was held, none where that is no list
pub lengthened : (old new : Option Value) (before vs : List Value) → items_held old ≡ Some before → Lengthens old new vs → items_held new ≡ Some (before ++ vs)
lengthened old new before vs at h = subst (λ o. IfSome o (λ (before : List Value). items_held new ≡ Some (before ++ vs))) at h

-- a list that stays has no values more
pub kept_is_lengthened : (old new : Option Value) → KeepsList old new → Lengthens old new []
kept_is_lengthened old new kept = by (items_held old) kept where
  by : (o : Option (List Value)) → items_held new ≡ o → IfSome o (λ (before : List Value). items_held new ≡ Some (before ++ []))
  by None same = tt
  by (Some before) same = same ∙ ap Some (sym (append-nil before))

-- a list is no map
no_map : (pool : PoolType) (f : FieldType) → holds_list pool f ≡ true → holds_map pool f ≡ false
no_map pool f many = by (is_repeated f.cardinality) (holds_map pool f) many where
  by : (a b : Bool) → (a && not b) ≡ true → b ≡ false
  by a false e = refl
  by true true e = absurd (cc e)
  by false true e = absurd (cc e)

module _ (inner : DynamicMessage → Type 0) (pool : PoolType) (f : FieldType) (many : holds_list pool f ≡ true) where
  abbrev IsFittingList : Option Value → Type 0
  IsFittingList o = (before : List Value) × (items_held o ≡ Some before) × AllByRecursion (FitsOne inner pool f) before

  list_fits : (v : Value) → IsFittingList (Some v) → FitsShaped inner pool f v
  list_fits v h = subst (λ b. FitsAs inner pool f b (holds_list pool f) v) (sym (no_map pool f many)) (subst (λ b. FitsAs inner pool f false b v) (sym many) h)

  fitting_list : (v : Value) → FitsShaped inner pool f v → IsFittingList (Some v)
  fitting_list v h = subst (λ b. FitsAs inner pool f false b v) many (subst (λ b. FitsAs inner pool f b (holds_list pool f) v) (no_map pool f many) h)

  fitting : (o : Option Value) → ((v : Value) → o ≡ Some v → FitsShaped inner pool f v) → IsFittingList o
  fitting None fits = ([], refl, tt)
  fitting (Some v) fits = fitting_list v (fits v refl)

  -- where the list and the values fit, so does the longer list
  longer_fits : (old new : Option Value) (vs : List Value) → ((v : Value) → old ≡ Some v → FitsShaped inner pool f v) → AllByRecursion (FitsOne inner pool f) vs → Lengthens old new vs
      → (v : Value) → new ≡ Some v → FitsShaped inner pool f v
  longer_fits old new vs fits all lengthens v is =
      let was = fitting old fits in
      list_fits v (was.0 ++ vs, ap items_held (sym is) ∙ lengthened old new was.0 vs was.1 lengthens, all_append (FitsOne inner pool f) was.0 vs was.2 all)

-- ---- messages
module _ (inner : DynamicMessage → Type 0) (old new : DynamicMessage) (sound : IsSound old.descriptor.pool.now) (shape : IsShaped inner old.descriptor (content_of old)) where
  abbrev d : MessageDescriptor
  d = old.descriptor

  pub list_in_shape : (f : FieldDescriptor) → Owns d f → holds_list d.pool.now (field_type f) ≡ true → ExtendsField old new f
      → (vs : List Value) → AllByRecursion (FitsOne inner d.pool.now (field_type f)) vs
      → Lengthens (value_at (fields_of old) (field_type f).number) (value_at (fields_of new) (field_type f).number) vs → IsShaped inner new.descriptor (content_of new)
  list_in_shape f owns many extends vs all lengthens =
      let under = λ (m : DynamicMessage). value_at (fields_of m) (field_type f).number in
      field_in_shape old new inner sound shape f owns extends
      (longer_fits inner d.pool.now (field_type f) many (under old) (under new) vs (field_fits old new inner sound shape f owns) all lengthens)

  pub list_extension_in_shape : (x : ExtensionDescriptor) → OwnsExtension d x → holds_list d.pool.now (extension_type x) ≡ true → ExtendsExtension old new x
      → (vs : List Value) → AllByRecursion (FitsOne inner d.pool.now (extension_type x)) vs
      → Lengthens (value_at (extensions_of old) (extension_type x).number) (value_at (extensions_of new) (extension_type x).number) vs → IsShaped inner new.descriptor (content_of new)
  list_extension_in_shape x owns many extends vs all lengthens =
      let under = λ (m : DynamicMessage). value_at (extensions_of m) (extension_type x).number in
      extension_in_shape old new inner sound shape x owns extends
      (longer_fits inner d.pool.now (extension_type x) many (under old) (under new) vs (extension_fits old new inner sound shape x owns) all lengthens)
