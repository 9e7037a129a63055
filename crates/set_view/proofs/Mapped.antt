-- Maps that values put their entries into.
use Rattle.std.proofs.Common.{◌≡◌, true, List, [], ◌∷◌, ◌++◌, Option, None, Some, MatchOption, Ordering, Less, Equal, Greater, refl, sym, ap, ◌∙◌, subst}
use Rattle.std.specs.BTreeMap.{insert_entry}
use Rattle.std.specs.List.{AllByRecursion}
use Rattle.std.specs.Ordering.{match_ordering}
use Rattle.reflect_entries.specs.Entries.{value_at}
use Rattle.reflect_extend.specs.Gives.{Entry, GivesOneEntry}
use Rattle.reflect_extend.specs.Puts.{PutsAll, PutsEntries, PutsFront, PutsSome, with_given}
use Rattle.reflect_message.specs.Contents.{content_of}
use Rattle.reflect_message.specs.Declares.{Owns, OwnsExtension}
use Rattle.reflect_message.specs.Held.{extensions_of, fields_of}
use Rattle.reflect_message.specs.Maps.{entries_held, key_order}
use Rattle.reflect_message.specs.Names.{DynamicMessage, Value}
use Rattle.reflect_pool.specs.FieldsLeft.{field_type}
use Rattle.reflect_pool.specs.Shapes.{holds_list, holds_map}
use Rattle.reflect_pool.specs.declared.extension.ExtensionDescriptor.{ExtensionDescriptor}
use Rattle.reflect_pool.specs.declared.field.FieldDescriptor.{FieldDescriptor}
use Rattle.reflect_pool.specs.declared.message.MessageDescriptor.{MessageDescriptor}
use Rattle.reflect_scalar.specs.FieldTypes.{extension_type}
use Rattle.reflect_scalar.specs.declared.map_key.MapKey.{MapKey}
use Rattle.reflect_tables.specs.Types.{FieldType, PoolType}
use Rattle.message_view.specs.Shaped.{FitsShaped, FitsAs, FitsEntry, IsShaped}
use Rattle.message_view.specs.Sound.{IsSound}
use Rattle.set_view.specs.Extends.{ExtendsExtension, ExtendsField}
use Rattle.set_view.specs.Given.{GivesFitting}
use Rattle.set_view.proofs.Extended.{extension_fits, extension_in_shape, field_fits, field_in_shape}

-- where a call is refused, the first of the values put their entries
pub some_are_front : (old new : Option Value) (vs : List Value) → PutsSome old new vs → (front behind : List Value) × (vs ≡ front ++ behind) × PutsEntries old new front
some_are_front old new vs puts = by (entries_held old) puts where
  by : (o : Option (List Entry)) → MatchOption o (new ≡ old) (λ (before : List Entry). (after : List Entry) × (entries_held new ≡ Some after) × PutsFront before after vs)
      → (front behind : List Value) × (vs ≡ front ++ behind) × MatchOption o (new ≡ old) (λ (before : List Entry). (after : List Entry) × (entries_held new ≡ Some after) × PutsAll before after front)
  by None same = ([], vs, refl, same)
  by (Some before) (after, at, (front, behind, parts, put)) = (front, behind, parts, (after, at, put))

-- what was put into a map
pub filled : (old new : Option Value) (before : List Entry) (vs : List Value) → entries_held old ≡ Some before → PutsEntries old new vs → (after : List Entry) × (entries_held new ≡ Some after) × PutsAll before after vs
filled old new before vs at puts = subst (λ o. MatchOption o (new ≡ old) (λ (before : List Entry). (after : List Entry) × (entries_held new ≡ Some after) × PutsAll before after vs)) at puts

-- what holds of the values of entries, and of one more
inserted : (P : Value → Type 0) (es : List Entry) (k : MapKey) (v : Value) → AllByRecursion (λ (e : Entry). P e.1) es → P v → AllByRecursion (λ (e : Entry). P e.1) (insert_entry key_order es k v)
inserted P [] k v all one = (one, tt)
inserted P (e ∷ es) k v all one = by (inserted P es k v all.1 one) (key_order k e.0) where
  by : AllByRecursion (λ (e : Entry). P e.1) (insert_entry key_order es k v) → (o : Ordering) → AllByRecursion (λ (e : Entry). P e.1) (match_ordering o ((k, v) ∷ e ∷ es) ((e.0, v) ∷ es) (e ∷ insert_entry key_order es k v))
  by later Less = (one, all)
  by later Equal = (one, all.1)
  by later Greater = (all.0, later)

module _ (inner : DynamicMessage → Type 0) (pool : PoolType) (f : FieldType) where
  abbrev AllFit : List Entry → Type 0
  AllFit es = AllByRecursion (FitsEntry inner pool f) es

  with_fitting : (before : List Entry) (v : Value) (given : Option Entry) → AllFit before → GivesFitting inner pool f v → GivesOneEntry v given → AllFit (with_given before given)
  with_fitting before v None all fits gives = all
  with_fitting before v (Some e) all fits gives = inserted (λ w. FitsEntry inner pool f (e.0, w)) before e.0 e.1 all (fits e gives)

  all_fit : (before after : List Entry) (vs : List Value) → AllFit before → AllByRecursion (GivesFitting inner pool f) vs → PutsAll before after vs → AllFit after
  all_fit before after [] all fits h = subst AllFit (sym h) all
  all_fit before after (v ∷ vs) all fits (between, (given, gives, put_so), rest) =
      all_fit between after vs (subst AllFit (sym put_so) (with_fitting before v given all fits.0 gives)) fits.1 rest

  module _ (is_map : holds_map pool f ≡ true) where
    abbrev IsFittingMap : Option Value → Type 0
    IsFittingMap o = (before : List Entry) × (entries_held o ≡ Some before) × AllFit before

    pub fitting : (o : Option Value) → ((v : Value) → o ≡ Some v → FitsShaped inner pool f v) → IsFittingMap o
    fitting None fits = ([], refl, tt)
    fitting (Some v) fits = subst (λ b. FitsAs inner pool f b (holds_list pool f) v) is_map (fits v refl)

    -- where the map and the entries fit, so does the fuller map
    fuller_fits : (old new : Option Value) (vs : List Value) → ((v : Value) → old ≡ Some v → FitsShaped inner pool f v) → AllByRecursion (GivesFitting inner pool f) vs → PutsEntries old new vs
        → (v : Value) → new ≡ Some v → FitsShaped inner pool f v
    fuller_fits old new vs fits all puts v is =
        let was = fitting old fits in
        let now = filled old new was.0 vs was.1 puts in
        subst (λ b. FitsAs inner pool f b (holds_list pool f) v) (sym is_map) (now.0, ap entries_held (sym is) ∙ now.1, all_fit was.0 now.0 vs was.2 all now.2)

-- ---- messages
module _ (inner : DynamicMessage → Type 0) (old new : DynamicMessage) (sound : IsSound old.descriptor.pool.now) (shape : IsShaped inner old.descriptor (content_of old)) where
  abbrev d : MessageDescriptor
  d = old.descriptor

  pub map_in_shape : (f : FieldDescriptor) → Owns d f → holds_map d.pool.now (field_type f) ≡ true → ExtendsField old new f
      → (vs : List Value) → AllByRecursion (GivesFitting inner d.pool.now (field_type f)) vs
      → PutsEntries (value_at (fields_of old) (field_type f).number) (value_at (fields_of new) (field_type f).number) vs → IsShaped inner new.descriptor (content_of new)
  map_in_shape f owns is_map extends vs all puts =
      let under = λ (m : DynamicMessage). value_at (fields_of m) (field_type f).number in
      field_in_shape old new inner sound shape f owns extends
      (fuller_fits inner d.pool.now (field_type f) is_map (under old) (under new) vs (field_fits old new inner sound shape f owns) all puts)

  pub map_extension_in_shape : (x : ExtensionDescriptor) → OwnsExtension d x → holds_map d.pool.now (extension_type x) ≡ true → ExtendsExtension old new x
      → (vs : List Value) → AllByRecursion (GivesFitting inner d.pool.now (extension_type x)) vs
      → PutsEntries (value_at (extensions_of old) (extension_type x).number) (value_at (extensions_of new) (extension_type x).number) vs → IsShaped inner new.descriptor (content_of new)
  map_extension_in_shape x owns is_map extends vs all puts =
      let under = λ (m : DynamicMessage). value_at (extensions_of m) (extension_type x).number in
      extension_in_shape old new inner sound shape x owns extends
      (fuller_fits inner d.pool.now (extension_type x) is_map (under old) (under new) vs (extension_fits old new inner sound shape x owns) all puts)
