-- What lists and maps are that took further values, in the words of the model.
use Rattle.std.proofs.Common.{◌≡◌, ℕ, true≢false, is_some, List, [], ◌∷◌, ◌++◌, map, Option, None, Some, option_map, refl, sym, ap, ◌∙◌, subst}
use Rattle.std.specs.List.{AllByRecursion}
use Rattle.std.specs.Option.{IsSome}
use Rattle.protobuf_model.specs.Meaning.{if_any, if_some, items, pairs, put_all}
use Rattle.protobuf_model.specs.Types.{Field}
use Rattle.protobuf_model.specs.Values.{Held}
use Rattle.protobuf_model.proofs.Pieces.{items-if_any, map_append, pairs-if_some}
use Rattle.reflect_entries.specs.Entries.{value_at}
use Rattle.reflect_extend.specs.Gives.{Entry, GivesOneEntry}
use Rattle.reflect_extend.specs.Puts.{PutsAll, PutsEntries, with_given}
use Rattle.reflect_extend.specs.Siblings.{LacksSibling}
use Rattle.reflect_message.specs.Declares.{NoField, Owns, OwnsExtension}
use Rattle.reflect_message.specs.Held.{choices_of, extensions_of, fields_of}
use Rattle.reflect_message.specs.Lists.{Lengthens, items_held}
use Rattle.reflect_message.specs.Maps.{entries_held}
use Rattle.reflect_message.specs.Names.{DynamicMessage, Value}
use Rattle.reflect_message.specs.Oneofs.{IsExclusive}
use Rattle.reflect_pool.specs.FieldsLeft.{field_type}
use Rattle.reflect_pool.specs.declared.extension.ExtensionDescriptor.{ExtensionDescriptor}
use Rattle.reflect_pool.specs.declared.field.FieldDescriptor.{FieldDescriptor}
use Rattle.reflect_pool.specs.declared.message.MessageDescriptor.{MessageDescriptor}
use Rattle.reflect_scalar.specs.FieldTypes.{extension_type}
use Rattle.reflect_tables.specs.Types.{FieldType, PoolType}
use Rattle.message_view.specs.Singles.{scalar_of}
use Rattle.message_view.specs.Sound.{IsSound}
use Rattle.message_view.specs.Types.{entry_part, name_at, types_of}
use Rattle.message_view.specs.Views.{content_view, held_in, view}
use Rattle.message_view.proofs.Elements.{list_held}
use Rattle.message_view.proofs.Entries.{form_at, map_held, suited_form}
use Rattle.message_view.proofs.Keys.{entry_put, form_of, forms_stay, key_single}
use Rattle.set_view.specs.Extends.{ExtendsExtension, ExtendsField}
use Rattle.set_view.specs.Given.{AreGiven, GivesKeyed, HasKey, entry_view}
use Rattle.set_view.specs.Puts.{IsPut}
use Rattle.set_view.proofs.Extended.{other_stays, sibling_gone}
use Rattle.set_view.proofs.Listed.{lengthened}
use Rattle.set_view.proofs.Mapped.{filled}
use Rattle.set_view.proofs.Viewed.{extension_holds, field_holds, of_extension, of_field}

-- ---- lists
abbrev held_as : PoolType → FieldType → Option Value → Held
held_as pool f o = held_in pool f (option_map content_view o)

-- what the longer list is, in the words of the model
longer_held : (pool : PoolType) (f : FieldType) (old new : Option Value) (vs : List Value) → IsSome (items_held old) → Lengthens old new vs
    → held_as pool f new ≡ if_any (items (held_as pool f old) ++ map content_view vs)
longer_held pool f old new vs some lengthens = by (items_held old) refl where
  by : (o : Option (List Value)) → items_held old ≡ o → held_as pool f new ≡ if_any (items (held_as pool f old) ++ map content_view vs)
  by None at = absurd (true≢false (sym some ∙ ap is_some at))
  by (Some before) at =
      sym (list_held pool f new (before ++ vs) (lengthened old new before vs at lengthens))
      ∙ ap if_any (map_append content_view before vs)
      ∙ ap (λ cs. if_any (cs ++ map content_view vs)) (sym (items-if_any (map content_view before)))
      ∙ ap (λ h. if_any (items h ++ map content_view vs)) (list_held pool f old before at)

-- ---- maps
module _ (pool : PoolType) (f : FieldType) where
  abbrev form : ℕ
  form = form_at (scalar_of (entry_part pool f 1).kind)

  -- the keys have the form of the map's
  abbrev Formed : List Entry → Type 0
  Formed es = AllByRecursion (λ e. form_of (key_single e.0) ≡ form) es

  formed : (es : List Entry) → AllByRecursion (HasKey pool f) es → Formed es
  formed [] h = tt
  formed (e ∷ es) h = (suited_form (scalar_of (entry_part pool f 1).kind) (key_single e.0) h.0, formed es h.1)

  -- the entries that were given, which what is put in are in the words of the model
  abbrev IsPutIn : List Entry → List Entry → List Value → Type 0
  IsPutIn before after vs = (es : List Entry) × AreGiven vs es × (map entry_view after ≡ put_all (map entry_view before) (map entry_view es))

  put_in : (before after : List Entry) (vs : List Value) → Formed before → AllByRecursion (GivesKeyed pool f) vs → PutsAll before after vs → IsPutIn before after vs
  put_in before after [] keys keyed h = ([], refl, ap (map entry_view) h)
  put_in before after (v ∷ vs) keys keyed (between, (given, gives, put_so), rest) = by (λ keys. put_in between after vs keys keyed.1 rest) given gives put_so where
    by : (Formed between → IsPutIn between after vs) → (given : Option Entry) → GivesOneEntry v given → between ≡ with_given before given → IsPutIn before after (v ∷ vs)
    by later None gives put_so =
        let more = later (subst Formed (sym put_so) keys) in
        (more.0, (None, more.0, gives, more.1, refl), more.2 ∙ ap (λ b. put_all (map entry_view b) (map entry_view more.0)) put_so)
    by later (Some e) gives put_so =
        let one = suited_form (scalar_of (entry_part pool f 1).kind) (key_single e.0) (keyed.0 e gives) in
        let more = later (subst Formed (sym put_so) (forms_stay content_view form before e.0 e.1 keys one)) in (
          e ∷ more.0,
          (Some e, more.0, gives, more.1, refl),
          more.2 ∙ ap (λ b. put_all b (map entry_view more.0)) (ap (map entry_view) put_so ∙ entry_put content_view form before e.0 e.1 keys one),
        )

  -- what the fuller map is
  abbrev IsFuller : Option Value → Option Value → List Value → Type 0
  IsFuller old new vs = (es : List Entry) × AreGiven vs es × (held_as pool f new ≡ if_some (put_all (pairs (held_as pool f old)) (map entry_view es)))

  fuller_held : (old new : Option Value) (before : List Entry) (vs : List Value) → entries_held old ≡ Some before → AllByRecursion (HasKey pool f) before → AllByRecursion (GivesKeyed pool f) vs → PutsEntries old new vs → IsFuller old new vs
  fuller_held old new before vs at keys keyed puts =
      let now = filled old new before vs at puts in
      let more = put_in before now.0 vs (formed before keys) keyed now.2 in
      let was : pairs (held_as pool f old) ≡ map entry_view before = ap pairs (sym (map_held pool f old before at)) ∙ pairs-if_some (map entry_view before) in (
        more.0,
        more.1,
        sym (map_held pool f new now.0 now.1) ∙ ap if_some more.2 ∙ ap (λ b. if_some (put_all b (map entry_view more.0))) (sym was),
      )

-- ---- messages
module _ (old new : DynamicMessage) (sound : IsSound old.descriptor.pool.now) where
  abbrev d : MessageDescriptor
  d = old.descriptor

  abbrev fields : ℕ → Option Field
  fields = types_of d.pool.now (name_at d.pool.now d.index)

  abbrev FieldIsPut : FieldDescriptor → Held → Type 0
  FieldIsPut f held = IsPut fields (field_type f).number held (view old) (view new)

  field_is_put : IsExclusive old → (f : FieldDescriptor) → Owns d f → ExtendsField old new f → LacksSibling f (choices_of old) (fields_of new)
      → FieldIsPut f (held_as d.pool.now (field_type f) (value_at (fields_of new) (field_type f).number))
  field_is_put exclusive f owns extends lacks =
      field_holds old new sound extends.same_type f owns (value_at (fields_of new) (field_type f).number) refl
      (sibling_gone old new f exclusive extends lacks) (other_stays old new f exclusive extends) extends.extensions extends.unknown

  pub list_put : IsExclusive old → (f : FieldDescriptor) → Owns d f → ExtendsField old new f → LacksSibling f (choices_of old) (fields_of new)
      → (vs : List Value) → IsSome (items_held (value_at (fields_of old) (field_type f).number))
      → Lengthens (value_at (fields_of old) (field_type f).number) (value_at (fields_of new) (field_type f).number) vs
      → FieldIsPut f (if_any (items (view old (field_type f).number) ++ map content_view vs))
  list_put exclusive f owns extends lacks vs some lengthens =
      let under = λ (m : DynamicMessage). value_at (fields_of m) (field_type f).number in
      let was = of_field old old refl f owns (under old) refl in
      subst (FieldIsPut f) (longer_held d.pool.now (field_type f) (under old) (under new) vs some lengthens ∙ ap (λ h. if_any (items h ++ map content_view vs)) (sym was))
      (field_is_put exclusive f owns extends lacks)

  pub map_put : IsExclusive old → (f : FieldDescriptor) → Owns d f → ExtendsField old new f → LacksSibling f (choices_of old) (fields_of new)
      → (before : List Entry) → entries_held (value_at (fields_of old) (field_type f).number) ≡ Some before
      → AllByRecursion (HasKey d.pool.now (field_type f)) before
      → (vs : List Value) → AllByRecursion (GivesKeyed d.pool.now (field_type f)) vs
      → PutsEntries (value_at (fields_of old) (field_type f).number) (value_at (fields_of new) (field_type f).number) vs
      → (es : List Entry) × AreGiven vs es × FieldIsPut f (if_some (put_all (pairs (view old (field_type f).number)) (map entry_view es)))
  map_put exclusive f owns extends lacks before at keys vs keyed puts =
      let under = λ (m : DynamicMessage). value_at (fields_of m) (field_type f).number in
      let was = of_field old old refl f owns (under old) refl in
      let more = fuller_held d.pool.now (field_type f) (under old) (under new) before vs at keys keyed puts in (
        more.0,
        more.1,
        subst (FieldIsPut f) (more.2 ∙ ap (λ h. if_some (put_all (pairs h) (map entry_view more.0))) (sym was)) (field_is_put exclusive f owns extends lacks),
      )

  abbrev ExtensionIsPut : ExtensionDescriptor → Held → Type 0
  ExtensionIsPut x held = IsPut fields (extension_type x).number held (view old) (view new)

  extension_is_put : (x : ExtensionDescriptor) → OwnsExtension d x → NoField d (extension_type x).number → ExtendsExtension old new x
      → ExtensionIsPut x (held_as d.pool.now (extension_type x) (value_at (extensions_of new) (extension_type x).number))
  extension_is_put x owns none extends =
      extension_holds old new sound extends.same_type x owns none (value_at (extensions_of new) (extension_type x).number) refl extends.others extends.fields extends.unknown

  pub list_extension_put : (x : ExtensionDescriptor) → OwnsExtension d x → NoField d (extension_type x).number → ExtendsExtension old new x
      → (vs : List Value) → IsSome (items_held (value_at (extensions_of old) (extension_type x).number))
      → Lengthens (value_at (extensions_of old) (extension_type x).number) (value_at (extensions_of new) (extension_type x).number) vs
      → ExtensionIsPut x (if_any (items (view old (extension_type x).number) ++ map content_view vs))
  list_extension_put x owns none extends vs some lengthens =
      let under = λ (m : DynamicMessage). value_at (extensions_of m) (extension_type x).number in
      let was = of_extension old old refl x owns none (under old) refl in
      subst (ExtensionIsPut x) (longer_held d.pool.now (extension_type x) (under old) (under new) vs some lengthens ∙ ap (λ h. if_any (items h ++ map content_view vs)) (sym was))
      (extension_is_put x owns none extends)

  pub map_extension_put : (x : ExtensionDescriptor) → OwnsExtension d x → NoField d (extension_type x).number → ExtendsExtension old new x
      → (before : List Entry) → entries_held (value_at (extensions_of old) (extension_type x).number) ≡ Some before
      → AllByRecursion (HasKey d.pool.now (extension_type x)) before
      → (vs : List Value) → AllByRecursion (GivesKeyed d.pool.now (extension_type x)) vs
      → PutsEntries (value_at (extensions_of old) (extension_type x).number) (value_at (extensions_of new) (extension_type x).number) vs
      → (es : List Entry) × AreGiven vs es × ExtensionIsPut x (if_some (put_all (pairs (view old (extension_type x).number)) (map entry_view es)))
  map_extension_put x owns none extends before at keys vs keyed puts =
      let under = λ (m : DynamicMessage). value_at (extensions_of m) (extension_type x).number in
      let was = of_extension old old refl x owns none (under old) refl in
      let more = fuller_held d.pool.now (extension_type x) (under old) (under new) before vs at keys keyed puts in (
        more.0,
        more.1,
        subst (ExtensionIsPut x) (more.2 ∙ ap (λ h. if_some (put_all (pairs h) (map entry_view more.0))) (sym was)) (extension_is_put x owns none extends),
      )
