-- Messages whose lists and maps take further values are tidy where they were, and where the messages in these are.
use Rattle.std.proofs.Common.{◌≡◌, inl, ℕ, suc, ◌++◌, true, false, List, [], Option, None, Some, refl, sym, ap, ◌∙◌, subst}
use Rattle.std.specs.List.{AllByRecursion}
use Rattle.std.specs.Prelude.{IfSome, MatchOption}
use Rattle.reflect_tables.specs.Types.{FieldType, PoolType}
use Rattle.reflect_pool.specs.FieldsLeft.{field_type}
use Rattle.reflect_pool.specs.Shapes.{holds_map}
use Rattle.reflect_pool.specs.declared.extension.ExtensionDescriptor.{ExtensionDescriptor}
use Rattle.reflect_pool.specs.declared.field.FieldDescriptor.{FieldDescriptor}
use Rattle.reflect_entries.specs.Entries.{value_at}
use Rattle.reflect_scalar.specs.FieldTypes.{extension_pool, extension_type, field_pool}
use Rattle.reflect_extend.specs.Gives.{Entry}
use Rattle.reflect_extend.specs.Others.{KeepsOther}
use Rattle.reflect_extend.specs.Puts.{PutsAll, PutsEntries}
use Rattle.reflect_message.specs.Contents.{content_of}
use Rattle.reflect_message.specs.Declares.{Owns, OwnsExtension}
use Rattle.reflect_message.specs.Held.{extensions_of, fields_of}
use Rattle.reflect_message.specs.Known.{holds_floats}
use Rattle.reflect_message.specs.Lists.{Lengthens, items_held, list_items}
use Rattle.reflect_message.specs.Maps.{entries_held}
use Rattle.reflect_message.specs.Names.{DynamicMessage, Value}
use Rattle.reflect_message.specs.Oneofs.{IsExclusive}
use Rattle.reflect_decode.proofs.Sorts.{no_float_values}
use Rattle.protobuf_model.specs.Meaning.{payloads}
use Rattle.protobuf_model.proofs.Arranged.{all_append}
use Rattle.protobuf_model.proofs.Lists.{all_map}
use Rattle.message_view.specs.Sound.{IsSound}
use Rattle.message_view.proofs.Changed.{extension_ordered, field_ordered}
use Rattle.message_view.proofs.Entries.{entry_of_map}
use Rattle.message_view.proofs.Fields.{extension_whole, owned_whole}
use Rattle.message_view.proofs.Numbered.{extension_number, field_number}
use Rattle.set_view.specs.Extends.{ExtendsExtension, ExtendsField}
use Rattle.valid_view.specs.Given.{GivenWith}
use Rattle.valid_view.specs.Inside.{EachMessage, IfMessage}
use Rattle.valid_view.specs.Tidy.{Tidy}
use Rattle.valid_view.proofs.Entries.{Gives, puts_each}
use Rattle.set_view.proofs.Extended.{stays_or_goes}
use Rattle.valid_view.proofs.Given.{given_tidy}
use Rattle.valid_view.proofs.LeftValues.{list_each, map_each}
use Rattle.valid_view.proofs.Stemming.{Given, put_stems, same_stems, tidy_stems}

-- ---- the messages in what then stands under the number
module _ (P : DynamicMessage → Type 0) where
  abbrev HeldEach : Option Value → Type 0
  HeldEach old = (w : Value) → old ≡ Some w → EachMessage P w

  longer_each : (old new : Option Value) → HeldEach old → (vs : List Value) → AllByRecursion (IfMessage P) vs → Lengthens old new vs → KeepsOther old new → HeldEach new
  longer_each None new was vs all longer other v is = list_each P v vs (ap items_held (sym is) ∙ longer) all
  longer_each (Some w) new was vs all longer other v is = by (list_items w) refl longer where
    by : (o : Option (List Value)) → list_items w ≡ o → IfSome o (λ (before : List Value). items_held new ≡ Some (before ++ vs)) → EachMessage P v
    by None none h =
        let same : w ≡ v = cc (sym (other none) ∙ is) in
        subst (EachMessage P) same (was w refl)
    by (Some us) at h = list_each P v (us ++ vs) (ap items_held (sym is) ∙ h) (all_append (IfMessage P) us vs ((was w refl).items us at) all)

  abbrev HasEach : Entry → Type 0
  HasEach e = IfMessage P e.1

  before_each : (old : Option Value) → HeldEach old → (before : List Entry) → entries_held old ≡ Some before → AllByRecursion HasEach before
  before_each None was before at =
      let empty : before ≡ [] = cc at in
      subst (AllByRecursion HasEach) (sym empty) tt
  before_each (Some w) was before at = (was w refl).entries before at

  fuller_each : (old new : Option Value) → HeldEach old → (vs : List Value) → AllByRecursion (Gives HasEach (λ e d one two. two)) vs → PutsEntries old new vs → HeldEach new
  fuller_each old new was vs all puts v is = by (entries_held old) refl puts where
    by : (o : Option (List Entry)) → entries_held old ≡ o → MatchOption o (new ≡ old) (λ (before : List Entry). (after : List Entry) × (entries_held new ≡ Some after) × PutsAll before after vs) → EachMessage P v
    by None none same = was v (sym same ∙ is)
    by (Some before) at (after, there, put) =
        map_each P v after (ap entries_held (sym is) ∙ there) (puts_each HasEach (λ e d one two. two) before after vs (before_each old was before at) all put)

-- the entries that tidy messages give
given_each : (pool : PoolType) → IsSound pool → (levels : ℕ) (f : FieldType) → holds_map pool f ≡ true → holds_floats pool f ≡ false → (vs : List Value)
    → AllByRecursion (GivenWith (Tidy pool (suc (suc levels))) pool f) vs → AllByRecursion (Gives (HasEach (Tidy pool (suc levels))) (λ e d one two. two)) vs
given_each pool sound levels f is_map floats vs all =
    let keyed = entry_of_map pool f is_map in
    let parts = sound.entries f.kind keyed in
    let whole = no_float_values pool f parts.1 floats is_map parts.3 in
    all_map (GivenWith (Tidy pool (suc (suc levels))) pool f) (Gives (HasEach (Tidy pool (suc levels))) (λ e d one two. two)) vs
    (λ v given. given_tidy pool sound f keyed parts.0 parts.1 parts.2 parts.3 whole levels v given.0 given.1) all

-- ---- messages
module _ (pool : PoolType) (sound : IsSound pool) (levels : ℕ) (old new : DynamicMessage) (tidy : Tidy pool (suc levels) old) (sole : IsExclusive new) where
  abbrev Inside : DynamicMessage → Type 0
  Inside = Tidy pool levels

  pub field_tidy : (f : FieldDescriptor) → Owns old.descriptor f → ExtendsField old new f → HeldEach Inside (value_at (fields_of new) (field_type f).number) → Tidy pool (suc levels) new
  field_tidy f owns extends each =
      let under = value_at (fields_of new) (field_type f).number in
      let its_sound : IsSound (field_pool f) = subst IsSound (sym (owns.0.1 ∙ tidy.0.pooled)) sound in
      tidy_stems (Given under) old new (put_stems (Given under) (fields_of old) (fields_of new) (field_type f).number under refl (λ w e. e) (stays_or_goes old new f extends))
      (same_stems (Given under) (extensions_of old) (extensions_of new) extends.extensions) pool levels each extends.same_type
      (field_ordered (field_type f).number (field_number f its_sound) (content_of old) (content_of new) extends.unknown extends.extensions extends.ascending (stays_or_goes old new f extends) tidy.0.ordered)
      sole (λ n none. ap (payloads n) extends.unknown ∙ none) tidy

  pub extension_tidy : (x : ExtensionDescriptor) → OwnsExtension old.descriptor x → ExtendsExtension old new x → HeldEach Inside (value_at (extensions_of new) (extension_type x).number) → Tidy pool (suc levels) new
  extension_tidy x owns extends each =
      let under = value_at (extensions_of new) (extension_type x).number in
      let its_sound : IsSound (extension_pool x) = subst IsSound (sym (owns.0.0 ∙ tidy.0.pooled)) sound in
      tidy_stems (Given under) old new (same_stems (Given under) (fields_of old) (fields_of new) extends.fields)
      (put_stems (Given under) (extensions_of old) (extensions_of new) (extension_type x).number under refl (λ w e. e) (λ n other. inl (extends.others n other))) pool levels each extends.same_type
      (extension_ordered (extension_type x).number (extension_number x its_sound) (content_of old) (content_of new) extends.unknown extends.fields extends.ascending extends.others tidy.0.ordered)
      sole (λ n none. ap (payloads n) extends.unknown ∙ none) tidy

  pub list_tidy : (f : FieldDescriptor) → Owns old.descriptor f → ExtendsField old new f → (vs : List Value) → AllByRecursion (IfMessage Inside) vs
      → Lengthens (value_at (fields_of old) (field_type f).number) (value_at (fields_of new) (field_type f).number) vs
      → KeepsOther (value_at (fields_of old) (field_type f).number) (value_at (fields_of new) (field_type f).number) → Tidy pool (suc levels) new
  list_tidy f owns extends vs all longer other =
      let under = λ (m : DynamicMessage). value_at (fields_of m) (field_type f).number in
      field_tidy f owns extends (longer_each Inside (under old) (under new) (tidy.1.fields (field_type f).number) vs all longer other)

  pub list_extension_tidy : (x : ExtensionDescriptor) → OwnsExtension old.descriptor x → ExtendsExtension old new x → (vs : List Value) → AllByRecursion (IfMessage Inside) vs
      → Lengthens (value_at (extensions_of old) (extension_type x).number) (value_at (extensions_of new) (extension_type x).number) vs
      → KeepsOther (value_at (extensions_of old) (extension_type x).number) (value_at (extensions_of new) (extension_type x).number) → Tidy pool (suc levels) new
  list_extension_tidy x owns extends vs all longer other =
      let under = λ (m : DynamicMessage). value_at (extensions_of m) (extension_type x).number in
      extension_tidy x owns extends (longer_each Inside (under old) (under new) (tidy.1.extensions (extension_type x).number) vs all longer other)

  -- where nothing is put, since the field is no list and no map
  pub same_tidy : (f : FieldDescriptor) → Owns old.descriptor f → ExtendsField old new f → fields_of new ≡ fields_of old → Tidy pool (suc levels) new
  same_tidy f owns extends same = field_tidy f owns extends (λ v at. tidy.1.fields (field_type f).number v (ap (λ (es : List (ℕ × Value)). value_at es (field_type f).number) (sym same) ∙ at))

  pub same_extension_tidy : (x : ExtensionDescriptor) → OwnsExtension old.descriptor x → ExtendsExtension old new x → extensions_of new ≡ extensions_of old → Tidy pool (suc levels) new
  same_extension_tidy x owns extends same =
      extension_tidy x owns extends (λ v at. tidy.1.extensions (extension_type x).number v (ap (λ (es : List (ℕ × Value)). value_at es (extension_type x).number) (sym same) ∙ at))

module _ (pool : PoolType) (sound : IsSound pool) (levels : ℕ) (old new : DynamicMessage) (tidy : Tidy pool (suc (suc levels)) old) (sole : IsExclusive new) where
  pub map_tidy : (f : FieldDescriptor) → Owns old.descriptor f → holds_map pool (field_type f) ≡ true → ExtendsField old new f
      → (vs : List Value) → AllByRecursion (GivenWith (Tidy pool (suc (suc levels))) pool (field_type f)) vs
      → PutsEntries (value_at (fields_of old) (field_type f).number) (value_at (fields_of new) (field_type f).number) vs → Tidy pool (suc (suc levels)) new
  map_tidy f owns is_map extends vs all puts =
      let under = λ (m : DynamicMessage). value_at (fields_of m) (field_type f).number in
      let floats : holds_floats pool (field_type f) ≡ false = subst (λ p. holds_floats p (field_type f) ≡ false) tidy.0.pooled (owned_whole old.descriptor f owns) in
      field_tidy pool sound (suc levels) old new tidy sole f owns extends
      (fuller_each (Tidy pool (suc levels)) (under old) (under new) (tidy.1.fields (field_type f).number) vs (given_each pool sound levels (field_type f) is_map floats vs all) puts)

  pub map_extension_tidy : (x : ExtensionDescriptor) → OwnsExtension old.descriptor x → holds_map pool (extension_type x) ≡ true → ExtendsExtension old new x
      → (vs : List Value) → AllByRecursion (GivenWith (Tidy pool (suc (suc levels))) pool (extension_type x)) vs
      → PutsEntries (value_at (extensions_of old) (extension_type x).number) (value_at (extensions_of new) (extension_type x).number) vs → Tidy pool (suc (suc levels)) new
  map_extension_tidy x owns is_map extends vs all puts =
      let under = λ (m : DynamicMessage). value_at (extensions_of m) (extension_type x).number in
      let floats : holds_floats pool (extension_type x) ≡ false = subst (λ p. holds_floats p (extension_type x) ≡ false) tidy.0.pooled (extension_whole old.descriptor x owns) in
      extension_tidy pool sound (suc levels) old new tidy sole x owns extends
      (fuller_each (Tidy pool (suc levels)) (under old) (under new) (tidy.1.extensions (extension_type x).number) vs (given_each pool sound levels (extension_type x) is_map floats vs all) puts)
