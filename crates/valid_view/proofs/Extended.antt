-- Messages whose lists and maps take further values suit their types, and are tidy, where they did and were.
use Rattle.std.proofs.Common.{◌≡◌, ◌≢◌, inl, ℕ, ◌++◌, true, false, true≢false, List, [], Option, None, Some, refl, sym, ap, ◌∙◌, subst}
use Rattle.std.specs.List.{AllByRecursion, list_all}
use Rattle.std.specs.Prelude.{IfSome}
use Rattle.reflect_tables.specs.Types.{FieldType, PoolType}
use Rattle.reflect_pool.specs.FieldsLeft.{field_type}
use Rattle.reflect_pool.specs.Shapes.{holds_list, holds_map, is_repeated}
use Rattle.reflect_pool.specs.declared.extension.ExtensionDescriptor.{ExtensionDescriptor}
use Rattle.reflect_pool.specs.declared.field.FieldDescriptor.{FieldDescriptor}
use Rattle.reflect_entries.specs.Entries.{IsAscending, value_at}
use Rattle.reflect_scalar.specs.FieldTypes.{extension_type}
use Rattle.reflect_extend.specs.Gives.{Entry}
use Rattle.reflect_extend.specs.Puts.{PutsEntries}
use Rattle.reflect_message.specs.Declares.{Owns, OwnsExtension}
use Rattle.reflect_message.specs.Held.{extensions_of, fields_of}
use Rattle.reflect_message.specs.Known.{entry_field, holds_floats, known_extension, known_field}
use Rattle.reflect_message.specs.Lists.{Lengthens, items_held}
use Rattle.reflect_message.specs.Maps.{entries_held}
use Rattle.reflect_message.specs.Names.{DynamicMessage, Value}
use Rattle.reflect_decode.proofs.Sorts.{no_float_values}
use Rattle.reflect_numbered.specs.Fits.{extension_fits, field_fits, fits_of, suits_type}
use Rattle.reflect_numbered.specs.declared.validity.Strictness.{Strictness}
use Rattle.reflect_numbered.specs.declared.validity.Strictness.TheVariants.{Surface}
use Rattle.protobuf_model.proofs.Arranged.{all_append}
use Rattle.protobuf_model.proofs.Lists.{all_map}
use Rattle.message_view.specs.Sound.{IsSound}
use Rattle.message_view.proofs.Entries.{entry_of_map}
use Rattle.message_view.proofs.Fields.{extension_owned, extension_whole, owned, owned_whole}
use Rattle.set_view.specs.Extends.{ExtendsExtension, ExtendsField}
use Rattle.set_view.proofs.Extended.{stays_or_goes}
use Rattle.set_view.proofs.Mapped.{filled}
use Rattle.valid_view.specs.Given.{GivenWith, IsSuitedIn}
use Rattle.valid_view.proofs.Entries.{Gives, puts_each}
use Rattle.valid_view.proofs.Given.{given_typed}
use Rattle.valid_view.proofs.Passing.{each_passes, found, whole_passes}
use Rattle.valid_view.proofs.Setting.{again, changed_passes, one_deep}
use Rattle.valid_view.proofs.Testing as testing
use Rattle.valid_view.proofs.Testing.{field_whole, halves, under_extension, under_field}
use Rattle.valid_view.proofs.Valid.{IsEntry, One, Whole, no_map, one_of, whole_list, whole_map, whole_of, whole_one}

-- ---- what then stands under the number
module _ (how : Strictness) (pool : PoolType) (f : FieldType) where
  abbrev WasWhole : Option Value → Type 0
  WasWhole old = (w : Value) → old ≡ Some w → Whole how pool f w

  longer_whole : holds_list pool f ≡ true → (old new : Option Value) → WasWhole old → (vs : List Value) → AllByRecursion (One how pool f.kind) vs → Lengthens old new vs → WasWhole new
  longer_whole many None new was vs all longer v is =
      let sort = no_map how pool f many in
      whole_list sort.0 sort.1 vs (ap items_held (sym is) ∙ longer) all
  longer_whole many (Some w) new was vs all longer v is = by (was w refl) where
    sort : (holds_map pool f ≡ false) × (is_repeated f.cardinality ≡ true)
    sort = no_map how pool f many

    by : Whole how pool f w → Whole how pool f v
    by (whole_one never once one) = absurd (true≢false (sym sort.1 ∙ once))
    by (whole_list never repeats us at more) =
        whole_list never repeats (us ++ vs) (ap items_held (sym is) ∙ subst (λ o. IfSome o (λ (before : List Value). items_held new ≡ Some (before ++ vs))) at longer)
        (all_append (One how pool f.kind) us vs more all)
    by (whole_map is_map es at keys values first second all) = absurd (true≢false (sym is_map ∙ sort.0))

  module _ (is_map : holds_map pool f ≡ true) (keys values : FieldType) (first : entry_field pool f.kind 1 ≡ Some keys) (second : entry_field pool f.kind 2 ≡ Some values) where
    abbrev Its : Entry → Type 0
    Its e = IsEntry how pool keys.kind values.kind e

    before_whole : (old : Option Value) → WasWhole old → (before : List Entry) × (entries_held old ≡ Some before) × AllByRecursion Its before
    before_whole None was = ([], refl, tt)
    before_whole (Some w) was = by (was w refl) where
      by : Whole how pool f w → (before : List Entry) × (entries_held (Some w) ≡ Some before) × AllByRecursion Its before
      by (whole_one never once one) = absurd (true≢false (sym is_map ∙ never))
      by (whole_list never repeats us at more) = absurd (true≢false (sym is_map ∙ never))
      by (whole_map is es at ks vs one two all) =
          let its_key : ks ≡ keys = cc (sym one ∙ first) in
          let its_value : vs ≡ values = cc (sym two ∙ second) in (
            es,
            at,
            subst (λ (g : FieldType). AllByRecursion (IsEntry how pool g.kind values.kind) es) its_key
                (subst (λ (g : FieldType). AllByRecursion (IsEntry how pool ks.kind g.kind) es) its_value all),
          )

    fuller_whole : (old new : Option Value) → WasWhole old → (vs : List Value) → AllByRecursion (Gives Its (λ e d one two. (one.0, two.1))) vs → PutsEntries old new vs → WasWhole new
    fuller_whole old new was vs all puts v is =
        let start = before_whole old was in
        let now = filled old new start.0 vs start.1 puts in
        whole_map is_map now.0 (ap entries_held (sym is) ∙ now.1) keys values first second (puts_each Its (λ e d one two. (one.0, two.1)) start.0 now.0 vs start.2 all now.2)

-- values that are given to a list are of its kind
ones_given : (how : Strictness) (pool : PoolType) (f : FieldType) (vs : List Value) → AllByRecursion (GivenWith (λ m. suits_type how m ≡ true) pool f) vs → AllByRecursion (One how pool f.kind) vs
ones_given how pool f vs all =
    all_map (GivenWith (λ m. suits_type how m ≡ true) pool f) (One how pool f.kind) vs (λ v given. one_deep how pool f.kind v (one_of Surface pool f.kind v given.0) given.1) all

-- a map of a sound pool that entries are put into
map_whole : (how : Strictness) (pool : PoolType) → IsSound pool → (f : FieldType) → holds_map pool f ≡ true → holds_floats pool f ≡ false → (old new : Option Value) → WasWhole how pool f old
    → (vs : List Value) → AllByRecursion (GivenWith (IsSuitedIn how pool) pool f) vs → PutsEntries old new vs → WasWhole how pool f new
map_whole how pool sound f is_map floats old new was vs all puts =
    let keyed = entry_of_map pool f is_map in
    let parts = sound.entries f.kind keyed in
    let whole = no_float_values pool f parts.1 floats is_map parts.3 in
    let each = all_map (GivenWith (IsSuitedIn how pool) pool f) (Gives (IsEntry how pool parts.0.kind parts.1.kind) (λ e d one two. (one.0, two.1))) vs
    (λ v given. given_typed pool sound f keyed parts.0 parts.1 parts.2 parts.3 whole how v given.0 given.1) all in
    fuller_whole how pool f is_map parts.0 parts.1 parts.2 parts.3 old new was vs each puts

-- ---- messages
module _ (how : Strictness) (old new : DynamicMessage) (suits : suits_type how old ≡ true) where
  abbrev pool : PoolType
  pool = old.descriptor.pool.now

  abbrev i : ℕ
  i = old.descriptor.index

  -- where nothing is put, since the field is no list and no map
  pub same_typed : (f : FieldDescriptor) → ExtendsField old new f → fields_of new ≡ fields_of old → suits_type how new ≡ true
  same_typed f extends same =
      again how old new suits extends.same_type
      (subst (λ (es : List (ℕ × Value)). list_all (field_fits how pool i) (fits_of es) ≡ true) (sym same) (halves how old suits).0)
      (subst (λ (es : List (ℕ × Value)). list_all (extension_fits how pool i) (fits_of es) ≡ true) (sym extends.extensions) (halves how old suits).1)

  pub same_extension_typed : (x : ExtensionDescriptor) → ExtendsExtension old new x → extensions_of new ≡ extensions_of old → suits_type how new ≡ true
  same_extension_typed x extends same =
      again how old new suits extends.same_type
      (subst (λ (es : List (ℕ × Value)). list_all (field_fits how pool i) (fits_of es) ≡ true) (sym extends.fields) (halves how old suits).0)
      (subst (λ (es : List (ℕ × Value)). list_all (extension_fits how pool i) (fits_of es) ≡ true) (sym same) (halves how old suits).1)

  module _ (f : FieldDescriptor) (owns : Owns old.descriptor f) (extends : ExtendsField old new f) (up : IsAscending (fields_of old)) where
    abbrev was : Option Value
    was = value_at (fields_of old) (field_type f).number

    abbrev now : Option Value
    now = value_at (fields_of new) (field_type f).number

    field_was : WasWhole how old.descriptor.pool.now (field_type f) was
    field_was v at = whole_of how pool (field_type f) v (field_whole how old suits f owns v at)

    field_typed : WasWhole how old.descriptor.pool.now (field_type f) now → suits_type how new ≡ true
    field_typed fits =
        again how old new suits extends.same_type
        (each_passes (field_fits how pool i) (fields_of new) (fields_of new) (found (fields_of new) (extends.ascending up))
        (changed_passes how pool (known_field pool i) (field_type f).number (field_type f) (owned old.descriptor f owns) (fields_of old) (fields_of new)
        (λ v at. whole_passes how pool (field_type f) v (fits v at)) (stays_or_goes old new f extends) (under_field how old suits)))
        (subst (λ (es : List (ℕ × Value)). list_all (extension_fits how pool i) (fits_of es) ≡ true) (sym extends.extensions) (halves how old suits).1)

    pub list_typed : holds_list pool (field_type f) ≡ true → (vs : List Value) → AllByRecursion (GivenWith (λ m. suits_type how m ≡ true) pool (field_type f)) vs → Lengthens was now vs → suits_type how new ≡ true
    list_typed many vs all longer = field_typed (longer_whole how pool (field_type f) many was now field_was vs (ones_given how pool (field_type f) vs all) longer)

    pub map_typed : IsSound pool → holds_map pool (field_type f) ≡ true → (vs : List Value) → AllByRecursion (GivenWith (IsSuitedIn how pool) pool (field_type f)) vs → PutsEntries was now vs → suits_type how new ≡ true
    map_typed sound is_map vs all puts = field_typed (map_whole how pool sound (field_type f) is_map (owned_whole old.descriptor f owns) was now field_was vs all puts)

  module _ (x : ExtensionDescriptor) (owns : OwnsExtension old.descriptor x) (extends : ExtendsExtension old new x) (up : IsAscending (extensions_of old)) where
    abbrev stood : Option Value
    stood = value_at (extensions_of old) (extension_type x).number

    abbrev stands : Option Value
    stands = value_at (extensions_of new) (extension_type x).number

    extension_was : WasWhole how old.descriptor.pool.now (extension_type x) stood
    extension_was v at = whole_of how pool (extension_type x) v (testing.extension_whole how old suits x owns v at)

    extension_typed : WasWhole how old.descriptor.pool.now (extension_type x) stands → suits_type how new ≡ true
    extension_typed fits =
        again how old new suits extends.same_type
        (subst (λ (es : List (ℕ × Value)). list_all (field_fits how pool i) (fits_of es) ≡ true) (sym extends.fields) (halves how old suits).0)
        (each_passes (extension_fits how pool i) (extensions_of new) (extensions_of new) (found (extensions_of new) (extends.ascending up))
        (changed_passes how pool (known_extension pool i) (extension_type x).number (extension_type x) (extension_owned old.descriptor x owns) (extensions_of old) (extensions_of new)
        (λ v at. whole_passes how pool (extension_type x) v (fits v at)) (λ n other. inl (extends.others n other)) (under_extension how old suits)))

    pub list_extension_typed : holds_list pool (extension_type x) ≡ true → (vs : List Value) → AllByRecursion (GivenWith (λ m. suits_type how m ≡ true) pool (extension_type x)) vs → Lengthens stood stands vs → suits_type how new ≡ true
    list_extension_typed many vs all longer = extension_typed (longer_whole how pool (extension_type x) many stood stands extension_was vs (ones_given how pool (extension_type x) vs all) longer)

    pub map_extension_typed : IsSound pool → holds_map pool (extension_type x) ≡ true → (vs : List Value) → AllByRecursion (GivenWith (IsSuitedIn how pool) pool (extension_type x)) vs → PutsEntries stood stands vs → suits_type how new ≡ true
    map_extension_typed sound is_map vs all puts = extension_typed (map_whole how pool sound (extension_type x) is_map (extension_whole old.descriptor x owns) stood stands extension_was vs all puts)
