-- What messages hold whose lists and maps take further values is whole where it was, and where these are.
use Rattle.std.proofs.Common.{◌≡◌, inl, ℕ, suc, ◌++◌, true, false, true≢false, List, Option, None, Some, refl, sym, ap, ◌∙◌, subst}
use Rattle.std.specs.List.{AllByRecursion}
use Rattle.std.specs.Prelude.{IfSome, MatchOption}
use Rattle.reflect_tables.specs.Types.{FieldType, PoolType}
use Rattle.reflect_pool.specs.FieldsLeft.{field_type}
use Rattle.reflect_pool.specs.Shapes.{holds_map, is_entry}
use Rattle.reflect_pool.specs.declared.extension.ExtensionDescriptor.{ExtensionDescriptor}
use Rattle.reflect_pool.specs.declared.field.FieldDescriptor.{FieldDescriptor}
use Rattle.reflect_entries.specs.Entries.{value_at}
use Rattle.reflect_scalar.specs.FieldTypes.{extension_type}
use Rattle.reflect_scalar.specs.Keys.{key_view}
use Rattle.reflect_scalar.specs.Written.{Fits}
use Rattle.reflect_extend.specs.Gives.{Entry, GivesOneEntry}
use Rattle.reflect_extend.specs.Others.{KeepsOther}
use Rattle.reflect_extend.specs.Puts.{PutsAll, PutsEntries}
use Rattle.reflect_message.specs.Declares.{Owns, OwnsExtension}
use Rattle.reflect_message.specs.Defaults.{IsDefaultOne}
use Rattle.reflect_message.specs.Held.{extensions_of, fields_of}
use Rattle.reflect_message.specs.Known.{entry_field, holds_floats, is_float}
use Rattle.reflect_message.specs.Lists.{Lengthens, items_held, list_items}
use Rattle.reflect_message.specs.Maps.{entries_held}
use Rattle.reflect_message.specs.Names.{DynamicMessage, Value}
use Rattle.reflect_decode.proofs.Sorts.{Sort, floating, message_type, no_float_values, plain, some_default, sort_of}
use Rattle.protobuf_model.specs.Scalars.{Suits}
use Rattle.protobuf_model.proofs.Arranged.{all_append}
use Rattle.protobuf_model.proofs.Lists.{all_map}
use Rattle.message_view.specs.Singles.{scalar_of}
use Rattle.message_view.specs.Sound.{IsSound}
use Rattle.message_view.proofs.Entries.{default_is, entry_of_map, key_scalar}
use Rattle.message_view.proofs.Fields.{extension_whole, owned_whole}
use Rattle.set_view.specs.Extends.{ExtendsExtension, ExtendsField}
use Rattle.set_view.proofs.Extended.{stays_or_goes}
use Rattle.valid_view.specs.Given.{GivenWith, IsGiven, IsSolidIn}
use Rattle.valid_view.specs.Inside.{IfMessage, IfSingle, IsWhole}
use Rattle.valid_view.specs.Tidy.{Solid}
use Rattle.valid_view.proofs.Entries.{Gives, puts_each}
use Rattle.valid_view.proofs.Firm.{FirmEntry, FirmIn, FirmOne, IsOne, WasFirm, a_message, both_all, firm_items, held_entries, list_in, map_in, one_is, suited_one}
use Rattle.valid_view.proofs.Given.{as_part, of_pair, scalar_whole}
use Rattle.valid_view.proofs.Kept.{empty_solid, still_fit}
use Rattle.valid_view.proofs.KeyOrder.{puts_ascend}
use Rattle.valid_view.proofs.Parts.{pair_key, pair_value}
use Rattle.valid_view.proofs.Stemming.{Given, put_stems, same_stems, solid_stems}

-- ---- what then stands under the number, of whose messages Q holds
module _ (Q : DynamicMessage → Type 0) where
  longer_firm : (old new : Option Value) → WasFirm Q old → (vs : List Value) → AllByRecursion (FirmOne Q) vs → Lengthens old new vs → KeepsOther old new → WasFirm Q new
  longer_firm None new was vs all longer other v is = list_in Q v vs (ap items_held (sym is) ∙ longer) all
  longer_firm (Some w) new was vs all longer other v is = by (list_items w) refl longer where
    by : (o : Option (List Value)) → list_items w ≡ o → IfSome o (λ (before : List Value). items_held new ≡ Some (before ++ vs)) → FirmIn Q v
    by None none h =
        let same : w ≡ v = cc (sym (other none) ∙ is) in
        subst (FirmIn Q) same (was w refl)
    by (Some us) at h = list_in Q v (us ++ vs) (ap items_held (sym is) ∙ h) (all_append (FirmOne Q) us vs (firm_items Q w us at (was w refl)) all)

  -- an entry of an equal key gives its value alone
  over : (e d : Entry) → FirmEntry Q e → FirmEntry Q d → FirmEntry Q (e.0, d.1)
  over e d one two = (one.0, two.1)

  fuller_firm : (old new : Option Value) → WasFirm Q old → (vs : List Value) → AllByRecursion (Gives (FirmEntry Q) over) vs → PutsEntries old new vs → WasFirm Q new
  fuller_firm old new was vs all puts v is = by (entries_held old) refl puts where
    by : (o : Option (List Entry)) → entries_held old ≡ o → MatchOption o (new ≡ old) (λ (before : List Entry). (after : List Entry) × (entries_held new ≡ Some after) × PutsAll before after vs) → FirmIn Q v
    by None none same = was v (sym same ∙ is)
    by (Some before) at (after, there, put) =
        let held = held_entries Q old before was at in
        map_in Q v after (ap entries_held (sym is) ∙ there) (puts_each (FirmEntry Q) over before after vs held.0 all put, puts_ascend before after vs held.1 put)

-- ---- the entries that messages give whose own values are whole
module _ (pool : PoolType) (sound : IsSound pool) (f : FieldType) (keyed : is_entry pool f.kind ≡ true) (keys values : FieldType) (first : entry_field pool f.kind 1 ≡ Some keys) (second : entry_field pool f.kind 2 ≡ Some values)
    (whole : is_float values.kind ≡ false) (levels : ℕ) where
  abbrev Inside : DynamicMessage → Type 0
  Inside = Solid (suc levels)

  -- by default too
  default_firm : (p : PoolType) → p ≡ pool → (n : ℕ) (g : FieldType) → entry_field pool f.kind n ≡ Some g → is_float g.kind ≡ false → (v : Value) → IsDefaultOne p g v → FirmOne Inside v
  default_firm p same n g there floats v given = one_is Inside v (by (sort_of g.kind)) where
    default : IsDefaultOne pool g v
    default = subst (λ p. IsDefaultOne p g v) same given

    by : Sort g.kind → IsOne Inside v
    by (floating e) = absurd (true≢false (sym e ∙ floats))
    by (plain type) =
        let w = some_default pool g type in
        suited_one Inside v w.0 (default.0 type ∙ w.1) (scalar_of g.kind, subst (Suits (scalar_of g.kind)) (default_is pool g w.0 w.1) (sound.defaults f.kind n g keyed there type))
    by (message_type type) =
        let m = default.1 type in
        a_message m.0 m.1 (empty_solid levels m.0 m.2.1)

  given_firm : (v : Value) → IsGiven pool f v → IfMessage (IsSolidIn (suc (suc levels)) pool) v → (e : Entry) → GivesOneEntry v (Some e) → FirmEntry Inside e
  given_firm v valid solid = of_pair pool sound f keyed keys values first second whole (FirmEntry Inside) v valid (λ m there kind s is e h.
      let its = solid m there in
      let its_sound = subst IsSound (sym its.0) sound in
      let key_float = scalar_whole keys.kind (key_scalar keys.kind (sound.keys f.kind keys keyed first).0) in
      let one = as_part pool sound f keyed keys values first second whole m its.0 kind 1 keys first in
      let two = as_part pool sound f keyed keys values first second whole m its.0 kind 2 values second in
      let key = pair_key m its_sound s is keys values one two (IfSingle Fits)
      (λ u at. (its.1.0.values.fields 1 u at).values.itself) (λ u d. (default_firm m.descriptor.pool.now its.0 1 keys first key_float u d).0) e h in
      let value = pair_value m its_sound s is keys values one two (FirmOne Inside)
      (λ u at. ((its.1.0.values.fields 2 u at).values.itself, (its.1.1.fields 2 u at).itself)) (λ u d. default_firm m.descriptor.pool.now its.0 2 values second whole u d) e h in
      (key.1 (key_view e.0) key.2, value))

given_each : (pool : PoolType) → IsSound pool → (levels : ℕ) (f : FieldType) → holds_map pool f ≡ true → holds_floats pool f ≡ false → (vs : List Value)
    → AllByRecursion (GivenWith (IsSolidIn (suc (suc levels)) pool) pool f) vs → AllByRecursion (Gives (FirmEntry (Solid (suc levels))) (over (Solid (suc levels)))) vs
given_each pool sound levels f is_map floats vs all =
    let keyed = entry_of_map pool f is_map in
    let parts = sound.entries f.kind keyed in
    let whole = no_float_values pool f parts.1 floats is_map parts.3 in
    all_map (GivenWith (IsSolidIn (suc (suc levels)) pool) pool f) (Gives (FirmEntry (Solid (suc levels))) (over (Solid (suc levels)))) vs
    (λ v given. given_firm pool sound f keyed parts.0 parts.1 parts.2 parts.3 whole levels v given.0 given.1) all

-- ---- messages
module _ (levels : ℕ) (old new : DynamicMessage) (solid : Solid (suc levels) old) where
  was_field : (n : ℕ) → WasFirm (Solid levels) (value_at (fields_of old) n)
  was_field n v at = (solid.0.values.fields n v at, solid.1.fields n v at)

  was_extension : (n : ℕ) → WasFirm (Solid levels) (value_at (extensions_of old) n)
  was_extension n v at = (solid.0.values.extensions n v at, solid.1.extensions n v at)

  field_solid : (f : FieldDescriptor) → ExtendsField old new f → WasFirm (Solid levels) (value_at (fields_of new) (field_type f).number) → Solid (suc levels) new
  field_solid f extends firm =
      let under = value_at (fields_of new) (field_type f).number in
      solid_stems (Given under) old new (put_stems (Given under) (fields_of old) (fields_of new) (field_type f).number under refl (λ w e. e) (stays_or_goes old new f extends))
      (same_stems (Given under) (extensions_of old) (extensions_of new) extends.extensions) levels
      (λ w at. (firm w at).0) (λ w at. (firm w at).1) (still_fit levels old new solid extends.unknown) solid

  extension_solid : (x : ExtensionDescriptor) → ExtendsExtension old new x → WasFirm (Solid levels) (value_at (extensions_of new) (extension_type x).number) → Solid (suc levels) new
  extension_solid x extends firm =
      let under = value_at (extensions_of new) (extension_type x).number in
      solid_stems (Given under) old new (same_stems (Given under) (fields_of old) (fields_of new) extends.fields)
      (put_stems (Given under) (extensions_of old) (extensions_of new) (extension_type x).number under refl (λ w e. e) (λ n other. inl (extends.others n other))) levels
      (λ w at. (firm w at).0) (λ w at. (firm w at).1) (still_fit levels old new solid extends.unknown) solid

  elements : (vs : List Value) → AllByRecursion IsWhole vs → AllByRecursion (IfMessage (Solid levels)) vs → AllByRecursion (FirmOne (Solid levels)) vs
  elements vs whole inside = both_all (IfSingle Fits) (IfMessage (Solid levels)) vs (all_map IsWhole (IfSingle Fits) vs (λ v bits. bits.values.itself) whole) inside

  pub list_solid : (f : FieldDescriptor) → ExtendsField old new f → (vs : List Value) → AllByRecursion IsWhole vs → AllByRecursion (IfMessage (Solid levels)) vs
      → Lengthens (value_at (fields_of old) (field_type f).number) (value_at (fields_of new) (field_type f).number) vs
      → KeepsOther (value_at (fields_of old) (field_type f).number) (value_at (fields_of new) (field_type f).number) → Solid (suc levels) new
  list_solid f extends vs whole inside longer other =
      let under = λ (m : DynamicMessage). value_at (fields_of m) (field_type f).number in
      field_solid f extends (longer_firm (Solid levels) (under old) (under new) (was_field (field_type f).number) vs (elements vs whole inside) longer other)

  pub list_extension_solid : (x : ExtensionDescriptor) → ExtendsExtension old new x → (vs : List Value) → AllByRecursion IsWhole vs → AllByRecursion (IfMessage (Solid levels)) vs
      → Lengthens (value_at (extensions_of old) (extension_type x).number) (value_at (extensions_of new) (extension_type x).number) vs
      → KeepsOther (value_at (extensions_of old) (extension_type x).number) (value_at (extensions_of new) (extension_type x).number) → Solid (suc levels) new
  list_extension_solid x extends vs whole inside longer other =
      let under = λ (m : DynamicMessage). value_at (extensions_of m) (extension_type x).number in
      extension_solid x extends (longer_firm (Solid levels) (under old) (under new) (was_extension (extension_type x).number) vs (elements vs whole inside) longer other)

  -- where nothing is put, since the field is no list and no map
  pub same_solid : (f : FieldDescriptor) → ExtendsField old new f → fields_of new ≡ fields_of old → Solid (suc levels) new
  same_solid f extends same = field_solid f extends (λ v at. was_field (field_type f).number v (ap (λ (es : List (ℕ × Value)). value_at es (field_type f).number) (sym same) ∙ at))

  pub same_extension_solid : (x : ExtensionDescriptor) → ExtendsExtension old new x → extensions_of new ≡ extensions_of old → Solid (suc levels) new
  same_extension_solid x extends same =
      extension_solid x extends (λ v at. was_extension (extension_type x).number v (ap (λ (es : List (ℕ × Value)). value_at es (extension_type x).number) (sym same) ∙ at))

module _ (pool : PoolType) (sound : IsSound pool) (levels : ℕ) (old new : DynamicMessage) (pooled : old.descriptor.pool.now ≡ pool) (solid : Solid (suc (suc levels)) old) where
  pub map_solid : (f : FieldDescriptor) → Owns old.descriptor f → holds_map pool (field_type f) ≡ true → ExtendsField old new f
      → (vs : List Value) → AllByRecursion (GivenWith (IsSolidIn (suc (suc levels)) pool) pool (field_type f)) vs
      → PutsEntries (value_at (fields_of old) (field_type f).number) (value_at (fields_of new) (field_type f).number) vs → Solid (suc (suc levels)) new
  map_solid f owns is_map extends vs all puts =
      let under = λ (m : DynamicMessage). value_at (fields_of m) (field_type f).number in
      let floats : holds_floats pool (field_type f) ≡ false = subst (λ p. holds_floats p (field_type f) ≡ false) pooled (owned_whole old.descriptor f owns) in
      field_solid (suc levels) old new solid f extends
      (fuller_firm (Solid (suc levels)) (under old) (under new) (was_field (suc levels) old new solid (field_type f).number) vs (given_each pool sound levels (field_type f) is_map floats vs all) puts)

  pub map_extension_solid : (x : ExtensionDescriptor) → OwnsExtension old.descriptor x → holds_map pool (extension_type x) ≡ true → ExtendsExtension old new x
      → (vs : List Value) → AllByRecursion (GivenWith (IsSolidIn (suc (suc levels)) pool) pool (extension_type x)) vs
      → PutsEntries (value_at (extensions_of old) (extension_type x).number) (value_at (extensions_of new) (extension_type x).number) vs → Solid (suc (suc levels)) new
  map_extension_solid x owns is_map extends vs all puts =
      let under = λ (m : DynamicMessage). value_at (extensions_of m) (extension_type x).number in
      let floats : holds_floats pool (extension_type x) ≡ false = subst (λ p. holds_floats p (extension_type x) ≡ false) pooled (extension_whole old.descriptor x owns) in
      extension_solid (suc levels) old new solid x extends
      (fuller_firm (Solid (suc levels)) (under old) (under new) (was_extension (suc levels) old new solid (extension_type x).number) vs (given_each pool sound levels (extension_type x) is_map floats vs all) puts)
