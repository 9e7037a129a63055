-- Messages into whose maps entries are put that suit them.
use Rattle.std.proofs.Common.{◌≡◌, ℕ, suc, true, false, Bool, cond, List, [], ◌∷◌, map, Option, None, Some, sym, ap, subst}
use Rattle.std.specs.List.{AllByRecursion}
use Rattle.protobuf_model.specs.Meaning.{if_some, pairs, put_all}
use Rattle.protobuf_model.specs.Typed.{IsEntryOf, IsTyped, IsTypedBy}
use Rattle.protobuf_model.specs.Types.{Field, Key, keyed, many, one}
use Rattle.protobuf_model.specs.Values.{Content, Single}
use Rattle.protobuf_model.proofs.Lists.{all_map}
use Rattle.reflect_entries.specs.Entries.{value_at}
use Rattle.reflect_extend.specs.Gives.{Entry, GivesOneEntry}
use Rattle.reflect_extend.specs.Puts.{PutsEntries}
use Rattle.reflect_extend.specs.Siblings.{LacksSibling}
use Rattle.reflect_message.specs.Declares.{NoField, Owns, OwnsExtension}
use Rattle.reflect_message.specs.Held.{choices_of, extensions_of, fields_of}
use Rattle.reflect_message.specs.Known.{holds_floats}
use Rattle.reflect_message.specs.Names.{DynamicMessage, Value}
use Rattle.reflect_message.specs.Oneofs.{IsExclusive}
use Rattle.reflect_pool.specs.FieldsLeft.{field_type}
use Rattle.reflect_pool.specs.Shapes.{holds_map, is_repeated}
use Rattle.reflect_pool.specs.declared.extension.ExtensionDescriptor.{ExtensionDescriptor}
use Rattle.reflect_pool.specs.declared.field.FieldDescriptor.{FieldDescriptor}
use Rattle.reflect_pool.specs.declared.message.MessageDescriptor.{MessageDescriptor}
use Rattle.reflect_scalar.specs.FieldTypes.{extension_type}
use Rattle.reflect_tables.specs.Types.{FieldType, PoolType, extension_at}
use Rattle.message_view.specs.Shaped.{Shaped}
use Rattle.message_view.specs.Sound.{IsFieldNumber, IsSound}
use Rattle.message_view.specs.Types.{entry_part, field_of, key_of, label_of, name_at, oneof_at, part_of, types_of, values_of}
use Rattle.message_view.specs.Views.{view}
use Rattle.message_view.proofs.Fields.{extension_whole, its_place, owned, owned_whole}
use Rattle.set_view.specs.Extends.{ExtendsExtension, ExtendsField}
use Rattle.set_view.specs.Given.{AreGiven, GivesFitting, GivesKeyed, GivesSuiting, SuitsEntries, entry_view, in_front}
use Rattle.set_view.specs.Puts.{IsPut}
use Rattle.set_view.proofs.Extended.{extension_fits, field_fits}
use Rattle.set_view.proofs.Given.{given_fits}
use Rattle.set_view.proofs.Keyed.{extension_keys, extension_told, field_keys, field_told}
use Rattle.set_view.proofs.Lasting.{map_suits}
use Rattle.set_view.proofs.Longer.{map_extension_put, map_put}
use Rattle.set_view.proofs.Mapped.{fitting, map_extension_in_shape, map_in_shape}
use Rattle.set_view.proofs.Parts.{given_keyed, given_suits}
use Rattle.set_view.proofs.Suited.{put_suits}

-- what values give that suit the entries' type
module _ (levels depth : ℕ) (pool : PoolType) (sound : IsSound pool) (f : FieldType) (is_map : holds_map pool f ≡ true) (vs : List Value) (all : AllByRecursion (SuitsEntries levels depth pool f) vs) where
  all_keyed : AllByRecursion (GivesKeyed pool f) vs
  all_keyed = all_map (SuitsEntries levels depth pool f) (GivesKeyed pool f) vs (λ v s. given_keyed levels depth pool sound f is_map v s.shape s.type) all

  all_fitting : AllByRecursion (GivesFitting (Shaped (suc levels)) pool f) vs
  all_fitting = all_map (SuitsEntries levels depth pool f) (GivesFitting (Shaped (suc levels)) pool f) vs (λ v s. given_fits false levels pool sound f v s.shape) all

  all_suiting : holds_floats pool f ≡ false → AllByRecursion (GivesSuiting depth pool f) vs
  all_suiting whole = all_map (SuitsEntries levels depth pool f) (GivesSuiting depth pool f) vs (λ v s. given_suits levels depth pool sound f is_map v s.shape s.type whole) all

module _ (depth : ℕ) (pool : PoolType) (f : FieldType) where
  abbrev AllSuit : List (Single × Content) → Type 0
  AllSuit es = AllByRecursion (IsEntryOf (IsTyped depth (types_of pool)) (key_of pool (entry_part pool f 1)) (part_of pool (values_of pool f))) es

  given_suit : (vs : List Value) (es : List Entry) → AllByRecursion (GivesSuiting depth pool f) vs → AreGiven vs es → AllSuit (map entry_view es)
  given_suit [] es all h = subst (λ es. AllSuit (map entry_view es)) (sym h) tt
  given_suit (v ∷ vs) es all (given, rest, gives, more, is) = subst (λ es. AllSuit (map entry_view es)) (sym is) (by (given_suit vs rest all.1 more) given gives) where
    by : AllSuit (map entry_view rest) → (given : Option Entry) → GivesOneEntry v given → AllSuit (map entry_view (in_front given rest))
    by later None gives = later
    by later (Some e) gives = (all.0 e gives, later)

module _ (levels depth : ℕ) (old new : DynamicMessage) (sound : IsSound old.descriptor.pool.now) (shape : Shaped (suc (suc levels)) old)
    (suits : IsTyped (suc depth) (types_of old.descriptor.pool.now) (name_at old.descriptor.pool.now old.descriptor.index) (view old)) where
  abbrev d : MessageDescriptor
  d = old.descriptor

  abbrev fields : ℕ → Option Field
  fields = types_of d.pool.now (name_at d.pool.now d.index)

  abbrev SuitsIts : DynamicMessage → Type 0
  SuitsIts m = IsTyped (suc depth) (types_of d.pool.now) (name_at d.pool.now d.index) (view m)

  typed : IsTypedBy (IsTyped depth (types_of old.descriptor.pool.now)) (suc depth) (types_of old.descriptor.pool.now (name_at old.descriptor.pool.now old.descriptor.index)) (view old)
  typed = suits

  -- with entries put in that suit, the message still suits its type
  map_typed : (f : FieldType) → holds_map d.pool.now f ≡ true → (o : Option ℕ) (x : Bool) → fields f.number ≡ Some (field_of d.pool.now o x f) → IsFieldNumber f.number
      → (es : List (Single × Content)) → AllSuit depth d.pool.now f es → IsPut fields f.number (if_some (put_all (pairs (view old f.number)) es)) (view old) (view new) → SuitsIts new
  map_typed f is_map o x told number es all put =
      let key : Key = key_of d.pool.now (entry_part d.pool.now f 1) in
      let label : label_of d.pool.now f ≡ keyed key = ap (λ b. cond b (keyed key) (cond (is_repeated f.cardinality) (many f.packed) one)) is_map in
      let types = types_of d.pool.now in
      let name = name_at d.pool.now d.index in
      let fuller = map_suits depth types name f.number (field_of d.pool.now o x f) key (view old f.number) es told label (typed.contents f.number) all in
      put_suits depth types name f.number (if_some (put_all (pairs (view old f.number)) es)) (view old) (view new) put number.0 number.1 fuller suits

  pub field_suits : IsExclusive old → (f : FieldDescriptor) → Owns d f → holds_map d.pool.now (field_type f) ≡ true → ExtendsField old new f → LacksSibling f (choices_of old) (fields_of new)
      → (vs : List Value) → AllByRecursion (SuitsEntries levels depth d.pool.now (field_type f)) vs
      → PutsEntries (value_at (fields_of old) (field_type f).number) (value_at (fields_of new) (field_type f).number) vs → Shaped (suc (suc levels)) new × SuitsIts new
  field_suits exclusive f owns is_map extends lacks vs all puts =
      let g = field_type f in
      let was = fitting (Shaped (suc levels)) d.pool.now g is_map (value_at (fields_of old) g.number) (field_fits old new (Shaped (suc levels)) sound shape f owns) in
      let keys = field_keys depth old sound suits f owns is_map was.0 was.1 in
      let put = map_put old new sound exclusive f owns extends lacks was.0 was.1 keys vs (all_keyed levels depth d.pool.now sound g is_map vs all) puts in
      let number : IsFieldNumber g.number = subst (λ (t : FieldType). IsFieldNumber t.number) (its_place d f owns) (sound.numbers.fields d.index f.index owns.1.0) in (
        map_in_shape (Shaped (suc levels)) old new sound shape f owns is_map extends vs (all_fitting levels depth d.pool.now sound g is_map vs all) puts,
        map_typed g is_map (oneof_at d.pool.now d.index g) false (field_told d sound g.number g (owned d f owns)) number (map entry_view put.0)
            (given_suit depth d.pool.now g vs put.0 (all_suiting levels depth d.pool.now sound g is_map vs all (owned_whole d f owns)) put.1) put.2,
      )

  pub extension_suits : (x : ExtensionDescriptor) → OwnsExtension d x → NoField d (extension_type x).number → holds_map d.pool.now (extension_type x) ≡ true → ExtendsExtension old new x
      → (vs : List Value) → AllByRecursion (SuitsEntries levels depth d.pool.now (extension_type x)) vs
      → PutsEntries (value_at (extensions_of old) (extension_type x).number) (value_at (extensions_of new) (extension_type x).number) vs → Shaped (suc (suc levels)) new × SuitsIts new
  extension_suits x owns none is_map extends vs all puts =
      let g = extension_type x in
      let was = fitting (Shaped (suc levels)) d.pool.now g is_map (value_at (extensions_of old) g.number) (extension_fits old new (Shaped (suc levels)) sound shape x owns) in
      let keys = extension_keys depth old sound suits x owns none is_map was.0 was.1 in
      let put = map_extension_put old new sound x owns none extends was.0 was.1 keys vs (all_keyed levels depth d.pool.now sound g is_map vs all) puts in
      let number : IsFieldNumber g.number = subst (λ p. IsFieldNumber (extension_at p x.index).field.number) (sym owns.0.0) (sound.numbers.extensions x.index owns.1.0) in (
        map_extension_in_shape (Shaped (suc levels)) old new sound shape x owns is_map extends vs (all_fitting levels depth d.pool.now sound g is_map vs all) puts,
        map_typed g is_map None true (extension_told d sound x owns none) number (map entry_view put.0)
            (given_suit depth d.pool.now g vs put.0 (all_suiting levels depth d.pool.now sound g is_map vs all (extension_whole d x owns)) put.1) put.2,
      )
