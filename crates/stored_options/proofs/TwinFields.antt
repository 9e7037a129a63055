-- Fields and extensions of one number, of types of one name in two pools that say the same to texts: both are lists or
-- maps, or neither, both hold floating-point numbers, or neither, and both want the same of a value.
use Rattle.std.proofs.Common.{◌≡◌, ◌<◌, ◌∙◌, ◌&&◌, ◌||◌, not, ℕ, Bool, true, false, cond, length, Option, None, Some, refl, sym, ap, subst}
use Rattle.std.proofs.lemmas.Option.{same_Some}
use Rattle.std.specs.Prelude.{MatchBool, string_bytes}
use Rattle.descriptor_records.specs.declared.options.NamePart.{NamePart}
use Rattle.message_view.specs.Sound.{AreApart, IsNotKept, IsSound}
use Rattle.message_view.specs.Types.{either_field, entry_part, field_at, key_of, kind_in, label_of, name_at, types_of}
use Rattle.message_view.proofs.Fields.{its_place, known, known_extension_is}
use Rattle.message_view.proofs.Sound.{named}
use Rattle.option_setter.specs.OptionNames.{NamesExtension, NamesField, NamesTarget}
use Rattle.option_setter.specs.declared.option_setter.NameScope.{NameScope}
use Rattle.protobuf_model.specs.Types.{Field, Key, Label, Name, Part, keyed, many, nested, one}
use Rattle.protobuf_model.specs.Types as model
use Rattle.protox_lex.specs.Class.{Text}
use Rattle.reflect_format.specs.Takes.{holds_many, target_pool, target_type}
use Rattle.reflect_format.specs.declared.target.Target.{Target}
use Rattle.reflect_format.specs.declared.target.Target.TheVariants as targets
use Rattle.reflect_message.specs.Declares.{Owns, OwnsExtension}
use Rattle.reflect_message.specs.Known.{known_extension, known_field}
use Rattle.reflect_pool.specs.FieldsLeft.{field_type}
use Rattle.reflect_pool.specs.Shapes.{holds_list, holds_map, is_repeated}
use Rattle.reflect_pool.specs.declared.extension.ExtensionDescriptor.{ExtensionDescriptor}
use Rattle.reflect_pool.specs.declared.field.FieldDescriptor.{FieldDescriptor}
use Rattle.reflect_pool.specs.declared.message.MessageDescriptor.{MessageDescriptor}
use Rattle.reflect_pool.proofs.Places.{at_place}
use Rattle.reflect_scalar.specs.FieldTypes.{extension_type}
use Rattle.reflect_scalar.specs.Floats.{HoldsFloats}
use Rattle.reflect_tables.specs.Types.{ExtensionType, ExtensionWithin, FieldType, IsWithin, KindType, MessageWithin, PoolType, counts_of, extension_at, no_extension, no_field, no_type, type_at, type_of_field}
use Rattle.reflect_tables.specs.Types as types
use Rattle.text_view.specs.Targets.{target_field}
use Rattle.text_view.proofs.Adds.{target_label}
use Rattle.text_view.proofs.Given.{target_part}
use Rattle.text_view.proofs.Owned.{OwnsTarget, pool_is, target_there}
use Rattle.text_view.proofs.Puts.{one_part}
use Rattle.stored_options.proofs.TwinPools.{AreTwinPools, type_same}

-- ---- what a label says

abbrev pub is_map : Label → Bool
is_map (keyed key) = true
is_map _ = false

abbrev is_list : Label → Bool
is_list (many packed) = true
is_list _ = false

map_by : (m r : Bool) (key : Key) (packed : Bool) → m ≡ is_map (cond m (keyed key) (cond r (many packed) one))
map_by true r key packed = refl
map_by false true key packed = refl
map_by false false key packed = refl

list_by : (m r : Bool) (key : Key) (packed : Bool) → (r && not m) ≡ is_list (cond m (keyed key) (cond r (many packed) one))
list_by true true key packed = refl
list_by true false key packed = refl
list_by false true key packed = refl
list_by false false key packed = refl

pub map_told : (pool : PoolType) (f : FieldType) → holds_map pool f ≡ is_map (label_of pool f)
map_told pool f = map_by (holds_map pool f) (is_repeated f.cardinality) (key_of pool (entry_part pool f 1)) f.packed

list_told : (pool : PoolType) (f : FieldType) → holds_list pool f ≡ is_list (label_of pool f)
list_told pool f = list_by (holds_map pool f) (is_repeated f.cardinality) (key_of pool (entry_part pool f 1)) f.packed

-- fields of one label are both maps, or neither, and so it is of lists
pub maps_alike : (p q : PoolType) (f g : FieldType) → label_of p f ≡ label_of q g → holds_map p f ≡ holds_map q g
maps_alike p q f g same = map_told p f ∙ ap is_map same ∙ sym (map_told q g)

pub lists_alike : (p q : PoolType) (f g : FieldType) → label_of p f ≡ label_of q g → holds_list p f ≡ holds_list q g
lists_alike p q f g same = list_told p f ∙ ap is_list same ∙ sym (list_told q g)

-- maps of one label have one key
pub one_key : (a b : Key) → keyed a ≡ keyed b → a ≡ b
one_key a b e = cc e

-- ---- two targets of one number

-- a target that a type has is one of the model's fields
pub declared : (d : MessageDescriptor) → IsSound d.pool.now → (t : Target) → OwnsTarget d t
    → types_of d.pool.now (name_at d.pool.now d.index) (target_type t).number ≡ Some (target_field d t)
declared d sound t owns = named d.pool.now sound.names d.index (target_type t).number d.in_range ∙ target_there d sound.apart t owns

module _ (a b : MessageDescriptor) (twins : AreTwinPools a.pool.now b.pool.now) (index : a.index ≡ b.index) where
  -- what the one type has under a number the other has
  pub there_too : (n k : ℕ) (f : Field) → n ≡ k → types_of b.pool.now (name_at b.pool.now b.index) k ≡ Some f → field_at a.pool.now a.index n ≡ Some f
  there_too n k f same has =
      sym (named a.pool.now twins.sound.names a.index n a.in_range)
      ∙ (λ i. type_same a.pool.now b.pool.now twins a.index b.index index i (same i))
      ∙ has

  module _ (x y : Target) (same : (target_type x).number ≡ (target_type y).number) (owns : OwnsTarget a x) (too : OwnsTarget b y) where
    pub field_same : target_field a x ≡ target_field b y
    field_same =
        same_Some (target_field a x) (target_field b y)
        (sym (target_there a twins.sound.apart x owns)
        ∙ there_too (target_type x).number (target_type y).number (target_field b y) same (declared b twins.also y too))

    label_same : label_of a.pool.now (target_type x) ≡ label_of b.pool.now (target_type y)
    label_same = sym (target_label a x) ∙ ap (λ (f : Field). f.label) field_same ∙ target_label b y

    pub map_same : holds_map a.pool.now (target_type x) ≡ holds_map b.pool.now (target_type y)
    map_same = maps_alike a.pool.now b.pool.now (target_type x) (target_type y) label_same

    list_same : holds_list a.pool.now (target_type x) ≡ holds_list b.pool.now (target_type y)
    list_same = lists_alike a.pool.now b.pool.now (target_type x) (target_type y) label_same

    -- both hold many values, or neither
    pub many_same : holds_many x ≡ holds_many y
    many_same =
        ap (λ p. holds_list p (target_type x) || holds_map p (target_type x)) (pool_is a twins.sound.apart x owns)
        ∙ (λ i. list_same i || map_same i)
        ∙ sym (ap (λ p. holds_list p (target_type y) || holds_map p (target_type y)) (pool_is b twins.also.apart y too))

-- ---- where the model has a field, none of its number holds floating-point numbers

module _ (d : MessageDescriptor) (apart : AreApart d.pool.now) where
  abbrev pool : PoolType
  pool = d.pool.now

  -- no field of the type has the number of one of its extensions
  field_or_extension : (j k n : ℕ) → j < length (type_at pool d.index).fields → k < length pool.extensions → (type_of_field pool d.index j).number ≡ n
      → (extension_at pool k).extendee ≡ d.index → (extension_at pool k).field.number ≡ n → ⊥
  field_or_extension j k n less near own extends number =
      apart.kept k near
      (subst (λ i. IsNotKept pool i (extension_at pool k).field.number) (sym extends)
      (subst (IsNotKept pool d.index) (own ∙ sym number) (apart.free d.index j less)))

  module _ (n : ℕ) where
    -- a field that stands at a place of the type is the one that has the records of its number
    one_field : (f g : FieldDescriptor) → f.message ≡ d → f.index < length (type_at pool d.index).fields → (field_type f).number ≡ n
        → Owns d g → (field_type g).number ≡ n → HoldsFloats (target_pool (targets.Field f)) (field_type f) → ⊥
    one_field f g own less number owns also floats =
        let here : type_of_field pool d.index f.index ≡ field_type f = sym (ap (λ (m : MessageDescriptor). type_of_field m.pool.now m.index f.index) own) in
        let there : type_of_field pool d.index g.index ≡ field_type g = its_place d g owns in
        let place : f.index ≡ g.index =
        apart.fields d.index f.index g.index less owns.1.0 (ap (λ (t : FieldType). t.number) here ∙ number ∙ sym also ∙ sym (ap (λ (t : FieldType). t.number) there)) in
        let types : field_type f ≡ field_type g = sym here ∙ ap (type_of_field pool d.index) place ∙ there in
        let pools : target_pool (targets.Field f) ≡ target_pool (targets.Field g) = ap (λ (m : MessageDescriptor). m.pool.now) own ∙ sym owns.0.1 in
        owns.2 (subst (λ p. HoldsFloats p (field_type g)) pools (subst (HoldsFloats (target_pool (targets.Field f))) types floats))

    -- and so it is of extensions
    one_extension : (x y : ExtensionDescriptor) → x.pool.now ≡ d.pool.now → x.index < length pool.extensions → (extension_at pool x.index).extendee ≡ d.index
        → (extension_type x).number ≡ n → OwnsExtension d y → (extension_type y).number ≡ n → HoldsFloats (target_pool (targets.Extension x)) (extension_type x) → ⊥
    one_extension x y own less extends number owns also floats =
        let here : extension_at pool x.index ≡ extension_at x.pool.now x.index = ap (λ p. extension_at p x.index) (sym own) in
        let there : extension_at pool y.index ≡ extension_at y.pool.now y.index = ap (λ p. extension_at p y.index) (sym owns.0.0) in
        let place : x.index ≡ y.index =
        apart.extensions x.index y.index less owns.1.0 (extends ∙ sym owns.0.1 ∙ sym (ap (λ (e : ExtensionType). e.extendee) there))
        (ap (λ (e : ExtensionType). e.field.number) here ∙ number ∙ sym also ∙ sym (ap (λ (e : ExtensionType). e.field.number) there)) in
        let types : extension_type x ≡ extension_type y = ap (λ (e : ExtensionType). e.field) (sym here ∙ ap (extension_at pool) place ∙ there) in
        let pools : target_pool (targets.Extension x) ≡ target_pool (targets.Extension y) = own ∙ sym owns.0.0 in
        owns.2 (subst (λ p. HoldsFloats p (extension_type y)) pools (subst (HoldsFloats (target_pool (targets.Extension x))) types floats))

  module _ (s : NameScope) (name : Text) (m : Field) where
    whole_field : (f : FieldDescriptor) → NamesField d name (targets.Field f) → field_at pool d.index (field_type f).number ≡ Some m → HoldsFloats (target_pool (targets.Field f)) (field_type f) → ⊥
    whole_field f (own, first) has floats = by (known_field pool d.index n) refl (known_extension pool d.index n) refl has where
      n : ℕ
      n = (field_type f).number

      here : type_of_field pool d.index f.index ≡ field_type f
      here = sym (ap (λ (m : MessageDescriptor). type_of_field m.pool.now m.index f.index) own)

      by : (g : Option FieldType) → known_field pool d.index n ≡ g → (x : Option FieldType) → known_extension pool d.index n ≡ x → either_field pool d.index g x ≡ Some m → ⊥
      by (Some g) is x also e =
          let h = known d n g is in
          one_field n f h.0 own first.0 refl h.1 (ap (λ (t : FieldType). t.number) h.2 ∙ h.3) floats
      by None none (Some x) is e =
          let h = known_extension_is d n x is in
          let there : extension_at pool h.0.index ≡ extension_at h.0.pool.now h.0.index = ap (λ p. extension_at p h.0.index) (sym h.1.0.0) in
          field_or_extension f.index h.0.index n first.0 h.1.1.0 (ap (λ (t : FieldType). t.number) here) (ap (λ (y : ExtensionType). y.extendee) there ∙ h.1.0.1)
          (ap (λ (y : ExtensionType). y.field.number) there ∙ ap (λ (t : FieldType). t.number) h.2 ∙ h.3)
      by None none None also e = absurd (cc e)

    whole_extension : (x : ExtensionDescriptor) → NamesExtension s d name (targets.Extension x) → field_at pool d.index (extension_type x).number ≡ Some m
        → HoldsFloats (target_pool (targets.Extension x)) (extension_type x) → ⊥
    whole_extension x (own, full, means, first) has floats = by (known_field pool d.index n) refl (known_extension pool d.index n) refl has where
      n : ℕ
      n = (extension_type x).number

      here : extension_at pool x.index ≡ extension_at x.pool.now x.index
      here = ap (λ p. extension_at p x.index) (sym own)

      extends : (extension_at pool x.index).extendee ≡ d.index
      extends = (first.1.0 no_extension).0

      by : (g : Option FieldType) → known_field pool d.index n ≡ g → (y : Option FieldType) → known_extension pool d.index n ≡ y → either_field pool d.index g y ≡ Some m → ⊥
      by (Some g) is y also e =
          let h = known d n g is in
          field_or_extension h.0.index x.index n h.1.1.0 first.0 (ap (λ (t : FieldType). t.number) (its_place d h.0 h.1 ∙ h.2) ∙ h.3) extends (ap (λ (y : ExtensionType). y.field.number) here)
      by None none (Some y) is e =
          let h = known_extension_is d n y is in
          one_extension n x h.0 own first.0 extends refl h.1 (ap (λ (t : FieldType). t.number) h.2 ∙ h.3) floats
      by None none None also e = absurd (cc e)

    whole_by : (b : Bool) (t : Target) → MatchBool b (NamesExtension s d name t) (NamesField d name t) → field_at pool d.index (target_type t).number ≡ Some m → HoldsFloats (target_pool t) (target_type t) → ⊥
    whole_by true (targets.Field f) h has = absurd h
    whole_by true (targets.Extension x) h has = whole_extension x h has
    whole_by false (targets.Field f) h has = whole_field f h has
    whole_by false (targets.Extension x) h has = absurd h

  pub whole_named : (s : NameScope) (part : NamePart) (t : Target) → NamesTarget s d part t → (m : Field) → field_at pool d.index (target_type t).number ≡ Some m
      → HoldsFloats (target_pool t) (target_type t) → ⊥
  whole_named s part t h m has = whole_by s (string_bytes part.name_part) m part.is_extension t h has

-- ---- messages

-- what is of messages in the model is so in the pool
message_kind : (pool : PoolType) (group : Bool) (t : KindType) (frame : model.Frame) (name : Name) → kind_in pool group t ≡ nested frame name → (i : ℕ) × (t ≡ types.message i)
message_kind pool group (types.message i) frame name e = (i, refl)
message_kind pool group t frame name e = absurd (cc e)

-- the type that a target's kind names is there
pub within : (d : MessageDescriptor) → IsSound d.pool.now → (t : Target) → OwnsTarget d t → IsWithin (counts_of d.pool.now) (target_type t).kind
within d sound (targets.Field f) owns =
    let own = at_place (MessageWithin (counts_of d.pool.now)) d.pool.now.messages d.index no_type sound.pooled.messages d.in_range in
    subst (λ (g : FieldType). IsWithin (counts_of d.pool.now) g.kind) (its_place d f owns)
    (at_place (λ (g : FieldType). IsWithin (counts_of d.pool.now) g.kind) (type_at d.pool.now d.index).fields f.index no_field own.fields owns.1.0)
within d sound (targets.Extension x) owns =
    subst (λ p. IsWithin (counts_of d.pool.now) (extension_at p x.index).field.kind) (sym owns.0.0)
    (at_place (ExtensionWithin (counts_of d.pool.now)) d.pool.now.extensions x.index no_extension sound.pooled.extensions owns.1.0).kind

-- the message type that a target holds one message of
pub its_message : (d : MessageDescriptor) → IsSound d.pool.now → (t : Target) → OwnsTarget d t → holds_map d.pool.now (target_type t) ≡ false
    → (frame : model.Frame) (name : Name) → (target_field d t).part.kind ≡ nested frame name → (c : MessageDescriptor) × (c.pool.now ≡ d.pool.now) × ((target_type t).kind ≡ types.message c.index)
its_message d sound t owns no_map frame name is =
    let pool = d.pool.now in
    let f : FieldType = target_type t in
    let kind : kind_in pool f.group f.kind ≡ nested frame name = sym (ap (λ (p : Part). p.kind) (target_part d t ∙ one_part pool f no_map)) ∙ is in
    let i = message_kind pool f.group f.kind frame name kind in
    let near : i.0 < length pool.messages = subst (IsWithin (counts_of pool)) i.1 (within d sound t owns) in
    let c : MessageDescriptor = record { pool = d.pool; index = i.0; in_range = near } in
    (c, refl, i.1)
