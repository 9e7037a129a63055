-- Options that are set in two messages that are seen alike, of types of one name in two pools that say the same to texts,
-- leave messages that are.
use Rattle.std.proofs.Common.{◌≡◌, ℕ, ℤ, zero, suc, true, false, cond, List, [], ◌∷◌, Some, refl, sym, ap, ◌∙◌, subst}
use Rattle.std.proofs.lemmas.Option.{same_Some}
use Rattle.descriptor_records.specs.Content.{OptionContent, option_view}
use Rattle.descriptor_records.specs.declared.options.NamePart.{NamePart}
use Rattle.descriptor_records.specs.declared.options.UninterpretedOption.{UninterpretedOption}
use Rattle.message_view.specs.Shaped.{Exclusive}
use Rattle.message_view.specs.Sound.{IsSound}
use Rattle.message_view.specs.Types.{entry_part, key_of, name_at, part_of, types_of}
use Rattle.message_view.specs.Views.{content_view, view}
use Rattle.option_setter.specs.SetOptions.{LeadsInto, SetsLast, SetsParts}
use Rattle.option_setter.specs.declared.option_setter.NameScope.{NameScope}
use Rattle.protobuf_model.specs.Meaning.{message_in}
use Rattle.protobuf_model.specs.Types.{Field, Key, Label, Name, Part}
use Rattle.protobuf_model.specs.Types as model
use Rattle.protobuf_model.specs.Values.{Content, Message, content, message}
use Rattle.reflect_format.specs.Takes.{target_type}
use Rattle.reflect_format.specs.declared.target.Target.{Target}
use Rattle.reflect_message.specs.Names.{DynamicMessage}
use Rattle.reflect_options.specs.Settled.{SetsAll}
use Rattle.reflect_pool.specs.Kinds.{IsKind}
use Rattle.reflect_pool.specs.Shapes.{holds_map}
use Rattle.reflect_pool.specs.declared.message.MessageDescriptor.{MessageDescriptor}
use Rattle.reflect_tables.specs.Types.{FieldType, PoolType}
use Rattle.settled_records.proofs.Kept.{parts_type}
use Rattle.text_model.specs.Schemas.{Schema}
use Rattle.text_model.specs.Value.{assign, wanted_of}
use Rattle.text_view.specs.Schemas.{schema_of}
use Rattle.text_view.specs.Targets.{target_field}
use Rattle.text_view.proofs.Adds.{label_keyed, target_label}
use Rattle.text_view.proofs.Given.{target_part}
use Rattle.text_view.proofs.Owned.{OwnsTarget, pool_is}
use Rattle.stored_options.specs.SetOptions.{Gets, Says}
use Rattle.stored_options.proofs.Given.{plain_got}
use Rattle.stored_options.proofs.Inner.{leads_shape}
use Rattle.stored_options.proofs.Into.{inner_kind, inner_message, inner_part, put_back}
use Rattle.stored_options.proofs.MapTwice.{PutsEntry, entry_put, one_map}
use Rattle.stored_options.proofs.OneMessage.{gets_one, says_one}
use Rattle.stored_options.proofs.OneTarget.{NameAlike, one_target}
use Rattle.stored_options.proofs.Owning.{leads_whole, named_owns}
use Rattle.stored_options.proofs.Said.{target_says}
use Rattle.stored_options.proofs.EachStep.{above}
use Rattle.stored_options.proofs.ShapeAlong.{parts_shape}
use Rattle.stored_options.proofs.TwinFields.{declared, field_same, is_map, map_told, one_key}
use Rattle.stored_options.proofs.TwinKinds.{nested_name}
use Rattle.stored_options.proofs.TwinPools.{AreTwinPools, name_same, none_decoded, one_place, twins_back, twins_moved, type_same}

-- ---- the last part of a name

-- an option puts what it says under a number of a type
record Gains (o : OptionContent) (w : Schema) (t : Name) (n : ℕ) (old new : Message) : Type 0 where
  pub field : Field
  pub value : Content
  pub has : w.types t n ≡ Some field
  pub says : Says w o (wanted_of w (w.names t) n field.part field.label) value
  pub plain : is_map field.label ≡ false → Gets (w.types t) n field field.label value old new
  pub mapped : (key : Key) → field.label ≡ model.keyed key → PutsEntry (w.types t) n key field.part value old new

-- it is one message that comes of it
one_gain : (o : OptionContent) (w : Schema) (t : Name) (n : ℕ) (old new other : Message) → Gains o w t n old new → Gains o w t n old other → new ≡ other
one_gain o w t n old new other a b = by a.field.label refl where
  fields : b.field ≡ a.field
  fields = same_Some b.field a.field (sym b.has ∙ a.has)

  values : b.value ≡ a.value
  values =
      says_one w o (wanted_of w (w.names t) n a.field.part a.field.label) b.value a.value
      (subst (λ (g : Field). Says w o (wanted_of w (w.names t) n g.part g.label) b.value) fields b.says) a.says

  of_plain : is_map a.field.label ≡ false → new ≡ other
  of_plain no_map =
      gets_one (w.types t) n a.field a.field.label a.value old new other (a.plain no_map)
      (subst (λ c. Gets (w.types t) n a.field a.field.label c old other) values
      (subst (λ (g : Field). Gets (w.types t) n g g.label b.value old other) fields (b.plain (ap (λ (g : Field). is_map g.label) fields ∙ no_map))))

  by : (l : Label) → a.field.label ≡ l → new ≡ other
  by model.one is = of_plain (ap is_map is)
  by (model.many packed) is = of_plain (ap is_map is)
  by (model.keyed key) is =
      one_map (w.types t) n key a.field.part a.value old new other (a.mapped key is)
      (subst (λ c. PutsEntry (w.types t) n key a.field.part c old other) values
      (subst (λ (g : Field). PutsEntry (w.types t) n key g.part b.value old other) fields (b.mapped key (ap (λ (g : Field). g.label) fields ∙ is))))

module _ (o : OptionContent) (levels : ℕ) (old new : DynamicMessage) (sound : IsSound old.descriptor.pool.now) (shape : Exclusive (suc (suc levels)) old) (t : Target)
    (owns : OwnsTarget old.descriptor t) (path : List ℤ) (sets : SetsLast t o old new path) where
  abbrev d : MessageDescriptor
  d = old.descriptor

  abbrev pool : PoolType
  pool = old.descriptor.pool.now

  abbrev f : FieldType
  f = target_type t

  abbrev its : Field
  its = target_field old.descriptor t

  abbrev PutsIn : Key → Part → Type 0
  PutsIn key part = PutsEntry (types_of old.descriptor.pool.now (name_at old.descriptor.pool.now old.descriptor.index)) f.number key part (content_view sets.put.2) (view old) (view new)

  kind : IsKind pool sets.put.0 f.kind
  kind = subst (λ p. IsKind p sets.put.0 f.kind) (pool_is d sound.apart t owns) sets.put.1

  map_is : holds_map pool f ≡ is_map its.label
  map_is = map_told pool f ∙ ap is_map (sym (target_label d t))

  in_map : (key : Key) → its.label ≡ model.keyed key → PutsIn key its.part
  in_map key is =
      let of_map : holds_map pool f ≡ true = map_is ∙ ap is_map is in
      let keys : key_of pool (entry_part pool f 1) ≡ key = one_key (key_of pool (entry_part pool f 1)) key (sym (target_label d t ∙ label_keyed pool f of_map) ∙ is) in
      let part : part_of pool (entry_part pool f 2) ≡ its.part = sym (target_part d t ∙ ap (λ b. part_of pool (cond b (entry_part pool f 2) f)) of_map) in
      subst (λ k. PutsIn k its.part) keys (subst (PutsIn (key_of pool (entry_part pool f 1))) part (entry_put o (suc levels) old new sound shape t owns path sets of_map))

  -- so does the last part of a name
  gained : Gains o (schema_of old.descriptor.pool.now none_decoded) (name_at old.descriptor.pool.now old.descriptor.index) (target_type t).number (view old) (view new)
  gained = record {
    field = its;
    value = content_view sets.put.2;
    has = declared d sound t owns;
    says = target_says none_decoded o d sound t owns sets.put.0 kind sets.put.2 sets.put.3;
    plain = λ no_map. plain_got o levels old new sound shape t owns path sets (map_is ∙ no_map);
    mapped = in_map;
  }

-- ---- two messages

-- messages of types of one place in two such pools that are seen alike, wherever they lie in memory
pub record AreTwins (a b : DynamicMessage) : Type 0 where
  pub pools : AreTwinPools a.descriptor.pool.now b.descriptor.pool.now
  pub index : a.descriptor.index ≡ b.descriptor.index
  pub seen : view a ≡ view b

pub messages_back : (a b : DynamicMessage) → AreTwins a b → AreTwins b a
messages_back a b twins = record {
  pools = twins_back a.descriptor.pool.now b.descriptor.pool.now twins.pools;
  index = sym twins.index;
  seen = sym twins.seen;
}

-- what comes of them of their types
pub twins_kept : (a b x y : DynamicMessage) → AreTwins a b → x.descriptor ≡ a.descriptor → y.descriptor ≡ b.descriptor → view x ≡ view y → AreTwins x y
twins_kept a b x y twins one two seen = record {
  pools = twins_moved a.descriptor.pool.now b.descriptor.pool.now x.descriptor.pool.now y.descriptor.pool.now (ap (λ (c : MessageDescriptor). c.pool.now) one) (ap (λ (c : MessageDescriptor). c.pool.now) two) twins.pools;
  index = ap (λ (c : MessageDescriptor). c.index) one ∙ twins.index ∙ sym (ap (λ (c : MessageDescriptor). c.index) two);
  seen = seen;
}

-- a part of a name leads into two messages that are seen alike
module _ (a b : DynamicMessage) (twins : AreTwins a b) (levels : ℕ) (one : Exclusive (suc (suc levels)) a) (two : Exclusive (suc (suc levels)) b) (x y : Target)
    (same : (target_type x).number ≡ (target_type y).number)
    (owns : OwnsTarget a.descriptor x) (too : OwnsTarget b.descriptor y) (left inner rest deep : DynamicMessage) (leads : LeadsInto x a left inner) (into : LeadsInto y b rest deep) where
  pub twins_inside : AreTwins inner deep
  twins_inside =
      let sa = twins.pools.sound in
      let sb = twins.pools.also in
      let k = inner_kind levels a sa one x owns left inner leads in
      let j = inner_kind levels b sb two y too rest deep into in
      let fields = field_same a.descriptor b.descriptor twins.pools twins.index x y same owns too in
      let names : name_at a.descriptor.pool.now inner.descriptor.index ≡ name_at b.descriptor.pool.now deep.descriptor.index =
      nested_name _ _ (name_at a.descriptor.pool.now inner.descriptor.index) (name_at b.descriptor.pool.now deep.descriptor.index)
      (sym (inner_part levels a sa one x owns left inner leads) ∙ ap (λ (f : Field). f.part.kind) fields ∙ inner_part levels b sb two y too rest deep into) in
      let pools : AreTwinPools inner.descriptor.pool.now deep.descriptor.pool.now =
      twins_moved a.descriptor.pool.now b.descriptor.pool.now inner.descriptor.pool.now deep.descriptor.pool.now k.0 j.0 twins.pools in
      record {
        pools = pools;
        index = one_place inner.descriptor.pool.now deep.descriptor.pool.now pools inner.descriptor.index deep.descriptor.index inner.descriptor.in_range deep.descriptor.in_range
            (ap (λ p. name_at p inner.descriptor.index) k.0 ∙ names ∙ sym (ap (λ p. name_at p deep.descriptor.index) j.0));
        seen = sym (inner_message levels a sa one x owns left inner leads)
            ∙ (λ i. message_in (twins.seen i (same i)))
            ∙ inner_message levels b sb two y too rest deep into;
      }

module _ (s t : NameScope) (alike : NameAlike s t) where
  module _ (o : OptionContent) where
    -- what is set along a name is seen alike
    pub parts_twice : (levels : ℕ) (parts : List NamePart) (a b x y : DynamicMessage) (path way : List ℤ) → AreTwins a b
        → Exclusive (suc (suc (above levels))) a → Exclusive (suc (suc (above levels))) b
        → SetsParts s o levels parts a x path → SetsParts t o levels parts b y way → view x ≡ view y
    parts_twice levels [] a b x y path way twins one two sets also = ap view sets.0 ∙ twins.seen ∙ sym (ap view also.0)
    parts_twice levels (part ∷ []) a b x y path way twins one two sets also =
        let sa = twins.pools.sound in
        let sb = twins.pools.also in
        let same = one_target s t alike a.descriptor b.descriptor twins.pools twins.index part sets.0 also.0 sets.2 also.2 in
        let w : Schema = schema_of a.descriptor.pool.now none_decoded in
        let u : Name = name_at a.descriptor.pool.now a.descriptor.index in
        let first = gained o (above levels) a x sa one sets.0 (named_owns s a.descriptor sa.apart part sets.0 sets.2 sets.3.no_floats) sets.1 sets.3 in
        let second = gained o (above levels) b y sb two also.0 (named_owns t b.descriptor sb.apart part also.0 also.2 also.3.no_floats) also.1 also.3 in
        let moved : Gains o w u (target_type sets.0).number (view a) (view y) =
        subst (λ m. Gains o w u (target_type sets.0).number m (view y)) (sym twins.seen)
        (subst (λ n. Gains o w u n (view b) (view y)) (sym same)
        (subst (λ c. Gains o w c (target_type also.0).number (view b) (view y)) (sym (name_same a.descriptor.pool.now b.descriptor.pool.now twins.pools a.descriptor.index b.descriptor.index twins.index))
        (subst (λ v. Gains o v (name_at b.descriptor.pool.now b.descriptor.index) (target_type also.0).number (view b) (view y)) (sym twins.pools.schema) second))) in
        one_gain o w u (target_type sets.0).number (view a) (view x) (view y) first moved
    parts_twice zero (part ∷ next ∷ parts) a b x y path way twins one two sets also = absurd sets
    parts_twice (suc levels) (part ∷ next ∷ parts) a b x y path way twins one two sets also =
        let sa = twins.pools.sound in
        let sb = twins.pools.also in
        let top : ℕ = suc (above levels) in
        let same = one_target s t alike a.descriptor b.descriptor twins.pools twins.index part sets.0 also.0 sets.5 also.5 in
        let owns = named_owns s a.descriptor sa.apart part sets.0 sets.5 (leads_whole sets.0 a sets.2 sets.3 sets.6) in
        let too = named_owns t b.descriptor sb.apart part also.0 also.5 (leads_whole also.0 b also.2 also.3 also.6) in
        let inside = twins_inside a b twins top one two sets.0 also.0 same owns too sets.2 sets.3 also.2 also.3 sets.6 also.6 in
        let below : view sets.4 ≡ view also.4 =
        parts_twice levels (next ∷ parts) sets.3 also.3 sets.4 also.4 sets.1 also.1 inside
        (leads_shape top a sa one sets.0 owns sets.6.one sets.2 sets.3 sets.6).0 (leads_shape top b sb two also.0 too also.6.one also.2 also.3 also.6).0 sets.7 also.7 in
        let types = type_same a.descriptor.pool.now b.descriptor.pool.now twins.pools a.descriptor.index b.descriptor.index twins.index in
        put_back top a sa one sets.0 owns sets.2 sets.3 sets.6 sets.4 x sets.8 sets.9
        ∙ (λ i. assign (types i) (same i) (content (message (below i))) (twins.seen i))
        ∙ sym (put_back top b sb two also.0 too also.2 also.3 also.6 also.4 y also.8 also.9)

  -- one option after another
  pub all_twice : (os : List UninterpretedOption) (a b x y : DynamicMessage) (paths ways : List (List ℤ)) → AreTwins a b
      → Exclusive (suc (suc (above 100))) a → Exclusive (suc (suc (above 100))) b → SetsAll s os a x paths → SetsAll t os b y ways → AreTwins x y
  all_twice [] a b x y paths ways twins one two sets also =
      twins_kept a b x y twins (ap (λ (m : DynamicMessage). m.descriptor) sets.0) (ap (λ (m : DynamicMessage). m.descriptor) also.0) (ap view sets.0 ∙ twins.seen ∙ sym (ap view also.0))
  all_twice (o ∷ os) a b x y paths ways twins one two sets also =
      let seen = parts_twice (option_view o) 100 o.name.items a b sets.0 also.0 sets.1 also.1 twins one two sets.3 also.3 in
      let next = twins_kept a b sets.0 also.0 twins (parts_type s (option_view o) 100 o.name.items a sets.0 sets.1 sets.3) (parts_type t (option_view o) 100 o.name.items b also.0 also.1 also.3) seen in
      all_twice os sets.0 also.0 x y sets.2 also.2 next
      (parts_shape s (option_view o) 100 o.name.items a sets.0 sets.1 twins.pools.sound sets.3 one)
      (parts_shape t (option_view o) 100 o.name.items b also.0 also.1 twins.pools.also also.3 two) sets.4 also.4
