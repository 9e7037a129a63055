-- Options that are refused where they are set in a message are not set in one that is seen alike, of the type of its name in
-- another pool that says the same to texts.
use Rattle.std.proofs.Common.{◌≡◌, ◌⊎◌, inl, inr, ℕ, ℤ, zero, suc, Bool, true, false, true≢false, List, [], ◌∷◌, is_some, refl, sym, ap, ◌∙◌, subst}
use Rattle.std.proofs.lemmas.Option.{same_Some}
use Rattle.descriptor_records.specs.Content.{OptionContent, option_view}
use Rattle.descriptor_records.specs.declared.options.NamePart.{NamePart}
use Rattle.descriptor_records.specs.declared.options.UninterpretedOption.{UninterpretedOption}
use Rattle.message_view.specs.Shaped.{Exclusive}
use Rattle.message_view.specs.Sound.{IsSound}
use Rattle.message_view.specs.Types.{kind_in, name_at}
use Rattle.message_view.specs.Views.{content_view}
use Rattle.message_view.proofs.Accepting.{not_float}
use Rattle.message_view.proofs.Entries.{entry_of_map}
use Rattle.message_view.proofs.Sound.{found_at}
use Rattle.option_parts.specs.declared.option_error.OptionErrorKind.{OptionErrorKind}
use Rattle.option_parts.specs.declared.option_error.OptionErrorKind.TheVariants as kinds
use Rattle.option_setter.specs.OptionNames.{NamesTarget}
use Rattle.option_setter.specs.SetOptions.{LeadsInto, LeadsNowhere, MayTake, OfKind, PutsSaid, RefusesLast, RefusesParts, RefusesValue, SetsLast, SetsParts}
use Rattle.option_setter.specs.declared.option_setter.NameScope.{NameScope}
use Rattle.protobuf_model.specs.Types.{Field, Name}
use Rattle.protobuf_model.specs.Values.{Content}
use Rattle.reflect_decode.proofs.Refusing.{no_message_there}
use Rattle.reflect_format.specs.Steps as steps
use Rattle.reflect_format.specs.Takes.{holds_many, target_pool, target_type}
use Rattle.reflect_format.specs.declared.target.Target.{Target}
use Rattle.reflect_message.specs.KindTypes.{IsMessageType}
use Rattle.reflect_message.specs.Names.{DynamicMessage}
use Rattle.reflect_options.specs.Settled.{RefusesAt, SetsAll}
use Rattle.reflect_pool.specs.Kinds.{IsKind}
use Rattle.reflect_pool.specs.Shapes.{holds_map}
use Rattle.reflect_pool.specs.declared.kind.Kind.{Kind}
use Rattle.reflect_pool.specs.declared.kind.Kind.TheVariants as values
use Rattle.reflect_pool.specs.declared.message.MessageDescriptor.{MessageDescriptor}
use Rattle.reflect_scalar.specs.Floats.{HoldsFloats}
use Rattle.reflect_tables.specs.Types.{FieldType, PoolType}
use Rattle.settled_records.proofs.Kept.{parts_type}
use Rattle.text_model.specs.Schemas.{Schema}
use Rattle.text_model.specs.Value.{Wanted, is_set, wanted_in, wanted_of}
use Rattle.text_view.specs.Names.{names_of, number_in}
use Rattle.text_view.specs.Schemas.{schema_of}
use Rattle.text_view.specs.Targets.{target_field}
use Rattle.text_view.proofs.Given.{entry_kind, map_wanted}
use Rattle.text_view.proofs.Once.{one_of}
use Rattle.text_view.proofs.Owned.{OwnsTarget, pool_is, target_whole}
use Rattle.text_view.proofs.Wanted.{wanted_target}
use Rattle.stored_options.specs.SetOptions.{Says}
use Rattle.stored_options.proofs.Held.{set_seen}
use Rattle.stored_options.proofs.Inner.{held_message, leads_shape}
use Rattle.stored_options.proofs.Into.{inner_part}
use Rattle.stored_options.proofs.OneTarget.{NameAlike, not_lacking, one_target}
use Rattle.stored_options.proofs.Owning.{leads_whole, named_owns}
use Rattle.stored_options.proofs.Said.{target_says}
use Rattle.stored_options.proofs.SetTwice.{AreTwins, parts_twice, twins_inside, twins_kept}
use Rattle.stored_options.proofs.EachStep.{above}
use Rattle.stored_options.proofs.ShapeAlong.{parts_shape}
use Rattle.stored_options.proofs.TwinFields.{declared, field_same, its_message, many_same, there_too, whole_named}
use Rattle.stored_options.proofs.TwinPools.{name_same, none_decoded}
use Rattle.stored_options.proofs.Unsaid.{nothing_read}

-- what an option says to a field of a type, in the words of the model
abbrev SaysTo : OptionContent → Content → Schema → Name → ℕ → Field → Type 0
SaysTo o c w t n f = Says w o (wanted_of w (w.names t) n f.part f.label) c

-- ---- what is said to a target is said to its kind

module _ (o : OptionContent) (c : Content) (d : MessageDescriptor) (sound : IsSound d.pool.now) (t : Target) (owns : OwnsTarget d t) (k : Kind) (kind : IsKind d.pool.now k (target_type t).kind) where
  abbrev pool : PoolType
  pool = d.pool.now

  abbrev w : Schema
  w = schema_of d.pool.now none_decoded

  abbrev f : FieldType
  f = target_type t

  abbrev wanted : ℕ → Wanted
  wanted i = wanted_of (schema_of d.pool.now none_decoded) (names_of d.pool.now i) (target_type t).number (target_field d t).part (target_field d t).label

  kind_said : SaysTo o c w (name_at pool d.index) f.number (target_field d t) → Says w o (wanted_in w (number_in pool f.kind) (kind_in pool f.group f.kind)) c
  kind_said says = by (holds_map pool f) refl where
    placed : Says w o (wanted d.index) c
    placed = subst (λ i. Says w o (wanted i) c) (found_at pool.messages d.index d.in_range (λ j less e. sound.names d.index j d.in_range less e)) says

    by : (b : Bool) → holds_map pool f ≡ b → Says w o (wanted_in w (number_in pool f.kind) (kind_in pool f.group f.kind)) c
    by false no_map = subst (λ a. Says w o a c) (wanted_target d sound.apart w t owns no_map) placed
    by true is_map =
        let e = entry_kind pool k f.kind kind (entry_of_map pool f is_map) in
        subst (λ a. Says w o a c)
        (map_wanted d sound none_decoded t owns e.0 e.3 is_map ∙ sym (ap (λ t. wanted_in w (number_in pool t) (kind_in pool f.group t)) e.3)) placed

-- ---- one target of two messages

module _ (a b : DynamicMessage) (twins : AreTwins a b) (x y : Target) (same : (target_type x).number ≡ (target_type y).number)
    (owns : OwnsTarget a.descriptor x) (too : OwnsTarget b.descriptor y) where
  sa : IsSound a.descriptor.pool.now
  sa = twins.pools.sound

  sb : IsSound b.descriptor.pool.now
  sb = twins.pools.also

  -- both hold many values, or neither
  pub many : holds_many x ≡ holds_many y
  many = many_same a.descriptor b.descriptor twins.pools twins.index x y same owns too

  fields : target_field a.descriptor x ≡ target_field b.descriptor y
  fields = field_same a.descriptor b.descriptor twins.pools twins.index x y same owns too

  -- what is said to the one is said to the other
  said_too : (o : OptionContent) (c : Content)
      → SaysTo o c (schema_of b.descriptor.pool.now none_decoded) (name_at b.descriptor.pool.now b.descriptor.index) (target_type y).number (target_field b.descriptor y)
      → SaysTo o c (schema_of a.descriptor.pool.now none_decoded) (name_at a.descriptor.pool.now a.descriptor.index) (target_type x).number (target_field a.descriptor x)
  said_too o c says =
      let w : Schema = schema_of a.descriptor.pool.now none_decoded in
      let u : Name = name_at a.descriptor.pool.now a.descriptor.index in
      subst (SaysTo o c w u (target_type x).number) (sym fields)
      (subst (λ n. SaysTo o c w u n (target_field b.descriptor y)) (sym same)
      (subst (λ v. SaysTo o c w v (target_type y).number (target_field b.descriptor y)) (sym (name_same a.descriptor.pool.now b.descriptor.pool.now twins.pools a.descriptor.index b.descriptor.index twins.index))
      (subst (λ v. SaysTo o c v (name_at b.descriptor.pool.now b.descriptor.index) (target_type y).number (target_field b.descriptor y)) (sym twins.pools.schema) says)))

  module _ (levels : ℕ) (one : Exclusive (suc (suc levels)) a) (two : Exclusive (suc (suc levels)) b) where
    -- what is set in the one is set in the other
    pub not_set : holds_many x ≡ false → steps.is_set a x ≡ true → steps.is_set b y ≡ false → ⊥
    not_set single set unset =
        true≢false
        (sym set ∙ set_seen (suc levels) a sa one x owns single ∙ (λ i. is_set (twins.seen i (same i)))
        ∙ sym (set_seen (suc levels) b sb two y too (sym many ∙ single)) ∙ unset)

    -- ---- the last part of a name

    module _ (o : OptionContent) (new : DynamicMessage) (path : List ℤ) (sets : SetsLast y o b new path) (whole : HoldsFloats (target_pool x) (target_type x) → ⊥) where
      -- what takes a value has none
      set_already : holds_many x ≡ false → steps.is_set a x ≡ true → PutsSaid y sets.put.2 b new → ⊥
      set_already single set (inl (one, unset, puts)) = not_set single set unset
      set_already single set (inr (of_many, adds)) = true≢false (sym of_many ∙ sym many ∙ single)

      -- what says a value to it does not say nothing
      not_said : (k : Kind) → OfKind x k → (e : OptionErrorKind) → RefusesValue k o e → ⊥
      not_said k of e refuses =
          let f : FieldType = target_type x in
          let kind : IsKind a.descriptor.pool.now k f.kind = subst (λ p. IsKind p k f.kind) (pool_is a.descriptor sa.apart x owns) of in
          let its : IsKind b.descriptor.pool.now sets.put.0 (target_type y).kind = subst (λ p. IsKind p sets.put.0 (target_type y).kind) (pool_is b.descriptor sb.apart y too) sets.put.1 in
          nothing_read none_decoded o a.descriptor.pool.now sa f.group (content_view sets.put.2) k f.kind kind (not_float a.descriptor.pool.now f (target_whole a.descriptor sa.apart x owns)) e refuses
          (kind_said o (content_view sets.put.2) a.descriptor sa x owns k kind
          (said_too o (content_view sets.put.2) (target_says none_decoded o b.descriptor sb y too sets.put.0 its sets.put.2 sets.put.3)))

      -- so it is not refused for what the option says
      not_unsaid : (e : OptionErrorKind) → MayTake x a × ((k : Kind) × OfKind x k × RefusesValue k o e) → ⊥
      not_unsaid e (may, (k, of, refuses)) = not_said k of e refuses

      not_last : (e : OptionErrorKind) → RefusesLast x o a e → ⊥
      not_last (kinds.FloatOption name) floats = whole floats
      not_last (kinds.DuplicateOption name) (free, single, set) = set_already single set sets.put.4
      not_last e refused = not_unsaid e refused

    -- ---- a part before the last

    module _ (rest deep : DynamicMessage) (into : LeadsInto y b rest deep) where
      -- the type of the message that it holds
      its_type : (c : MessageDescriptor) × OfKind x (values.Message c)
      its_type =
          let none = one_of a.descriptor sa.apart x owns (many ∙ into.one) in
          let c = its_message a.descriptor sa x owns none.0 _ _ (ap (λ (f : Field). f.part.kind) fields ∙ inner_part levels b sb two y too rest deep into) in
          (c.0, (c.1 ∙ sym (pool_is a.descriptor sa.apart x owns), c.2))

      -- what leads into a message does not lead nowhere
      pub leads_somewhere : (e : OptionErrorKind) → LeadsNowhere x a e → ⊥
      leads_somewhere (kinds.InvalidOptionType name) (inl of_many) = true≢false (sym of_many ∙ many ∙ into.one)
      leads_somewhere (kinds.InvalidOptionType name) (inr (inl no_kind)) = no_kind its_type.0 its_type.1
      leads_somewhere (kinds.InvalidOptionType name) (inr (inr (v, at, no_message))) =
          let type : IsMessageType (target_type x).kind = subst IsMessageType (sym its_type.1.1) tt in
          let m = held_message levels a sa one x owns (many ∙ into.one) type v at in
          no_message_there v no_message (ap is_some m.1)
      leads_somewhere e nowhere = absurd nowhere

-- ---- along a name

module _ (s t : NameScope) (alike : NameAlike s t) where
  -- what a part names in the one message and in the other
  module _ (a b : DynamicMessage) (twins : AreTwins a b) (part : NamePart) (x y : Target) (named : NamesTarget s a.descriptor part x) (also : NamesTarget t b.descriptor part y)
      (whole : HoldsFloats (target_pool y) (target_type y) → ⊥) where
    pub same_target : (target_type x).number ≡ (target_type y).number
    same_target = one_target s t alike a.descriptor b.descriptor twins.pools twins.index part x y named also

    pub owns_second : OwnsTarget b.descriptor y
    owns_second = named_owns t b.descriptor twins.pools.also.apart part y also whole

    -- where the one holds no floating-point numbers, the other does not
    pub first_whole : HoldsFloats (target_pool x) (target_type x) → ⊥
    first_whole =
        whole_named a.descriptor twins.pools.sound.apart s part x named (target_field b.descriptor y)
        (there_too a.descriptor b.descriptor twins.pools twins.index (target_type x).number (target_type y).number (target_field b.descriptor y) same_target
        (declared b.descriptor twins.pools.also y owns_second))

    pub owns_first : OwnsTarget a.descriptor x
    owns_first = named_owns s a.descriptor twins.pools.sound.apart part x named first_whole

  -- an option is not refused and set
  not_both : (o : OptionContent) (levels : ℕ) (parts : List NamePart) (a b new : DynamicMessage) (path : List ℤ) (e : OptionErrorKind) → AreTwins a b
      → Exclusive (suc (suc (above levels))) a → Exclusive (suc (suc (above levels))) b
      → RefusesParts s o levels parts a e → SetsParts t o levels parts b new path → ⊥
  not_both o levels [] a b new path e twins one two refuses sets = refuses
  not_both o levels (part ∷ []) a b new path e twins one two (inl lacks) sets =
      not_lacking s t alike a.descriptor b.descriptor twins.pools twins.index part e sets.0 lacks sets.2
  not_both o levels (part ∷ []) a b new path e twins one two (inr (x, named, refuses)) sets =
      let whole = sets.3.no_floats in
      not_last a b twins x sets.0 (same_target a b twins part x sets.0 named sets.2 whole) (owns_first a b twins part x sets.0 named sets.2 whole) (owns_second a b twins part x sets.0 named sets.2 whole)
      (above levels) one two o new sets.1 sets.3 (first_whole a b twins part x sets.0 named sets.2 whole) e refuses
  not_both o zero (part ∷ next ∷ parts) a b new path e twins one two refuses sets = sets
  not_both o (suc levels) (part ∷ next ∷ parts) a b new path e twins one two (inl lacks) sets =
      not_lacking s t alike a.descriptor b.descriptor twins.pools twins.index part e sets.0 lacks sets.5
  not_both o (suc levels) (part ∷ next ∷ parts) a b new path e twins one two (inr (x, named, why)) sets =
      by why
      (λ left inner leads refuses.
      not_both o levels (next ∷ parts) inner sets.3 sets.4 sets.1 e
      (twins_inside a b twins (suc (above levels)) one two x sets.0 same owned also left inner sets.2 sets.3 leads sets.6)
      (leads_shape (suc (above levels)) a twins.pools.sound one x owned leads.one left inner leads).0
      (leads_shape (suc (above levels)) b twins.pools.also two sets.0 also sets.6.one sets.2 sets.3 sets.6).0
      refuses sets.7) where
        whole : HoldsFloats (target_pool sets.0) (target_type sets.0) → ⊥
        whole = leads_whole sets.0 b sets.2 sets.3 sets.6

        same : (target_type x).number ≡ (target_type sets.0).number
        same = same_target a b twins part x sets.0 named sets.5 whole

        owned : OwnsTarget a.descriptor x
        owned = owns_first a b twins part x sets.0 named sets.5 whole

        also : OwnsTarget b.descriptor sets.0
        also = owns_second a b twins part x sets.0 named sets.5 whole

        by : LeadsNowhere x a e ⊎ ((left inner : DynamicMessage) × LeadsInto x a left inner × RefusesParts s o levels (next ∷ parts) inner e)
            → ((left inner : DynamicMessage) → LeadsInto x a left inner → RefusesParts s o levels (next ∷ parts) inner e → ⊥) → ⊥
        by (inl nowhere) deeper = leads_somewhere a b twins x sets.0 same owned also (suc (above levels)) one two sets.2 sets.3 sets.6 e nowhere
        by (inr (left, inner, leads, refuses)) deeper = deeper left inner leads refuses

  -- ---- one option behind others

  -- options of which the one at a place is refused are not all set
  pub not_set_at : (os : List UninterpretedOption) (place : ℕ) (a b new : DynamicMessage) (paths : List (List ℤ)) (e : OptionErrorKind) → AreTwins a b
      → Exclusive (suc (suc (above 100))) a → Exclusive (suc (suc (above 100))) b → RefusesAt s os a place e → SetsAll t os b new paths → ⊥
  not_set_at [] place a b new paths e twins one two refuses sets = cc refuses.3
  not_set_at (o ∷ os) zero a b new paths e twins one two (x, front, ways, there, before, refuses, tells) sets =
      let is : o ≡ x = same_Some o x there in
      let here = subst (λ (m : DynamicMessage). RefusesParts s (option_view x) 100 x.name.items m e) before.0 refuses in
      not_both (option_view o) 100 o.name.items a b sets.0 sets.1 e twins one two (subst (λ (x : UninterpretedOption). RefusesParts s (option_view x) 100 x.name.items a e) (sym is) here) sets.3
  not_set_at (o ∷ os) (suc place) a b new paths e twins one two (x, front, ways, there, before, refuses, tells) sets =
      let seen = parts_twice s t alike (option_view o) 100 o.name.items a b before.0 sets.0 before.1 sets.1 twins one two before.3 sets.3 in
      let next = twins_kept a b before.0 sets.0 twins (parts_type s (option_view o) 100 o.name.items a before.0 before.1 before.3) (parts_type t (option_view o) 100 o.name.items b sets.0 sets.1 sets.3) seen in
      not_set_at os place before.0 sets.0 new sets.2 e next
      (parts_shape s (option_view o) 100 o.name.items a before.0 before.1 twins.pools.sound before.3 one)
      (parts_shape t (option_view o) 100 o.name.items b sets.0 sets.1 twins.pools.also sets.3 two)
      (x, front, before.2, there, before.4, refuses, tells) sets.4
