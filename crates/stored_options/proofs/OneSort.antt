-- An option that is refused in a message is refused in one that is seen alike, of the type of its name in another pool that
-- says the same to texts, for a fault of the same sort.
use Rattle.std.proofs.Common.{◌≡◌, ◌⊎◌, inl, inr, ℕ, zero, suc, Bool, true, false, List, [], ◌∷◌, Some, None, refl, sym, ap, ◌∙◌, subst}
use Rattle.descriptor_records.specs.Content.{OptionContent}
use Rattle.descriptor_records.specs.declared.options.NamePart.{NamePart}
use Rattle.message_view.specs.Shaped.{Exclusive}
use Rattle.message_view.specs.Types.{kind_in, part_of}
use Rattle.message_view.proofs.Accepting.{not_float}
use Rattle.message_view.proofs.Entries.{entry_of_map}
use Rattle.option_parts.specs.declared.option_error.OptionErrorKind.{OptionErrorKind}
use Rattle.option_parts.specs.declared.option_error.OptionErrorKind.TheVariants as kinds
use Rattle.option_setter.specs.OptionNames.{LacksTarget, NamesTarget}
use Rattle.option_setter.specs.OptionValues.{SaysNothing}
use Rattle.option_setter.specs.SetOptions.{LeadsInto, LeadsNowhere, MayTake, OfKind, RefusesLast, RefusesParts, RefusesValue}
use Rattle.option_setter.specs.declared.option_setter.NameScope.{NameScope}
use Rattle.option_setter.specs.declared.option_value.ValueFault.TheVariants as faults
use Rattle.protobuf_model.specs.Types.{Field, Part}
use Rattle.protox_lex.specs.Class.{Text}
use Rattle.reflect_format.specs.Steps.{is_set}
use Rattle.reflect_format.specs.Takes.{holds_many, target_pool, target_type}
use Rattle.reflect_format.specs.declared.target.Target.{Target}
use Rattle.reflect_message.specs.KindTypes.{IsMessageType}
use Rattle.reflect_message.specs.Names.{DynamicMessage}
use Rattle.reflect_pool.specs.Kinds.{IsKind}
use Rattle.reflect_pool.specs.Shapes.{holds_map, is_entry}
use Rattle.reflect_pool.specs.declared.kind.Kind.{Kind}
use Rattle.reflect_pool.specs.declared.kind.Kind.TheVariants as values
use Rattle.reflect_pool.specs.declared.message.MessageDescriptor.{MessageDescriptor}
use Rattle.reflect_scalar.specs.Floats.{HoldsFloats}
use Rattle.reflect_tables.specs.Types.{FieldType, KindType, PoolType}
use Rattle.reflect_tables.specs.Types as types
use Rattle.text_view.specs.Targets.{target_field}
use Rattle.text_view.proofs.Given.{target_part}
use Rattle.text_view.proofs.Owned.{OwnsTarget, target_whole}
use Rattle.text_view.proofs.Puts.{one_part}
use Rattle.stored_options.proofs.EachStep.{above}
use Rattle.stored_options.proofs.Excluded.{first_whole, leads_somewhere, many, not_set, owns_first, owns_second, same_target}
use Rattle.stored_options.proofs.Inner.{leads_shape}
use Rattle.stored_options.proofs.OneLack.{one_lack}
use Rattle.stored_options.proofs.OneTarget.{NameAlike, not_lacking}
use Rattle.stored_options.proofs.Owning.{leads_whole}
use Rattle.stored_options.proofs.SetTwice.{AreTwins, messages_back, twins_inside}
use Rattle.stored_options.proofs.TwinFields.{field_same, map_same}
use Rattle.stored_options.proofs.TwinKinds.{message_too}
use Rattle.stored_options.proofs.TwinPools.{AreTwinPools, twins_back}
use Rattle.stored_options.specs.ToldAlike.{floating, no_message, set_already, sort_of, unsuited}

-- ---- what an option says to a kind

-- a text in braces, to a kind of messages
abbrev GivesText : Kind → OptionContent → Type 0
GivesText k o = (d : MessageDescriptor) × (z : Text) × (k ≡ values.Message d) × (o.aggregate_value ≡ Some z)

value_sort : (k : Kind) (o : OptionContent) (e : OptionErrorKind) → RefusesValue k o e
    → ((sort_of e ≡ unsuited) × SaysNothing k o faults.Unsuited) ⊎ ((sort_of e ≡ no_message) × GivesText k o)
value_sort k o (kinds.InvalidOptionType name) refuses = inl (refl, refuses)
value_sort (values.Message d) o (kinds.InvalidMessageOption name f) refuses = inr (refl, (d, refuses.0, refl, refuses.1))
value_sort k o e refuses = absurd refuses

-- a kind of messages
of_messages : (pool : PoolType) (t : KindType) (k : Kind) → IsKind pool k t → IsMessageType t → (d : MessageDescriptor) × (k ≡ values.Message d)
of_messages pool t (values.Message d) is type = (d, refl)
of_messages pool t (values.Enum d) is type = absurd (subst IsMessageType is.1 type)
of_messages pool t k is type = absurd (subst IsMessageType is type)

-- which is told by those of a map's entries
entry_message : (pool : PoolType) (t : KindType) → is_entry pool t ≡ true → IsMessageType t
entry_message pool (types.message i) e = tt
entry_message pool t e = absurd (cc e)

-- ---- one target of two messages

record TwinTargets (a b : DynamicMessage) (x y : Target) : Type 0 where
  pub twins : AreTwins a b
  pub same : (target_type x).number ≡ (target_type y).number
  pub owns : OwnsTarget a.descriptor x
  pub too : OwnsTarget b.descriptor y

targets_back : (a b : DynamicMessage) (x y : Target) → TwinTargets a b x y → TwinTargets b a y x
targets_back a b x y w = record { twins = messages_back a b w.twins; same = sym w.same; owns = w.too; too = w.owns }

-- where the one holds messages, the other does
holds_messages : (a b : DynamicMessage) (x y : Target) → TwinTargets a b x y → IsMessageType (target_type x).kind → IsMessageType (target_type y).kind
holds_messages a b x y w type = by (holds_map b.descriptor.pool.now (target_type y)) refl where
  by : (m : Bool) → holds_map b.descriptor.pool.now (target_type y) ≡ m → IsMessageType (target_type y).kind
  by true is_map = entry_message b.descriptor.pool.now (target_type y).kind (entry_of_map b.descriptor.pool.now (target_type y) is_map)
  by false no_map =
      let f : FieldType = target_type x in
      let g : FieldType = target_type y in
      let no_map_too : holds_map a.descriptor.pool.now f ≡ false = map_same a.descriptor b.descriptor w.twins.pools w.twins.index x y w.same w.owns w.too ∙ no_map in
      let part : (target_field a.descriptor x).part ≡ part_of a.descriptor.pool.now f = target_part a.descriptor x ∙ one_part a.descriptor.pool.now f no_map_too in
      let part_too : (target_field b.descriptor y).part ≡ part_of b.descriptor.pool.now g = target_part b.descriptor y ∙ one_part b.descriptor.pool.now g no_map in
      let fields : target_field a.descriptor x ≡ target_field b.descriptor y = field_same a.descriptor b.descriptor w.twins.pools w.twins.index x y w.same w.owns w.too in
      let kinds_same : kind_in a.descriptor.pool.now f.group f.kind ≡ kind_in b.descriptor.pool.now g.group g.kind =
      sym (ap (λ (q : Part). q.kind) part) ∙ ap (λ (h : Field). h.part.kind) fields ∙ ap (λ (q : Part). q.kind) part_too in
      message_too a.descriptor.pool.now b.descriptor.pool.now f.group g.group f.kind g.kind kinds_same
      (not_float a.descriptor.pool.now f (target_whole a.descriptor w.twins.pools.sound.apart x w.owns))
      (not_float b.descriptor.pool.now g (target_whole b.descriptor w.twins.pools.also.apart y w.too)) type

-- no text is given where the option says nothing for want of one
not_text : (a b : DynamicMessage) (x y : Target) → TwinTargets a b x y → (o : OptionContent) (k l : Kind) → OfKind x k → OfKind y l → GivesText k o → SaysNothing l o faults.Unsuited → ⊥
not_text a b x y w o k l of of_too (d, z, is, written) none =
    let of_message : IsKind (target_pool x) (values.Message d) (target_type x).kind = subst (λ m. IsKind (target_pool x) m (target_type x).kind) is of in
    let type : IsMessageType (target_type x).kind = subst IsMessageType (sym of_message.1) tt in
    let m = of_messages (target_pool y) (target_type y).kind l of_too (holds_messages a b x y w type) in
    let nothing : o.aggregate_value ≡ None = subst (λ c. SaysNothing c o faults.Unsuited) m.1 none in
    cc (sym nothing ∙ written)

-- what it says to both is refused for one sort
one_value : (a b : DynamicMessage) (x y : Target) → TwinTargets a b x y → (o : OptionContent) (k l : Kind) → OfKind x k → OfKind y l → (e f : OptionErrorKind)
    → RefusesValue k o e → RefusesValue l o f → sort_of e ≡ sort_of f
one_value a b x y w o k l of of_too e f refuses also = by (value_sort k o e refuses) (value_sort l o f also) where
  by : ((sort_of e ≡ unsuited) × SaysNothing k o faults.Unsuited) ⊎ ((sort_of e ≡ no_message) × GivesText k o)
      → ((sort_of f ≡ unsuited) × SaysNothing l o faults.Unsuited) ⊎ ((sort_of f ≡ no_message) × GivesText l o) → sort_of e ≡ sort_of f
  by (inl h) (inl j) = h.0 ∙ sym j.0
  by (inl h) (inr j) = absurd (not_text b a y x (targets_back a b x y w) o l k of_too of j.1 h.1)
  by (inr h) (inl j) = absurd (not_text a b x y w o k l of of_too h.1 j.1)
  by (inr h) (inr j) = h.0 ∙ sym j.0

-- ---- the last part of a name

-- a target has a value already
abbrev IsTaken : Target → DynamicMessage → Type 0
IsTaken t m = (HoldsFloats (target_pool t) (target_type t) → ⊥) × (holds_many t ≡ false) × (is_set m t ≡ true)

abbrev TakesOther : Target → OptionContent → DynamicMessage → OptionErrorKind → Type 0
TakesOther t o m e = MayTake t m × ((k : Kind) × OfKind t k × RefusesValue k o e)

-- it holds floating-point numbers, or is taken, or the option says nothing to it
abbrev LastSort : Target → OptionContent → DynamicMessage → OptionErrorKind → Type 0
LastSort t o m e = ((sort_of e ≡ floating) × HoldsFloats (target_pool t) (target_type t)) ⊎ (((sort_of e ≡ set_already) × IsTaken t m) ⊎ TakesOther t o m e)

last_sort : (t : Target) (o : OptionContent) (m : DynamicMessage) (e : OptionErrorKind) → RefusesLast t o m e → LastSort t o m e
last_sort t o m (kinds.FloatOption name) refuses = inl (refl, refuses)
last_sort t o m (kinds.DuplicateOption name) refuses = inr (inl (refl, refuses))
last_sort t o m e refuses = inr (inr refuses)

module _ (s t : NameScope) (alike : NameAlike s t) where
  -- what is taken in the one may take nothing in the other
  not_taken : (a b : DynamicMessage) → AreTwins a b → (levels : ℕ) → Exclusive (suc (suc levels)) a → Exclusive (suc (suc levels)) b → (part : NamePart) (x y : Target)
      → NamesTarget s a.descriptor part x → NamesTarget t b.descriptor part y → IsTaken x a → MayTake y b → ⊥
  not_taken a b twins levels one two part x y named also (mine, single, set) (whole, free) =
      let same : (target_type x).number ≡ (target_type y).number = same_target s t alike a b twins part x y named also whole in
      let owns : OwnsTarget a.descriptor x = owns_first s t alike a b twins part x y named also whole in
      let too : OwnsTarget b.descriptor y = owns_second s t alike a b twins part x y named also whole in
      not_set a b twins x y same owns too levels one two single set (free (sym (many a b twins x y same owns too) ∙ single))

module _ (s t : NameScope) (alike : NameAlike s t) (back : NameAlike t s) (o : OptionContent) where
  one_last : (a b : DynamicMessage) → AreTwins a b → (levels : ℕ) → Exclusive (suc (suc levels)) a → Exclusive (suc (suc levels)) b → (part : NamePart) (x y : Target)
      → NamesTarget s a.descriptor part x → NamesTarget t b.descriptor part y → (e f : OptionErrorKind) → RefusesLast x o a e → RefusesLast y o b f → sort_of e ≡ sort_of f
  one_last a b twins levels one two part x y named also e f refuses refused = by (last_sort x o a e refuses) (last_sort y o b f refused) where
    -- it holds floating-point numbers in both or in neither
    whole_first : HoldsFloats (target_pool x) (target_type x) → (HoldsFloats (target_pool y) (target_type y) → ⊥) → ⊥
    whole_first floats whole = first_whole s t alike a b twins part x y named also whole floats

    whole_second : HoldsFloats (target_pool y) (target_type y) → (HoldsFloats (target_pool x) (target_type x) → ⊥) → ⊥
    whole_second floats whole = first_whole t s back b a (messages_back a b twins) part y x also named whole floats

    by : LastSort x o a e → LastSort y o b f → sort_of e ≡ sort_of f
    by (inl (is, floats)) (inl (is_too, floats_too)) = is ∙ sym is_too
    by (inl (is, floats)) (inr (inl (is_too, (whole, single, set)))) = absurd (whole_first floats whole)
    by (inl (is, floats)) (inr (inr ((whole, free), rest))) = absurd (whole_first floats whole)
    by (inr (inl (is, (whole, single, set)))) (inl (is_too, floats)) = absurd (whole_second floats whole)
    by (inr (inl (is, taken))) (inr (inl (is_too, taken_too))) = is ∙ sym is_too
    by (inr (inl (is, taken))) (inr (inr (may, rest))) = absurd (not_taken s t alike a b twins levels one two part x y named also taken may)
    by (inr (inr ((whole, free), rest))) (inl (is_too, floats)) = absurd (whole_second floats whole)
    by (inr (inr (may, rest))) (inr (inl (is_too, taken))) = absurd (not_taken t s back b a (messages_back a b twins) levels two one part y x also named taken may)
    by (inr (inr (may, (k, of, why)))) (inr (inr (may_too, (l, of_too, why_too)))) =
        one_value a b x y (record {
          twins = twins;
          same = same_target s t alike a b twins part x y named also may_too.0;
          owns = owns_first s t alike a b twins part x y named also may_too.0;
          too = owns_second s t alike a b twins part x y named also may_too.0;
        }) o k l of of_too e f why why_too

-- ---- along a name

nowhere_sort : (t : Target) (m : DynamicMessage) (e : OptionErrorKind) → LeadsNowhere t m e → sort_of e ≡ unsuited
nowhere_sort t m (kinds.InvalidOptionType name) nowhere = refl
nowhere_sort t m e nowhere = absurd nowhere

-- a part does not lead nowhere in the one message and into one in the other
not_nowhere : (s t : NameScope) → NameAlike s t → (a b : DynamicMessage) → AreTwins a b → (levels : ℕ) → Exclusive (suc (suc levels)) a → Exclusive (suc (suc levels)) b → (part : NamePart) (x y : Target)
    → NamesTarget s a.descriptor part x → NamesTarget t b.descriptor part y → (e : OptionErrorKind) → LeadsNowhere x a e → (rest deep : DynamicMessage) → LeadsInto y b rest deep → ⊥
not_nowhere s t alike a b twins levels one two part x y named also e nowhere rest deep into =
    let whole : HoldsFloats (target_pool y) (target_type y) → ⊥ = leads_whole y b rest deep into in
    leads_somewhere a b twins x y (same_target s t alike a b twins part x y named also whole) (owns_first s t alike a b twins part x y named also whole)
    (owns_second s t alike a b twins part x y named also whole) levels one two rest deep into e nowhere

module _ (s t : NameScope) (alike : NameAlike s t) (back : NameAlike t s) (o : OptionContent) where
  -- the pools of the scopes say the same, as those of the messages do
  module _ (twins : AreTwinPools s.pool.now t.pool.now) where
    lacks_alike : (a b : DynamicMessage) (part : NamePart) (e f : OptionErrorKind) → LacksTarget s a.descriptor part e → LacksTarget t b.descriptor part f → sort_of e ≡ sort_of f
    lacks_alike a b part e f lacks also = one_lack s t alike back twins (twins_back s.pool.now t.pool.now twins) a.descriptor b.descriptor part e f lacks also

    not_lacked : (a b : DynamicMessage) → AreTwins a b → (part : NamePart) (e : OptionErrorKind) (y : Target) → LacksTarget s a.descriptor part e → NamesTarget t b.descriptor part y → ⊥
    not_lacked a b same part e y lacks named = not_lacking s t alike a.descriptor b.descriptor same.pools same.index part e y lacks named

    not_lacked_there : (a b : DynamicMessage) → AreTwins a b → (part : NamePart) (f : OptionErrorKind) (x : Target) → LacksTarget t b.descriptor part f → NamesTarget s a.descriptor part x → ⊥
    not_lacked_there a b same part f x lacks named = not_lacking t s back b.descriptor a.descriptor (messages_back a b same).pools (sym same.index) part f x lacks named

    pub one_sort : (levels : ℕ) (parts : List NamePart) (a b : DynamicMessage) (e f : OptionErrorKind) → AreTwins a b → Exclusive (suc (suc (above levels))) a → Exclusive (suc (suc (above levels))) b
        → RefusesParts s o levels parts a e → RefusesParts t o levels parts b f → sort_of e ≡ sort_of f
    one_sort levels [] a b e f same one two refuses also = absurd refuses
    one_sort levels (part ∷ []) a b e f same one two (inl lacks) (inl also) = lacks_alike a b part e f lacks also
    one_sort levels (part ∷ []) a b e f same one two (inl lacks) (inr (y, named, why)) = absurd (not_lacked a b same part e y lacks named)
    one_sort levels (part ∷ []) a b e f same one two (inr (x, named, why)) (inl lacks) = absurd (not_lacked_there a b same part f x lacks named)
    one_sort levels (part ∷ []) a b e f same one two (inr (x, named, why)) (inr (y, also, other)) =
        one_last s t alike back o a b same (above levels) one two part x y named also e f why other
    one_sort zero (part ∷ next ∷ parts) a b e f same one two (inl lacks) (inl also) = lacks_alike a b part e f lacks also
    one_sort zero (part ∷ next ∷ parts) a b e f same one two (inl lacks) (inr (y, named, why)) = absurd (not_lacked a b same part e y lacks named)
    one_sort zero (part ∷ next ∷ parts) a b e f same one two (inr (x, named, why)) (inl lacks) = absurd (not_lacked_there a b same part f x lacks named)
    one_sort zero (part ∷ next ∷ parts) a b e f same one two (inr (x, named, deep)) (inr (y, also, other)) = ap sort_of (deep ∙ sym other)
    one_sort (suc levels) (part ∷ next ∷ parts) a b e f same one two (inl lacks) (inl also) = lacks_alike a b part e f lacks also
    one_sort (suc levels) (part ∷ next ∷ parts) a b e f same one two (inl lacks) (inr (y, named, why)) = absurd (not_lacked a b same part e y lacks named)
    one_sort (suc levels) (part ∷ next ∷ parts) a b e f same one two (inr (x, named, why)) (inl lacks) = absurd (not_lacked_there a b same part f x lacks named)
    one_sort (suc levels) (part ∷ next ∷ parts) a b e f same one two (inr (x, named, inl nowhere)) (inr (y, also, inl other)) = nowhere_sort x a e nowhere ∙ sym (nowhere_sort y b f other)
    one_sort (suc levels) (part ∷ next ∷ parts) a b e f same one two (inr (x, named, inl nowhere)) (inr (y, also, inr (rest, deep, into, deeper))) =
        absurd (not_nowhere s t alike a b same (suc (above levels)) one two part x y named also e nowhere rest deep into)
    one_sort (suc levels) (part ∷ next ∷ parts) a b e f same one two (inr (x, named, inr (left, inner, leads, deeper))) (inr (y, also, inl nowhere)) =
        absurd (not_nowhere t s back b a (messages_back a b same) (suc (above levels)) two one part y x also named f nowhere left inner leads)
    one_sort (suc levels) (part ∷ next ∷ parts) a b e f same one two (inr (x, named, inr (left, inner, leads, deeper))) (inr (y, also, inr (rest, deep, into, below))) =
        let whole : HoldsFloats (target_pool y) (target_type y) → ⊥ = leads_whole y b rest deep into in
        let number : (target_type x).number ≡ (target_type y).number = same_target s t alike a b same part x y named also whole in
        let owns : OwnsTarget a.descriptor x = owns_first s t alike a b same part x y named also whole in
        let too : OwnsTarget b.descriptor y = owns_second s t alike a b same part x y named also whole in
        one_sort levels (next ∷ parts) inner deep e f (twins_inside a b same (suc (above levels)) one two x y number owns too left inner rest deep leads into)
        (leads_shape (suc (above levels)) a same.pools.sound one x owns leads.one left inner leads).0
        (leads_shape (suc (above levels)) b same.pools.also two y too into.one rest deep into).0 deeper below
