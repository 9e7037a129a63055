-- What setting options does to a truth value of the type's own: the one option of its name sets it,
-- and no other does.
use Rattle.std.proofs.Common.{◌≡◌, ◌⊎◌, inl, inr, ℕ, ℤ, zero, suc, Bool, true, false, true≢false, not, ◌&&◌, ◌||◌, cond, List, [], ◌∷◌, map, Option, None, Some, option_map, unwrap_or, refl, sym, ap, ◌∙◌, subst}
use Rattle.std.proofs.lemmas.Bool.Decides.{eqb_tells}
use Rattle.std.proofs.lemmas.Bool.{and_parts}
use Rattle.std.specs.Cmp.Lexicographic.{bytes_decides}
use Rattle.std.specs.Option.{option_and_then}
use Rattle.std.specs.Prelude.{MatchBool, string_bytes}
use Rattle.std.specs.Str.{bytes_eq}
use Rattle.descriptor_records.specs.Content.{OptionContent, name_view, option_view}
use Rattle.descriptor_records.specs.declared.options.NamePart.{NamePart}
use Rattle.descriptor_records.specs.declared.options.UninterpretedOption.{UninterpretedOption}
use Rattle.message_view.specs.Singles.{single_view}
use Rattle.message_view.specs.Sound.{AreApart, IsSound}
use Rattle.message_view.proofs.Fields.{owned}
use Rattle.option_parts.specs.OptionTypes.{IsTruthValue}
use Rattle.option_parts.specs.TypedOptions.{is_named, is_plain, truth_of, written_or, written_truth}
use Rattle.option_setter.specs.OptionNames.{NamesExtension, NamesField, NamesTarget}
use Rattle.option_setter.specs.OptionValues.{IsSaid}
use Rattle.option_setter.specs.SetOptions.{LeadsInto, PutsSaid, SetsLast, SetsParts, Unsets}
use Rattle.option_setter.specs.declared.option_setter.NameScope.{NameScope}
use Rattle.protobuf_model.specs.Values.{Single}
use Rattle.protobuf_model.specs.Values as model
use Rattle.protox_lex.specs.Class.{Text}
use Rattle.reflect_entries.specs.Entries.{value_at}
use Rattle.reflect_entries.specs.Members.{first_number}
use Rattle.reflect_format.specs.Steps.{AddsValues, Puts}
use Rattle.reflect_format.specs.Takes.{holds_many}
use Rattle.reflect_format.specs.declared.target.Target.{Target}
use Rattle.reflect_format.specs.declared.target.Target.TheVariants as targets
use Rattle.reflect_message.specs.Bytes.{form_of, is_default}
use Rattle.reflect_message.specs.Held.{choices_of, fields_of}
use Rattle.reflect_message.specs.Known.{known_field, numbered_field}
use Rattle.reflect_message.specs.Names.{DynamicMessage, Value}
use Rattle.reflect_message.specs.Oneofs.{IsExclusive, sibling}
use Rattle.reflect_message.specs.Present.{held_if_set, is_held}
use Rattle.reflect_message.specs.declared.value.ValueOf.TheVariants as the_values
use Rattle.reflect_message.proofs.Choosing.{sibling_is}
use Rattle.reflect_options.specs.Settled.{SetsAll, truth_in, truth_said}
use Rattle.reflect_pool.specs.FieldsLeft.{field_type}
use Rattle.reflect_pool.specs.Kinds.{IsKind}
use Rattle.reflect_pool.specs.Parts.{members_of}
use Rattle.reflect_pool.specs.Shapes.{is_repeated}
use Rattle.reflect_pool.specs.declared.field.FieldDescriptor.{FieldDescriptor}
use Rattle.reflect_pool.specs.declared.kind.Kind.{Kind}
use Rattle.reflect_pool.specs.declared.kind.Kind.TheVariants as values
use Rattle.reflect_pool.specs.declared.message.MessageDescriptor.{MessageDescriptor}
use Rattle.reflect_scalar.specs.Cases as cases
use Rattle.reflect_scalar.specs.FieldTypes.{field_pool}
use Rattle.reflect_scalar.specs.Singles as held
use Rattle.reflect_tables.specs.Types.{FieldType, PoolType, no_field, type_of_field}
use Rattle.reflect_tables.specs.Types as types
use Rattle.settled_records.proofs.Fields.{first_field, same_field}
use Rattle.settled_records.proofs.Kept.{none_many, type_kept}
use Rattle.text_view.specs.SourceNames.{HaveOwnNames}
use Rattle.text_view.proofs.Set.{singled}
use Rattle.stored_options.proofs.Owning.{left_exclusive, left_type, option_exclusive}
use Rattle.stored_options.proofs.Scoped.{holds_one, truth_known}

-- the truth value of a single value
truth_alone : (w : held.Single) (b : Bool) → single_view w ≡ model.truth b → cases.truth_of w ≡ Some b
truth_alone (held.truth a) b e = ap (λ (x : Single). elim x [ model.truth c ↦ Some c | _ ↦ Some a ]) e
truth_alone w b e = absurd (cc e)

-- what a value is, as a truth value
abbrev pub truth_at : ℕ → DynamicMessage → Option Bool
truth_at n m = truth_in (value_at (fields_of m) n)

-- what an option says to a truth value
said_truth : (pool : PoolType) (k : Kind) (o : OptionContent) (v : Value) → IsKind pool k types.bool → IsSaid k o v
    → (b : Bool) × (truth_of o.identifier_value ≡ Some b) × (truth_in (Some v) ≡ Some b)
said_truth pool values.Bool o v h s = by (truth_of o.identifier_value) refl where
  by : (t : Option Bool) → truth_of o.identifier_value ≡ t → (b : Bool) × (truth_of o.identifier_value ≡ Some b) × (truth_in (Some v) ≡ Some b)
  by None e = absurd (cc (sym s.1 ∙ ap (option_map model.truth) e))
  by (Some b) e =
      let w = singled v s.0 s.2 in
      let is : s.0 ≡ model.truth b = ap (λ o. unwrap_or o s.0) (sym s.1 ∙ ap (option_map model.truth) e) in
      (b, e, ap (option_and_then cases.truth_of) w.1 ∙ truth_alone w.0 b (w.2 ∙ is))
said_truth pool (values.Message d) o v h s = absurd (cc (h.1))
said_truth pool (values.Enum d) o v h s = absurd (cc (h.1))
said_truth pool k o v h s = absurd (cc h)

module _ (d : MessageDescriptor) (sound : IsSound d.pool.now) (n : ℕ) (name : List ℕ) (g : FieldType)
    (is : numbered_field d.pool.now d.index n ≡ Some g) (truth : IsTruthValue name g) where
  -- ---- other numbers

  -- the target has the number
  abbrev IsThere : Target → Type 0
  IsThere (targets.Field f) = (field_type f).number ≡ n
  IsThere (targets.Extension x) = ⊥

  there_or_not : (t : Target) → IsThere t ⊎ (IsThere t → ⊥)
  there_or_not (targets.Field f) = by (eqb_tells (field_type f).number n) where
    by : {A B : Type 0} → (A × ((field_type f).number ≡ n)) ⊎ (B × ((field_type f).number ≡ n → ⊥)) → ((field_type f).number ≡ n) ⊎ ((field_type f).number ≡ n → ⊥)
    by (inl (_, same)) = inl same
    by (inr (_, other)) = inr other
  there_or_not (targets.Extension x) = inr (λ h. h)

  module _ (old : DynamicMessage) (own : old.descriptor ≡ d) (sole : IsExclusive old) where
    -- no oneof notes it
    no_choice : (f : FieldDescriptor) → sibling f (choices_of old) ≡ Some n → ⊥
    no_choice f e =
        let noted = sibling_is f (choices_of old) n e in
        let member = sole.member noted.0 n noted.2 in
        let h : FieldDescriptor = member.0 in
        let same : field_type h ≡ g =
        ap (λ o. unwrap_or o g)
        (sym (owned old.descriptor h member.1) ∙ ap (λ (d : MessageDescriptor). known_field d.pool.now d.index (field_type h).number) own ∙ ap (known_field d.pool.now d.index) member.2 ∙ truth_known d.pool.now sound d.index n name g is truth) in
        cc (sym member.3 ∙ ap (option_and_then (λ k. first_number (members_of h.message.pool.now h.message.index k))) (ap (λ (t : FieldType). t.oneof) same ∙ truth.alone))

    put_elsewhere : (new : DynamicMessage) (t : Target) (v : Value) → (IsThere t → ⊥) → Puts t v old new → value_at (fields_of new) n ≡ value_at (fields_of old) n
    put_elsewhere new (targets.Field f) v other puts = puts.changes.others n (λ e. other (sym e)) (no_choice f)
    put_elsewhere new (targets.Extension x) v other puts = ap (λ es. value_at es n) puts.fields

    add_elsewhere : (new : DynamicMessage) (t : Target) (vs : List Value) → (IsThere t → ⊥) → AddsValues t vs old new
        → value_at (fields_of new) n ≡ value_at (fields_of old) n
    add_elsewhere new (targets.Field f) vs other adds = adds.0.0 n (λ e. other (sym e)) (no_choice f)
    add_elsewhere new (targets.Extension x) vs other adds = ap (λ es. value_at es n) adds.0.1

    unset_elsewhere : (left : DynamicMessage) (t : Target) → (IsThere t → ⊥) → Unsets t old left → value_at (fields_of left) n ≡ value_at (fields_of old) n
    unset_elsewhere left (targets.Field f) other unsets = unsets.field.others n (λ e. other (sym e))
    unset_elsewhere left (targets.Extension x) other unsets = ap (λ es. value_at es n) unsets.fields

  -- ---- the option of the name

  -- what leads to it has its name
  name_there : (s : NameScope) (b : Bool) (w : Text) (f : FieldDescriptor)
      → MatchBool b (NamesExtension s d w (targets.Field f)) (NamesField d w (targets.Field f)) → (field_type f).number ≡ n
      → (b ≡ false) × (w ≡ name) × (field_type f ≡ g)
  name_there s true w f h at = absurd h
  name_there s false w f h at =
      let same = same_field d n g is sound f h.0 at in
      (refl, sym (h.1.1.0 no_field) ∙ ap (λ (m : MessageDescriptor). (type_of_field m.pool.now m.index f.index).name) (sym h.0) ∙ ap (λ (t : FieldType). t.name) same ∙ truth.named, same)

  named_there : (s : NameScope) (part : NamePart) (t : Target) → NamesTarget s d part t → IsThere t → is_plain name (name_view part ∷ []) ≡ true
  named_there s part (targets.Field f) h at =
      let so = name_there s part.is_extension (string_bytes part.name_part) f h at in
      ap (λ b. not b && bytes_eq (string_bytes part.name_part) name) so.0 ∙ ap (λ w. bytes_eq w name) so.1 ∙ (bytes_decides name name).1 refl
  named_there s part (targets.Extension x) h at = absurd at

  -- and what has its name leads to it, where no other field has that
  module _ (names : HaveOwnNames d.pool.now) where
    its_field : (s : NameScope) (b : Bool) (w : Text) (t : Target) → MatchBool b (NamesExtension s d w t) (NamesField d w t) → not b ≡ true
        → w ≡ name → (f : FieldDescriptor) × (t ≡ targets.Field f) × (field_type f ≡ g)
    its_field s true w t h plain same = absurd (cc plain)
    its_field s false w (targets.Extension x) h plain same = absurd h
    its_field s false w (targets.Field f) h plain same =
        let place = first_field d n g is in
        let there = ap (λ (m : MessageDescriptor). type_of_field m.pool.now m.index place.0.index) place.1 in
        let one : f.index ≡ place.0.index =
        names.fields d.index f.index place.0.index h.1.0 place.2.0 (h.1.1.0 no_field ∙ same ∙ sym truth.named ∙ ap (λ (t : FieldType). t.name) (sym place.3 ∙ there)) in
        (f, refl, ap (λ (m : MessageDescriptor). type_of_field m.pool.now m.index f.index) h.0 ∙ ap (type_of_field d.pool.now d.index) one ∙ sym there ∙ place.3)

    there_named : (s : NameScope) (part : NamePart) (t : Target) → NamesTarget s d part t → is_plain name (name_view part ∷ []) ≡ true
        → (f : FieldDescriptor) × (t ≡ targets.Field f) × (field_type f ≡ g)
    there_named s part t h e =
        let two = and_parts (not part.is_extension) (bytes_eq (string_bytes part.name_part) name) e in
        its_field s part.is_extension (string_bytes part.name_part) t h two.0 ((bytes_decides (string_bytes part.name_part) name).0 two.1)

    -- ---- how it is set

    its_number : (f : FieldDescriptor) → field_type f ≡ g → (field_type f).number ≡ n
    its_number f same = ap (λ (t : FieldType). t.number) same ∙ (first_field d n g is).4

    not_many : (f : FieldDescriptor) → field_type f ≡ g → holds_many (targets.Field f) ≡ true → ⊥
    not_many f same many =
        true≢false (sym many ∙ none_many (field_pool f) (field_type f) (ap (λ (t : FieldType). is_repeated t.cardinality) same ∙ holds_one d.pool.now sound d.index n name g is truth))

    -- where nothing is set nothing stands
    not_set : (pool : PoolType) (f : FieldType) → f.presence ≡ true → (o : Option Value) → is_held pool f o ≡ false → o ≡ None
    not_set pool f presence None e = refl
    not_set pool f presence (Some u) e =
        let w = form_of u in
        absurd (true≢false (sym (ap (λ b. b || elim w.single [ None ↦ w.filled | Some v ↦ not (is_default pool f (Some v)) ]) presence) ∙ e))

    abbrev IsSetTo : OptionContent → DynamicMessage → DynamicMessage → Type 0
    IsSetTo o old new =
        (b : Bool) × (truth_of o.identifier_value ≡ Some b) × (value_at (fields_of old) n ≡ None) × (v : Value) × (value_at (fields_of new) n ≡ Some v) × (truth_in (Some v) ≡ Some b)

    set_once : (f : FieldDescriptor) → field_type f ≡ g → (o : OptionContent) (old new : DynamicMessage) (path : List ℤ)
        → SetsLast (targets.Field f) o old new path → IsSetTo o old new
    set_once f same o old new path sets = by sets.put.4 where
      by : PutsSaid (targets.Field f) sets.put.2 old new → IsSetTo o old new
      by (inl (one, unset, puts)) =
          let number = its_number f same in
          let said = said_truth (field_pool f) sets.put.0 o sets.put.2 (subst (IsKind (field_pool f) sets.put.0) (ap (λ (t : FieldType). t.kind) same ∙ truth.truth) sets.put.1) sets.put.3 in
          let presence : (field_type f).presence ≡ true = ap (λ (t : FieldType). t.presence) same ∙ truth.presence in (
            said.0,
            said.1,
            ap (value_at (fields_of old)) (sym number) ∙ not_set (field_pool f) (field_type f) presence (value_at (fields_of old) (field_type f).number) unset,
            sets.put.2,
            ap (value_at (fields_of new)) (sym number) ∙ puts.here,
            said.2,
          )
      by (inr (many, adds)) = absurd (not_many f same many)

    -- ---- one option, and all of them

    no_inner : (s : NameScope) (part : NamePart) (old left inner : DynamicMessage) (t : Target) → NamesTarget s d part t → LeadsInto t old left inner → IsThere t → ⊥
    no_inner s part old left inner (targets.Field f) h leads at =
        cc (ap (λ (t : FieldType). t.kind) (name_there s part.is_extension (string_bytes part.name_part) f h at).2 ∙ truth.truth, leads.kind.1.1)
    no_inner s part old left inner (targets.Extension x) h leads at = at

    -- where it is of the name it sets the value, which was not set, and else that stays
    abbrev Tells : Bool → OptionContent → DynamicMessage → DynamicMessage → Type 0
    Tells named o old new = (named ≡ false → value_at (fields_of new) n ≡ value_at (fields_of old) n) × (named ≡ true → IsSetTo o old new)

    part_tells : (s : NameScope) (o : OptionContent) (part : NamePart) (old new : DynamicMessage) (path : List ℤ) (t : Target) → old.descriptor ≡ d
        → IsExclusive old → NamesTarget s d part t → SetsLast t o old new path
        → Tells (is_plain name (name_view part ∷ [])) o old new
    part_tells s o part old new path t own sole leads sets = (
      (λ e. stays e (there_or_not t) sets.put.4),
      (λ e. let so = there_named s part t leads e in set_once so.0 so.2 o old new path (subst (λ t. SetsLast t o old new path) so.1 sets)),
    ) where
      stays : is_plain name (name_view part ∷ []) ≡ false → IsThere t ⊎ (IsThere t → ⊥) → PutsSaid t sets.put.2 old new
          → value_at (fields_of new) n ≡ value_at (fields_of old) n
      stays e (inl at) said = absurd (true≢false (sym (named_there s part t leads at) ∙ e))
      stays e (inr other) (inl (one, unset, puts)) = put_elsewhere old own sole new t sets.put.2 other puts
      stays e (inr other) (inr (many, adds)) = add_elsewhere old own sole new t (sets.put.2 ∷ []) other adds

    parts_tell : (s : NameScope) (o : OptionContent) (levels : ℕ) (parts : List NamePart) (old new : DynamicMessage) (path : List ℤ)
        → old.descriptor ≡ d → IsExclusive old → SetsParts s o levels parts old new path
        → Tells (is_plain name (map name_view parts)) o old new
    parts_tell s o levels [] old new path own sole sets = ((λ e. ap (λ (m : DynamicMessage). value_at (fields_of m) n) sets.0), λ e. absurd (cc e))
    parts_tell s o levels (part ∷ []) old new path own sole sets = part_tells s o part old new sets.1 sets.0 own sole (subst (λ (d : MessageDescriptor). NamesTarget s d part sets.0) own sets.2) sets.3
    parts_tell s o zero (part ∷ next ∷ parts) old new path own sole sets = absurd sets
    parts_tell s o (suc levels) (part ∷ next ∷ parts) old new path own sole sets =
        let taken = sets.6.taken in
        let other = no_inner s part old sets.2 sets.3 sets.0 (subst (λ (d : MessageDescriptor). NamesTarget s d part sets.0) own sets.5) sets.6 in (
          (λ e. put_elsewhere sets.2 (left_type sets.0 old sets.2 taken ∙ own) (left_exclusive sets.0 old sets.2 taken sole) new sets.0 (the_values.Message sets.4) other sets.8 ∙ unset_elsewhere old own sole sets.2 sets.0 other taken),
          (λ e. absurd (cc e)),
        )

    -- what the options say together, over what was set before; and where something was they do not say it
    pub all_tell : (s : NameScope) (os : List UninterpretedOption) (old new : DynamicMessage) (paths : List (List ℤ)) → SetsAll s os old new paths
        → old.descriptor ≡ d → IsExclusive old
        → (truth_at n new ≡ written_or (written_truth name (map option_view os)) (truth_at n old)) × ((v : Value) → value_at (fields_of old) n ≡ Some v → written_truth name (map option_view os) ≡ None)
    all_tell s [] old new paths sets own sole = (ap (truth_at n) sets.0, λ v at. refl)
    all_tell s (o ∷ os) old new paths sets own sole =
        let type : sets.0.descriptor ≡ old.descriptor = type_kept s (o ∷ []) old sets.0 (sets.1 ∷ []) (sets.0, sets.1, [], sets.3, (refl, refl), refl) in
        let next_sole = option_exclusive s o old sets.0 sets.1 (subst (λ (d : MessageDescriptor). AreApart d.pool.now) (sym own) sound.apart) sets.3 sole in
        by (all_tell s os sets.0 new sets.2 sets.4 (type ∙ own) next_sole) (parts_tell s (option_view o) 100 o.name.items old sets.0 sets.1 own sole sets.3) (is_named name (option_view o)) refl where
          by : (truth_at n new ≡ written_or (written_truth name (map option_view os)) (truth_at n sets.0)) × ((v : Value) → value_at (fields_of sets.0) n ≡ Some v → written_truth name (map option_view os) ≡ None)
              → Tells (is_named name (option_view o)) (option_view o) old sets.0 → (b : Bool) → is_named name (option_view o) ≡ b
              → (truth_at n new ≡ written_or (written_truth name (map option_view (o ∷ os))) (truth_at n old)) × ((v : Value) → value_at (fields_of old) n ≡ Some v → written_truth name (map option_view (o ∷ os)) ≡ None)
          by rest step true e =
              let told = step.1 e in
              let says : written_truth name (map option_view (o ∷ os)) ≡ Some told.0 = ap (λ b. cond b (truth_of (option_view o).identifier_value) (written_truth name (map option_view os))) e ∙ told.1 in (
                rest.0 ∙ ap (λ (t : Option Bool). written_or t (truth_at n sets.0)) (rest.1 told.3 told.4) ∙ ap truth_in told.4 ∙ told.5 ∙ sym (ap (λ (t : Option Bool). written_or t (truth_at n old)) says),
                (λ v at. absurd (cc (sym at ∙ told.2))),
              )
          by rest step false e =
              let says : written_truth name (map option_view (o ∷ os)) ≡ written_truth name (map option_view os) = ap (λ b. cond b (truth_of (option_view o).identifier_value) (written_truth name (map option_view os))) e in (
                rest.0 ∙ ap (λ u. written_or (written_truth name (map option_view os)) (truth_in u)) (step.0 e) ∙ sym (ap (λ (t : Option Bool). written_or t (truth_at n old)) says),
                (λ v at. says ∙ rest.1 v (step.0 e ∙ at)),
              )

  -- ---- what a message says

  pub said_at : (m : DynamicMessage) → m.descriptor ≡ d → truth_said n m ≡ truth_at n m
  said_at m own =
      ap (option_and_then (λ f. truth_in (held_if_set m.descriptor.pool.now f (value_at (fields_of m) n))))
      (ap (λ (d : MessageDescriptor). known_field d.pool.now d.index n) own ∙ truth_known d.pool.now sound d.index n name g is truth)
      ∙ ap truth_in (held_so (value_at (fields_of m) n)) where
        held_so : (o : Option Value) → held_if_set m.descriptor.pool.now g o ≡ o
        held_so None = refl
        held_so (Some u) =
            let w = form_of u in
            ap (λ b. cond b (Some u) None) (ap (λ b. b || elim w.single [ None ↦ w.filled | Some v ↦ not (is_default m.descriptor.pool.now g (Some v)) ]) truth.presence)
