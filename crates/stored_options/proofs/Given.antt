-- What the last part of a name puts into a message is what its field gets in the model.
use Rattle.std.proofs.Common.{◌≡◌, inl, inr, ℕ, ℤ, suc, ◌≤◌, Bool, true, false, cond, List, [], ◌∷◌, Option, refl, sym, ap, ◌∙◌, subst, arith}
use Rattle.descriptor_records.specs.Content.{OptionContent, name_view}
use Rattle.descriptor_records.specs.declared.options.NamePart.{NamePart}
use Rattle.message_view.specs.Sound.{IsSound}
use Rattle.message_view.specs.Types.{entry_part, field_at, key_of, name_at, part_of, types_of}
use Rattle.message_view.specs.Views.{content_view, view}
use Rattle.message_view.proofs.Entries.{entry_of_map}
use Rattle.message_view.proofs.Sound.{named}
use Rattle.stored_options.specs.SetOptions as model
use Rattle.stored_options.specs.SetOptions.{Gets}
use Rattle.option_setter.specs.OptionNames.{NamesTarget}
use Rattle.option_setter.specs.OptionValues.{IsSaid}
use Rattle.option_setter.specs.SetOptions.{PutsSaid, SetsLast, number_of}
use Rattle.option_setter.specs.declared.option_setter.NameScope.{NameScope}
use Rattle.protobuf_model.specs.Types.{Field, Label, Name, keyed, many}
use Rattle.protobuf_model.specs.Values.{Message}
use Rattle.protox_lex.specs.Class.{Text}
use Rattle.reflect_format.specs.Steps.{AddsValues, held_by}
use Rattle.reflect_format.specs.Takes.{holds_many, target_pool, target_type}
use Rattle.reflect_format.specs.declared.target.Target.{Target}
use Rattle.reflect_message.specs.Names.{DynamicMessage, Value}
use Rattle.reflect_message.specs.declared.value.ValueOf.TheVariants as held
use Rattle.reflect_pool.specs.Kinds.{IsKind}
use Rattle.reflect_pool.specs.Shapes.{holds_list, holds_map}
use Rattle.reflect_pool.specs.declared.message.MessageDescriptor.{MessageDescriptor}
use Rattle.reflect_tables.specs.Types.{FieldType, PoolType}
use Rattle.message_view.specs.Shaped.{Exclusive}
use Rattle.text_model.specs.Value.{add_all, assign, settled}
use Rattle.text_view.specs.Schemas.{schema_of}
use Rattle.text_view.specs.Targets.{target_field}
use Rattle.text_view.proofs.Adds.{label_keyed, label_many, label_one, list_all, list_of_many, target_label, types_are}
use Rattle.text_view.proofs.Given.{entry_kind, target_part}
use Rattle.text_view.proofs.Kept.{many_map}
use Rattle.text_view.proofs.Once.{one_of, put_assigned, second}
use Rattle.text_view.proofs.Owned.{OwnsTarget, pool_is, target_there}
use Rattle.text_view.proofs.Shaped.{list_before}
use Rattle.stored_options.proofs.Fine.{IsFine, made_fine, made_kinds, made_type}
use Rattle.stored_options.proofs.Mapping.{map_seen}
use Rattle.stored_options.proofs.MapShape.{target_map}
use Rattle.stored_options.proofs.Shapes.{stood}
use Rattle.stored_options.specs.NamedNumbers.{numbers_named}
use Rattle.stored_options.proofs.Held.{place_seen, set_seen}
use Rattle.stored_options.proofs.Said.{one_said, target_says}

module _ (o : OptionContent) (levels : ℕ) (old new : DynamicMessage)
    (sound : IsSound old.descriptor.pool.now) (shape : Exclusive (suc (suc levels)) old) (t : Target) (owns : OwnsTarget old.descriptor t) (path : List ℤ)
    (sets : SetsLast t o old new path) where
  abbrev d : MessageDescriptor
  d = old.descriptor

  abbrev pool : PoolType
  pool = old.descriptor.pool.now

  abbrev f : FieldType
  f = target_type t

  abbrev its : Field
  its = target_field old.descriptor t

  abbrev type : ℕ → Option Field
  type = types_of old.descriptor.pool.now (name_at old.descriptor.pool.now old.descriptor.index)

  abbrev v : Value
  v = sets.put.2

  same_fields : types_of old.descriptor.pool.now (name_at old.descriptor.pool.now old.descriptor.index) ≡ field_at old.descriptor.pool.now old.descriptor.index
  same_fields = types_are old.descriptor.pool.now sound.names old.descriptor refl

  -- what is got by a field of the label
  abbrev GetsBy : Label → Type 0
  GetsBy l = Gets type f.number its l (content_view v) (view old) (view new)

  -- one value
  one_got : PutsSaid t v old new → holds_many t ≡ false → GetsBy its.label
  one_got (inl (of_one, unset, puts)) is =
      let none = one_of d sound.apart t owns of_one in
      subst GetsBy (sym (target_label d t ∙ label_one pool f none.0 none.1)) (
        sym (set_seen (suc levels) old sound shape t owns of_one) ∙ unset,
        put_assigned old new sound.apart t owns none.0 v (one_said sets.put.0 o v sets.put.3) shape.1 sets.same_type puts
            ∙ ap (λ fs. assign fs f.number (settled its.part (content_view v)) (view old)) (sym same_fields),
      )
  one_got (inr (of_many, adds)) is = absurd (cc (sym of_many ∙ is))

  -- a further one of a list
  listed : holds_list pool f ≡ true → AddsValues t (v ∷ []) old new → GetsBy its.label
  listed is_list adds =
      let two = list_of_many pool f is_list in
      let stands = list_before (Exclusive (suc levels)) pool f two.1 is_list (held_by old t) (stood (suc levels) old sound shape t owns) in
      let label = target_label d t ∙ label_many pool f is_list in
      let all = list_all old new sound.apart sets.same_type shape.1 t owns is_list (v ∷ []) stands.0 stands.1 adds in
      subst GetsBy (sym label)
      (ap (λ fs. add_all fs f.number its.part (many f.packed) (view old) (content_view v ∷ [])) same_fields
      ∙ ap (λ l. add_all (field_at pool d.index) f.number its.part l (view old) (content_view v ∷ [])) (sym label) ∙ all)

  -- so it is of all targets but maps
  pub plain_got : holds_map pool f ≡ false → GetsBy its.label
  plain_got no_map = by (holds_many t) refl where
    many_got : PutsSaid t v old new → holds_many t ≡ true → GetsBy its.label
    many_got (inl (of_one, unset, puts)) is = absurd (cc (sym of_one ∙ is))
    many_got (inr (of_many, adds)) is =
        let in_pool = pool_is d sound.apart t owns in
        let is_list = second (holds_list (target_pool t) f) (holds_map (target_pool t) f) of_many (ap (λ p. holds_map p f) in_pool ∙ no_map) in
        listed (subst (λ p. holds_list p f ≡ true) in_pool is_list) adds

    by : (b : Bool) → holds_many t ≡ b → GetsBy its.label
    by true is = many_got sets.put.4 is
    by false is = one_got sets.put.4 is

  module _ (le : 100 ≤ levels) (fine : IsFine (suc levels) old) where
    kind : IsKind pool sets.put.0 f.kind
    kind = subst (λ p. IsKind p sets.put.0 f.kind) (pool_is d sound.apart t owns) sets.put.1

    -- or of a map
    mapped : holds_map pool f ≡ true → AddsValues t (v ∷ []) old new → GetsBy its.label
    mapped is_map adds =
        let c = entry_kind pool sets.put.0 f.kind kind (entry_of_map pool f is_map) in
        let made = subst (λ k. IsSaid k o v) c.1 sets.put.3 in
        let c_sound = subst IsSound (sym c.2) sound in
        let text = made.1.2 in
        let seen =
        map_seen levels old sound fine new sets.same_type t owns is_map c.0 c.2 c.3 made.0 (made_type c.0 c_sound made.1.0 text.0 text.1 made.0 text.2) (made_kinds c.0 c_sound made.1.0 text.0 text.1 made.0 text.2)
        (made_fine c.0 c_sound made.1.0 text.0 text.1 made.0 text.2 (suc levels) (omega (arith, le))) (subst (λ v. AddsValues t (v ∷ []) old new) made.2 adds) in
        let part : its.part ≡ part_of pool (entry_part pool f 2) = target_part d t ∙ ap (λ b. part_of pool (cond b (entry_part pool f 2) f)) is_map in
        subst GetsBy (sym (target_label d t ∙ label_keyed pool f is_map))
        (ap (λ u. add_all type f.number its.part (keyed (key_of pool (entry_part pool f 1))) (view old) (content_view u ∷ [])) made.2
        ∙ ap (λ p. add_all type f.number p (keyed (key_of pool (entry_part pool f 1))) (view old) (content_view (held.Message made.0) ∷ [])) part ∙ seen)

    map_got : PutsSaid t v old new → holds_map pool f ≡ true → GetsBy its.label
    map_got (inl (of_one, unset, puts)) is_map = absurd (cc (sym of_one ∙ many_map t (target_map d sound t owns is_map)))
    map_got (inr (of_many, adds)) is_map = mapped is_map adds

    got : GetsBy its.label
    got = by (holds_map pool f) refl where
      by : (b : Bool) → holds_map pool f ≡ b → GetsBy its.label
      by true is_map = map_got sets.put.4 is_map
      by false no_map = plain_got no_map

    -- the last part of a name, which leads to the target where the option stands
    pub last_set : (decoded : Name → Text → Option Message) (s : NameScope) → old.descriptor.pool.now ≡ s.pool.now → (part : NamePart) → NamesTarget s old.descriptor part t
        → model.SetsLast (schema_of old.descriptor.pool.now decoded) (numbers_named s) o (name_at old.descriptor.pool.now old.descriptor.index) (name_view part) (view old) (view new) (number_of t ∷ path)
    last_set decoded s at part leads = (
      f.number,
      its,
      content_view v,
      record { of_type = d; target = t; written = part; in_pool = at; called = refl; same_part = refl; named = leads; number = refl },
      named pool sound.names d.index f.number d.in_range ∙ target_there d sound.apart t owns,
      target_says decoded o d sound t owns sets.put.0 kind v sets.put.3,
      got,
      ap (λ places. number_of t ∷ places) (sets.placed ∙ place_seen (suc levels) old sound shape t owns),
    )
