-- What an option says to a kind it says in the words of the model.
use Rattle.std.proofs.Common.{◌≡◌, inl, inr, ℕ, ℤ, Bool, true, false, Option, Some, option_map, refl, sym, ap, ◌∙◌, subst}
use Rattle.std.specs.List.{find}
use Rattle.std.specs.Str.{bytes_eq}
use mathlib.Core.Path.{fun_ext}
use Rattle.descriptor_records.specs.Content.{OptionContent}
use Rattle.message_view.specs.Sound.{IsSound}
use Rattle.message_view.specs.Types.{kind_in, name_at}
use Rattle.message_view.specs.Views.{content_view, view}
use Rattle.message_view.proofs.Entries.{entry_of_map}
use Rattle.message_view.proofs.Seen.{message_seen}
use Rattle.message_view.proofs.Sound.{found_at}
use Rattle.stored_options.specs.SetOptions.{Says}
use Rattle.option_setter.specs.OptionValues.{IsSaid, MakesSaid, said, scalar_said}
use Rattle.protobuf_model.specs.Types.{Name}
use Rattle.protobuf_model.specs.Types as kinds
use Rattle.protobuf_model.specs.Values.{Message, Single, message, single}
use Rattle.protox_lex.specs.Class.{Text}
use Rattle.reflect_format.specs.Takes.{target_type}
use Rattle.reflect_format.specs.declared.target.Target.{Target}
use Rattle.reflect_message.specs.Names.{DynamicMessage, Value}
use Rattle.reflect_message.specs.declared.value.ValueOf.TheVariants as held
use Rattle.reflect_pool.specs.Kinds.{IsKind}
use Rattle.reflect_pool.specs.Shapes.{holds_map}
use Rattle.reflect_pool.specs.declared.kind.Kind.{Kind}
use Rattle.reflect_pool.specs.declared.kind.Kind.TheVariants as values
use Rattle.reflect_pool.specs.declared.message.MessageDescriptor.{MessageDescriptor}
use Rattle.reflect_tables.specs.Types.{FieldType, KindType, PoolType, enum_at}
use Rattle.text_model.specs.Schemas.{Schema, shape_of}
use Rattle.text_model.specs.Value.{Wanted, of_message, wanted_in, wanted_of}
use Rattle.text_view.specs.Names.{names_of, number_in}
use Rattle.text_view.specs.Schemas.{schema_of}
use Rattle.text_view.specs.Targets.{target_field}
use Rattle.text_view.specs.Values.{IsOne}
use Rattle.text_view.proofs.Given.{entry_kind, map_wanted}
use Rattle.text_view.proofs.Made.{made_given}
use Rattle.text_view.proofs.Owned.{OwnsTarget}
use Rattle.text_view.proofs.Puts.{message_is}
use Rattle.text_view.proofs.Scalars.{content_is}
use Rattle.text_view.proofs.Wanted.{wanted_target}

-- what it says is one value
pub one_said : (k : Kind) (o : OptionContent) (v : Value) → IsSaid k o v → IsOne v
one_said (values.Message d) o v s = inr (s.0, s.2)
one_said k o v s = inl (s.0, s.2)

module _ (decoded : Name → Text → Option Message) (o : OptionContent) where
  -- ---- a single value

  module _ (pool : PoolType) (group : Bool) (x : Single) where
    abbrev Reads : KindType → Type 0
    Reads t = Says (schema_of pool decoded) o (wanted_in (schema_of pool decoded) (number_in pool t) (kind_in pool group t)) (single x)

    single_says : (k : Kind) (t : KindType) → IsKind pool k t → said k o ≡ Some x → Reads t
    single_says values.Int32 t is e = subst Reads (sym is) (ap (option_map single) e)
    single_says values.Int64 t is e = subst Reads (sym is) (ap (option_map single) e)
    single_says values.Uint32 t is e = subst Reads (sym is) (ap (option_map single) e)
    single_says values.Uint64 t is e = subst Reads (sym is) (ap (option_map single) e)
    single_says values.Sint32 t is e = subst Reads (sym is) (ap (option_map single) e)
    single_says values.Sint64 t is e = subst Reads (sym is) (ap (option_map single) e)
    single_says values.Fixed32 t is e = subst Reads (sym is) (ap (option_map single) e)
    single_says values.Fixed64 t is e = subst Reads (sym is) (ap (option_map single) e)
    single_says values.Sfixed32 t is e = subst Reads (sym is) (ap (option_map single) e)
    single_says values.Sfixed64 t is e = subst Reads (sym is) (ap (option_map single) e)
    single_says values.Bool t is e = subst Reads (sym is) (ap (option_map single) e)
    single_says values.String t is e = subst Reads (sym is) (ap (option_map single) e)
    single_says values.Bytes t is e = subst Reads (sym is) (ap (option_map single) e)
    single_says (values.Enum d) t is e =
        subst Reads (sym is.1)
        (ap (λ (enum : Text → Option ℤ). option_map single (scalar_said enum kinds.enumeration o))
        (fun_ext (λ v. ap (λ p. option_map (λ v. v.number) (find (λ u. bytes_eq u.name v) (enum_at p d.index).values)) (sym is.0)))
        ∙ ap (option_map single) e)
    single_says k t is e = absurd (cc e)

  -- ---- a message

  message_says : (c : MessageDescriptor) → IsSound c.pool.now → (pool : PoolType) → c.pool.now ≡ pool → (m : DynamicMessage) → MakesSaid c o m
      → Says (schema_of pool decoded) o (of_message (shape_of (schema_of pool decoded) (name_at pool c.index))) (message (view m))
  message_says c sound pool at m (z, written, (fs, text, makes)) =
      let given = (made_given c sound decoded z fs text m makes).0 in
      subst (λ p. Says (schema_of p decoded) o (of_message (shape_of (schema_of p decoded) (name_at p c.index))) (message (view m))) at
      (z, given.0, view m, written, given.1, given.2, refl)

  message_content : (m : DynamicMessage) (v : Value) → v ≡ held.Message m → content_view v ≡ message (view m)
  message_content m v is = ap content_view is ∙ message_seen (held.Message m) m (message_is m)

  -- ---- to what a kind wants

  module _ (pool : PoolType) (sound : IsSound pool) (group : Bool) (v : Value) where
    abbrev ReadsIt : KindType → Type 0
    ReadsIt t = Says (schema_of pool decoded) o (wanted_in (schema_of pool decoded) (number_in pool t) (kind_in pool group t)) (content_view v)

    pub kind_says : (k : Kind) (t : KindType) → IsKind pool k t → IsSaid k o v → ReadsIt t
    kind_says (values.Message c) t is s =
        subst ReadsIt (sym is.1)
        (subst (Says (schema_of pool decoded) o (of_message (shape_of (schema_of pool decoded) (name_at pool c.index)))) (sym (message_content s.0 v s.2))
        (message_says c (subst IsSound (sym is.0) sound) pool is.0 s.0 s.1))
    kind_says k t is s =
        subst (Says (schema_of pool decoded) o (wanted_in (schema_of pool decoded) (number_in pool t) (kind_in pool group t))) (sym (content_is v s.0 s.2))
        (single_says pool group s.0 k t is s.1)

  -- ---- to what a target wants

  module _ (d : MessageDescriptor) (sound : IsSound d.pool.now) (t : Target) (owns : OwnsTarget d t) (k : Kind)
      (is : IsKind d.pool.now k (target_type t).kind) (v : Value) (s : IsSaid k o v) where
    abbrev pool : PoolType
    pool = d.pool.now

    abbrev w : Schema
    w = schema_of d.pool.now decoded

    abbrev f : FieldType
    f = target_type t

    abbrev wanted : ℕ → Wanted
    wanted i = wanted_of w (names_of pool i) f.number (target_field d t).part (target_field d t).label

    by_place : Says w o (wanted d.index) (content_view v)
    by_place = by (holds_map pool f) refl where
      by : (b : Bool) → holds_map pool f ≡ b → Says w o (wanted d.index) (content_view v)
      by false no_map =
          subst (λ a. Says w o a (content_view v)) (sym (wanted_target d sound.apart w t owns no_map))
          (kind_says pool sound f.group v k f.kind is s)
      by true is_map =
          let e = entry_kind pool k f.kind is (entry_of_map pool f is_map) in
          let made = subst (λ k. IsSaid k o v) e.1 s in
          subst (λ a. Says w o a (content_view v)) (sym (map_wanted d sound decoded t owns e.0 e.3 is_map))
          (subst (Says w o (of_message (shape_of w (name_at pool e.0.index)))) (sym (message_content made.0 v made.2))
          (message_says e.0 (subst IsSound (sym e.2) sound) pool e.2 made.0 made.1))

    -- by the names that the schema has of the type
    pub target_says : Says w o (wanted_of w (w.names (name_at pool d.index)) f.number (target_field d t).part (target_field d t).label) (content_view v)
    target_says =
        subst (λ i. Says w o (wanted i) (content_view v))
        (sym (found_at pool.messages d.index d.in_range (λ j less e. sound.names d.index j d.in_range less e))) by_place
