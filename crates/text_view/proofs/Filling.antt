-- A text that fills a message gives what is then seen of it, and one that is unfit gives nothing.
use Rattle.std.proofs.Common.{◌≡◌, inl, inr, ◌<◌, List, [], ◌∷◌, map, length, Option, Some, None, option_map, option_and_then, refl, sym, ap, ◌∙◌, subst}
use Rattle.std.specs.List.{AllByRecursion}
use Rattle.protox_lex.specs.Class.{Text}
use Rattle.protobuf_model.specs.Types.{Name}
use Rattle.protobuf_model.specs.Values.{Content, single, message, Message, nothing}
use Rattle.reflect_tables.specs.Types.{PoolType}
use Rattle.reflect_pool.specs.declared.kind.Kind.{Kind}
use Rattle.reflect_pool.specs.declared.kind.Kind.TheVariants as publics
use Rattle.reflect_pool.specs.declared.message.MessageDescriptor.{MessageDescriptor}
use Rattle.reflect_message.specs.Oneofs.{IsExclusive}
use Rattle.reflect_message.specs.Names.{DynamicMessage}
use Rattle.reflect_message.specs.Names as held
use Rattle.reflect_message.specs.declared.value.ValueOf.TheVariants as held_values
use Rattle.reflect_format.specs.Filled.{AreValues, Fills, IsMade, IsScalar, IsValue, Makes}
use Rattle.reflect_format.specs.Unfit.{AreUnfitValues, CannotMake, IsUnfitValue, NoMessage, Unfit}
use Rattle.reflect_format.specs.Kinds.{scalar_given}
use Rattle.text_model.specs.Schemas.{Schema, shape_of}
use Rattle.text_model.specs.Tree.{ScalarValue, Value, scalar, braced, Values, no_values, more_values, Given, one_scalar, one_message, listed, Fields, no_fields, more_fields}
use Rattle.text_model.specs.Value.{Wanted, message_content, scalar_content, value, value_content, values_contents}
use Rattle.text_model.proofs.Merging.{same_message}
use Rattle.message_view.specs.Types.{name_at}
use Rattle.message_view.specs.Views.{content_view, view}
use Rattle.message_view.proofs.Seen.{message_seen}
use Rattle.text_view.specs.Holds.{HoldsKinds}
use Rattle.message_view.specs.Sound.{IsSound}
use Rattle.text_view.specs.Schemas.{schema_of, shape_at}
use Rattle.text_view.proofs.Given.{IsPooled, Wants, message_told, none_then}
use Rattle.text_view.proofs.Kept.{blank_exclusive, blank_kinds, blank_view}
use Rattle.text_view.proofs.Puts.{message_is}
use Rattle.text_view.proofs.Refusing.{GivenUnfit, refused_at}
use Rattle.text_view.proofs.Scalars.{content_is}
use Rattle.text_view.proofs.Shapes.{shape_is}
use Rattle.text_view.proofs.Stepping.{GivenKnown, IsGood, step_at}

good_scalar : (k : Kind) (s : ScalarValue) (x : held.Value) → IsScalar k s x → IsGood k x
good_scalar (publics.Message d) s x h = absurd (cc h.1)
good_scalar k s x h = (s, h)

module _ (decoded : Name → Text → Option Message) (pool : PoolType) (sound : IsSound pool) where
  abbrev w : Schema
  w = schema_of pool decoded

  -- the type of a name is that at its place
  shape_at_place : (d : MessageDescriptor) → d.pool.now ≡ pool → shape_of w (name_at pool d.index) ≡ shape_at pool d.index
  shape_at_place d at = shape_is pool sound.names decoded d.index (subst (λ (p : PoolType). d.index < length p.messages) at d.in_range)

  -- fields fill a message as the model says
  abbrev FieldsKnown : Fields → Type 0
  FieldsKnown fs =
      (old new : DynamicMessage) → old.descriptor.pool.now ≡ pool → IsExclusive old → HoldsKinds old → Fills fs old new
      → (value w (shape_at pool old.descriptor.index) fs (view old) ≡ Some (view new)) × (new.descriptor ≡ old.descriptor) × IsExclusive new × HoldsKinds new

  made_known : (fs : Fields) → FieldsKnown fs → (d : MessageDescriptor) (m : DynamicMessage) → d.pool.now ≡ pool → Makes d (Fills fs) m
      → (value w (shape_at pool d.index) fs nothing ≡ Some (view m)) × (m.descriptor ≡ d) × HoldsKinds m
  made_known fs known d m at (blank, of, empty, fills) =
      let all = known blank m (ap (λ (c : MessageDescriptor). c.pool.now) of ∙ at) (blank_exclusive blank empty) (blank_kinds blank empty) fills in (
        ap (λ (c : MessageDescriptor). value w (shape_at pool c.index) fs nothing) (sym of)
            ∙ ap (value w (shape_at pool blank.descriptor.index) fs) (sym (blank_view blank empty)) ∙ all.0,
        all.1 ∙ of,
        all.3,
      )

  scalar_known : (k : Kind) (a : Wanted) → Wants pool w k a → (s : ScalarValue) (x : held.Value) → IsScalar k s x → (scalar_content a s ≡ Some (content_view x)) × IsGood k x
  scalar_known k a wants s x h = (wants.told s ∙ ap (option_map single) h.1 ∙ ap Some (sym (content_is x h.0 h.2)), good_scalar k s x h)

  message_known : (fs : Fields) → FieldsKnown fs → (k : Kind) (a : Wanted) → Wants pool w k a → (x : held.Value) → IsMade k (Fills fs) x
      → (message_content a (λ s. value w s fs nothing) ≡ Some (content_view x)) × IsGood k x
  message_known fs known k a wants x (d, m, is, makes, is_message) =
      let made = made_known fs known d m (subst (IsPooled pool) is wants.pooled) makes in (
        wants.braced fs ∙ ap (λ k. message_told w pool k fs) is ∙ ap (option_map message) made.0
            ∙ ap Some (sym (ap content_view is_message ∙ message_seen (held_values.Message m) m (message_is m))),
        subst (λ k. IsGood k x) (sym is) (m, is_message, made.1, made.2),
      )

  alone_known : (o : Option Content) (k : Kind) (x : held.Value) → (o ≡ Some (content_view x)) × IsGood k x → (vs : List held.Value) → vs ≡ x ∷ []
      → (option_map (λ c. c ∷ []) o ≡ Some (map content_view vs)) × AllByRecursion (IsGood k) vs
  alone_known o k x h vs is =
      (ap (option_map (λ c. c ∷ [])) h.0 ∙ ap (λ us. Some (map content_view us)) (sym is), subst (AllByRecursion (IsGood k)) (sym is) (h.1, tt))

  mutual
    fields_known : (fs : Fields) → FieldsKnown fs
    fields_known no_fields old new at exclusive kinds e = (
      ap (λ m. Some (view m)) (sym e),
      ap (λ (m : DynamicMessage). m.descriptor) e,
      subst IsExclusive (sym e) exclusive,
      subst HoldsKinds (sym e) kinds,
    )
    fields_known (more_fields name g sep fs) old new at exclusive kinds (next, same, names, rest) =
        let one = step_at decoded old next same exclusive kinds name g names pool at sound (given_known g) in
        let more = fields_known fs next new (ap (λ (c : MessageDescriptor). c.pool.now) same ∙ at) one.1 one.2 rest in (
          ap (option_and_then (value w (shape_at pool old.descriptor.index) fs)) one.0
              ∙ ap (λ (c : MessageDescriptor). value w (shape_at pool c.index) fs (view next)) (sym same) ∙ more.0,
          more.1 ∙ same,
          more.2,
          more.3,
        )

    pub given_known : (g : Given) → GivenKnown decoded pool g
    given_known (one_scalar s) = record {
      one = λ k a wants x h. scalar_known k a wants s x h;
      all = λ k a wants vs h. alone_known (scalar_content a s) k h.0 (scalar_known k a wants s h.0 h.1) vs h.2;
      body = λ d m at h. absurd h.3;
    }
    given_known (one_message c b fs) = record {
      one = λ k a wants x h. message_known fs (fields_known fs) k a wants x h;
      all = λ k a wants vs h. alone_known (message_content a (λ s. value w s fs nothing)) k h.0 (message_known fs (fields_known fs) k a wants h.0 h.1) vs h.2;
      body = λ d m at h. ap (λ s. value w s fs nothing) (shape_at_place d at) ∙ (made_known fs (fields_known fs) d m at h).0;
    }
    given_known (listed vs) = record {
      one = λ k a wants x h. absurd h;
      all = λ k a wants xs h. values_known vs k a wants xs h;
      body = λ d m at h. absurd h.3;
    }

    value_known : (v : Value) → (k : Kind) (a : Wanted) → Wants pool w k a → (x : held.Value) → IsValue v k x → (value_content w a v ≡ Some (content_view x)) × IsGood k x
    value_known (scalar s) k a wants x h = scalar_known k a wants s x h
    value_known (braced b fs) k a wants x h = message_known fs (fields_known fs) k a wants x h

    values_known : (vs : Values) → (k : Kind) (a : Wanted) → Wants pool w k a → (xs : List held.Value) → AreValues vs k xs
        → (values_contents w a vs ≡ Some (map content_view xs)) × AllByRecursion (IsGood k) xs
    values_known no_values k a wants xs h = (ap (λ us. Some (map content_view us)) (sym h), subst (AllByRecursion (IsGood k)) (sym h) tt)
    values_known (more_values v vs) k a wants xs (x, others, is, one, more) =
        let first = value_known v k a wants x one in
        let rest = values_known vs k a wants others more in (
          ap (option_and_then (λ c. option_map (λ cs. c ∷ cs) (values_contents w a vs))) first.0
              ∙ ap (option_map (λ cs. content_view x ∷ cs)) rest.0
              ∙ ap (λ us. Some (map content_view us)) (sym is),
          subst (AllByRecursion (IsGood k)) (sym is) (first.1, rest.1),
        )

  -- ---- fields that do not suit

  abbrev FieldsUnfit : Fields → Type 0
  FieldsUnfit fs = (m : DynamicMessage) → m.descriptor.pool.now ≡ pool → IsExclusive m → HoldsKinds m → Unfit fs m → value w (shape_at pool m.descriptor.index) fs (view m) ≡ None

  unmade : (fs : Fields) → FieldsUnfit fs → (d : MessageDescriptor) → d.pool.now ≡ pool → CannotMake d (Unfit fs) → value w (shape_at pool d.index) fs nothing ≡ None
  unmade fs unfit d at (blank, of, empty, bad) =
      ap (λ (c : MessageDescriptor). value w (shape_at pool c.index) fs nothing) (sym of)
      ∙ ap (value w (shape_at pool blank.descriptor.index) fs) (sym (blank_view blank empty))
      ∙ unfit blank (ap (λ (c : MessageDescriptor). c.pool.now) of ∙ at) (blank_exclusive blank empty) (blank_kinds blank empty) bad

  scalar_unfit : (k : Kind) (a : Wanted) → Wants pool w k a → (s : ScalarValue) → scalar_given k s ≡ None → scalar_content a s ≡ None
  scalar_unfit k a wants s h = wants.told s ∙ ap (option_map single) h

  message_unfit : (fs : Fields) → FieldsUnfit fs → (k : Kind) (a : Wanted) → Wants pool w k a → NoMessage k (Unfit fs) → message_content a (λ s. value w s fs nothing) ≡ None
  message_unfit fs unfit k a wants h = wants.braced fs ∙ by k wants.pooled h where
    by : (k : Kind) → IsPooled pool k → NoMessage k (Unfit fs) → message_told w pool k fs ≡ None
    by (publics.Message d) at bad = ap (option_map message) (unmade fs unfit d at bad)
    by k at bad = refl

  mutual
    fields_unfit : (fs : Fields) → FieldsUnfit fs
    fields_unfit no_fields m at exclusive kinds h = absurd h
    fields_unfit (more_fields name g sep fs) m at exclusive kinds (inl h) =
        ap (option_and_then (value w (shape_at pool m.descriptor.index) fs)) (refused_at decoded m kinds name g h pool at sound (given_unfit g))
    fields_unfit (more_fields name g sep fs) m at exclusive kinds (inr (next, (same, names), bad)) =
        let one = step_at decoded m next same exclusive kinds name g names pool at sound (given_known g) in
        ap (option_and_then (value w (shape_at pool m.descriptor.index) fs)) one.0
        ∙ ap (λ (c : MessageDescriptor). value w (shape_at pool c.index) fs (view next)) (sym same)
        ∙ fields_unfit fs next (ap (λ (c : MessageDescriptor). c.pool.now) same ∙ at) one.1 one.2 bad

    given_unfit : (g : Given) → GivenUnfit decoded pool g
    given_unfit (one_scalar s) = record {
      one = λ k a wants h. scalar_unfit k a wants s h;
      all = λ k a wants h. ap (option_map (λ c. c ∷ [])) (scalar_unfit k a wants s h);
      body = λ d at h. refl;
    }
    given_unfit (one_message c b fs) = record {
      one = λ k a wants h. message_unfit fs (fields_unfit fs) k a wants h;
      all = λ k a wants h. ap (option_map (λ c. c ∷ [])) (message_unfit fs (fields_unfit fs) k a wants h);
      body = λ d at h. ap (λ s. value w s fs nothing) (shape_at_place d at) ∙ unmade fs (fields_unfit fs) d at h;
    }
    given_unfit (listed vs) = record {
      one = λ k a wants h. refl;
      all = λ k a wants h. values_unfit vs k a wants h;
      body = λ d at h. refl;
    }

    value_unfit : (v : Value) → (k : Kind) (a : Wanted) → Wants pool w k a → IsUnfitValue v k → value_content w a v ≡ None
    value_unfit (scalar s) k a wants h = scalar_unfit k a wants s h
    value_unfit (braced b fs) k a wants h = message_unfit fs (fields_unfit fs) k a wants h

    values_unfit : (vs : Values) → (k : Kind) (a : Wanted) → Wants pool w k a → AreUnfitValues vs k → values_contents w a vs ≡ None
    values_unfit no_values k a wants h = absurd h
    values_unfit (more_values v vs) k a wants (inl h) = ap (option_and_then (λ c. option_map (λ cs. c ∷ cs) (values_contents w a vs))) (value_unfit v k a wants h)
    values_unfit (more_values v vs) k a wants (inr h) =
        let rest = values_unfit vs k a wants h in
        none_then (value_content w a v) (λ c. option_map (λ cs. c ∷ cs) (values_contents w a vs)) (λ c. ap (option_map (λ cs. c ∷ cs)) rest)

-- ---- whole texts, by the type of the message

abbrev given : (Name → Text → Option Message) → DynamicMessage → Fields → Option Message
given decoded old fs = value (schema_of old.descriptor.pool.now decoded) (shape_at old.descriptor.pool.now old.descriptor.index) fs (view old)

pub filled : (decoded : Name → Text → Option Message) (old new : DynamicMessage) → IsSound old.descriptor.pool.now → IsExclusive old → HoldsKinds old → (fs : Fields) → Fills fs old new
    → given decoded old fs ≡ Some (view new)
filled decoded old new sound exclusive kinds fs h =
    (fields_known decoded old.descriptor.pool.now sound fs old new refl exclusive kinds h).0

pub unfilled : (decoded : Name → Text → Option Message) (old : DynamicMessage) → IsSound old.descriptor.pool.now → IsExclusive old → HoldsKinds old → (fs : Fields) → Unfit fs old
    → given decoded old fs ≡ None
unfilled decoded old sound exclusive kinds fs h =
    fields_unfit decoded old.descriptor.pool.now sound fs old refl exclusive kinds h

abbrev pub no_bytes : Name → Text → Option Message
no_bytes t bytes = None

pub apart : (old new : DynamicMessage) → IsSound old.descriptor.pool.now → IsExclusive old → HoldsKinds old → (fs : Fields) → Fills fs old new → Unfit fs old → ⊥
apart old new sound exclusive kinds fs h u =
    cc (sym (filled no_bytes old new sound exclusive kinds fs h) ∙ unfilled no_bytes old sound exclusive kinds fs u)

pub one_way : (old a b : DynamicMessage) → IsSound old.descriptor.pool.now → IsExclusive old → HoldsKinds old → (fs : Fields) → Fills fs old a → Fills fs old b → view a ≡ view b
one_way old a b sound exclusive kinds fs h k =
    same_message (view a) (view b) (sym (filled no_bytes old a sound exclusive kinds fs h) ∙ filled no_bytes old b sound exclusive kinds fs k)

pub stays_so : (old new : DynamicMessage) → IsSound old.descriptor.pool.now → IsExclusive old → HoldsKinds old → (fs : Fields) → Fills fs old new → IsExclusive new × HoldsKinds new
stays_so old new sound exclusive kinds fs h =
    let all = fields_known no_bytes old.descriptor.pool.now sound fs old new refl exclusive kinds h in (all.2, all.3)
