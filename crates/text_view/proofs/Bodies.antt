-- Messages that texts fill are in shape, and those that texts make are written in the one form of
-- their type.
use Rattle.std.proofs.Common.{◌≡◌, ◌⊎◌, inl, inr, ℕ, zero, suc, ◌≤◌, max, Bool, true, false, List, [], ◌∷◌, ◌++◌, Some, unwrap_or, refl, sym, ap, ◌∙◌, subst, arith}
use Rattle.std.specs.List.{AllByRecursion}
use Rattle.std.specs.Prelude.{IfSome}
use Rattle.protox_lex.specs.Class.{Text}
use Rattle.protobuf_model.specs.Bytes.{bytes_of}
use Rattle.protobuf_model.specs.Values.{Single, text, blob}
use Rattle.reflect_tables.specs.Types.{PoolType, FieldType, KindType}
use Rattle.reflect_tables.specs.Types as types
use Rattle.reflect_pool.specs.FieldsLeft.{field_type}
use Rattle.reflect_pool.specs.Kinds.{IsKind}
use Rattle.reflect_pool.specs.Shapes.{holds_list, holds_map}
use Rattle.reflect_pool.specs.declared.kind.Kind.{Kind}
use Rattle.reflect_pool.specs.declared.kind.Kind.TheVariants as publics
use Rattle.reflect_pool.specs.declared.message.MessageDescriptor.{MessageDescriptor}
use Rattle.reflect_any.specs.Any.{IsLone}
use Rattle.reflect_extend.specs.Puts.{PutsAll}
use Rattle.reflect_scalar.specs.FieldTypes.{extension_type}
use Rattle.reflect_scalar.specs.declared.map_key.MapKey.{MapKey}
use Rattle.reflect_message.specs.Bytes.{message_bytes}
use Rattle.reflect_message.specs.Contents.{content_of, nothing}
use Rattle.reflect_message.specs.Held.{unknown_of}
use Rattle.reflect_message.specs.KindTypes.{IsMessageType}
use Rattle.reflect_message.specs.Known.{holds_floats, numbered_field}
use Rattle.reflect_message.specs.Lists.{items_held}
use Rattle.reflect_message.specs.Names.{DynamicMessage}
use Rattle.reflect_message.specs.Oneofs.{IsExclusive}
use Rattle.reflect_message.specs.Names as held
use Rattle.reflect_message.specs.declared.value.ValueOf.TheVariants as held_values
use Rattle.reflect_format.specs.Filled.{AreGiven, AreValues, Assigns, Fills, FillsBody, PutsIntoAny, IsGiven, IsMade, IsScalar, IsValue, Makes, Names, PutsOne}
use Rattle.reflect_format.specs.Steps.{Ascends, AddsValues, Puts, SetsNumber, held_by}
use Rattle.reflect_format.specs.Takes.{holds_many, target_pool, target_type}
use Rattle.reflect_format.specs.declared.target.Target.{Target}
use Rattle.reflect_format.specs.declared.target.Target.TheVariants as targets
use Rattle.text_model.specs.Tokens.{given_braces, open_braces, value_braces, values_braces}
use Rattle.text_model.specs.Tree.{FieldName, plain, extension, expansion, ScalarValue, Value, scalar, braced, Values, no_values, more_values, Given, one_scalar, one_message, listed, Fields, no_fields, more_fields}
use Rattle.text_model.specs.Value.{written}
use Rattle.message_view.specs.Types.{name_at, types_of}
use Rattle.message_view.specs.Views.{view}
use Rattle.message_view.proofs.Arranging.{shaped_bytes}
use Rattle.message_view.proofs.Changed.{nothing_shaped}
use Rattle.message_view.proofs.Deeper.{one_level, whole_shape}
use Rattle.message_view.proofs.Entries.{entry_of_map}
use Rattle.message_view.proofs.Fields.{owned, extension_owned}
use Rattle.message_view.proofs.Sound.{named}
use Rattle.message_view.specs.Shaped.{FitsShaped, FitsOne, HasShape, IsShaped, Shaped}
use Rattle.message_view.specs.Sound.{IsSound}
use Rattle.text_view.proofs.Adds.{list_of_many}
use Rattle.text_view.proofs.Apart.{no_field_there}
use Rattle.text_view.proofs.Expanded.{IsWhole, its_lone, number_owns}
use Rattle.text_view.proofs.Given.{IsPooled, entry_kind, kind_pooled}
use Rattle.text_view.proofs.Kept.{add_leaves, blank_exclusive, many_list, many_map, put_leaves}
use Rattle.text_view.proofs.MapShapes.{AllValues, entries_fit, map_after}
use Rattle.text_view.proofs.Once.{one_of, put_here, second}
use Rattle.text_view.proofs.Owned.{OwnsTarget, named_target, pool_is, target_whole}
use Rattle.text_view.proofs.Set.{singled}
use Rattle.text_view.proofs.Shaped.{IsFit, IsShapely, blank_shapely, fit_all, fit_one, fits_single, list_after, list_before, shape_kept, shaped, shapely, target_number}
use Rattle.text_view.proofs.Steady.{stays}

-- a message of so many levels at most below it, by what it holds and as one more level sees it
abbrev pub Both : Bool → ℕ → DynamicMessage → Type 0
Both e l m = HasShape e l m × IsShapely (HasShape e l) m.descriptor.pool.now m.descriptor.index (content_of m)

first_fit : (e : Bool) (l : ℕ) (k : Kind) (v : held.Value) → IsFit (Both e l) k v → IsFit (HasShape e l) k v
first_fit e l (publics.Message d) v h = (h.0, h.1, h.2, h.3.0)
first_fit e l k v h = h

first_fits : (e : Bool) (l : ℕ) (k : Kind) (vs : List held.Value) → AllByRecursion (IsFit (Both e l) k) vs → AllByRecursion (IsFit (HasShape e l) k) vs
first_fits e l k [] h = tt
first_fits e l k (v ∷ vs) h = (first_fit e l k v h.0, first_fits e l k vs h.1)

pub ascends : (inner : DynamicMessage → Type 0) (pool : PoolType) (i : ℕ) (m : DynamicMessage) → IsShapely inner pool i (content_of m) → Ascends m
ascends inner pool i m h = (h.in_fields.ascending, h.in_extensions.ascending)

-- a message of some level in which nothing is set
blank_level : (e : Bool) (l : ℕ) (n : DynamicMessage) → HasShape e l n → (m : DynamicMessage) → content_of m ≡ nothing → HasShape e l m
blank_level true zero n some m empty = absurd some
blank_level false zero n some m empty = absurd some
blank_level e (suc l) n some m empty = nothing_shaped e l m empty

-- what is known of what is given, with so many braces open in it at most
pub record GivenShaped (e : Bool) (pool : PoolType) (l : ℕ) (g : Given) : Type 0 where
  pub one : (k : Kind) (v : held.Value) → IsPooled pool k → IsGiven g k v → IsFit (Both e l) k v
  pub all : (k : Kind) (vs : List held.Value) → IsPooled pool k → AreGiven g k vs → AllByRecursion (IsFit (Both e l) k) vs

-- what a step leaves in shape, and of each oneof one member at most where it was so
abbrev pub Keeps : (DynamicMessage → Type 0) → PoolType → ℕ → DynamicMessage → DynamicMessage → Type 0
Keeps inner pool i old new = IsShapely inner pool i (content_of new) × (IsExclusive old → IsExclusive new)

-- a string or bytes that are put under a number
pub number_shape : (inner : DynamicMessage → Type 0) (old new : DynamicMessage) (sound : IsSound old.descriptor.pool.now) (n : ℕ) (x : Single) (kind : KindType) → IsWhole kind → (IsMessageType kind → ⊥) → SetsNumber n x old new
    → IsLone old.descriptor.pool.now old.descriptor.index kind (numbered_field old.descriptor.pool.now old.descriptor.index n)
    → IsShapely inner old.descriptor.pool.now old.descriptor.index (content_of old) → Keeps inner old.descriptor.pool.now old.descriptor.index old new
number_shape inner old new sound n x kind whole no_message sets lone h =
    let d = old.descriptor in
    let pool = d.pool.now in
    let f = sets.0 in
    let t : Target = targets.Field sets.0 in
    let owns = number_owns old new sound.apart n x kind whole sets lone in
    let alone = its_lone old new sound.apart n x kind whole sets lone in
    let order = sets.7 (ascends inner pool d.index old h) in
    let one : FitsOne inner pool (field_type f) sets.1 = record {
      plain = λ type. let w = singled sets.1 x sets.4 in (w.0, w.1);
      nested = λ type. absurd (no_message (subst IsMessageType alone.0 type));
    } in
    let here = fits_single inner pool (field_type f) sets.1 alone.1.1 alone.1.0 one in (
      shape_kept inner d sound.apart t owns (target_number d sound.numbers t owns) old new (put_leaves t sets.1 old new sets.5) sets.5.unknown order.0 order.1
          (λ v at. subst (FitsShaped inner pool (field_type f)) (ap (λ o. unwrap_or o v) (sym sets.5.here ∙ at)) here) h,
      stays t old new owns sets.6,
    )

-- the values of the entries that are put into a map
pub entry_values : (pool : PoolType) (c : MessageDescriptor) → c.pool.now ≡ pool → (f : FieldType) → f.kind ≡ types.message c.index → IsSound pool → holds_map pool f ≡ true → holds_floats pool f ≡ false → (e : Bool) (l : ℕ) (vs : List held.Value)
    → AllByRecursion (IsFit (Both e l) (publics.Message c)) vs → (before after : List (MapKey × held.Value)) → AllValues (HasShape e l) pool f.kind before → PutsAll before after vs → AllValues (HasShape e l) pool f.kind after
entry_values pool c at f kind sound is_map whole e l vs all = subst (λ (p : PoolType). IsSound p → holds_map p f ≡ true → holds_floats p f ≡ false
    → (before after : List (MapKey × held.Value)) → AllValues (HasShape e l) p f.kind before → PutsAll before after vs → AllValues (HasShape e l) p f.kind after) at (base vs all) sound is_map whole where
      made : (vs : List held.Value) → AllByRecursion (IsFit (Both e l) (publics.Message c)) vs → AllByRecursion (λ v. (m : DynamicMessage) × (v ≡ held_values.Message m) × (m.descriptor ≡ c) × IsShapely (HasShape e l) c.pool.now c.index (content_of m)) vs
      made [] h = tt
      made (v ∷ vs) h =
          ((h.0.0, h.0.1, h.0.2, subst (λ (d : MessageDescriptor). IsShapely (HasShape e l) d.pool.now d.index (content_of h.0.0)) h.0.2 h.0.3.1), made vs h.1)

      base : (vs : List held.Value) → AllByRecursion (IsFit (Both e l) (publics.Message c)) vs → IsSound c.pool.now → holds_map c.pool.now f ≡ true → holds_floats c.pool.now f ≡ false
          → (before after : List (MapKey × held.Value)) → AllValues (HasShape e l) c.pool.now f.kind before → PutsAll before after vs → AllValues (HasShape e l) c.pool.now f.kind after
      base [] h sound is_map whole before after values puts = subst (AllValues (HasShape e l) c.pool.now f.kind) (sym puts) values
      base (v ∷ vs) h sound is_map whole before after values puts =
          entries_fit (HasShape e l) (blank_level e l h.0.0 h.0.3.0) c f kind sound is_map whole (v ∷ vs) (made (v ∷ vs) h) before after values puts

module _ (old next : DynamicMessage) (same : next.descriptor ≡ old.descriptor) (sound : IsSound old.descriptor.pool.now) (e : Bool) (l : ℕ) (g : Given) (known : GivenShaped e old.descriptor.pool.now l g)
    (shape : IsShapely (HasShape e l) old.descriptor.pool.now old.descriptor.index (content_of old)) where
  abbrev d : MessageDescriptor
  d = old.descriptor

  abbrev pool : PoolType
  pool = old.descriptor.pool.now

  abbrev After : Type 0
  After = Keeps (HasShape e l) pool d.index old next

  -- what a target holds before
  pub stood : (t : Target) → OwnsTarget d t → (v : held.Value) → held_by old t ≡ Some v → FitsShaped (HasShape e l) pool (target_type t) v
  stood (targets.Field f) owns v at = shape.field (field_type f).number (field_type f) (owned d f owns) v at
  stood (targets.Extension x) owns v at =
      shape.extension (extension_type x).number (extension_type x) (no_field_there d sound.apart x owns) (extension_owned d x owns) v at

  one_shape : (t : Target) → OwnsTarget d t → (k : Kind) → IsKind pool k (target_type t).kind → (v : held.Value) → IsGiven g k v → PutsOne t v old next → After
  one_shape t owns k kind v given puts =
      let none = one_of d sound.apart t owns puts.one in
      let order = puts.ascending (ascends (HasShape e l) pool d.index old shape) in
      let one = fit_one (HasShape e l) pool k (target_type t) v kind (first_fit e l k v (known.one k v (kind_pooled pool k (target_type t).kind kind) given)) in
      let here = fits_single (HasShape e l) pool (target_type t) v none.0 none.1 one in (
        shape_kept (HasShape e l) d sound.apart t owns (target_number d sound.numbers t owns) old next (put_leaves t v old next puts.put) (unknown t puts.put) order.0 order.1
            (λ u at. subst (FitsShaped (HasShape e l) pool (target_type t)) (ap (λ o. unwrap_or o u) (sym (put_here t v old next puts.put) ∙ at)) here) shape,
        stays t old next owns puts.exclusive,
      ) where
        unknown : (t : Target) → Puts t v old next → unknown_of next ≡ unknown_of old
        unknown (targets.Field f) p = p.unknown
        unknown (targets.Extension x) p = p.unknown

  added_unknown : (t : Target) (vs : List held.Value) → AddsValues t vs old next → unknown_of next ≡ unknown_of old
  added_unknown (targets.Field f) vs adds = adds.0.2
  added_unknown (targets.Extension x) vs adds = adds.0.2

  list_shape : (t : Target) → OwnsTarget d t → holds_list pool (target_type t) ≡ true → (k : Kind) → IsKind pool k (target_type t).kind → (vs : List held.Value) → AreGiven g k vs → AddsValues t vs old next → After
  list_shape t owns is_list k kind vs given adds =
      let two = list_of_many pool (target_type t) is_list in
      let order = adds.4 (ascends (HasShape e l) pool d.index old shape) in
      let all = fit_all (HasShape e l) pool k (target_type t) vs kind (first_fits e l k vs (known.all k vs (kind_pooled pool k (target_type t).kind kind) given)) in
      let its_list = subst (λ p. holds_list p (target_type t) ≡ true) (sym (pool_is d sound.apart t owns)) is_list in
      let before = list_before (HasShape e l) pool (target_type t) two.1 is_list (held_by old t) (stood t owns) in
      let after = subst (λ o. IfSome o (λ b. items_held (held_by next t) ≡ Some (b ++ vs))) before.1 (adds.1 its_list) in (
        shape_kept (HasShape e l) d sound.apart t owns (target_number d sound.numbers t owns) old next (add_leaves t old next adds.0 (adds.5 (many_list t its_list))) (added_unknown t vs adds) order.0 order.1
            (list_after (HasShape e l) pool (target_type t) two.1 is_list (held_by old t) (held_by next t) before.0 vs (stood t owns) before.1 after all) shape,
        stays t old next owns adds.3,
      )

  map_shape : (t : Target) → OwnsTarget d t → holds_map pool (target_type t) ≡ true → (k : Kind) → IsKind pool k (target_type t).kind → (vs : List held.Value) → AreGiven g k vs → AddsValues t vs old next → After
  map_shape t owns is_map k kind vs given adds =
      let f = target_type t in
      let order = adds.4 (ascends (HasShape e l) pool d.index old shape) in
      let entry = entry_kind pool k f.kind kind (entry_of_map pool f is_map) in
      let all = subst (λ k. AllByRecursion (IsFit (Both e l) k) vs) entry.1 (known.all k vs (kind_pooled pool k f.kind kind) given) in
      let its_map = subst (λ p. holds_map p f ≡ true) (sym (pool_is d sound.apart t owns)) is_map in (
        shape_kept (HasShape e l) d sound.apart t owns (target_number d sound.numbers t owns) old next (add_leaves t old next adds.0 (adds.5 (many_map t its_map))) (added_unknown t vs adds) order.0 order.1
            (map_after (HasShape e l) pool f is_map (held_by old t) (held_by next t) vs (stood t owns) (adds.2 its_map)
            (entry_values pool entry.0 entry.2 f entry.3 sound is_map (target_whole d sound.apart t owns) e l vs all)) shape,
        stays t old next owns adds.3,
      )

  target_shape : (t : Target) → OwnsTarget d t → Assigns t (IsGiven g) (AreGiven g) old next → After
  target_shape t owns (k, is, choice) = by choice where
    pool_now : target_pool t ≡ pool
    pool_now = pool_is d sound.apart t owns

    kind : IsKind pool k (target_type t).kind
    kind = subst (λ p. IsKind p k (target_type t).kind) pool_now is

    by : ((v : held.Value) × IsGiven g k v × PutsOne t v old next) ⊎ ((vs : List held.Value) × (holds_many t ≡ true) × AreGiven g k vs × AddsValues t vs old next) → After
    by (inl (v, given, puts)) = one_shape t owns k kind v given puts
    by (inr (vs, of_many, given, adds)) = with (holds_map pool (target_type t)) refl where
      with : (b : Bool) → holds_map pool (target_type t) ≡ b → After
      with true is_map = map_shape t owns is_map k kind vs given adds
      with false no_map =
          let is_list = second (holds_list (target_pool t) (target_type t)) (holds_map (target_pool t) (target_type t)) of_many (ap (λ p. holds_map p (target_type t)) pool_now ∙ no_map) in
          list_shape t owns (subst (λ p. holds_list p (target_type t) ≡ true) pool_now is_list) k kind vs given adds

  held_shape : (url : Text) (body : DynamicMessage) → PutsIntoAny url body old next → After
  held_shape url body (any, between, first, later, typed, short) =
      let one = number_shape (HasShape e l) old between sound 1 (text url) types.string ((λ h. h), λ p h. h) (λ h. h) first any.1 shape in
      let its_shape = subst (λ (c : MessageDescriptor). IsShapely (HasShape e l) c.pool.now c.index (content_of between)) (sym typed) one.0 in
      let its_sound = subst (λ (c : MessageDescriptor). IsSound c.pool.now) (sym typed) sound in
      let lone = subst (λ (c : MessageDescriptor). IsLone c.pool.now c.index types.bytes (numbered_field c.pool.now c.index 2)) (sym typed) any.2 in
      let two = number_shape (HasShape e l) between next its_sound 2 (blob (message_bytes body)) types.bytes ((λ h. h), λ p h. h) (λ h. h) later lone its_shape in
      (subst (λ (c : MessageDescriptor). IsShapely (HasShape e l) c.pool.now c.index (content_of next)) typed two.0, λ h. two.1 (one.1 h))

  name_shape : (name : FieldName) → Names name (IsGiven g) (AreGiven g) (FillsBody g) old next → After
  name_shape (plain v) (t, name, assigns) = target_shape t (named_target d sound.apart v t (inl name)) assigns
  name_shape (extension v) (t, name, assigns) = target_shape t (named_target d sound.apart (written v) t (inr name)) assigns
  name_shape (expansion domain v) h = held_shape _ h.1 h.5

shape_at : (old next : DynamicMessage) → next.descriptor ≡ old.descriptor → (e : Bool) (l : ℕ) (name : FieldName) (g : Given) → Names name (IsGiven g) (AreGiven g) (FillsBody g) old next
    → (q : PoolType) → old.descriptor.pool.now ≡ q → IsSound q → GivenShaped e q l g → IsShapely (HasShape e l) q old.descriptor.index (content_of old) → Keeps (HasShape e l) q old.descriptor.index old next
shape_at old next same e l name g names q at = subst (λ (p : PoolType). IsSound p → GivenShaped e p l g → IsShapely (HasShape e l) p old.descriptor.index (content_of old) → Keeps (HasShape e l) p old.descriptor.index old next) at
    (λ sound known shape. name_shape old next same sound e l g known shape name names)

-- the type of a message stays
pub fills_type : (fs : Fields) (old new : DynamicMessage) → Fills fs old new → new.descriptor ≡ old.descriptor
fills_type no_fields old new e = ap (λ (m : DynamicMessage). m.descriptor) e
fills_type (more_fields name g s fs) old new h = fills_type fs h.0 new h.3 ∙ h.1

pub max_left : (a b l : ℕ) → max a b ≤ l → a ≤ l
max_left a b l le = omega (arith, le)

max_right : (a b l : ℕ) → max a b ≤ l → b ≤ l
max_right a b l le = omega (arith, le)

module _ (e : Bool) (q : PoolType) (sound : IsSound q) where
  abbrev FieldsShaped : Fields → Type 0
  FieldsShaped fs =
      (l : ℕ) → open_braces fs ≤ l → (old new : DynamicMessage) → old.descriptor.pool.now ≡ q → IsShapely (HasShape e l) q old.descriptor.index (content_of old) → Fills fs old new
      → Keeps (HasShape e l) q old.descriptor.index old new

  made_shape : (fs : Fields) → FieldsShaped fs → (d : MessageDescriptor) (m : DynamicMessage) → d.pool.now ≡ q → Makes d (Fills fs) m → (l : ℕ) → open_braces fs ≤ l
      → (m.descriptor ≡ d) × IsShapely (HasShape e l) m.descriptor.pool.now m.descriptor.index (content_of m) × IsExclusive m
  made_shape fs known d m at (blank, of, empty, fills) l le =
      let its = ap (λ (c : MessageDescriptor). c.pool.now) of ∙ at in
      let same = fills_type fs blank m fills in
      let shape = known l le blank m its (blank_shapely (HasShape e l) q blank.descriptor.index (content_of blank) empty) fills in (
        same ∙ of,
        subst (λ (c : MessageDescriptor). IsShapely (HasShape e l) c.pool.now c.index (content_of m)) (sym same) (subst (λ p. IsShapely (HasShape e l) p blank.descriptor.index (content_of m)) (sym its) shape.0),
        shape.1 (blank_exclusive blank empty),
      )

  message_shape : (fs : Fields) → FieldsShaped fs → (l : ℕ) → suc (open_braces fs) ≤ l → (k : Kind) (v : held.Value) → IsPooled q k → IsMade k (Fills fs) v → IsFit (Both e l) k v
  message_shape fs known zero le k v pooled h = absurd (omega (arith, le))
  message_shape fs known (suc l) le k v pooled (d, m, is, makes, is_message) =
      let at = subst (IsPooled q) is pooled in
      let below = made_shape fs known d m at makes l (omega (arith, le)) in
      let here = made_shape fs known d m at makes (suc l) (omega (arith, le)) in
      subst (λ k. IsFit (Both e (suc l)) k v) (sym is) (m, is_message, below.0, (whole_shape e l m (shaped (HasShape e l) m.descriptor (content_of m) below.1) below.2, here.1))

  scalar_shape : (l : ℕ) (k : Kind) (s : ScalarValue) (v : held.Value) → IsScalar k s v → IsFit (Both e l) k v
  scalar_shape l (publics.Message d) s v h = absurd (cc h.1)
  scalar_shape l k s v h = (s, h)

  alone_shape : (l : ℕ) (k : Kind) (v : held.Value) → IsFit (Both e l) k v → (vs : List held.Value) → vs ≡ v ∷ [] → AllByRecursion (IsFit (Both e l) k) vs
  alone_shape l k v h vs is = subst (AllByRecursion (IsFit (Both e l) k)) (sym is) (h, tt)

  mutual
    fields_shape : (fs : Fields) → FieldsShaped fs
    fields_shape no_fields l le old new at shape same = (
      subst (λ m. IsShapely (HasShape e l) q old.descriptor.index (content_of m)) (sym same) shape,
      λ h. subst IsExclusive (sym same) h,
    )
    fields_shape (more_fields name g sep fs) l le old new at shape (next, same, names, rest) =
        let one = shape_at old next same e l name g names q at sound (given_shape g l (max_left (given_braces g) (open_braces fs) l le)) shape in
        let its = subst (λ (c : MessageDescriptor). IsShapely (HasShape e l) q c.index (content_of next)) (sym same) one.0 in
        let more = fields_shape fs l (max_right (given_braces g) (open_braces fs) l le) next new (ap (λ (c : MessageDescriptor). c.pool.now) same ∙ at) its rest in
        (subst (λ (c : MessageDescriptor). IsShapely (HasShape e l) q c.index (content_of new)) same more.0, λ h. more.1 (one.1 h))

    pub given_shape : (g : Given) (l : ℕ) → given_braces g ≤ l → GivenShaped e q l g
    given_shape (one_scalar s) l le = record {
      one = λ k v pooled h. scalar_shape l k s v h;
      all = λ k vs pooled h. alone_shape l k h.0 (scalar_shape l k s h.0 h.1) vs h.2;
    }
    given_shape (one_message c b fs) l le = record {
      one = λ k v pooled h. message_shape fs (fields_shape fs) l le k v pooled h;
      all = λ k vs pooled h. alone_shape l k h.0 (message_shape fs (fields_shape fs) l le k h.0 pooled h.1) vs h.2;
    }
    given_shape (listed vs) l le = record {
      one = λ k v pooled h. absurd h;
      all = λ k xs pooled h. values_shape vs l le k xs pooled h;
    }

    value_shape : (v : Value) (l : ℕ) → value_braces v ≤ l → (k : Kind) (x : held.Value) → IsPooled q k → IsValue v k x → IsFit (Both e l) k x
    value_shape (scalar s) l le k x pooled h = scalar_shape l k s x h
    value_shape (braced b fs) l le k x pooled h = message_shape fs (fields_shape fs) l le k x pooled h

    values_shape : (vs : Values) (l : ℕ) → values_braces vs ≤ l → (k : Kind) (xs : List held.Value) → IsPooled q k → AreValues vs k xs → AllByRecursion (IsFit (Both e l) k) xs
    values_shape no_values l le k xs pooled h = subst (AllByRecursion (IsFit (Both e l) k)) (sym h) tt
    values_shape (more_values v vs) l le k xs pooled (x, others, is, one, more) =
        subst (AllByRecursion (IsFit (Both e l) k)) (sym is)
        (value_shape v l (max_left (value_braces v) (values_braces vs) l le) k x pooled one, values_shape vs l (max_right (value_braces v) (values_braces vs) l le) k others pooled more)

-- so a message that is made is written in the one form of its type
pub made_written : (q : PoolType) → IsSound q → (fs : Fields) (d : MessageDescriptor) (m : DynamicMessage) → d.pool.now ≡ q → Makes d (Fills fs) m → message_bytes m ≡ bytes_of (types_of q) (name_at q d.index) (view m)
made_written q sound fs d m at makes =
    let l = open_braces fs in
    let made = made_shape false q sound fs (fields_shape false q sound fs) d m at makes l (omega arith) in
    shaped_bytes q sound.keys sound.entries sound.lists (types_of q) (named q sound.names) (suc l) m (ap (λ (c : MessageDescriptor). c.pool.now) made.0 ∙ at) (shaped (Shaped l) m.descriptor (content_of m) made.1)
    ∙ ap (λ (c : MessageDescriptor). bytes_of (types_of q) (name_at q c.index) (view m)) made.0

-- a message in shape that a text fills
pub next_level : (e : Bool) (l : ℕ) (old new : DynamicMessage) → HasShape e (suc l) old → IsShaped (HasShape e l) new.descriptor (content_of new) → (IsExclusive old → IsExclusive new) → HasShape e (suc l) new
next_level true l old new before shape keeps = (shape, keeps before.1)
next_level false l old new before shape keeps = shape

pub filled_shape : (e : Bool) (old new : DynamicMessage) → IsSound old.descriptor.pool.now → (fs : Fields) (l : ℕ) → open_braces fs ≤ l → HasShape e (suc l) old → Fills fs old new → HasShape e (suc l) new
filled_shape e old new sound fs l le shape fills =
    let d = old.descriptor in
    let before = shapely (HasShape e l) d (content_of old) (one_level e l old shape) in
    let after = fields_shape e d.pool.now sound fs l le old new refl before fills in
    let level = subst (λ (c : MessageDescriptor). IsShaped (HasShape e l) c (content_of new)) (sym (fills_type fs old new fills)) (shaped (HasShape e l) d (content_of new) after.0) in
    next_level e l old new shape level after.1

pub body_written : (g : Given) (d : MessageDescriptor) (m : DynamicMessage) → IsSound d.pool.now → Makes d (FillsBody g) m → message_bytes m ≡ bytes_of (types_of d.pool.now) (name_at d.pool.now d.index) (view m)
body_written (one_message c b fs) d m sound makes = made_written d.pool.now sound fs d m refl makes
body_written (one_scalar s) d m sound makes = absurd makes.3
body_written (listed vs) d m sound makes = absurd makes.3
