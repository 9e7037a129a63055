-- What is given under one name fills a message as the model says.
use Rattle.std.proofs.Common.{◌≡◌, ◌⊎◌, inl, inr, ◌^◌, ℕ, nat_lt, Bool, true, false, cond, List, ◌∷◌, ◌++◌, map, length, Option, Some, None, option_and_then, refl, sym, ap, ◌∙◌, subst, arith}
use Rattle.std.specs.List.{AllByRecursion}
use Rattle.std.specs.Prelude.{IfSome}
use Rattle.protox_lex.specs.Class.{Text}
use Rattle.protobuf_model.specs.Bytes.{bytes_of}
use Rattle.protobuf_model.specs.Types.{Name, keyed}
use Rattle.protobuf_model.specs.Values.{Message, text, blob}
use Rattle.reflect_tables.specs.Types.{PoolType, KindType}
use Rattle.reflect_tables.specs.Types as types
use Rattle.reflect_pool.specs.Kinds.{IsKind}
use Rattle.reflect_pool.specs.Shapes.{holds_list, holds_map}
use Rattle.reflect_pool.specs.declared.kind.Kind.{Kind}
use Rattle.reflect_pool.specs.declared.kind.Kind.TheVariants as publics
use Rattle.reflect_pool.specs.declared.message.MessageDescriptor.{MessageDescriptor}
use Rattle.reflect_message.specs.Bytes.{message_bytes}
use Rattle.reflect_any.specs.Any.{IsLone}
use Rattle.reflect_message.specs.Known.{holds_floats, numbered_field}
use Rattle.reflect_message.specs.Lists.{items_held}
use Rattle.reflect_message.specs.Oneofs.{IsExclusive}
use Rattle.reflect_message.specs.Names.{DynamicMessage}
use Rattle.reflect_message.specs.Names as held
use Rattle.reflect_format.specs.Filled.{AreGiven, Assigns, Expands, FillsBody, IsGiven, IsScalar, Makes, Names, PutsOne}
use Rattle.reflect_format.specs.Steps.{AddsValues, held_by}
use Rattle.reflect_format.specs.Takes.{holds_many, target_pool, target_type}
use Rattle.reflect_format.specs.declared.target.Target.{Target}
use Rattle.text_model.specs.Schemas.{Schema, Shape}
use Rattle.text_model.specs.Tree.{FullName, FieldName, plain, extension, expansion, Given, ScalarValue}
use Rattle.text_model.specs.Value.{Wanted, add_all, body_value, expanded, field_value, hold, named_value, set_one, with_field, written}
use Rattle.message_view.specs.Types.{entry_part, field_at, key_of, name_at, part_of, types_of}
use Rattle.message_view.specs.Views.{content_view, view}
use Rattle.message_view.proofs.Entries.{entry_of_map}
use Rattle.message_view.specs.Sound.{AreApart, IsSound}
use Rattle.text_view.specs.Holds.{HoldsKinds, IsHeldAs, IsOfKind}
use Rattle.text_view.specs.Schemas.{schema_of, shape_at}
use Rattle.text_view.specs.Targets.{target_field}
use Rattle.text_view.specs.Values.{IsMessageOf, IsOne}
use Rattle.text_view.proofs.Adds.{label_keyed, label_many, label_one, list_all, list_of_many, target_label}
use Rattle.text_view.proofs.Any.{any_told}
use Rattle.text_view.proofs.Expanded.{any_held, number_kinds, number_owns}
use Rattle.text_view.proofs.Forms.{message_kind, scalar_kind}
use Rattle.text_view.proofs.Given.{IsMany, Wants, all_contents, entry_kind, field_many, field_one, one_content, target_part, target_wants, the_entry, value_no_float, wanted}
use Rattle.text_view.proofs.Kept.{add_leaves, kinds_kept, list_kind, list_of_kind, many_list, many_map, map_of_kind, put_leaves, same_kinds}
use Rattle.text_view.proofs.Maps.{map_added}
use Rattle.text_view.proofs.Named.{extensions_found, fields_found}
use Rattle.text_view.proofs.Once.{held_kind, one_of, put_here, put_once, second}
use Rattle.text_view.proofs.Owned.{OwnsTarget, named_target, pool_is, target_there, target_whole}
use Rattle.text_view.proofs.Set.{held_one}
use Rattle.text_view.proofs.Bodies.{body_written}
use Rattle.text_view.proofs.Steady.{stays}
use Rattle.text_view.proofs.Wanted.{type_found}

-- a value of a kind as texts give it: a message of its type, or a single value
abbrev pub IsGood : Kind → held.Value → Type 0
IsGood (publics.Message d) x = IsMessageOf d x
IsGood k x = (s : ScalarValue) × IsScalar k s x

good_one : (k : Kind) (x : held.Value) → IsGood k x → IsOne x
good_one (publics.Message d) x h = inr (h.0, h.1)
good_one k x h = inl (h.1.0, h.1.2)

good_kind : (pool : PoolType) (k : Kind) (t : KindType) (x : held.Value) → IsKind pool k t → IsGood k x → IsOfKind t x
good_kind pool (publics.Message d) t x is h = message_kind t d.index x h.0 is.1 h.1
good_kind pool k t x is h = scalar_kind pool k t h.0 x is h.1

-- what is known of what is given: its contents are those of the values, which are of their kind
pub record GivenKnown (decoded : Name → Text → Option Message) (pool : PoolType) (g : Given) : Type 0 where
  pub one : (k : Kind) (a : Wanted) → Wants pool (schema_of pool decoded) k a → (v : held.Value) → IsGiven g k v
      → (one_content (schema_of pool decoded) a g ≡ Some (content_view v)) × IsGood k v
  pub all : (k : Kind) (a : Wanted) → Wants pool (schema_of pool decoded) k a → (vs : List held.Value) → AreGiven g k vs
      → (all_contents (schema_of pool decoded) a g ≡ Some (map content_view vs)) × AllByRecursion (IsGood k) vs
  pub body : (d : MessageDescriptor) (m : DynamicMessage) → d.pool.now ≡ pool → Makes d (FillsBody g) m
      → body_value (schema_of pool decoded) (name_at pool d.index) g ≡ Some (view m)

-- entries that are put into a map
pub map_all : (old new : DynamicMessage) → IsSound old.descriptor.pool.now → IsExclusive old → HoldsKinds old → new.descriptor ≡ old.descriptor → (t : Target) → OwnsTarget old.descriptor t → holds_map old.descriptor.pool.now (target_type t) ≡ true
    → (c : MessageDescriptor) → c.pool.now ≡ old.descriptor.pool.now → (target_type t).kind ≡ types.message c.index → (vs : List held.Value) → AllByRecursion (IsMessageOf c) vs → AddsValues t vs old new
    → (add_all (field_at old.descriptor.pool.now old.descriptor.index) (target_type t).number (target_field old.descriptor t).part (target_field old.descriptor t).label (view old) (map content_view vs) ≡ Some (view new))
    × IsHeldAs old.descriptor.pool.now (target_type t) (held_by new t)
map_all old new sound exclusive kinds same t owns is_map c at kind vs entries adds =
    let d = old.descriptor in
    let pool = d.pool.now in
    let f = target_type t in
    let type = field_at pool d.index in
    let its_sound = subst IsSound (sym at) sound in
    let its_map = subst (λ p. holds_map p f ≡ true) (sym at) is_map in
    let its_whole = subst (λ p. holds_floats p f ≡ false) (sym at) (target_whole d sound.apart t owns) in
    let entry = the_entry c f kind its_sound its_map its_whole in
    let before = map_of_kind pool f is_map (held_by old t) (held_kind old sound.apart kinds t owns) in
    let added = map_added old new sound.apart same t owns is_map exclusive c at kind its_sound entry.0 entry.1
    (value_no_float c f kind its_sound its_map its_whole) vs entries before.0 before.1 before.2 adds in (
      ap (λ l. add_all type f.number (target_field d t).part l (view old) (map content_view vs)) (target_label d t ∙ label_keyed pool f is_map)
          ∙ ap (λ p. add_all type f.number p (keyed (key_of pool (entry_part pool f 1))) (view old) (map content_view vs)) (target_part d t ∙ ap (λ b. part_of pool (cond b (entry_part pool f 2) f)) is_map)
          ∙ added.0,
      added.1,
    )

module _ (decoded : Name → Text → Option Message) (old next : DynamicMessage) (same : next.descriptor ≡ old.descriptor) (exclusive : IsExclusive old) (kinds : HoldsKinds old)
    (sound : IsSound old.descriptor.pool.now) (g : Given) (known : GivenKnown decoded old.descriptor.pool.now g) where
  abbrev d : MessageDescriptor
  d = old.descriptor

  abbrev pool : PoolType
  pool = old.descriptor.pool.now

  abbrev w : Schema
  w = schema_of old.descriptor.pool.now decoded

  abbrev s : Shape
  s = shape_at old.descriptor.pool.now old.descriptor.index

  abbrev Stepped : Option Message → Type 0
  Stepped o = (o ≡ Some (view next)) × IsExclusive next × HoldsKinds next

  abbrev given_to : Target → Option Message
  given_to t = field_value w s g (view old) (target_type t).number (target_field d t)

  -- one value
  one_step : (t : Target) → OwnsTarget d t → (k : Kind) → IsKind pool k (target_type t).kind → (v : held.Value) → IsGiven g k v → PutsOne t v old next → Stepped (given_to t)
  one_step t owns k kind v given puts =
      let none = one_of d sound.apart t owns puts.one in
      let a = wanted d sound decoded t owns in
      let of = known.one k a (target_wants d sound decoded t owns k kind) v given in
      let here = subst (IsHeldAs pool (target_type t)) (sym (put_here t v old next puts.put)) (held_one pool (target_type t) none.0 none.1 v (good_kind pool k (target_type t).kind v kind of.1)) in (
        field_one w s g (view old) (target_type t).number (target_field d t) (target_label d t ∙ label_one pool (target_type t) none.0 none.1)
            ∙ ap (option_and_then (set_one s.fields (target_type t).number (target_field d t).part (view old))) of.0
            ∙ put_once old next sound exclusive kinds t owns v (good_one k v of.1) same puts,
        stays t old next owns puts.exclusive exclusive,
        same_kinds old next same (kinds_kept d t old next owns (put_leaves t v old next puts.put) here kinds),
      )

  -- values of a list
  list_step : (t : Target) → OwnsTarget d t → holds_list pool (target_type t) ≡ true → (k : Kind) → IsKind pool k (target_type t).kind → (vs : List held.Value) → AreGiven g k vs → AddsValues t vs old next → Stepped (given_to t)
  list_step t owns is_list k kind vs given adds =
      let two = list_of_many pool (target_type t) is_list in
      let a = wanted d sound decoded t owns in
      let of = known.all k a (target_wants d sound decoded t owns k kind) vs given in
      let before = list_of_kind pool (target_type t) two.1 is_list (held_by old t) (held_kind old sound.apart kinds t owns) in
      let its_list = subst (λ p. holds_list p (target_type t) ≡ true) (sym (pool_is d sound.apart t owns)) is_list in
      let after = subst (λ o. IfSome o (λ b. items_held (held_by next t) ≡ Some (b ++ vs))) before.1 (adds.1 its_list) in (
        field_many w s g (view old) (target_type t).number (target_field d t) (subst IsMany (sym (target_label d t ∙ label_many pool (target_type t) is_list)) tt)
            ∙ ap (option_and_then (add_all s.fields (target_type t).number (target_field d t).part (target_field d t).label (view old))) of.0
            ∙ list_all old next sound.apart same exclusive t owns is_list vs before.0 before.1 adds,
        stays t old next owns adds.3 exclusive,
        same_kinds old next same (kinds_kept d t old next owns (add_leaves t old next adds.0 (adds.5 (many_list t its_list))) (list_kind pool (target_type t) two.1 is_list (held_by next t) (before.0 ++ vs) after) kinds),
      )

  -- entries of a map
  map_step : (t : Target) → OwnsTarget d t → holds_map pool (target_type t) ≡ true → (k : Kind) → IsKind pool k (target_type t).kind → (vs : List held.Value) → AreGiven g k vs → AddsValues t vs old next → Stepped (given_to t)
  map_step t owns is_map k kind vs given adds =
      let f = target_type t in
      let a = wanted d sound decoded t owns in
      let of = known.all k a (target_wants d sound decoded t owns k kind) vs given in
      let e = entry_kind pool k f.kind kind (entry_of_map pool f is_map) in
      let added = map_all old next sound exclusive kinds same t owns is_map e.0 e.2 e.3 vs (subst (λ k. AllByRecursion (IsGood k) vs) e.1 of.1) adds in (
        field_many w s g (view old) f.number (target_field d t) (subst IsMany (sym (target_label d t ∙ label_keyed pool f is_map)) tt)
            ∙ ap (option_and_then (add_all s.fields f.number (target_field d t).part (target_field d t).label (view old))) of.0
            ∙ added.0,
        stays t old next owns adds.3 exclusive,
        same_kinds old next same (kinds_kept d t old next owns (add_leaves t old next adds.0 (adds.5 (many_map t (subst (λ p. holds_map p f ≡ true) (sym (pool_is d sound.apart t owns)) is_map)))) added.1 kinds),
      )

  target_step : (t : Target) → OwnsTarget d t → Assigns t (IsGiven g) (AreGiven g) old next → Stepped (given_to t)
  target_step t owns (k, is, choice) = by choice where
    pool_now : target_pool t ≡ pool
    pool_now = pool_is d sound.apart t owns

    kind : IsKind pool k (target_type t).kind
    kind = subst (λ p. IsKind p k (target_type t).kind) pool_now is

    by : ((v : held.Value) × IsGiven g k v × PutsOne t v old next) ⊎ ((vs : List held.Value) × (holds_many t ≡ true) × AreGiven g k vs × AddsValues t vs old next) → Stepped (given_to t)
    by (inl (v, given, puts)) = one_step t owns k kind v given puts
    by (inr (vs, of_many, given, adds)) = with (holds_map pool (target_type t)) refl where
      with : (b : Bool) → holds_map pool (target_type t) ≡ b → Stepped (given_to t)
      with true is_map = map_step t owns is_map k kind vs given adds
      with false no_map =
          let is_list = second (holds_list (target_pool t) (target_type t)) (holds_map (target_pool t) (target_type t)) of_many (ap (λ p. holds_map p (target_type t)) pool_now ∙ no_map) in
          list_step t owns (subst (λ p. holds_list p (target_type t) ≡ true) pool_now is_list) k kind vs given adds

  -- an expansion
  expanded_step : (domain name : FullName) → Expands (written domain) (written name) (FillsBody g) old next → Stepped (expanded w s domain name (view old) (λ t. body_value w t g))
  expanded_step domain name (c, body, at, finds, makes, (any, between, first, later, typed, short_body)) =
      let url = written domain ++ 47 ∷ written name in
      let bytes = body_written g c body (subst IsSound (sym at) sound) makes in
      let read = known.body c body at makes in
      let form : bytes_of (types_of pool) (name_at pool c.index) (view body) ≡ message_bytes body = sym (bytes ∙ ap (λ p. bytes_of (types_of p) (name_at p c.index) (view body)) at) in
      let few : nat_lt (length (message_bytes body)) (2 ^ 64) ≡ true = grind (arith, short_body) in
      let short : nat_lt (length (bytes_of (types_of pool) (name_at pool c.index) (view body))) (2 ^ 64) ≡ true = ap (λ (bs : List ℕ). nat_lt (length bs) (2 ^ 64)) form ∙ few in
      let first_owns = number_owns old between sound.apart 1 (text url) types.string ((λ h. h), λ p h. h) first any.1 in
      let between_exclusive = first.6 first_owns exclusive in
      let kept = number_kinds old between sound.apart 1 (text url) types.string ((λ h. h), λ p h. h) first any.1 tt (λ h. h) kinds typed in
      let its_apart = subst (λ (c : MessageDescriptor). AreApart c.pool.now) (sym typed) sound.apart in
      let its_lone = subst (λ (c : MessageDescriptor). IsLone c.pool.now c.index types.bytes (numbered_field c.pool.now c.index 2)) (sym typed) any.2 in
      let second_owns = number_owns between next its_apart 2 (blob (message_bytes body)) types.bytes ((λ h. h), λ p h. h) later its_lone in (
        ap (λ b. cond b (option_and_then (λ t. option_and_then (λ b. cond (nat_lt (length (bytes_of (types_of pool) t b)) (2 ^ 64)) (hold s url (bytes_of (types_of pool) t b) (view old)) None) (body_value w t g)) (w.message (written name))) None) (any_told d any)
            ∙ ap (option_and_then (λ t. option_and_then (λ b. cond (nat_lt (length (bytes_of (types_of pool) t b)) (2 ^ 64)) (hold s url (bytes_of (types_of pool) t b) (view old)) None) (body_value w t g))) (type_found pool (written name) c finds)
            ∙ ap (option_and_then (λ b. cond (nat_lt (length (bytes_of (types_of pool) (name_at pool c.index) b)) (2 ^ 64)) (hold s url (bytes_of (types_of pool) (name_at pool c.index) b) (view old)) None)) read
            ∙ ap (λ b. cond b (hold s url (bytes_of (types_of pool) (name_at pool c.index) (view body)) (view old)) None) short
            ∙ ap (λ bs. hold s url bs (view old)) form
            ∙ any_held old between next sound.apart exclusive between_exclusive typed same any url (message_bytes body) first later,
        later.6 second_owns between_exclusive,
        number_kinds between next its_apart 2 (blob (message_bytes body)) types.bytes ((λ h. h), λ p h. h) later its_lone tt (λ h. h) kept (same ∙ sym typed),
      )

  -- what stands under a name
  found_step : (o : Option ℕ) (t : Target) → OwnsTarget d t → o ≡ Some (target_type t).number → Stepped (given_to t) → Stepped (with_field s o (field_value w s g (view old)))
  found_step o t owns found step = (
    ap (λ o. with_field s o (field_value w s g (view old))) found
        ∙ ap (option_and_then (field_value w s g (view old) (target_type t).number)) (target_there d sound.apart t owns) ∙ step.0,
    step.1,
    step.2,
  )

  name_step : (name : FieldName) → Names name (IsGiven g) (AreGiven g) (FillsBody g) old next
      → Stepped (named_value w s name (view old) (field_value w s g (view old)) (λ t. body_value w t g))
  name_step (plain v) (t, named, assigns) =
      let owns = named_target d sound.apart v t (inl named) in
      found_step (s.names.field v) t owns (fields_found d v t named) (target_step t owns assigns)
  name_step (extension v) (t, named, assigns) =
      let owns = named_target d sound.apart (written v) t (inr named) in
      found_step (s.names.extension (written v)) t owns (extensions_found d (written v) t named) (target_step t owns assigns)
  name_step (expansion domain v) h = expanded_step domain v h

-- so it is of the pool that the message's type stands in
abbrev pub StepAt : (Name → Text → Option Message) → DynamicMessage → DynamicMessage → FieldName → Given → PoolType → Type 0
StepAt decoded old next name g pool =
    (named_value (schema_of pool decoded) (shape_at pool old.descriptor.index) name (view old)
    (field_value (schema_of pool decoded) (shape_at pool old.descriptor.index) g (view old)) (λ t. body_value (schema_of pool decoded) t g) ≡ Some (view next))
    × IsExclusive next × HoldsKinds next

pub step_at : (decoded : Name → Text → Option Message) → (old next : DynamicMessage) → next.descriptor ≡ old.descriptor → IsExclusive old → HoldsKinds old → (name : FieldName) (g : Given)
    → Names name (IsGiven g) (AreGiven g) (FillsBody g) old next → (pool : PoolType) → old.descriptor.pool.now ≡ pool → IsSound pool → GivenKnown decoded pool g → StepAt decoded old next name g pool
step_at decoded old next same exclusive kinds name g names q at =
    subst (λ (p : PoolType). IsSound p → GivenKnown decoded p g → StepAt decoded old next name g p) at
    (λ sound known. name_step decoded old next same exclusive kinds sound g known name names)
