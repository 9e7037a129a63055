-- A message of which a text is refused, for want of memory too, holds values of the kinds of its fields, and is in shape.
use Rattle.std.proofs.Common.{◌≡◌, ◌≤◌, inl, inr, ℕ, suc, Bool, true, false, List, [], ◌∷◌, ◌++◌, Option, Some, refl, sym, ap, ◌∙◌, subst, append-nil, arith, MatchOption}
use Rattle.std.specs.List.{AllByRecursion}
use Rattle.protox_lex.specs.Class.{Text}
use Rattle.protobuf_model.specs.Meaning.{payloads}
use Rattle.protobuf_model.specs.Values.{text}
use Rattle.text_lex.specs.Token.{Lexeme}
use Rattle.text_error.specs.declared.error.ParseErrorKind.{ParseErrorKind}
use Rattle.text_model.specs.Tree.{FieldName, plain, extension, expansion, Given}
use Rattle.text_model.specs.Value.{written}
use Rattle.text_syntax.specs.Syntax.{at_end, field_at, message_at}
use Rattle.reflect_tables.specs.Types.{PoolType, FieldType}
use Rattle.reflect_tables.specs.Types as types
use Rattle.reflect_entries.specs.Entries.{value_at}
use Rattle.reflect_pool.specs.Kinds.{IsKind}
use Rattle.reflect_pool.specs.Shapes.{holds_list, holds_map}
use Rattle.reflect_pool.specs.declared.kind.Kind.{Kind}
use Rattle.reflect_pool.specs.declared.kind.Kind.TheVariants as publics
use Rattle.reflect_pool.specs.declared.message.MessageDescriptor.{MessageDescriptor}
use Rattle.reflect_scalar.specs.declared.map_key.MapKey.{MapKey}
use Rattle.reflect_extend.specs.Puts.{PutsFront, PutsSome}
use Rattle.reflect_decode.specs.Ordered.{AreNumbered, Ascend, last}
use Rattle.reflect_message.specs.Contents.{content_of}
use Rattle.reflect_message.specs.Held.{extensions_of, fields_of, unknown_of}
use Rattle.reflect_message.specs.Known.{holds_floats}
use Rattle.reflect_message.specs.Maps.{entries_held}
use Rattle.reflect_message.specs.Names.{DynamicMessage, Value}
use Rattle.reflect_message.specs.Oneofs.{IsExclusive}
use Rattle.reflect_format.specs.Begun.{Begins, BeginsAny, BeginsTarget}
use Rattle.reflect_format.specs.Filled.{AreGiven, url_of}
use Rattle.reflect_format.specs.Reads.{StaysUnless, Stops, There}
use Rattle.reflect_format.specs.Steps.{AddsPart, ChangesIt, Stays, held_by}
use Rattle.reflect_format.specs.Takes.{holds_many, target_pool, target_type}
use Rattle.reflect_format.specs.declared.target.Target.{Target}
use Rattle.reflect_format.specs.declared.target.Target.TheVariants as targets
use Rattle.message_view.specs.Shaped.{FitsAs, FitsShaped, HasShape, IsShaped}
use Rattle.message_view.specs.Sound.{IsSound}
use Rattle.message_view.proofs.Deeper.{one_level}
use Rattle.message_view.proofs.Entries.{entry_of_map}
use Rattle.text_view.specs.Holds.{AreHeldAs, HoldsKinds, IsHeldAs}
use Rattle.text_view.specs.Values.{IsMessageOf}
use Rattle.text_view.proofs.Adds.{list_of_many}
use Rattle.text_view.proofs.Bodies.{Both, GivenShaped, ascends, entry_values, filled_shape, fills_type, given_shape, next_level, number_shape, stood}
use Rattle.text_view.proofs.Braces.{begun_braces, field_braces}
use Rattle.text_view.proofs.Expanded.{number_kinds, string_whole}
use Rattle.text_view.proofs.Filling.{given_known, no_bytes, stays_so}
use Rattle.text_view.proofs.Given.{entry_kind, kind_pooled, target_wants, the_entry, value_no_float, wanted}
use Rattle.text_view.proofs.Kept.{LeavesOthers, kinds_kept, list_kind, list_of_kind, map_kind, map_of_kind, same_kinds}
use Rattle.text_view.proofs.MapShapes.{map_before}
use Rattle.text_view.proofs.Maps.{keys_put}
use Rattle.text_view.proofs.Once.{held_kind, second}
use Rattle.text_view.proofs.Owned.{OwnsTarget, named_target, pool_is, target_whole}
use Rattle.text_view.proofs.Shaped.{IsFit, IsShapely, list_after, list_before, shape_kept, shaped, shapely, target_number}
use Rattle.text_view.proofs.Stepping.{IsGood}
use Rattle.text_view.proofs.Stopped.{begun_stays}

-- ---- what is held stays

stays_kinds : (old new : DynamicMessage) → new.descriptor ≡ old.descriptor → Stays old new → HoldsKinds old → HoldsKinds new
stays_kinds old new same left kinds =
    let i = old.descriptor.index in
    let pool = old.descriptor.pool.now in
    same_kinds old new same
    (subst (λ es. AreHeldAs pool i es (extensions_of new)) (sym left.0) (subst (λ es. AreHeldAs pool i (fields_of old) es) (sym left.1) kinds))

stays_shape : (inner : DynamicMessage → Type 0) (pool : PoolType) (i : ℕ) (old new : DynamicMessage) → Stays old new → IsShapely inner pool i (content_of old) → IsShapely inner pool i (content_of new)
stays_shape inner pool i old new left h = record {
  in_fields = subst AreNumbered (sym left.0) h.in_fields;
  in_extensions = subst AreNumbered (sym left.1) h.in_extensions;
  in_unknown = subst (Ascend 1 last) (sym left.2) h.in_unknown;
  unknown = λ n f has. ap (payloads n) left.2 ∙ h.unknown n f has;
  field = λ n f known v at. h.field n f known v (ap (λ es. value_at es n) (sym left.0) ∙ at);
  extension = λ n f none known v at. h.extension n f none known v (ap (λ es. value_at es n) (sym left.1) ∙ at);
  apart = λ n f known. ap (λ es. value_at es n) left.1 ∙ h.apart n f known;
  unowned = λ n none. ap (λ es. value_at es n) left.0 ∙ h.unowned n none;
}

-- ---- nothing else is changed

it_leaves : (t : Target) (old new : DynamicMessage) → ChangesIt t old new → LeavesOthers t old new
it_leaves (targets.Field f) old new it = ((λ n other. inl (it.0 n other)), it.1)
it_leaves (targets.Extension x) old new it = ((λ n other. inl (it.0 n other)), it.1)

it_unknown : (t : Target) (old new : DynamicMessage) → ChangesIt t old new → unknown_of new ≡ unknown_of old
it_unknown (targets.Field f) old new it = it.2
it_unknown (targets.Extension x) old new it = it.2

-- the first of some values, of which all something holds
front_all : (P : Value → Type 0) (front behind vs : List Value) → vs ≡ front ++ behind → AllByRecursion P vs → AllByRecursion P front
front_all P front behind vs split all = by front (subst (AllByRecursion P) split all) where
  by : (us : List Value) → AllByRecursion P (us ++ behind) → AllByRecursion P us
  by [] h = tt
  by (u ∷ us) h = (h.0, by us h.1)

-- of some entries the first are put into a map
abbrev SomePut : Option Value → List (MapKey × Value) → List Value → Type 0
SomePut p before vs = (after : List (MapKey × Value)) × (entries_held p ≡ Some after) × PutsFront before after vs

some_put : (o p : Option Value) (vs : List Value) (before : List (MapKey × Value)) → entries_held o ≡ Some before → PutsSome o p vs → SomePut p before vs
some_put o p vs before is h = subst (λ x. MatchOption x (p ≡ o) (λ b. SomePut p b vs)) is h

module _ (old new : DynamicMessage) (same : new.descriptor ≡ old.descriptor) (sound : IsSound old.descriptor.pool.now) (g : Given) where
  abbrev d : MessageDescriptor
  d = old.descriptor

  abbrev pool : PoolType
  pool = old.descriptor.pool.now

  -- a part of what is given, by whether it is put into a map or behind a list
  module _ (t : Target) (owns : OwnsTarget d t) (k : Kind) (is : IsKind (target_pool t) k (target_type t).kind) (vs : List Value) (part : AddsPart t vs old new) where
    abbrev f : FieldType
    f = target_type t

    pool_now : target_pool t ≡ pool
    pool_now = pool_is d sound.apart t owns

    kind : IsKind pool k f.kind
    kind = subst (λ p. IsKind p k f.kind) pool_now is

    by_sort : (P : Type 0) → (holds_map pool f ≡ true → P) → (holds_list pool f ≡ true → P) → holds_many t ≡ true → P
    by_sort P of_map of_list many = by (holds_map pool f) refl where
      by : (b : Bool) → holds_map pool f ≡ b → P
      by true is_map = of_map is_map
      by false no_map =
          let is_list = second (holds_list (target_pool t) f) (holds_map (target_pool t) f) many (ap (λ p. holds_map p f) pool_now ∙ no_map) in
          of_list (subst (λ p. holds_list p f ≡ true) pool_now is_list)

    its_map : holds_map pool f ≡ true → holds_map (target_pool t) f ≡ true
    its_map = subst (λ p. holds_map p f ≡ true) (sym pool_now)

    its_list : holds_list pool f ≡ true → holds_list (target_pool t) f ≡ true
    its_list = subst (λ p. holds_list p f ≡ true) (sym pool_now)

    -- ---- of values of its kind
    module _ (kinds : HoldsKinds old) (given : AreGiven g k vs) where
      map_kinds : holds_map pool f ≡ true → IsHeldAs pool f (held_by new t)
      map_kinds is_map =
          let c = entry_kind pool k f.kind kind (entry_of_map pool f is_map) in
          let of = (given_known no_bytes pool sound g).all k (wanted d sound no_bytes t owns) (target_wants d sound no_bytes t owns k kind) vs given in
          let before = map_of_kind pool f is_map (held_by old t) (held_kind old sound.apart kinds t owns) in
          let put = some_put (held_by old t) (held_by new t) vs before.0 before.1 (part.2 (its_map is_map)) in
          let entries = front_all (IsMessageOf c.0) put.2.0 put.2.1 vs put.2.2 (subst (λ k. AllByRecursion (IsGood k) vs) c.1 of.1) in
          let its_sound = subst IsSound (sym c.2) sound in
          let map_there = subst (λ p. holds_map p f ≡ true) (sym c.2) is_map in
          let whole = subst (λ p. holds_floats p f ≡ false) (sym c.2) (target_whole d sound.apart t owns) in
          let entry = the_entry c.0 f c.3 its_sound map_there whole in
          map_kind pool f is_map (held_by new t) put.0 put.1
          (keys_put pool f c.0 c.2 c.3 its_sound entry.0 entry.1 (value_no_float c.0 f c.3 its_sound map_there whole) put.2.0 entries before.0 put.0 put.2.3 before.2)

      list_kinds : holds_list pool f ≡ true → IsHeldAs pool f (held_by new t)
      list_kinds is_list =
          let two = list_of_many pool f is_list in
          let before = list_of_kind pool f two.1 is_list (held_by old t) (held_kind old sound.apart kinds t owns) in
          list_kind pool f two.1 is_list (held_by new t) before.0 (part.1 (its_list is_list) ∙ before.1)

      part_kinds : holds_many t ≡ true → HoldsKinds new
      part_kinds many =
          same_kinds old new same (kinds_kept d t old new owns (it_leaves t old new part.0) (by_sort (IsHeldAs pool f (held_by new t)) map_kinds list_kinds many) kinds)

    -- ---- in shape
    module _ (e : Bool) (l : ℕ) (known : GivenShaped e old.descriptor.pool.now l g) (shape : IsShapely (HasShape e l) old.descriptor.pool.now old.descriptor.index (content_of old)) (given : AreGiven g k vs) where
      abbrev Fit : Type 0
      Fit = (v : Value) → held_by new t ≡ Some v → FitsShaped (HasShape e l) pool f v

      before : (v : Value) → held_by old t ≡ Some v → FitsShaped (HasShape e l) pool f v
      before = stood old new same sound e l g known shape t owns

      map_fits : holds_map pool f ≡ true → Fit
      map_fits is_map v at =
          let c = entry_kind pool k f.kind kind (entry_of_map pool f is_map) in
          let all = subst (λ k. AllByRecursion (IsFit (Both e l) k) vs) c.1 (known.all k vs (kind_pooled pool k f.kind kind) given) in
          let were = map_before (HasShape e l) pool f is_map (held_by old t) before in
          let put = some_put (held_by old t) (held_by new t) vs were.0 were.1 (part.2 (its_map is_map)) in
          let entries = front_all (IsFit (Both e l) (publics.Message c.0)) put.2.0 put.2.1 vs put.2.2 all in
          let values = entry_values pool c.0 c.2 f c.3 sound is_map (target_whole d sound.apart t owns) e l put.2.0 entries were.0 put.0 were.2 put.2.3 in
          subst (λ b. FitsAs (HasShape e l) pool f b (holds_list pool f) v) (sym is_map) (put.0, ap entries_held (sym at) ∙ put.1, values)

      list_fits : holds_list pool f ≡ true → Fit
      list_fits is_list =
          let two = list_of_many pool f is_list in
          let were = list_before (HasShape e l) pool f two.1 is_list (held_by old t) before in
          list_after (HasShape e l) pool f two.1 is_list (held_by old t) (held_by new t) were.0 [] before were.1 (part.1 (its_list is_list) ∙ were.1 ∙ ap Some (sym (append-nil were.0))) tt

      part_shape : holds_many t ≡ true → IsShapely (HasShape e l) pool d.index (content_of new)
      part_shape many =
          let order = part.4 (ascends (HasShape e l) pool d.index old shape) in
          shape_kept (HasShape e l) d sound.apart t owns (target_number d sound.numbers t owns) old new (it_leaves t old new part.0) (it_unknown t old new part.0) order.0 order.1
          (by_sort Fit map_fits list_fits many) shape

  -- ---- what stands under a name

  module _ (kinds : HoldsKinds old) where
    target_kinds : (t : Target) → OwnsTarget d t → BeginsTarget t (AreGiven g) old new → HoldsKinds new
    target_kinds t owns (inl left) = stays_kinds old new same left.0 kinds
    target_kinds t owns (inr (k, is, many, vs, given, part)) = part_kinds t owns k is vs part kinds given many

    any_kinds : (url : Text) → BeginsAny url old new → HoldsKinds new
    any_kinds url (any, inl left) = stays_kinds old new same left.3.0 kinds
    any_kinds url (any, inr (between, typed, first, left)) =
        stays_kinds between new (same ∙ sym typed) left.3.0 (number_kinds old between sound.apart 1 (text url) types.string string_whole first any.1 tt (λ h. h) kinds typed)

    begun_kinds : (name : FieldName) → Begins name g old new → HoldsKinds new
    begun_kinds (plain w) (t, named, begun) = target_kinds t (named_target d sound.apart w t (inl named)) begun
    begun_kinds (extension n) (t, named, begun) = target_kinds t (named_target d sound.apart (written n) t (inr named)) begun
    begun_kinds (expansion domain n) begun = any_kinds (url_of (written domain) (written n)) begun

  module _ (e : Bool) (l : ℕ) (known : GivenShaped e old.descriptor.pool.now l g) (shape : IsShapely (HasShape e l) old.descriptor.pool.now old.descriptor.index (content_of old)) where
    abbrev After : Type 0
    After = IsShapely (HasShape e l) pool d.index (content_of new)

    target_shape : (t : Target) → OwnsTarget d t → BeginsTarget t (AreGiven g) old new → After
    target_shape t owns (inl left) = stays_shape (HasShape e l) pool d.index old new left.0 shape
    target_shape t owns (inr (k, is, many, vs, given, part)) = part_shape t owns k is vs part e l known shape given many

    any_shape : (url : Text) → BeginsAny url old new → After
    any_shape url (any, inl left) = stays_shape (HasShape e l) pool d.index old new left.3.0 shape
    any_shape url (any, inr (between, typed, first, left)) =
        stays_shape (HasShape e l) pool d.index between new left.3.0 (number_shape (HasShape e l) old between sound 1 (text url) types.string string_whole (λ h. h) first any.1 shape).0

    begun_shape : (name : FieldName) → Begins name g old new → After
    begun_shape (plain w) (t, named, begun) = target_shape t (named_target d sound.apart w t (inl named)) begun
    begun_shape (extension n) (t, named, begun) = target_shape t (named_target d sound.apart (written n) t (inr named)) begun
    begun_shape (expansion domain n) begun = any_shape (url_of (written domain) (written n)) begun

-- ---- whole texts

pub stopped_kinds : (old new : DynamicMessage) → IsSound old.descriptor.pool.now → new.descriptor ≡ old.descriptor → IsExclusive old → HoldsKinds old
    → (ls : List Lexeme) (kind : ParseErrorKind) → Stops ls kind old new → HoldsKinds new
stopped_kinds old new sound same exclusive kinds ls kind (done, rest, reached, begins, fills, refused) = by refused.stays where
  type : reached.descriptor ≡ old.descriptor
  type = fills_type done old reached fills

  before : HoldsKinds reached
  before = (stays_so old reached sound exclusive kinds done fills).1

  its_sound : IsSound reached.descriptor.pool.now
  its_sound = subst (λ (c : MessageDescriptor). IsSound c.pool.now) (sym type) sound

  by : StaysUnless (There (field_at (message_at 100) rest) (λ f. Begins f.name f.given reached new)) kind reached new → HoldsKinds new
  by (inl is) = subst HoldsKinds (sym is) before
  by (inr (memory, (f, behind, there, begun))) = begun_kinds reached new (same ∙ sym type) its_sound f.given before f.name begun

pub stopped_shape : (e : Bool) (old new : DynamicMessage) → IsSound old.descriptor.pool.now → new.descriptor ≡ old.descriptor → (levels : ℕ) → 100 ≤ levels → HasShape e (suc levels) old
    → (ls : List Lexeme) (kind : ParseErrorKind) → Stops ls kind old new → HasShape e (suc levels) new
stopped_shape e old new sound same levels enough shape ls kind (done, rest, reached, begins, fills, refused) = by refused.stays where
  type : reached.descriptor ≡ old.descriptor
  type = fills_type done old reached fills

  its_sound : IsSound reached.descriptor.pool.now
  its_sound = subst (λ (c : MessageDescriptor). IsSound c.pool.now) (sym type) sound

  before : HasShape e (suc levels) reached
  before =
      let few = begun_braces 100 at_end done ls rest begins in
      filled_shape e old reached sound done levels (omega (arith, few, enough)) shape fills

  by : StaysUnless (There (field_at (message_at 100) rest) (λ f. Begins f.name f.given reached new)) kind reached new → HasShape e (suc levels) new
  by (inl is) = subst (HasShape e (suc levels)) (sym is) before
  by (inr (memory, (f, behind, there, begun))) =
      let d = reached.descriptor in
      let few = field_braces 100 rest behind f there in
      let known = given_shape e d.pool.now its_sound f.given levels (omega (arith, few, enough)) in
      let its_type : new.descriptor ≡ reached.descriptor = same ∙ sym type in
      let level = shapely (HasShape e levels) d (content_of reached) (one_level e levels reached before) in
      let after = begun_shape reached new its_type its_sound f.given e levels known level f.name begun in
      next_level e levels reached new before
      (subst (λ (c : MessageDescriptor). IsShaped (HasShape e levels) c (content_of new)) (sym its_type) (shaped (HasShape e levels) d (content_of new) after))
      (begun_stays f.name f.given reached new its_sound.apart begun)
