-- What messages hold that texts make, in the order and of the shape in which they are written.
use Rattle.std.proofs.Common.{◌≡◌, inl, inr, ℕ, ◌≤◌, ◌-◌, ◌^◌, ◌==◌, Bool, true, false, true≢false, List, [], ◌∷◌, ◌++◌, Option, Some, None, unwrap_or, is_some, refl, sym, ap, ◌∙◌, subst, arith}
use Rattle.std.specs.List.{AllByRecursion}
use Rattle.std.specs.Option.{IsSome}
use Rattle.protobuf_model.specs.Meaning.{payloads}
use Rattle.reflect_tables.specs.Types.{PoolType, FieldType, extension_at}
use Rattle.reflect_entries.specs.Entries.{IsAscending, value_at}
use Rattle.reflect_pool.specs.FieldsLeft.{field_type}
use Rattle.reflect_pool.specs.Kinds.{IsKind}
use Rattle.reflect_pool.specs.Shapes.{holds_list, holds_map}
use Rattle.reflect_pool.specs.declared.kind.Kind.{Kind}
use Rattle.reflect_pool.specs.declared.kind.Kind.TheVariants as publics
use Rattle.reflect_pool.specs.declared.message.MessageDescriptor.{MessageDescriptor}
use Rattle.reflect_scalar.specs.FieldTypes.{extension_type}
use Rattle.reflect_decode.specs.Ordered.{AreNumbered, Ascend}
use Rattle.reflect_decode.proofs.Ordering.{nothing_ordered}
use Rattle.reflect_message.specs.Contents.{Content, content_of, nothing}
use Rattle.reflect_message.specs.Held.{fields_of, extensions_of, unknown_of}
use Rattle.reflect_message.specs.KindTypes.{IsScalarType, IsMessageType}
use Rattle.reflect_message.specs.Known.{known_field, known_extension}
use Rattle.reflect_message.specs.Lists.{items_held}
use Rattle.reflect_message.specs.Messages.{message_in}
use Rattle.reflect_message.specs.Names.{DynamicMessage, Value}
use Rattle.reflect_message.specs.declared.value.ValueOf.TheVariants as held
use Rattle.reflect_format.specs.Filled.{IsScalar}
use Rattle.reflect_format.specs.Steps.{held_by}
use Rattle.reflect_format.specs.Takes.{target_type}
use Rattle.reflect_format.specs.declared.target.Target.{Target}
use Rattle.reflect_format.specs.declared.target.Target.TheVariants as targets
use Rattle.text_model.specs.Tree.{ScalarValue}
use Rattle.message_view.proofs.Fields.{extension_owned, its_place, known, known_extension_is, none_known, none_owned, owned}
use Rattle.message_view.specs.Shaped.{FitsShaped, FitsAs, FitsOne, IsShaped}
use Rattle.message_view.specs.Sound.{AreApart, HasField, HaveFieldNumbers, IsFieldNumber}
use Rattle.text_view.proofs.Apart.{no_field_there}
use Rattle.text_view.proofs.Kept.{LeavesOthers, StaysOrGoes}
use Rattle.text_view.proofs.Owned.{OwnsTarget}
use Rattle.text_view.proofs.Puts.{is_number, message_is, number_is}
use Rattle.text_view.proofs.Set.{singled}

-- what a message of the type at a place holds, where `inner` holds of the messages inside
pub record IsShapely (inner : DynamicMessage → Type 0) (pool : PoolType) (i : ℕ) (c : Content) : Type 0 where
  pub in_fields : AreNumbered c.fields
  pub in_extensions : AreNumbered c.extensions
  pub in_unknown : Ascend 1 (2 ^ 29 - 1) c.unknown
  pub unknown : (n : ℕ) (f : FieldType) → HasField pool i n f → payloads n c.unknown ≡ []
  pub field : (n : ℕ) (f : FieldType) → known_field pool i n ≡ Some f → (v : Value) → value_at c.fields n ≡ Some v → FitsShaped inner pool f v
  pub extension : (n : ℕ) (f : FieldType) → known_field pool i n ≡ None → known_extension pool i n ≡ Some f → (v : Value) → value_at c.extensions n ≡ Some v → FitsShaped inner pool f v
  pub apart : (n : ℕ) (f : FieldType) → known_field pool i n ≡ Some f → value_at c.extensions n ≡ None
  pub unowned : (n : ℕ) → known_field pool i n ≡ None → value_at c.fields n ≡ None

pub shaped : (inner : DynamicMessage → Type 0) (d : MessageDescriptor) (c : Content) → IsShapely inner d.pool.now d.index c → IsShaped inner d c
shaped inner d c h = record {
  ordered = record {
    fields = h.in_fields;
    extensions = h.in_extensions;
    unknown = h.in_unknown;
  };
  fields = λ f owns v at. h.field (field_type f).number (field_type f) (owned d f owns) v at;
  extensions = λ x owns none v at. h.extension (extension_type x).number (extension_type x) none (extension_owned d x owns) v at;
  apart = λ f owns. h.apart (field_type f).number (field_type f) (owned d f owns);
  unowned = λ n none. h.unowned n (none_known d n none);
  declared = λ n is. elim is [
    | inl o ↦ subst (λ n. payloads n c.unknown ≡ []) o.2 (h.unknown (field_type o.0).number (field_type o.0) (inl (owned d o.0 o.1)))
    | inr o ↦ subst (λ n. payloads n c.unknown ≡ []) o.2 (h.unknown (extension_type o.0).number (extension_type o.0) (inr (extension_owned d o.0 o.1)))
  ];
}

-- and back
pub shapely : (inner : DynamicMessage → Type 0) (d : MessageDescriptor) (c : Content) → IsShaped inner d c → IsShapely inner d.pool.now d.index c
shapely inner d c h = record {
  in_fields = h.ordered.fields;
  in_extensions = h.ordered.extensions;
  in_unknown = h.ordered.unknown;
  unknown = λ n f has. elim has [
    | inl is ↦ (let o = known d n f is in h.declared n (inl (o.0, o.1, ap (λ (g : FieldType). g.number) o.2 ∙ o.3)))
    | inr is ↦ (let o = known_extension_is d n f is in h.declared n (inr (o.0, o.1, ap (λ (g : FieldType). g.number) o.2 ∙ o.3)))
  ];
  field = λ n f is v at.
      let o = known d n f is in
      let same : (field_type o.0).number ≡ n = ap (λ (g : FieldType). g.number) o.2 ∙ o.3 in
      subst (λ g. FitsShaped inner d.pool.now g v) o.2 (h.fields o.0 o.1 v (ap (value_at c.fields) same ∙ at));
  extension = λ n f none is v at.
      let o = known_extension_is d n f is in
      let same : (extension_type o.0).number ≡ n = ap (λ (g : FieldType). g.number) o.2 ∙ o.3 in
      subst (λ g. FitsShaped inner d.pool.now g v) o.2 (h.extensions o.0 o.1 (ap (known_field d.pool.now d.index) same ∙ none) v (ap (value_at c.extensions) same ∙ at));
  apart = λ n f is.
      let o = known d n f is in
      subst (λ n. value_at c.extensions n ≡ None) (ap (λ (g : FieldType). g.number) o.2 ∙ o.3) (h.apart o.0 o.1);
  unowned = λ n none. h.unowned n (none_owned d n none);
}

pub blank_shapely : (inner : DynamicMessage → Type 0) (pool : PoolType) (i : ℕ) (c : Content) → c ≡ nothing → IsShapely inner pool i c
blank_shapely inner pool i c empty = subst (IsShapely inner pool i) (sym empty) (record {
  in_fields = nothing_ordered.fields;
  in_extensions = nothing_ordered.extensions;
  in_unknown = nothing_ordered.unknown;
  unknown = λ n f has. refl;
  field = λ n f known v at. absurd (cc at);
  extension = λ n f none known v at. absurd (cc at);
  apart = λ n f known. refl;
  unowned = λ n none. refl;
})

-- the number of a target is one that fields may have
pub target_number : (d : MessageDescriptor) → HaveFieldNumbers d.pool.now → (t : Target) → OwnsTarget d t → IsFieldNumber (target_type t).number
target_number d proper (targets.Field f) owns = subst (λ (g : FieldType). IsFieldNumber g.number) (its_place d f owns) (proper.fields d.index f.index owns.1.0)
target_number d proper (targets.Extension x) owns = subst (λ p. IsFieldNumber (extension_at p x.index).field.number) (sym owns.0.0) (proper.extensions x.index owns.1.0)

-- under one number more stands a value
some_or : (es : List (ℕ × Value)) (n : ℕ) → value_at es n ≡ None → IsSome (value_at es n) → (1 ≤ n) × (n ≤ 2 ^ 29 - 1)
some_or es n none some = absurd (true≢false (sym some ∙ ap is_some none))

module _ (inner : DynamicMessage → Type 0) (d : MessageDescriptor) (apart : AreApart d.pool.now) where
  abbrev its_pool : PoolType
  its_pool = d.pool.now

  pub shape_kept : (t : Target) → OwnsTarget d t → IsFieldNumber (target_type t).number → (old new : DynamicMessage) → LeavesOthers t old new → unknown_of new ≡ unknown_of old
      → IsAscending (fields_of new) → IsAscending (extensions_of new) → ((v : Value) → held_by new t ≡ Some v → FitsShaped inner d.pool.now (target_type t) v)
      → IsShapely inner d.pool.now d.index (content_of old) → IsShapely inner d.pool.now d.index (content_of new)
  shape_kept (targets.Field f) owns number old new leaves unknown ascending also here h = record {
    in_fields = record { ascending = ascending; within = within };
    in_extensions = subst AreNumbered (sym leaves.1) h.in_extensions;
    in_unknown = subst (Ascend 1 (2 ^ 29 - 1)) (sym unknown) h.in_unknown;
    unknown = λ n g has. ap (payloads n) unknown ∙ h.unknown n g has;
    field = field;
    extension = λ n g none known v at. h.extension n g none known v (ap (λ es. value_at es n) (sym leaves.1) ∙ at);
    apart = λ n g known. ap (λ es. value_at es n) leaves.1 ∙ h.apart n g known;
    unowned = unowned;
  } where
    within : (n : ℕ) → IsSome (value_at (fields_of new) n) → (1 ≤ n) × (n ≤ 2 ^ 29 - 1)
    within n some = by (n == (field_type f).number) refl where
      by : (b : Bool) → (n == (field_type f).number) ≡ b → (1 ≤ n) × (n ≤ 2 ^ 29 - 1)
      by true is = let same = is_number n (field_type f).number is in (omega (arith, same, number.0), omega (arith, same, number.1))
      by false is = at (leaves.0 n (λ e. true≢false (sym (number_is n (field_type f).number e) ∙ is))) where
        at : StaysOrGoes (fields_of old) (fields_of new) n → (1 ≤ n) × (n ≤ 2 ^ 29 - 1)
        at (inl e) = h.in_fields.within n (ap is_some (sym e) ∙ some)
        at (inr e) = some_or (fields_of new) n e some

    field : (n : ℕ) (g : FieldType) → known_field its_pool d.index n ≡ Some g → (v : Value) → value_at (fields_of new) n ≡ Some v → FitsShaped inner its_pool g v
    field n g known v at = by (n == (field_type f).number) refl where
      by : (b : Bool) → (n == (field_type f).number) ≡ b → FitsShaped inner its_pool g v
      by true is =
          let same = is_number n (field_type f).number is in
          let one : field_type f ≡ g = ap (λ o. unwrap_or o g) (sym (owned d f owns) ∙ ap (known_field its_pool d.index) (sym same) ∙ known) in
          subst (λ g. FitsShaped inner its_pool g v) one (here v (ap (value_at (fields_of new)) (sym same) ∙ at))
      by false is = with (leaves.0 n (λ e. true≢false (sym (number_is n (field_type f).number e) ∙ is))) where
        with : StaysOrGoes (fields_of old) (fields_of new) n → FitsShaped inner its_pool g v
        with (inl e) = h.field n g known v (sym e ∙ at)
        with (inr e) = absurd (cc (sym e ∙ at))

    unowned : (n : ℕ) → known_field its_pool d.index n ≡ None → value_at (fields_of new) n ≡ None
    unowned n none = by (n == (field_type f).number) refl where
      by : (b : Bool) → (n == (field_type f).number) ≡ b → value_at (fields_of new) n ≡ None
      by true is =
          let same = is_number n (field_type f).number is in
          absurd (cc (sym (owned d f owns) ∙ ap (known_field its_pool d.index) (sym same) ∙ none))
      by false is = with (leaves.0 n (λ e. true≢false (sym (number_is n (field_type f).number e) ∙ is))) where
        with : StaysOrGoes (fields_of old) (fields_of new) n → value_at (fields_of new) n ≡ None
        with (inl e) = e ∙ h.unowned n none
        with (inr e) = e
  shape_kept (targets.Extension x) owns number old new leaves unknown also ascending here h = record {
    in_fields = subst AreNumbered (sym leaves.1) h.in_fields;
    in_extensions = record { ascending = ascending; within = within };
    in_unknown = subst (Ascend 1 (2 ^ 29 - 1)) (sym unknown) h.in_unknown;
    unknown = λ n g has. ap (payloads n) unknown ∙ h.unknown n g has;
    field = λ n g known v at. h.field n g known v (ap (λ es. value_at es n) (sym leaves.1) ∙ at);
    extension = extension;
    apart = free;
    unowned = λ n none. ap (λ es. value_at es n) leaves.1 ∙ h.unowned n none;
  } where
    within : (n : ℕ) → IsSome (value_at (extensions_of new) n) → (1 ≤ n) × (n ≤ 2 ^ 29 - 1)
    within n some = by (n == (extension_type x).number) refl where
      by : (b : Bool) → (n == (extension_type x).number) ≡ b → (1 ≤ n) × (n ≤ 2 ^ 29 - 1)
      by true is = let same = is_number n (extension_type x).number is in (omega (arith, same, number.0), omega (arith, same, number.1))
      by false is = at (leaves.0 n (λ e. true≢false (sym (number_is n (extension_type x).number e) ∙ is))) where
        at : StaysOrGoes (extensions_of old) (extensions_of new) n → (1 ≤ n) × (n ≤ 2 ^ 29 - 1)
        at (inl e) = h.in_extensions.within n (ap is_some (sym e) ∙ some)
        at (inr e) = some_or (extensions_of new) n e some

    extension : (n : ℕ) (g : FieldType) → known_field its_pool d.index n ≡ None → known_extension its_pool d.index n ≡ Some g → (v : Value) → value_at (extensions_of new) n ≡ Some v → FitsShaped inner its_pool g v
    extension n g none known v at = by (n == (extension_type x).number) refl where
      by : (b : Bool) → (n == (extension_type x).number) ≡ b → FitsShaped inner its_pool g v
      by true is =
          let same = is_number n (extension_type x).number is in
          let one : extension_type x ≡ g = ap (λ o. unwrap_or o g) (sym (extension_owned d x owns) ∙ ap (known_extension its_pool d.index) (sym same) ∙ known) in
          subst (λ g. FitsShaped inner its_pool g v) one (here v (ap (value_at (extensions_of new)) (sym same) ∙ at))
      by false is = with (leaves.0 n (λ e. true≢false (sym (number_is n (extension_type x).number e) ∙ is))) where
        with : StaysOrGoes (extensions_of old) (extensions_of new) n → FitsShaped inner its_pool g v
        with (inl e) = h.extension n g none known v (sym e ∙ at)
        with (inr e) = absurd (cc (sym e ∙ at))

    -- a field stands under another number
    free : (n : ℕ) (g : FieldType) → known_field its_pool d.index n ≡ Some g → value_at (extensions_of new) n ≡ None
    free n g known = by (n == (extension_type x).number) refl where
      by : (b : Bool) → (n == (extension_type x).number) ≡ b → value_at (extensions_of new) n ≡ None
      by true is =
          let same = is_number n (extension_type x).number is in
          absurd (cc (sym (no_field_there d apart x owns) ∙ ap (known_field its_pool d.index) (sym same) ∙ known))
      by false is = with (leaves.0 n (λ e. true≢false (sym (number_is n (extension_type x).number e) ∙ is))) where
        with : StaysOrGoes (extensions_of old) (extensions_of new) n → value_at (extensions_of new) n ≡ None
        with (inl e) = e ∙ h.apart n g known
        with (inr e) = e

-- ---- values

-- a value of a kind as texts give it, where `inner` holds of a message
abbrev pub IsFit : (DynamicMessage → Type 0) → Kind → Value → Type 0
IsFit inner (publics.Message d) v = (m : DynamicMessage) × (v ≡ held.Message m) × (m.descriptor ≡ d) × inner m
IsFit inner k v = (s : ScalarValue) × IsScalar k s v

pub fit_one : (inner : DynamicMessage → Type 0) (pool : PoolType) (k : Kind) (f : FieldType) (v : Value) → IsKind pool k f.kind → IsFit inner k v → FitsOne inner pool f v
fit_one inner pool (publics.Message d) f v is h = record {
  plain = λ type. absurd (subst IsScalarType is.1 type);
  nested = λ type. (h.0, ap message_in h.1 ∙ message_is h.0, subst (λ (c : MessageDescriptor). IsKind pool (publics.Message c) f.kind) (sym h.2) is, h.3);
}
fit_one inner pool (publics.Enum e) f v is h = record {
  plain = λ type. let w = singled v h.1.0 h.1.2 in (w.0, w.1);
  nested = λ type. absurd (subst IsMessageType is.1 type);
}
fit_one inner pool k f v is h = record {
  plain = λ type. let w = singled v h.1.0 h.1.2 in (w.0, w.1);
  nested = λ type. absurd (subst IsMessageType is type);
}

pub fit_all : (inner : DynamicMessage → Type 0) (pool : PoolType) (k : Kind) (f : FieldType) (vs : List Value) → IsKind pool k f.kind → AllByRecursion (IsFit inner k) vs → AllByRecursion (FitsOne inner pool f) vs
fit_all inner pool k f [] is h = tt
fit_all inner pool k f (v ∷ vs) is h = (fit_one inner pool k f v is h.0, fit_all inner pool k f vs is h.1)

-- what a field of one value holds, and what a list does
pub fits_single : (inner : DynamicMessage → Type 0) (pool : PoolType) (f : FieldType) (v : Value) → holds_map pool f ≡ false → holds_list pool f ≡ false → FitsOne inner pool f v → FitsShaped inner pool f v
fits_single inner pool f v no_map no_list h = subst (λ b. FitsAs inner pool f b (holds_list pool f) v) (sym no_map) (subst (λ b. FitsAs inner pool f false b v) (sym no_list) h)

pub single_fits : (inner : DynamicMessage → Type 0) (pool : PoolType) (f : FieldType) (v : Value) → holds_map pool f ≡ false → holds_list pool f ≡ false → FitsShaped inner pool f v → FitsOne inner pool f v
single_fits inner pool f v no_map no_list h = subst (λ b. FitsAs inner pool f false b v) no_list (subst (λ b. FitsAs inner pool f b (holds_list pool f) v) no_map h)

all_join : (P : Value → Type 0) (vs ws : List Value) → AllByRecursion P vs → AllByRecursion P ws → AllByRecursion P (vs ++ ws)
all_join P [] ws h k = k
all_join P (v ∷ vs) ws h k = (h.0, all_join P vs ws h.1 k)

module _ (inner : DynamicMessage → Type 0) (pool : PoolType) (f : FieldType) (no_map : holds_map pool f ≡ false) (is_list : holds_list pool f ≡ true) where
  pub list_before : (o : Option Value) → ((v : Value) → o ≡ Some v → FitsShaped inner pool f v) → (vs : List Value) × (items_held o ≡ Some vs) × AllByRecursion (FitsOne inner pool f) vs
  list_before None h = ([], refl, tt)
  list_before (Some v) h = subst (λ b. FitsAs inner pool f false b v) is_list (subst (λ b. FitsAs inner pool f b (holds_list pool f) v) no_map (h v refl))

  pub list_after : (o p : Option Value) (before vs : List Value) → ((v : Value) → o ≡ Some v → FitsShaped inner pool f v) → items_held o ≡ Some before → items_held p ≡ Some (before ++ vs) → AllByRecursion (FitsOne inner pool f) vs
      → (v : Value) → p ≡ Some v → FitsShaped inner pool f v
  list_after o p before vs h stood stands fits v is =
      let old = list_before o h in
      let same : old.0 ≡ before = ap (λ o. unwrap_or o before) (sym old.1 ∙ stood) in
      let all = all_join (FitsOne inner pool f) before vs (subst (AllByRecursion (FitsOne inner pool f)) same old.2) fits in
      subst (λ b. FitsAs inner pool f b (holds_list pool f) v) (sym no_map) (subst (λ b. FitsAs inner pool f false b v) (sym is_list)
      (before ++ vs, ap items_held (sym is) ∙ stands, all))
