-- A copy of a message in shape is in shape, where it is in order.
use Rattle.std.proofs.Common.{◌≡◌, ℕ, zero, suc, Bool, true, false, List, [], ◌∷◌, map, Option, None, Some, option_map, is_some, refl, sym, ap, ◌∙◌, subst}
use Rattle.std.specs.List.{AllByRecursion}
use Rattle.std.specs.Prelude.{IfSome, IsTrue}
use Rattle.reflect_tables.specs.Types.{PoolType, FieldType}
use Rattle.reflect_pool.specs.FieldsLeft.{field_type}
use Rattle.reflect_pool.specs.Kinds.{IsKind}
use Rattle.reflect_pool.specs.Shapes.{holds_list, holds_map}
use Rattle.reflect_pool.specs.declared.kind.Kind.TheVariants as publics
use Rattle.reflect_pool.specs.declared.message.MessageDescriptor.{MessageDescriptor}
use Rattle.reflect_entries.specs.Entries.{value_at}
use Rattle.reflect_scalar.specs.FieldTypes.{extension_type}
use Rattle.reflect_scalar.specs.Singles.{Single}
use Rattle.reflect_scalar.specs.declared.map_key.MapKey.{MapKey}
use Rattle.reflect_message.specs.Contents.{Content, content_of}
use Rattle.reflect_copies.specs.Copies.{AreCopies, IsCopy}
use Rattle.reflect_message.specs.Held.{choices_of, fields_of}
use Rattle.reflect_copies.specs.InOrder.{in_order, IsInOrder}
use Rattle.reflect_message.specs.Names.{DynamicMessage, Value}
use Rattle.reflect_message.specs.Oneofs.{AreChosen, IsExclusive}
use Rattle.reflect_copies.specs.Trees.{ValueTree, tree, entry_tree}
use Rattle.reflect_copies.proofs.Alike.{content_alike, message_alike}
use Rattle.reflect_copies.proofs.Copying.{chosen_copied}
use Rattle.reflect_copies.proofs.InOrder.{entries_below, items_below, message_below}
use Rattle.reflect_decode.specs.Ordered.{AreInOrder, AreNumbered, Ascend, HoldsInOrder, IsOrdered, last}
use Rattle.reflect_decode.proofs.InOrder.{message_tells}
use Rattle.protobuf_model.specs.Meaning.{payloads}
use Rattle.message_view.specs.Shaped.{Exclusive, FitsShaped, FitsAs, FitsEntry, FitsOne, HasShape, IsShaped, Shaped}
use Rattle.merge_view.proofs.Trees.{entries_alike, items_alike, single_alike}

abbrev Sorted : Value → Type 0
Sorted v = IsTrue (in_order v)

-- what is known of copies of messages inside
abbrev Copies : (DynamicMessage → Type 0) → Type 0
Copies inner = (m n : DynamicMessage) → n.descriptor ≡ m.descriptor
    → IsCopy (content_of m) (content_of n) → IsInOrder n → inner m → inner n

-- ---- values

module _ (inner : DynamicMessage → Type 0) (copies : Copies inner) (pool : PoolType) where
  one_copied : (f : FieldType) (v w : Value) → tree w ≡ tree v → Sorted w
      → FitsOne inner pool f v → FitsOne inner pool f w
  one_copied f v w e sorted fits = record {
    plain = λ type. let s = fits.plain type in (s.0, single_alike v w e ∙ s.1);
    nested = λ type.
        let m = fits.nested type in
        let n = message_alike v w e m.0 m.1 in (
          n.0,
          n.1,
          subst (λ (d : MessageDescriptor). IsKind pool (publics.Message d) f.kind) (sym n.2) m.2,
          copies m.0 n.0 n.2 (content_alike m.0 n.0 n.3) (message_below w sorted n.0 n.1) m.3,
        );
  }

  items_copied : (f : FieldType) (vs ws : List Value) → map tree ws ≡ map tree vs
      → AllByRecursion Sorted ws → AllByRecursion (FitsOne inner pool f) vs
      → AllByRecursion (FitsOne inner pool f) ws
  items_copied f vs [] same sorted fits = tt
  items_copied f [] (w ∷ ws) same sorted fits = absurd (cc same)
  items_copied f (v ∷ vs) (w ∷ ws) same sorted fits =
      let here : tree w ≡ tree v = cc same in
      let rest : map tree ws ≡ map tree vs = cc same in
      (one_copied f v w here sorted.0 fits.0, items_copied f vs ws rest sorted.1 fits.1)

  entries_copied : (f : FieldType) (es gs : List (MapKey × Value))
      → map entry_tree gs ≡ map entry_tree es
      → AllByRecursion (λ (g : MapKey × Value). Sorted g.1) gs
      → AllByRecursion (FitsEntry inner pool f) es → AllByRecursion (FitsEntry inner pool f) gs
  entries_copied f es [] same sorted fits = tt
  entries_copied f [] (g ∷ gs) same sorted fits = absurd (cc same)
  entries_copied f (e ∷ es) (g ∷ gs) same sorted fits =
      let here : entry_tree g ≡ entry_tree e = cc same in
      let rest : map entry_tree gs ≡ map entry_tree es = cc same in
      let value : tree g.1 ≡ tree e.1 = ap (λ (p : Single × ValueTree). p.1) here in (
        λ values is. one_copied values e.1 g.1 value sorted.0 (fits.0 values is),
        entries_copied f es gs rest sorted.1 fits.1,
      )

  as_copied : (f : FieldType) (keyed listed : Bool) (v w : Value) → tree w ≡ tree v → Sorted w
      → FitsAs inner pool f keyed listed v → FitsAs inner pool f keyed listed w
  as_copied f true listed v w e sorted fits =
      let its = entries_alike v w e fits.0 fits.1 in
      let all = entries_below w sorted its.0 its.1 in
      (its.0, its.1, entries_copied f fits.0 its.0 its.2 all fits.2)
  as_copied f false true v w e sorted fits =
      let its = items_alike v w e fits.0 fits.1 in
      let all = items_below w sorted its.0 its.1 in
      (its.0, its.1, items_copied f fits.0 its.0 its.2 all fits.2)
  as_copied f false false v w e sorted fits = one_copied f v w e sorted fits

  held_copied : (f : FieldType) (o : Option Value) (w : Value)
      → option_map tree (Some w) ≡ option_map tree o → Sorted w
      → ((v : Value) → o ≡ Some v → FitsShaped inner pool f v) → FitsShaped inner pool f w
  held_copied f None w e sorted fits = absurd (cc e)
  held_copied f (Some v) w e sorted fits =
      let same : tree w ≡ tree v = cc e in
      as_copied f (holds_map pool f) (holds_list pool f) v w same sorted (fits v refl)

  -- what stands under a number
  value_copied : (es gs : List (ℕ × Value)) → AreCopies es gs → AreInOrder gs → (f : FieldType)
      → (n : ℕ) → ((v : Value) → value_at es n ≡ Some v → FitsShaped inner pool f v)
      → (w : Value) → value_at gs n ≡ Some w → FitsShaped inner pool f w
  value_copied es gs copied sorted f n fits w at =
      held_copied f (value_at es n) w (sym (ap (option_map tree) at) ∙ copied n)
      (subst (λ o. IfSome o Sorted) at (sorted.each n)) fits

-- ---- numbers

some_told : (o : Option Value) → is_some (option_map tree o) ≡ is_some o
some_told None = refl
some_told (Some v) = refl

none_told : (o : Option Value) → option_map tree o ≡ None → o ≡ None
none_told None e = refl
none_told (Some v) e = absurd (cc e)

none_copied : (es gs : List (ℕ × Value)) → AreCopies es gs → (n : ℕ) → value_at es n ≡ None
    → value_at gs n ≡ None
none_copied es gs copied n none =
    none_told (value_at gs n) (copied n ∙ ap (option_map tree) none)

numbers_copied : (es gs : List (ℕ × Value)) → AreCopies es gs → AreInOrder gs → AreNumbered es
    → AreNumbered gs
numbers_copied es gs copied sorted numbered = record {
  ascending = sorted.ascending;
  within = λ n some.
      numbered.within n
      (sym (some_told (value_at es n)) ∙ sym (ap is_some (copied n)) ∙ some_told (value_at gs n)
      ∙ some);
}

-- ---- messages

-- what is copied of a message in order is in order
pub copy_ordered : (old copy : Content) → IsCopy old copy → HoldsInOrder copy → IsOrdered old
    → IsOrdered copy
copy_ordered old copy copied sorted ordered = record {
  fields = numbers_copied old.fields copy.fields copied.fields sorted.fields ordered.fields;
  extensions =
      numbers_copied old.extensions copy.extensions copied.extensions sorted.extensions
      ordered.extensions;
  unknown = subst (Ascend 1 last) (sym copied.unknown) ordered.unknown;
}

module _ (inner : DynamicMessage → Type 0) (copies : Copies inner) (d : MessageDescriptor) where
  shape_copied : (old copy : Content) → IsCopy old copy → HoldsInOrder copy
      → IsShaped inner d old → IsShaped inner d copy
  shape_copied old copy copied sorted shape = record {
    ordered = copy_ordered old copy copied sorted shape.ordered;
    fields = λ f owns.
        value_copied inner copies d.pool.now old.fields copy.fields copied.fields sorted.fields
        (field_type f) (field_type f).number (shape.fields f owns);
    extensions = λ x owns none.
        value_copied inner copies d.pool.now old.extensions copy.extensions copied.extensions
        sorted.extensions (extension_type x) (extension_type x).number
        (shape.extensions x owns none);
    apart = λ f owns.
        none_copied old.extensions copy.extensions copied.extensions (field_type f).number
        (shape.apart f owns);
    unowned = λ n none.
        none_copied old.fields copy.fields copied.fields n (shape.unowned n none);
    declared = λ n is. ap (payloads n) copied.unknown ∙ shape.declared n is;
  }

-- a copy of a message, where copies of those inside are what these are
copied_shape : (inner : DynamicMessage → Type 0) → Copies inner → (m n : DynamicMessage)
    → n.descriptor ≡ m.descriptor → IsCopy (content_of m) (content_of n) → IsInOrder n
    → IsShaped inner m.descriptor (content_of m) → IsShaped inner n.descriptor (content_of n)
copied_shape inner copies m n same copied sorted shape =
    subst (λ (d : MessageDescriptor). IsShaped inner d (content_of n)) (sym same)
    (shape_copied inner copies m.descriptor (content_of m) (content_of n) copied
    (message_tells n sorted) shape)

copied_alone : (m n : DynamicMessage) → n.descriptor ≡ m.descriptor
    → IsCopy (content_of m) (content_of n) → IsExclusive m → IsExclusive n
copied_alone m n same copied chosen =
    subst (λ (d : MessageDescriptor). AreChosen d (choices_of n) (fields_of n)) (sym same)
    (chosen_copied m.descriptor (choices_of m) (choices_of n) (fields_of m) (fields_of n)
    copied.choices copied.fields chosen)

copies_shaped : (levels : ℕ) → Copies (Shaped levels)
copies_shaped zero m n same copied sorted h = absurd h
copies_shaped (suc levels) m n same copied sorted h =
    copied_shape (Shaped levels) (copies_shaped levels) m n same copied sorted h

copies_exclusive : (levels : ℕ) → Copies (Exclusive levels)
copies_exclusive zero m n same copied sorted h = absurd h
copies_exclusive (suc levels) m n same copied sorted h = (
  copied_shape (Exclusive levels) (copies_exclusive levels) m n same copied sorted h.0,
  copied_alone m n same copied h.1,
)

-- of so many levels
pub copies_at : (exclusive : Bool) (levels : ℕ) → Copies (HasShape exclusive levels)
copies_at true levels = copies_exclusive levels
copies_at false levels = copies_shaped levels

pub copy_shaped : (exclusive : Bool) (levels : ℕ) (d : MessageDescriptor) (old copy : Content)
    → IsCopy old copy → HoldsInOrder copy → IsShaped (HasShape exclusive levels) d old
    → IsShaped (HasShape exclusive levels) d copy
copy_shaped exclusive levels =
    shape_copied (HasShape exclusive levels) (copies_at exclusive levels)
