-- A message in shape, of a sound pool, is alike to itself.
use Rattle.std.proofs.Common.{◌≡◌, ℕ, zero, suc, Bool, true, false, true≢false, List, [], ◌∷◌, Option, Some, None, refl, sym, ap, ◌∙◌, subst}
use Rattle.std.specs.List.{AllByRecursion}
use Rattle.reflect_tables.specs.Types.{FieldType, PoolType}
use Rattle.reflect_pool.specs.FieldsLeft.{field_type}
use Rattle.reflect_pool.specs.Shapes.{holds_list, holds_map}
use Rattle.reflect_pool.specs.declared.message.MessageDescriptor.{MessageDescriptor}
use Rattle.reflect_entries.specs.Entries.{value_at}
use Rattle.reflect_scalar.specs.FieldTypes.{extension_type}
use Rattle.reflect_scalar.specs.declared.map_key.MapKey.{MapKey}
use Rattle.reflect_message.specs.Contents.{content_of}
use Rattle.reflect_message.specs.Held.{extensions_of, fields_of}
use Rattle.reflect_message.specs.Known.{entry_field, holds_floats, is_float, known_extension, known_field}
use Rattle.reflect_message.specs.Names.{DynamicMessage, Value}
use Rattle.print_parts.specs.Pairwise.{Pairwise}
use Rattle.message_view.specs.Shaped.{FitsAs, FitsEntry, FitsOne, FitsShaped, IsShaped, Shaped}
use Rattle.message_view.specs.Sound.{IsSound}
use Rattle.message_view.proofs.Accepting.{extension_known_whole, known_whole, not_float}
use Rattle.message_view.proofs.Entries.{Sort, entry_of_map, floating, message_type, no_float_values, plain, sort_of}
use Rattle.message_view.proofs.Fields.{known, known_extension_is, none_owned}
use Rattle.print_view.proofs.Alike.{AlikeHeld, AlikeMessages, AlikeOnes, AlikePairs, AlikeValues, FieldAlike, Likeness, Within, alike_lists, alike_maps, alike_messages, alike_ones, bare_alike, none_alike, one_single, some_alike}

module _ (pool : PoolType) (sound : IsSound pool) (levels : ℕ) (own : (n : DynamicMessage) → n.descriptor.pool.now ≡ pool → Shaped levels n → AlikeMessages pool levels n n) where
  abbrev A : Likeness
  A = Within pool levels

  -- ---- values that suit a field
  one_own : (f : FieldType) → is_float f.kind ≡ false → (v : Value) → FitsOne (Shaped levels) pool f v → AlikeOnes A v v
  one_own f whole v fits = by (sort_of f.kind) where
    by : Sort f.kind → AlikeOnes A v v
    by (floating e) = absurd (true≢false (sym e ∙ whole))
    by (plain type) = let w = fits.plain type in one_single w.0 w.1 w.1
    by (message_type type) = let n = fits.nested type in alike_messages n.0 n.0 n.1 n.1 (own n.0 n.2.0 n.3)

  items_own : (f : FieldType) → is_float f.kind ≡ false → (vs : List Value) → AllByRecursion (FitsOne (Shaped levels) pool f) vs → Pairwise (AlikeOnes A) vs vs
  items_own f whole [] all = refl
  items_own f whole (v ∷ vs) all = (v, vs, one_own f whole v all.0, items_own f whole vs all.1, refl)

  entries_own : (f values : FieldType) → entry_field pool f.kind 2 ≡ Some values → is_float values.kind ≡ false → (es : List (MapKey × Value)) → AllByRecursion (FitsEntry (Shaped levels) pool f) es → Pairwise (AlikePairs A) es es
  entries_own f values there whole [] all = refl
  entries_own f values there whole (e ∷ es) all = (e, es, (refl, one_own values whole e.1 (all.0 values there)), entries_own f values there whole es all.1, refl)

  value_own : (f : FieldType) → holds_floats pool f ≡ false → (v : Value) → FitsShaped (Shaped levels) pool f v → AlikeValues A v v
  value_own f whole v fits = by (holds_map pool f) refl (holds_list pool f) fits where
    by : (b : Bool) → holds_map pool f ≡ b → (c : Bool) → FitsAs (Shaped levels) pool f b c v → AlikeValues A v v
    by true is c (es, at, all) =
        let parts = sound.entries f.kind (entry_of_map pool f is) in
        alike_maps es es at at (entries_own f parts.1 parts.3 (no_float_values pool f parts.1 whole is parts.3) es all)
    by false is true (vs, at, all) = alike_lists vs vs at at (items_own f (not_float pool f whole) vs all)
    by false is false fit = alike_ones (one_own f (not_float pool f whole) v fit)

  -- what may stand under a number
  held_own : (f : FieldType) → holds_floats pool f ≡ false → (o : Option Value) → ((v : Value) → o ≡ Some v → FitsShaped (Shaped levels) pool f v) → FieldAlike A pool f o o
  held_own f whole None fits = none_alike A pool (bare_alike pool levels) f whole
  held_own f whole (Some v) fits = some_alike A pool f v v (value_own f whole v (fits v refl))

-- a message of the pool
module _ (m : DynamicMessage) (sound : IsSound m.descriptor.pool.now) (levels : ℕ) (own : (n : DynamicMessage) → n.descriptor.pool.now ≡ m.descriptor.pool.now → Shaped levels n → AlikeMessages m.descriptor.pool.now levels n n)
    (shape : IsShaped (Shaped levels) m.descriptor (content_of m)) where
  abbrev d : MessageDescriptor
  d = m.descriptor

  abbrev Its : FieldType → Option Value → Type 0
  Its f o = FieldAlike (Within m.descriptor.pool.now levels) m.descriptor.pool.now f o o

  field_own : (k : ℕ) (f : FieldType) → known_field d.pool.now d.index k ≡ Some f → Its f (value_at (fields_of m) k)
  field_own k f is = held_own d.pool.now sound levels own f (known_whole d k f is) (value_at (fields_of m) k) fits where
    fits : (v : Value) → value_at (fields_of m) k ≡ Some v → FitsShaped (Shaped levels) d.pool.now f v
    fits v at =
        let g = known d k f is in
        let number : (field_type g.0).number ≡ k = ap (λ (t : FieldType). t.number) g.2 ∙ g.3 in
        subst (λ t. FitsShaped (Shaped levels) d.pool.now t v) g.2 (shape.fields g.0 g.1 v (ap (value_at (fields_of m)) number ∙ at))

  extension_own : (k : ℕ) (f : FieldType) → known_extension d.pool.now d.index k ≡ Some f → Its f (value_at (extensions_of m) k)
  extension_own k f is = held_own d.pool.now sound levels own f (extension_known_whole d k f is) (value_at (extensions_of m) k) (by (known_field d.pool.now d.index k) refl) where
    by : (o : Option FieldType) → known_field d.pool.now d.index k ≡ o → (v : Value) → value_at (extensions_of m) k ≡ Some v → FitsShaped (Shaped levels) d.pool.now f v
    by (Some g) there v at =
        let h = known d k g there in
        let number : (field_type h.0).number ≡ k = ap (λ (t : FieldType). t.number) h.2 ∙ h.3 in
        absurd (cc (sym at ∙ ap (value_at (extensions_of m)) (sym number) ∙ shape.apart h.0 h.1))
    by None none v at =
        let x = known_extension_is d k f is in
        let number : (extension_type x.0).number ≡ k = ap (λ (t : FieldType). t.number) x.2 ∙ x.3 in
        subst (λ t. FitsShaped (Shaped levels) d.pool.now t v) x.2
        (shape.extensions x.0 x.1 (ap (known_field d.pool.now d.index) number ∙ none) v (ap (value_at (extensions_of m)) number ∙ at))

  message_own : AlikeHeld (Within m.descriptor.pool.now levels) m.descriptor.pool.now m m
  message_own = record {
    first = refl;
    second = refl;
    index = refl;
    ordered = shape.ordered;
    order = shape.ordered;
    fields = field_own;
    unowned = λ k none. let empty = shape.unowned k (none_owned d k none) in (empty, empty);
    extensions = extension_own;
    unknown = refl;
  }

-- at each depth
pub shape_alike : (pool : PoolType) → IsSound pool → (levels : ℕ) (m : DynamicMessage) → m.descriptor.pool.now ≡ pool → Shaped levels m → AlikeMessages pool levels m m
shape_alike pool sound zero m there h = absurd h
shape_alike pool sound (suc levels) m there h =
    let its = subst IsSound (sym there) sound in
    subst (λ p. AlikeHeld (Within p levels) p m m) there (message_own m its levels (shape_alike m.descriptor.pool.now its levels) h)
