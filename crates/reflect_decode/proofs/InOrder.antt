-- What is in order at each depth stays so while records are taken in.
use Rattle.std.proofs.Common.{◌≡◌, ◌≢◌, ◌⊎◌, inl, inr, ℕ, zero, suc, Bool, true, false, true≢false, cond, List, [], ◌∷◌, ◌++◌, map, Option, None, Some, unwrap_or, refl, sym, ap, ◌∙◌, subst, arith}
use Rattle.std.proofs.lemmas.Bool.{and_from}
use Rattle.std.proofs.lemmas.Bool.Decides.{eqb_tells}
use Rattle.std.proofs.lemmas.List.Folds.{list_all-append}
use Rattle.std.specs.BTreeMap.{insert_entry}
use Rattle.std.specs.Prelude.{IfSome, IsTrue, string_bytes}
use Rattle.reflect_tables.specs.Types.{PoolType, FieldType, KindType}
use Rattle.reflect_pool.specs.FieldsLeft.{field_type}
use Rattle.reflect_pool.specs.Shapes.{holds_list, holds_map}
use Rattle.reflect_pool.specs.declared.kind.Kind.{Kind}
use Rattle.reflect_pool.specs.declared.kind.Kind.TheVariants as kinds
use Rattle.reflect_pool.specs.declared.message.MessageDescriptor.{MessageDescriptor}
use Rattle.reflect_pool.specs.declared.field.FieldDescriptor.{FieldDescriptor}
use Rattle.reflect_pool.specs.declared.extension.ExtensionDescriptor.{ExtensionDescriptor}
use Rattle.reflect_wire.specs.Records.{Payload}
use Rattle.reflect_entries.specs.Entries.{IsAscending, value_at}
use Rattle.reflect_scalar.specs.FieldTypes.{extension_pool, extension_type, field_pool}
use Rattle.reflect_scalar.specs.Floats.{HoldsFloats}
use Rattle.reflect_scalar.specs.Singles.{Single, truth, int32, int64, uint32, uint64, text, blob, enumerated}
use Rattle.reflect_scalar.specs.declared.map_key.MapKey.{MapKey}
use Rattle.reflect_message.specs.Contents.{Content, content_of, nothing}
use Rattle.reflect_message.specs.Declares.{Owns, OwnsExtension}
use Rattle.reflect_message.specs.Held.{Same, fields_of, extensions_of}
use Rattle.reflect_copies.specs.InOrder.{held_order, parts_order, value_order, message_order, in_order, held_in_order, entries_in_order, items_in_order, map_in_order, IsInOrder}
use Rattle.reflect_message.specs.Known.{holds_floats, is_float}
use Rattle.reflect_message.specs.Lists.{items_held}
use Rattle.reflect_message.specs.Maps.{entries_held, key_order}
use Rattle.reflect_message.specs.Messages.{IsStart}
use Rattle.reflect_message.specs.Names.{DynamicMessage, Held, Parts, Value}
use Rattle.reflect_message.specs.Oneofs.{Unsets, sibling}
use Rattle.reflect_message.specs.Singles.{single}
use Rattle.reflect_message.specs.declared.parts.HeldOf.{out-HeldOf}
use Rattle.reflect_message.specs.declared.parts.HeldOf.TheFolds.{map-HeldOf, map-ValueOf, fold_out-HeldOf, fold_out-ValueOf}
use Rattle.reflect_message.specs.declared.parts.HeldOf.TheOpen.{HeldOf-F, ValueOf-F}
use Rattle.reflect_message.specs.declared.parts.HeldOf.TheViews.{out-ValueOf}
use Rattle.reflect_copies.proofs.Alike.{Open, extensions_in_block, fields_in_block}
use Rattle.reflect_message.proofs.Choosing.{is_or_not}
use Rattle.reflect_copies.proofs.InOrder.{copy_put, entries_from, extensions_ascend, extensions_in_order, fields_ascend, fields_in_order, message_below, message_folded, order_of_list, order_of_map, order_of_message, parts_folded, parts_folded_in}
use Rattle.reflect_message.proofs.Known.{kept}
use Rattle.reflect_decode.specs.Keeps.{payloads}
use Rattle.reflect_decode.specs.Levels.{TakenAt, TakesAt}
use Rattle.reflect_decode.specs.Maps.{ContinuesMap, IsEntry, LeavesValue, PutEntries}
use Rattle.reflect_decode.specs.Messages.{IsMade, MergesMessage, Takes}
use Rattle.reflect_decode.specs.Ordered.{AreInOrder, HoldsInOrder}
use Rattle.reflect_decode.specs.Scalars.{LeavesAs}
use Rattle.reflect_decode.specs.Taking.{AreMade, Leaves, TakesAs}
use Rattle.reflect_decode.proofs.Sorts.{Sort, plain, floating, message_type, left_single, no_float_values, not_float, sort_of}

abbrev Sorted : Option Value → Type 0
Sorted o = IfSome o (λ v. IsTrue (in_order v))

-- ---- single values

abbrev single_of : Open → Option Single
single_of o = elim o [
  | ValueOf-F.Bool b ↦ Some (truth b)
  | ValueOf-F.I32 z ↦ Some (int32 z)
  | ValueOf-F.I64 z ↦ Some (int64 z)
  | ValueOf-F.U32 n ↦ Some (uint32 n)
  | ValueOf-F.U64 n ↦ Some (uint64 n)
  | ValueOf-F.String t ↦ Some (text (string_bytes t))
  | ValueOf-F.Bytes b ↦ Some (blob b.items)
  | ValueOf-F.EnumNumber z ↦ Some (enumerated z)
  | ValueOf-F.Message m ↦ None
  | ValueOf-F.List vs ↦ None
  | ValueOf-F.Map es ↦ None
]

single_in_order : (v : Value) (s : Single) → single v ≡ Some s → IsTrue (in_order v)
single_in_order v s e =
    fold_out-ValueOf MessageDescriptor Bool Bool Bool Bool
    held_order value_order message_order parts_order v
    ∙ by (out-ValueOf MessageDescriptor v) e where
      by : (o : Open) → single_of o ≡ Some s
          → value_order (map-ValueOf MessageDescriptor Held Value DynamicMessage Parts Bool Bool Bool Bool
          held_in_order in_order message_folded parts_folded_in o) ≡ true
      by (ValueOf-F.Message m) e = absurd (cc e)
      by (ValueOf-F.List vs) e = absurd (cc e)
      by (ValueOf-F.Map es) e = absurd (cc e)
      by o e = refl

all_single : (vs : List Value) (ss : List Single) → map single vs ≡ map Some ss
    → IsTrue (items_in_order vs)
all_single [] ss e = refl
all_single (v ∷ vs) [] e = absurd (cc e)
all_single (v ∷ vs) (s ∷ ss) e =
    let here : single v ≡ Some s = cc e in
    let rest : map single vs ≡ map Some ss = cc e in
    and_from _ _ (single_in_order v s here) (all_single vs ss rest)

-- ---- messages

-- what its content tells of a message
pub message_from : (m : DynamicMessage) → HoldsInOrder (content_of m) → IsInOrder m
message_from m content =
    fold_out-HeldOf MessageDescriptor Bool Bool Bool Bool
    held_order value_order message_order parts_order m.held
    ∙ by (out-HeldOf MessageDescriptor m.held)
    (entries_from (fields_of m) content.fields.ascending content.fields.each)
    (entries_from (extensions_of m) content.extensions.ascending content.extensions.each) where
      by : (o : HeldOf-F MessageDescriptor Held Value DynamicMessage Parts)
          → IsTrue (entries_in_order (fields_in_block o))
          → IsTrue (entries_in_order (extensions_in_block o))
          → held_order (map-HeldOf MessageDescriptor Held Value DynamicMessage Parts Bool Bool Bool Bool
          held_in_order in_order message_folded parts_folded_in o) ≡ true
      by HeldOf-F.Nothing h k = refl
      by (HeldOf-F.Block b) h k = parts_folded b.value ∙ and_from _ _ h k

-- and a message of its content
pub message_tells : (m : DynamicMessage) → IsInOrder m → HoldsInOrder (content_of m)
message_tells m h = record {
  fields = record { ascending = fields_ascend m h; each = fields_in_order m h };
  extensions = record { ascending = extensions_ascend m h; each = extensions_in_order m h };
}

none_in_order : AreInOrder []
none_in_order = record {
  ascending = λ i j d lt below. absurd (omega (arith, below));
  each = λ n. tt;
}

pub nothing_in_order : HoldsInOrder nothing
nothing_in_order = record { fields = none_in_order; extensions = none_in_order }

-- ---- what is held

start_in_order : (pool : PoolType) (t : KindType) (o : Option Value) (m : DynamicMessage)
    → IsStart pool t o m → Sorted o → HoldsInOrder (content_of m)
start_in_order pool t None m (is, empty) h = subst HoldsInOrder (sym empty) nothing_in_order
start_in_order pool t (Some v) m is h = message_tells m (message_below v h m is)

items_of : (o : Option Value) (vs : List Value) → items_held o ≡ Some vs → Sorted o
    → IsTrue (items_in_order vs)
items_of None vs e h = sym (ap (λ (p : Option (List Value)). items_in_order (unwrap_or p [])) e)
items_of (Some v) vs e h = sym (order_of_list v vs e) ∙ h

holds_items : (o : Option Value) (vs : List Value) → items_held o ≡ Some vs
    → IsTrue (items_in_order vs) → Sorted o
holds_items None vs e h = tt
holds_items (Some v) vs e h = order_of_list v vs e ∙ h

entries_of : (o : Option Value) (es : List (MapKey × Value)) → entries_held o ≡ Some es → Sorted o
    → IsTrue (map_in_order es)
entries_of None es e h =
    sym (ap (λ (p : Option (List (MapKey × Value))). map_in_order (unwrap_or p [])) e)
entries_of (Some v) es e h = sym (order_of_map v es e) ∙ h

holds_entries : (o : Option Value) (es : List (MapKey × Value)) → entries_held o ≡ Some es
    → IsTrue (map_in_order es) → Sorted o
holds_entries None es e h = tt
holds_entries (Some v) es e h = order_of_map v es e ∙ h

behind_in_order : (before after added : List Value) → after ≡ before ++ added
    → IsTrue (items_in_order before) → IsTrue (items_in_order added)
    → IsTrue (items_in_order after)
behind_in_order before after added is h k =
    ap items_in_order is ∙ list_all-append in_order before added ∙ and_from _ _ h k

-- ---- what records leave

-- messages that take in payloads stay in order
abbrev pub Orders : Takes → Type 0
Orders takes = (grouped : Bool) (m : MessageDescriptor) (a b : Content) (ps : List Payload)
    → takes.message grouped m a b ps → HoldsInOrder a → HoldsInOrder b

pub orders_at : (levels : ℕ) → Orders (TakesAt levels)
unfolding TakenAt
orders_at zero grouped m a b ps h = absurd h
orders_at (suc levels) grouped m a b ps h = h.2.in_order

module _ (takes : Takes) (orders : Orders takes) (pool : PoolType) where
  merged_in_order : (t : KindType) (grouped : Bool) (old new : Option Value) (ps : List Payload)
      → MergesMessage (takes.message grouped) pool t old new ps → Sorted old → Sorted new
  merged_in_order t grouped old None ps h before = tt
  merged_in_order t grouped old (Some w) ps (m, after, start, stands, same, taken) before =
      let content = orders grouped m.descriptor (content_of m) (content_of after) ps taken
      (start_in_order pool t old m start before) in
      order_of_message w after stands ∙ message_from after content

  made_in_order : (grouped : Bool) (kind : Kind) (p : Payload) (v : Value)
      → IsMade (takes.message grouped) kind p v → IsTrue (in_order v)
  made_in_order grouped (kinds.Message d) p v (m, there, same, taken) =
      order_of_message v m there
      ∙ message_from m (orders grouped d nothing (content_of m) (p ∷ []) taken nothing_in_order)
  made_in_order grouped kind p v h = absurd h

  all_made : (t : KindType) (grouped : Bool) (ps : List Payload) (vs : List Value)
      → AreMade (takes.message grouped) pool t ps vs → IsTrue (items_in_order vs)
  all_made t grouped [] vs h = ap items_in_order h
  all_made t grouped (p ∷ ps) vs (kind, v, behind, is, one, rest, whole) =
      ap items_in_order whole
      ∙ and_from _ _ (made_in_order grouped kind p v one) (all_made t grouped ps behind rest)

  -- the value of an entry
  value_in_order : (f : FieldType) (v : Value) (ps : List Payload) → is_float f.kind ≡ false
      → LeavesValue takes pool f v ps → IsTrue (in_order v)
  value_in_order f v ps whole h = by (sort_of f.kind) where
    by : Sort f.kind → IsTrue (in_order v)
    by (plain type) =
        let w = left_single pool f (single v) ps type (h.0 type) in single_in_order v w.0 w.1
    by (message_type type) = merged_in_order f.kind f.group None (Some v) ps (h.1 type) tt
    by (floating float) = absurd (true≢false (sym float ∙ whole))

  -- the entries of a field's map
  module _ (f : FieldType) (whole : holds_floats pool f ≡ false) (keyed : holds_map pool f ≡ true) where
    entry_in_order : (p : Payload) (k : MapKey) (v : Value) → IsEntry takes pool f.kind p k v
        → IsTrue (in_order v)
    entry_in_order p k v (keys, values, rs, first, second, inside, key_left, value_left) =
        value_in_order values v (payloads 2 rs) (no_float_values pool f values whole keyed second)
        value_left

    entries_put : (old new : List (MapKey × Value)) (ps : List Payload)
        → PutEntries takes pool f.kind old new ps → IsTrue (map_in_order old)
        → IsTrue (map_in_order new)
    entries_put old new [] h before = ap map_in_order h ∙ before
    entries_put old new (p ∷ ps) (k, v, one, rest) before =
        let next : List (MapKey × Value) = insert_entry key_order old k v in
        entries_put next new ps rest
        (copy_put k v old next (k, refl, refl) before (entry_in_order p k v one))

  -- what a field holds
  leaves_in_order : (f : FieldType) (old new : Option Value) (ps : List Payload)
      → holds_floats pool f ≡ false → Leaves takes pool f old new ps → Sorted old → Sorted new
  leaves_in_order f old new [] whole h before = subst Sorted (sym h) before
  leaves_in_order f old new (p ∷ ps) whole h before =
      by (holds_map pool f) refl (sort_of f.kind) where
        values : (b : Bool) → LeavesAs b pool f.kind old new (p ∷ ps) → Sorted new
        values true (first, last, ss, was, is, spelled, (added, behind, seen)) =
            holds_items new last is
            (behind_in_order first last added behind (items_of old first was before)
            (all_single added ss seen))
        values false (v, s, put, is, last) = subst Sorted (sym put) (single_in_order v s is)

        messages : (b : Bool) → TakesAs b (takes.message f.group) pool f.kind old new (p ∷ ps)
            → Sorted new
        messages true (first, last, added, was, is, made, behind) =
            holds_items new last is
            (behind_in_order first last added behind (items_of old first was before)
            (all_made f.kind f.group (p ∷ ps) added made))
        messages false merged = merged_in_order f.kind f.group old new (p ∷ ps) merged before

        entries : holds_map pool f ≡ true → ContinuesMap takes pool f.kind old new (p ∷ ps)
            → Sorted new
        entries keyed (first, last, was, is, put) =
            holds_entries new last is
            (entries_put f whole keyed first last (p ∷ ps) put (entries_of old first was before))

        by : (b : Bool) → holds_map pool f ≡ b → Sort f.kind → Sorted new
        by true keyed sort = entries keyed (h.2 keyed)
        by false keyed (plain type) = values (holds_list pool f) (h.0 type)
        by false keyed (message_type type) = messages (holds_list pool f) (h.1 type keyed)
        by false keyed (floating float) =
            absurd (true≢false (sym float ∙ not_float pool f whole))

  -- what stands under all numbers, where records of one are taken in
  run_in_order : (f : FieldType) → (HoldsFloats pool f → ⊥) → (n : ℕ) (old new : List (ℕ × Value))
      → (ps : List Payload) → ((k : ℕ) → k ≢ n → Same old new k)
      → Leaves takes pool f (value_at old n) (value_at new n) ps
      → ((k : ℕ) → Sorted (value_at old k)) → (k : ℕ) → Sorted (value_at new k)
  run_in_order f held n old new ps others leaves before k = by k (eqb_tells k n) where
    whole : (b : Bool) → cond b None (Some f) ≡ Some f → b ≡ false
    whole true e = absurd (cc e)
    whole false e = refl

    by : {A B : Type 0} (k : ℕ) → (A × (k ≡ n)) ⊎ (B × (k ≢ n)) → Sorted (value_at new k)
    by k (inl (_, is)) =
        subst (λ k. Sorted (value_at new k)) (sym is)
        (leaves_in_order f (value_at old n) (value_at new n) ps
        (whole (holds_floats pool f) (kept pool f held)) leaves (before n))
    by k (inr (_, other)) = subst Sorted (sym (others k other)) (before k)

-- ---- one run of records

module _ (takes : Takes) (orders : Orders takes) (m : MessageDescriptor) (old new : Content) where
  -- a field takes them in, and then a sibling is unset
  pub field_in_order : (f : FieldDescriptor) → Owns m f → (between : List (ℕ × Value))
      → (ps : List Payload) → ((k : ℕ) → k ≢ (field_type f).number → Same old.fields between k)
      → Leaves takes (field_pool f) (field_type f) (value_at old.fields (field_type f).number)
      (value_at between (field_type f).number) ps → Unsets f old.choices between new.fields
      → (IsAscending old.fields → IsAscending new.fields) → new.extensions ≡ old.extensions
      → HoldsInOrder old → HoldsInOrder new
  field_in_order f owns between ps others leaves unsets rising same before = record {
    fields = record {
      ascending = rising before.fields.ascending;
      each = λ k. by k (is_or_not (sibling f old.choices) k);
    };
    extensions = subst AreInOrder (sym same) before.extensions;
  } where
    taken : (k : ℕ) → Sorted (value_at between k)
    taken =
        run_in_order takes orders (field_pool f) (field_type f) owns.2 (field_type f).number
        old.fields between ps others leaves before.fields.each

    by : (k : ℕ) → (sibling f old.choices ≡ Some k) ⊎ (sibling f old.choices ≢ Some k)
        → Sorted (value_at new.fields k)
    by k (inl is) = subst Sorted (sym (unsets.unset k is)) tt
    by k (inr not) = subst Sorted (sym (unsets.others k not)) (taken k)

  -- an extension takes them in
  pub extension_in_order : (x : ExtensionDescriptor) → OwnsExtension m x → (n : ℕ)
      → (ps : List Payload) → new.fields ≡ old.fields
      → (IsAscending old.extensions → IsAscending new.extensions)
      → ((k : ℕ) → k ≢ n → Same old.extensions new.extensions k)
      → Leaves takes (extension_pool x) (extension_type x) (value_at old.extensions n)
      (value_at new.extensions n) ps → HoldsInOrder old → HoldsInOrder new
  extension_in_order x owns n ps same rising others leaves before = record {
    fields = subst AreInOrder (sym same) before.fields;
    extensions = record {
      ascending = rising before.extensions.ascending;
      each =
          run_in_order takes orders (extension_pool x) (extension_type x) owns.2 n
          old.extensions new.extensions ps others leaves before.extensions.each;
    };
  }

-- other records are kept
pub others_in_order : (old new : Content) → new.fields ≡ old.fields
    → new.extensions ≡ old.extensions → HoldsInOrder old → HoldsInOrder new
others_in_order old new fields extensions before = record {
  fields = subst AreInOrder (sym fields) before.fields;
  extensions = subst AreInOrder (sym extensions) before.extensions;
}
