-- What records leave suits its fields, at each depth, behind what suited them.
use Rattle.std.proofs.Common.{◌≡◌, ◌⊎◌, inl, inr, ◌≤◌, ℕ, zero, suc, Bool, true, false, true≢false, List, [], ◌∷◌, ◌++◌, map, Option, Some, None, Ordering, Less, Equal, Greater, refl, sym, ap, ◌∙◌, subst, arith}
use Rattle.std.specs.BTreeMap.{insert_entry}
use Rattle.std.specs.List.{AllByRecursion}
use Rattle.std.specs.Ordering.{match_ordering}
use Rattle.reflect_tables.specs.Types.{PoolType, FieldType, KindType}
use Rattle.reflect_pool.specs.FieldsLeft.{field_type}
use Rattle.reflect_pool.specs.Kinds.{IsKind}
use Rattle.reflect_pool.specs.Shapes.{holds_list, holds_map}
use Rattle.reflect_pool.specs.declared.kind.Kind.{Kind}
use Rattle.reflect_pool.specs.declared.kind.Kind.TheVariants as publics
use Rattle.reflect_pool.specs.declared.message.MessageDescriptor.{MessageDescriptor}
use Rattle.reflect_pool.specs.declared.field.FieldDescriptor.{FieldDescriptor}
use Rattle.reflect_pool.specs.declared.extension.ExtensionDescriptor.{ExtensionDescriptor}
use Rattle.reflect_wire.specs.Records.{Payload}
use Rattle.reflect_entries.specs.Entries.{value_at}
use Rattle.reflect_scalar.specs.FieldTypes.{extension_type}
use Rattle.reflect_scalar.specs.Singles as held
use Rattle.reflect_scalar.specs.declared.map_key.MapKey.{MapKey}
use Rattle.reflect_message.specs.Contents.{Content, content_of, nothing}
use Rattle.reflect_message.specs.Declares.{NoField, Owns, OwnsExtension}
use Rattle.reflect_message.specs.Held.{Same, choices_of, fields_of}
use Rattle.reflect_message.specs.KindTypes.{IsScalarType, IsMessageType}
use Rattle.reflect_message.specs.Known.{entry_field, holds_floats, known_field}
use Rattle.reflect_message.specs.Lists.{items_held}
use Rattle.reflect_message.specs.Maps.{entries_held, key_order}
use Rattle.reflect_message.specs.Messages.{message_in}
use Rattle.reflect_message.specs.Oneofs.{AreChosen}
use Rattle.reflect_message.specs.Singles as singles
use Rattle.reflect_message.specs.Names.{DynamicMessage, Value}
use Rattle.reflect_decode.specs.Fields.{LeavesExtension, LeavesField}
use Rattle.reflect_decode.specs.Keeps.{KeepsUndeclared}
use Rattle.reflect_decode.specs.Keeps as keeps
use Rattle.reflect_decode.specs.Levels.{MergesAt, TakenAt, TakesAt}
use Rattle.reflect_decode.specs.Maps.{LeavesValue, IsEntry, PutEntries, ContinuesMap}
use Rattle.reflect_decode.specs.Messages.{Takes, IsMade, MergesMessage}
use Rattle.reflect_decode.specs.Ordered.{IsOrdered}
use Rattle.reflect_decode.specs.Scalars.{LeavesAs, HoldsLast, ContinuesWith}
use Rattle.reflect_decode.specs.Spares.{Merges, ReadsMember}
use Rattle.reflect_decode.specs.Suits.{HeldSuits, IsSuiting, Suiting, Suits, SuitsAs, SuitsBelow, SuitsBy}
use Rattle.reflect_decode.specs.Taking.{AreMade, AddsMessages, TakesAs, Leaves}
use Rattle.protobuf_model.proofs.Arranged.{all_append}
use Rattle.reflect_decode.proofs.Sorts.{Sort, plain, floating, message_type, left_single, not_float, sort_of}
use Rattle.reflect_decode.proofs.Suiting.{nothing_suits}
use Rattle.reflect_decode.proofs.Telling.{both_kinds}
use Rattle.message_view.proofs.Changed.{empty_shaped}
use Rattle.message_view.proofs.Deeper.{one_level, whole_shape}
use Rattle.message_view.proofs.Fields.{owned_whole, extension_whole, none_owned}
use Rattle.message_view.proofs.Oneofs.{payloads_same}
use Rattle.message_view.specs.Shaped.{FitsShaped, FitsAs, FitsOne, HasShape, IsShaped}

-- of a value as one
one_plain : (inner : DynamicMessage → Type 0) (pool : PoolType) (f : FieldType) (v : Value) (w : held.Single) → IsScalarType f.kind → singles.single v ≡ Some w → FitsOne inner pool f v
one_plain inner pool f v w type is = record { plain = λ _. (w, is); nested = λ also. absurd (both_kinds f.kind type also) }

one_nested : (inner : DynamicMessage → Type 0) (pool : PoolType) (f : FieldType) (v : Value) (m : DynamicMessage) → IsMessageType f.kind → message_in v ≡ Some m → IsKind pool (publics.Message m.descriptor) f.kind → inner m → FitsOne inner pool f v
one_nested inner pool f v m type is kind fits = record { plain = λ also. absurd (both_kinds f.kind also type); nested = λ _. (m, is, kind, fits) }

-- what is held, if anything is, suits the field
abbrev HeldFits : (DynamicMessage → Type 0) → PoolType → FieldType → Option Value → Type 0
HeldFits inner pool f None = Unit {0}
HeldFits inner pool f (Some v) = FitsShaped inner pool f v

held_fits : (inner : DynamicMessage → Type 0) (pool : PoolType) (f : FieldType) (o : Option Value) → ((v : Value) → o ≡ Some v → FitsShaped inner pool f v) → HeldFits inner pool f o
held_fits inner pool f None fits = tt
held_fits inner pool f (Some v) fits = fits v refl

-- what is known of messages one level below: of one that payloads make, and of one that takes them in
pub record Makes (takes : Takes) (suits : Suiting) (inner : DynamicMessage → Type 0) : Type 0 where
  pub messages : (grouped : Bool) (m : DynamicMessage) (ps : List Payload) → takes.message grouped m.descriptor nothing (content_of m) ps → inner m
  pub further : (grouped : Bool) (old new : DynamicMessage) (ps : List Payload) → new.descriptor ≡ old.descriptor → inner old → suits old.descriptor (content_of old)
      → takes.message grouped old.descriptor (content_of old) (content_of new) ps → inner new

module _ (takes : Takes) (suits : Suiting) (inner : DynamicMessage → Type 0) (makes : Makes takes suits inner) (pool : PoolType) where
  merged_one : (f : FieldType) (v : Value) (ps : List Payload) → IsMessageType f.kind → MergesMessage (takes.message f.group) pool f.kind None (Some v) ps → FitsOne inner pool f v
  merged_one f v ps type (before, after, (is, empty), stands, same, takes_it) =
      let from_nothing = subst (λ c. takes.message f.group before.descriptor c (content_of after) ps) empty takes_it in
      let its = subst (λ (d : MessageDescriptor). takes.message f.group d nothing (content_of after) ps) (sym same) from_nothing in
      one_nested inner pool f v after type stands (subst (λ (d : MessageDescriptor). IsKind pool (publics.Message d) f.kind) (sym same) is) (makes.messages f.group after ps its)

  -- a message that stood there
  taken_one : (f : FieldType) (u v : Value) (ps : List Payload) → IsMessageType f.kind → FitsOne inner pool f u → IsSuiting suits pool f.kind u → MergesMessage (takes.message f.group) pool f.kind (Some u) (Some v) ps → FitsOne inner pool f v
  taken_one f u v ps type fits suited (before, after, at, stands, same, takes_it) =
      let one = fits.nested type in
      let first : one.0 ≡ before = cc (one.1, at) in
      let second : suited.0 ≡ before = cc (suited.1, at) in
      let is = subst (λ (m : DynamicMessage). IsKind pool (publics.Message m.descriptor) f.kind) first one.2 in
      let its = subst (λ (m : DynamicMessage). suits m.descriptor (content_of m)) second suited.3 in
      one_nested inner pool f v after type stands (subst (λ (d : MessageDescriptor). IsKind pool (publics.Message d) f.kind) (sym same) is)
      (makes.further f.group before after ps same (subst inner first one.3) its takes_it)

  made_one : (f : FieldType) (kind : Kind) (p : Payload) (v : Value) → IsMessageType f.kind → IsKind pool kind f.kind → IsMade (takes.message f.group) kind p v → FitsOne inner pool f v
  made_one f (publics.Message d) p v type is (m, there, same, takes_it) =
      one_nested inner pool f v m type there (subst (λ (d : MessageDescriptor). IsKind pool (publics.Message d) f.kind) (sym same) is)
      (makes.messages f.group m (p ∷ []) (subst (λ (d : MessageDescriptor). takes.message f.group d nothing (content_of m) (p ∷ [])) (sym same) takes_it))
  made_one f kind p v type is h = absurd h

  made_all : (f : FieldType) (ps : List Payload) (vs : List Value) → IsMessageType f.kind → AreMade (takes.message f.group) pool f.kind ps vs → AllByRecursion (FitsOne inner pool f) vs
  made_all f [] vs type h = subst (AllByRecursion (FitsOne inner pool f)) (sym h) tt
  made_all f (p ∷ ps) vs type (kind, v, behind, is, one, rest, whole) = subst (AllByRecursion (FitsOne inner pool f)) (sym whole) (made_one f kind p v type is one, made_all f ps behind type rest)

  plain_all : (f : FieldType) (added : List Value) (vs : List held.Single) → IsScalarType f.kind → map singles.single added ≡ map Some vs → AllByRecursion (FitsOne inner pool f) added
  plain_all f [] vs type e = tt
  plain_all f (a ∷ added) [] type e = absurd (cc e)
  plain_all f (a ∷ added) (v ∷ vs) type e =
      let here : singles.single a ≡ Some v = cc e in
      let rest : map singles.single added ≡ map Some vs = cc e in
      (one_plain inner pool f a v type here, plain_all f added vs type rest)

  -- the value of an entry
  value_one : (f : FieldType) (v : Value) (ps : List Payload) → LeavesValue takes pool f v ps → FitsOne inner pool f v
  value_one f v ps h = record { plain = λ type. left_single pool f (singles.single v) ps type (h.0 type); nested = λ type. (merged_one f v ps type (h.1 type)).nested type }

  abbrev Valued : KindType → MapKey × Value → Type 0
  Valued t e = (values : FieldType) → entry_field pool t 2 ≡ Some values → FitsOne inner pool values e.1

  kept_all : (t : KindType) (es : List (MapKey × Value)) (k : MapKey) (v : Value) → AllByRecursion (Valued t) es → Valued t (k, v) → AllByRecursion (Valued t) (insert_entry key_order es k v)
  kept_all t [] k v all one = (one, tt)
  kept_all t (e ∷ es) k v all one = by (kept_all t es k v all.1 one) (key_order k e.0) where
    by : AllByRecursion (Valued t) (insert_entry key_order es k v) → (o : Ordering) → AllByRecursion (Valued t) (match_ordering o ((k, v) ∷ e ∷ es) ((e.0, v) ∷ es) (e ∷ insert_entry key_order es k v))
    by later Less = (one, all)
    by later Equal = (one, all.1)
    by later Greater = (all.0, later)

  entries_all : (t : KindType) (old new : List (MapKey × Value)) (ps : List Payload) → AllByRecursion (Valued t) old → PutEntries takes pool t old new ps → AllByRecursion (Valued t) new
  entries_all t old new [] all h = subst (AllByRecursion (Valued t)) (sym h) all
  entries_all t old new (p ∷ ps) all (k, v, one, rest) = entries_all t (insert_entry key_order old k v) new ps (kept_all t old k v all (valued one)) rest where
    valued : IsEntry takes pool t p k v → Valued t (k, v)
    valued (keys, values, rs, first, second, inside, key_left, value_left) g is =
        let same : values ≡ g = cc (sym second ∙ is) in
        value_one g v (keeps.payloads 2 rs) (subst (λ g. LeavesValue takes pool g v (keeps.payloads 2 rs)) same value_left)

  -- a field that holds a value, behind what it held
  field_fits : (f : FieldType) (old : Option Value) (v : Value) (ps : List Payload) → holds_floats pool f ≡ false → HeldFits inner pool f old → HeldSuits suits pool f old → Leaves takes pool f old (Some v) ps → FitsShaped inner pool f v
  field_fits f old v [] whole fits suited h = subst (HeldFits inner pool f) (sym h) fits
  field_fits f old v (p ∷ ps) whole fits suited h = by (holds_map pool f) refl (holds_list pool f) refl (sort_of f.kind) where
    -- the entries that stood there, and the items
    were_entries : holds_map pool f ≡ true → (o : Option Value) → HeldFits inner pool f o → (before : List (MapKey × Value)) → entries_held o ≡ Some before → AllByRecursion (Valued f.kind) before
    were_entries keyed None all before was = let empty : before ≡ [] = cc was in subst (AllByRecursion (Valued f.kind)) (sym empty) tt
    were_entries keyed (Some u) all before was =
        let its = subst (λ b. FitsAs inner pool f b (holds_list pool f) u) keyed all in
        let same : its.0 ≡ before = cc (its.1, was) in
        subst (AllByRecursion (Valued f.kind)) same its.2

    were_items : holds_map pool f ≡ false → holds_list pool f ≡ true → (o : Option Value) → HeldFits inner pool f o → (before : List Value) → items_held o ≡ Some before → AllByRecursion (FitsOne inner pool f) before
    were_items no_map list None all before was = let empty : before ≡ [] = cc was in subst (AllByRecursion (FitsOne inner pool f)) (sym empty) tt
    were_items no_map list (Some u) all before was =
        let its = subst (λ b. FitsAs inner pool f false b u) list (subst (λ b. FitsAs inner pool f b (holds_list pool f) u) no_map all) in
        let same : its.0 ≡ before = cc (its.1, was) in
        subst (AllByRecursion (FitsOne inner pool f)) same its.2

    map_fits : holds_map pool f ≡ true → (listed : Bool) → ContinuesMap takes pool f.kind old (Some v) (p ∷ ps) → FitsAs inner pool f true listed v
    map_fits keyed listed (before, after, was, stands, put) = (after, stands, entries_all f.kind before after (p ∷ ps) (were_entries keyed old fits before was) put)

    longer_fits : holds_map pool f ≡ false → holds_list pool f ≡ true → (before after added : List Value) → items_held old ≡ Some before → items_held (Some v) ≡ Some after → after ≡ before ++ added
        → AllByRecursion (FitsOne inner pool f) added → FitsAs inner pool f false true v
    longer_fits no_map list before after added was stands behind all =
        let each = all_append (FitsOne inner pool f) before added (were_items no_map list old fits before was) all in
        (after, stands, subst (AllByRecursion (FitsOne inner pool f)) (sym behind) each)

    values_fit : holds_map pool f ≡ false → holds_list pool f ≡ true → IsScalarType f.kind → ContinuesWith pool f.kind old (Some v) (p ∷ ps) → FitsAs inner pool f false true v
    values_fit no_map list type (before, after, vs, was, stands, values, (added, behind, seen)) = longer_fits no_map list before after added was stands behind (plain_all f added vs type seen)

    messages_fit : holds_map pool f ≡ false → holds_list pool f ≡ true → IsMessageType f.kind → AddsMessages (takes.message f.group) pool f.kind old (Some v) (p ∷ ps) → FitsAs inner pool f false true v
    messages_fit no_map list type (before, after, added, was, stands, made, behind) = longer_fits no_map list before after added was stands behind (made_all f (p ∷ ps) added type made)

    single_fits : IsScalarType f.kind → HoldsLast pool f.kind (Some v) (p ∷ ps) → FitsOne inner pool f v
    single_fits type (u, w, put, is, last) = let same : v ≡ u = cc put in one_plain inner pool f v w type (ap singles.single same ∙ is)

    message_fits : holds_map pool f ≡ false → holds_list pool f ≡ false → IsMessageType f.kind → (o : Option Value) → HeldFits inner pool f o → HeldSuits suits pool f o
        → MergesMessage (takes.message f.group) pool f.kind o (Some v) (p ∷ ps) → FitsOne inner pool f v
    message_fits no_map no_list type None all suits_it merged = merged_one f v (p ∷ ps) type merged
    message_fits no_map no_list type (Some u) all suits_it merged =
        let one = subst (λ b. FitsAs inner pool f false b u) no_list (subst (λ b. FitsAs inner pool f b (holds_list pool f) u) no_map all) in
        let suiting = subst (λ b. SuitsAs suits pool f.kind false b u) no_list (subst (λ b. SuitsAs suits pool f.kind b (holds_list pool f) u) no_map suits_it) in
        taken_one f u v (p ∷ ps) type one (suiting type) merged

    by : (keyed : Bool) → holds_map pool f ≡ keyed → (listed : Bool) → holds_list pool f ≡ listed → Sort f.kind → FitsAs inner pool f keyed listed v
    by true is listed e sort = map_fits is listed (h.2 is)
    by false is listed e (floating k) = absurd (true≢false (sym k ∙ not_float pool f whole))
    by false is true e (plain type) = values_fit is e type (subst (λ b. LeavesAs b pool f.kind old (Some v) (p ∷ ps)) e (h.0 type))
    by false is false e (plain type) = single_fits type (subst (λ b. LeavesAs b pool f.kind old (Some v) (p ∷ ps)) e (h.0 type))
    by false is true e (message_type type) = messages_fit is e type (subst (λ b. TakesAs b (takes.message f.group) pool f.kind old (Some v) (p ∷ ps)) e (h.1 type is))
    by false is false e (message_type type) = message_fits is e type old fits suited (subst (λ b. TakesAs b (takes.message f.group) pool f.kind old (Some v) (p ∷ ps)) e (h.1 type is))

-- a message that took in records, behind what it held
pub record AreKept (takes : Takes) (d : MessageDescriptor) (old new : Content) (rs : List (ℕ × Payload)) : Type 0 where
  pub fields : (f : FieldDescriptor) → Owns d f → LeavesField takes d f (value_at old.fields (field_type f).number) (value_at new.fields (field_type f).number) rs
  pub extensions : (x : ExtensionDescriptor) → OwnsExtension d x → LeavesExtension takes d x (value_at old.extensions (extension_type x).number) (value_at new.extensions (extension_type x).number) rs
  pub unknown : KeepsUndeclared d old.unknown new.unknown rs
  pub apart : (f : FieldDescriptor) → Owns d f → value_at new.extensions (field_type f).number ≡ None
  pub unowned : (n : ℕ) → NoField d n → value_at new.fields n ≡ None
  pub ordered : IsOrdered new

merged_kept : (takes : Takes) (inner : DynamicMessage → Type 0) (d : MessageDescriptor) (old new : Content) (rs : List (ℕ × Payload)) → IsShaped inner d old → AreChosen d old.choices old.fields → Merges takes d old new rs → AreKept takes d old new rs
merged_kept takes inner d old new rs shape chosen h = record {
  fields = (h.filled chosen).each;
  extensions = h.extended.each;
  unknown = h.unknown;
  apart = λ f owns. h.extended.behind f owns ∙ shape.apart f owns;
  unowned = λ n none. by n none (h.fields.spared n (inr none));
  ordered = h.ordered shape.ordered;
} where
  by : (n : ℕ) → NoField d n → Same old.fields new.fields n ⊎ ((value_at new.fields n ≡ None) × ReadsMember d rs) → value_at new.fields n ≡ None
  by n none (inl same) = same ∙ shape.unowned n none
  by n none (inr unset) = unset.0

module _ (takes : Takes) (suits : Suiting) (shape : DynamicMessage → Type 0) (makes : Makes takes suits shape) (d : MessageDescriptor) (old new : Content) (rs : List (ℕ × Payload))
    (before : IsShaped shape d old) (suited : SuitsBy suits d old) (kept : AreKept takes d old new rs) where
  field_left : (f : FieldDescriptor) → Owns d f → (v : Value) → LeavesField takes d f (value_at old.fields (field_type f).number) (Some v) rs → FitsShaped shape d.pool.now (field_type f) v
  field_left f owns v (inl h) =
      let g = field_type f in
      let o = value_at old.fields g.number in
      field_fits takes suits shape makes d.pool.now g o v (keeps.payloads g.number rs) (owned_whole d f owns)
      (held_fits shape d.pool.now g o (before.fields f owns)) (subst (λ p. HeldSuits suits p g o) owns.0.1 (suited.fields f owns))
      (subst (λ p. Leaves takes p g o (Some v) (keeps.payloads g.number rs)) owns.0.1 h.1)
  field_left f owns v (inr h) =
      let g = field_type f in
      field_fits takes suits shape makes d.pool.now g None v (keeps.payloads g.number h.1) (owned_whole d f owns) tt tt
      (subst (λ p. Leaves takes p g None (Some v) (keeps.payloads g.number h.1)) owns.0.1 h.6)

  fits_field : (f : FieldDescriptor) → Owns d f → (v : Value) → value_at new.fields (field_type f).number ≡ Some v → FitsShaped shape d.pool.now (field_type f) v
  fits_field f owns v at = field_left f owns v (subst (λ o. LeavesField takes d f (value_at old.fields (field_type f).number) o rs) at (kept.fields f owns))

  fits_extension : (x : ExtensionDescriptor) → OwnsExtension d x → known_field d.pool.now d.index (extension_type x).number ≡ None → (v : Value) → value_at new.extensions (extension_type x).number ≡ Some v
      → FitsShaped shape d.pool.now (extension_type x) v
  fits_extension x owns none v at =
      let g = extension_type x in
      let o = value_at old.extensions g.number in
      let ps = keeps.payloads g.number rs in
      let free = none_owned d g.number none in
      let leaves = subst (λ w. Leaves takes d.pool.now g o w ps) at (subst (λ p. Leaves takes p g o (value_at new.extensions g.number) ps) owns.0.0 (kept.extensions x owns free)) in
      field_fits takes suits shape makes d.pool.now g o v ps (extension_whole d x owns)
      (held_fits shape d.pool.now g o (before.extensions x owns none)) (subst (λ p. HeldSuits suits p g o) owns.0.0 (suited.extensions x owns free)) leaves

  shapes : IsShaped shape d new
  shapes = record {
    ordered = kept.ordered;
    fields = fits_field;
    extensions = fits_extension;
    apart = kept.apart;
    unowned = kept.unowned;
    declared = λ n is. sym (payloads_same n new.unknown) ∙ ap (map (λ (r : ℕ × Payload). r.1)) (kept.unknown.declared n is) ∙ payloads_same n old.unknown ∙ before.declared n is;
  }

module _ (levels : ℕ) (inner : DynamicMessage → Type 0) (makes : Makes (TakesAt levels) (SuitsBelow levels) inner) (d : MessageDescriptor) where
  merged_by : (old new : Content) (rs : List (ℕ × Payload)) → IsShaped inner d old → Suits levels d old → MergesAt levels d old new rs → IsShaped inner d new
  merged_by old new rs shape suits h =
      shapes (TakesAt levels) (SuitsBelow levels) inner makes d old new rs shape suits (merged_kept (TakesAt levels) inner d old new rs shape suits.chosen h)

  -- where nothing stood
  kept_by : (c : Content) (rs : List (ℕ × Payload)) → AreKept (TakesAt levels) d nothing c rs → IsShaped inner d c
  kept_by c rs kept = shapes (TakesAt levels) (SuitsBelow levels) inner makes d nothing c rs (empty_shaped inner d) (nothing_suits (SuitsBelow levels) d) kept

-- a message that took in records, of the old one's type, where the messages inside have the shape
module _ (exclusive : Bool) (levels below : ℕ) (makes : Makes (TakesAt levels) (SuitsBelow levels) (HasShape exclusive below)) where
  taken_in : (new : DynamicMessage) (d : MessageDescriptor) → new.descriptor ≡ d → (old : Content) (rs : List (ℕ × Payload))
      → IsShaped (HasShape exclusive below) d old → Suits levels d old → MergesAt levels d old (content_of new) rs → HasShape exclusive (suc below) new
  taken_in new d same old rs shape suits h =
      whole_shape exclusive below new
      (subst (λ (d : MessageDescriptor). IsShaped (HasShape exclusive below) d (content_of new)) (sym same) (merged_by levels (HasShape exclusive below) makes d old (content_of new) rs shape suits h))
      (subst (λ (d : MessageDescriptor). AreChosen d (choices_of new) (fields_of new)) (sym same) (h.filled suits.chosen).chosen)

-- records of so many levels, in messages of as many or more
makes_at : (exclusive : Bool) (levels below : ℕ) → levels ≤ below → Makes (TakesAt levels) (SuitsBelow levels) (HasShape exclusive below)
unfolding TakenAt
makes_at exclusive zero below le = record { messages = λ grouped m ps h. absurd h; further = λ grouped old new ps same shape suits h. absurd h }
makes_at exclusive (suc levels) zero le = absurd (omega (arith, le))
makes_at exclusive (suc levels) (suc below) le = record {
  messages = λ grouped m ps h.
      taken_in exclusive levels below (makes_at exclusive levels below (omega (arith, le))) m m.descriptor refl nothing h.0
      (empty_shaped (HasShape exclusive below) m.descriptor) (nothing_suits (SuitsBelow levels) m.descriptor) h.2;
  further = λ grouped old new ps same shape suits h.
      taken_in exclusive levels below (makes_at exclusive levels below (omega (arith, le))) new old.descriptor same (content_of old) h.0
      (one_level exclusive below old shape) suits h.2;
}

-- a message that records leave where nothing stood
pub kept_shaped : (exclusive : Bool) (levels : ℕ) (m : DynamicMessage) (rs : List (ℕ × Payload)) → AreKept (TakesAt levels) m.descriptor nothing (content_of m) rs
    → IsShaped (HasShape exclusive levels) m.descriptor (content_of m)
kept_shaped exclusive levels m rs kept = kept_by levels (HasShape exclusive levels) (makes_at exclusive levels levels (omega arith)) m.descriptor (content_of m) rs kept

-- and what they leave behind what is in shape and suits the type
pub merged_shaped : (exclusive : Bool) (levels below : ℕ) → levels ≤ below → (new : DynamicMessage) (d : MessageDescriptor) → new.descriptor ≡ d → (old : Content) (rs : List (ℕ × Payload))
    → IsShaped (HasShape exclusive below) d old → Suits levels d old → MergesAt levels d old (content_of new) rs → HasShape exclusive (suc below) new
merged_shaped exclusive levels below le = taken_in exclusive levels below (makes_at exclusive levels below le)
