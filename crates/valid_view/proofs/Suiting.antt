-- What values mean that suit a field by the tests suits the model's field, where those inside do.
use Rattle.std.proofs.Common.{◌≡◌, ℕ, ◌||◌, not, Bool, true, false, cond, List, [], ◌∷◌, map, Option, Some, Ordering, refl, sym, ap, subst}
use Rattle.std.specs.BTreeMap.{insert_entry}
use Rattle.std.specs.List.{AllByRecursion}
use Rattle.std.specs.List.Sorted.{IsStrictlySortedBy}
use Rattle.std.specs.Map.{keys_of}
use Rattle.std.specs.Ordering.{match_ordering}
use Rattle.protobuf_model.specs.Meaning.{if_any, if_some}
use Rattle.protobuf_model.specs.Scalars.{Suits, same}
use Rattle.protobuf_model.specs.Typed.{IsEntryOf, IsHeldOf, IsOf}
use Rattle.protobuf_model.specs.Types.{Field, Key, Name, Part, keyed, many, one}
use Rattle.protobuf_model.specs.Values.{Content, Held, Message, absent, content, message, single}
use Rattle.protobuf_model.proofs.Pieces.{listed, paired}
use Rattle.protobuf_model.proofs.Typing.{IsMap, put_all_map}
use Rattle.reflect_pool.specs.Shapes.{holds_map, is_repeated}
use Rattle.reflect_tables.specs.Types.{FieldType, KindType, PoolType}
use Rattle.reflect_tables.specs.Types as types
use Rattle.reflect_scalar.specs.Keys.{key_view}
use Rattle.reflect_scalar.specs.Singles as held
use Rattle.reflect_scalar.specs.Written.{Fits}
use Rattle.reflect_scalar.specs.declared.map_key.MapKey.{MapKey}
use Rattle.reflect_message.specs.Maps.{key_order}
use Rattle.reflect_message.specs.Names.{DynamicMessage, Value}
use Rattle.reflect_numbered.specs.Fits.{is_one}
use Rattle.reflect_numbered.specs.declared.validity.Strictness.{Strictness}
use Rattle.message_view.specs.Singles.{scalar_of, single_view}
use Rattle.message_view.specs.Types.{default_of, entry_part, field_of, key_of, kind_in, name_at, part_of}
use Rattle.message_view.specs.Views.{content_view, held_in, view}
use Rattle.message_view.proofs.Elements.{kind_message, kind_scalar, list_held}
use Rattle.message_view.proofs.Entries.{form_at, map_held, part_is, suited_form}
use Rattle.message_view.proofs.Keys.{entry_put, form_of, key_single}
use Rattle.message_view.proofs.Seen.{message_seen, pairs_view, single_seen}
use Rattle.valid_view.specs.Inside.{EachMessage, IfMessage, IfSingle, IsWhole}
use Rattle.valid_view.proofs.Fitting.{of_scalar}
use Rattle.valid_view.proofs.Opened.{kinds_of}
use Rattle.valid_view.proofs.Valid.{IsEntry, One, Whole, one_message, one_single, whole_list, whole_map, whole_one}

-- a single value of a kind, as the types of the code have it
pub single_suits : (t : KindType) (w : held.Single) → is_one t w ≡ true → Fits w → Suits (scalar_of t) (single_view w)
single_suits types.int32 (held.int32 z) e fits = fits
single_suits types.sint32 (held.int32 z) e fits = fits
single_suits types.sfixed32 (held.int32 z) e fits = fits
single_suits types.int64 (held.int64 z) e fits = fits
single_suits types.sint64 (held.int64 z) e fits = fits
single_suits types.sfixed64 (held.int64 z) e fits = fits
single_suits types.uint32 (held.uint32 n) e fits = fits
single_suits types.fixed32 (held.uint32 n) e fits = fits
single_suits types.uint64 (held.uint64 n) e fits = fits
single_suits types.fixed64 (held.uint64 n) e fits = fits
single_suits types.bool (held.truth b) e fits = tt
single_suits types.string (held.text t) e fits = fits.0
single_suits types.bytes (held.blob b) e fits = tt
single_suits (types.enumeration i) (held.enumerated z) e fits = fits
single_suits t w e fits = absurd (cc e)

-- ---- maps: keys that ascend in the map's order do so in the model's
-- an entry that stands first is put in front
in_front : (e : MapKey × Value) (es : List (MapKey × Value)) → IsStrictlySortedBy key_order (keys_of (e ∷ es)) → insert_entry key_order es e.0 e.1 ≡ e ∷ es
unfolding IsStrictlySortedBy
in_front e [] up = refl
in_front e (d ∷ ds) up = ap (λ (o : Ordering). match_ordering o ((e.0, e.1) ∷ d ∷ ds) ((d.0, e.1) ∷ ds) (d ∷ insert_entry key_order ds e.0 e.1)) up.0.0

behind : (e : MapKey × Value) (es : List (MapKey × Value)) → IsStrictlySortedBy key_order (keys_of (e ∷ es)) → IsStrictlySortedBy key_order (keys_of es)
unfolding IsStrictlySortedBy
behind e es up = up.1

module _ (inner : Name → Message → Type 0) (key : Key) (part : Part) where
  abbrev Suited : MapKey × Value → Type 0
  Suited e = IsEntryOf inner key part (single_view (key_view e.0), content_view e.1)

  forms : (es : List (MapKey × Value)) → AllByRecursion Suited es → AllByRecursion (λ (e : MapKey × Value). form_of (key_single e.0) ≡ form_at key.kind) es
  forms [] all = tt
  forms (e ∷ es) all = (suited_form key.kind (key_single e.0) all.0.0, forms es all.1)

  map_suits : (es : List (MapKey × Value)) → AllByRecursion Suited es → IsStrictlySortedBy key_order (keys_of es) → IsMap inner key part (pairs_view es)
  map_suits [] all up = (tt, tt)
  map_suits (e ∷ es) all up =
      let later = map_suits es all.1 (behind e es up) in
      let put_there = put_all_map inner key part (pairs_view es) ((single_view (key_view e.0), content_view e.1) ∷ []) later (all.0, tt) in
      let put_same = entry_put content_view (form_at key.kind) es e.0 e.1 (forms es all.1) (suited_form key.kind (key_single e.0) all.0.0) in
      subst (λ (ds : List (MapKey × Value)). IsMap inner key part (pairs_view ds)) (in_front e es up) (subst (IsMap inner key part) (sym put_same) put_there)

-- ---- fields
-- what is known of a message that suits a kind by a test, where `Q` holds of it
module _ (how : Strictness) (pool : PoolType) (Q : DynamicMessage → Type 0) (inner : Name → Message → Type 0)
    (use_it : (t : KindType) (m : DynamicMessage) → kinds_of m how pool t ≡ true → Q m → (t ≡ types.message m.descriptor.index) × inner (name_at pool m.descriptor.index) (view m)) where
  abbrev IsOfKind : Bool → KindType → Value → Type 0
  IsOfKind group t v = IsOf inner (kind_in pool group t) (content_view v)

  pub one_suits : (group : Bool) (t : KindType) (v : Value) → One how pool t v → IfMessage Q v → IfSingle Fits v → IsOfKind group t v
  one_suits group t v (one_single w at is) inside bits =
      subst (IsOf inner (kind_in pool group t)) (sym (single_seen v w at))
      (subst (λ k. IsOf inner k (single (single_view w))) (sym (kind_scalar pool group t (of_scalar t w is))) (single_suits t w is (bits w at)))
  one_suits group t v (one_message m at is) inside bits =
      let told = use_it t m is (inside m at) in
      subst (IsOf inner (kind_in pool group t)) (sym (message_seen v m at))
      (subst (λ k. IsOf inner k (message (view m))) (sym (kind_message pool group t m.descriptor.index told.0)) told.1)

  all_suit : (group : Bool) (t : KindType) (vs : List Value) → AllByRecursion (One how pool t) vs → AllByRecursion (IfMessage Q) vs → AllByRecursion (IfSingle Fits) vs
      → AllByRecursion (IsOf inner (kind_in pool group t)) (map content_view vs)
  all_suit group t [] all inside bits = tt
  all_suit group t (v ∷ vs) all inside bits = (one_suits group t v all.0 inside.0 bits.0, all_suit group t vs all.1 inside.1 bits.1)

  module _ (levels : ℕ) (f : FieldType) (o : Option ℕ) (x : Bool) where
    -- the field, by whether it is a map, and whether it repeats
    abbrev FieldAs : Bool → Bool → Field
    FieldAs b c = record {
      part = part_of pool (cond b (entry_part pool f 2) f);
      label = cond b (keyed (key_of pool (entry_part pool f 1))) (cond c (many f.packed) one);
      oneof = o;
      extension = x;
    }

    abbrev SuitsAs : Bool → Bool → Held → Type 0
    SuitsAs b c h = IsHeldOf inner levels (Some (FieldAs b c)) h

    -- a value as one: a default without presence is not set
    as_one : (v : Value) → One how pool f.kind v → IfMessage Q v → IfSingle Fits v → SuitsAs false false (held_in pool f (Some (content_view v)))
    as_one v (one_single w at is) inside bits =
        let suits : IsOf inner (kind_in pool f.group f.kind) (single (single_view w)) =
        subst (IsOf inner (kind_in pool f.group f.kind)) (single_seen v w at) (one_suits f.group f.kind v (one_single w at is) inside bits) in
        subst (λ c. SuitsAs false false (held_in pool f (Some c))) (sym (single_seen v w at)) (by suits (f.presence || not (same (single_view w) (default_of pool f))) refl) where
          by : IsOf inner (kind_in pool f.group f.kind) (single (single_view w)) → (b : Bool) → (f.presence || not (same (single_view w) (default_of pool f))) ≡ b
              → SuitsAs false false (cond b (content (single (single_view w))) absent)
          by suits true set = (suits, set)
          by suits false set = refl
    as_one v (one_message m at is) inside bits =
        subst (λ c. SuitsAs false false (held_in pool f (Some c))) (sym (message_seen v m at))
        (subst (IsOf inner (kind_in pool f.group f.kind)) (message_seen v m at) (one_suits f.group f.kind v (one_message m at is) inside bits), tt)

    -- an empty list is not set
    as_list : (cs : List Content) → AllByRecursion (IsOf inner (kind_in pool f.group f.kind)) cs → SuitsAs false true (if_any cs)
    as_list [] all = refl
    as_list (c ∷ cs) all = (all.0, subst (AllByRecursion (IsOf inner (kind_in pool f.group f.kind))) (sym (listed cs)) all.1)

    -- nor an empty map
    abbrev the_key : Key
    the_key = key_of pool (entry_part pool f 1)

    abbrev the_part : Part
    the_part = part_of pool (entry_part pool f 2)

    as_map : (c : Bool) (es : List (MapKey × Value)) → IsMap inner the_key the_part (pairs_view es) → SuitsAs true c (if_some (pairs_view es))
    as_map c [] all = refl
    as_map c (e ∷ es) all = subst (IsMap inner the_key the_part) (sym (paired (pairs_view (e ∷ es)))) all

    entries_suit : (keys values : FieldType) → entry_part pool f 1 ≡ keys → entry_part pool f 2 ≡ values → (es : List (MapKey × Value)) → AllByRecursion (IsEntry how pool keys.kind values.kind) es
        → AllByRecursion (λ (e : MapKey × Value). IfMessage Q e.1) es → AllByRecursion (λ (e : MapKey × Value). Fits (key_view e.0)) es → AllByRecursion (λ (e : MapKey × Value). IfSingle Fits e.1) es
        → AllByRecursion (Suited inner the_key the_part) es
    entries_suit keys values first second [] all inside bits more = tt
    entries_suit keys values first second (e ∷ es) all inside bits more = (
      (
        subst (λ (g : FieldType). Suits (scalar_of g.kind) (single_view (key_view e.0))) (sym first) (single_suits keys.kind (key_view e.0) all.0.0 bits.0),
        subst (λ (g : FieldType). IsOfKind g.group g.kind e.1) (sym second) (one_suits values.group values.kind e.1 all.0.1 inside.0 more.0),
      ),
      entries_suit keys values first second es all.1 inside.1 bits.1 more.1,
    )

    abbrev SuitsField : Held → Type 0
    SuitsField h = IsHeldOf inner levels (Some (field_of pool o x f)) h

    as_field : (b c : Bool) (h : Held) → holds_map pool f ≡ b → is_repeated f.cardinality ≡ c → SuitsAs b c h → SuitsField h
    as_field b c h is_map repeats suits =
        subst (λ b. SuitsAs b (is_repeated f.cardinality) h) (sym is_map) (subst (λ c. SuitsAs b c h) (sym repeats) suits)

    pub whole_suits : (v : Value) → Whole how pool f v → EachMessage Q v → IsWhole v → SuitsField (held_in pool f (Some (content_view v)))
    whole_suits v (whole_one no_map once is) inside bits =
        as_field false false (held_in pool f (Some (content_view v))) no_map once (as_one v is inside.itself bits.values.itself)
    whole_suits v (whole_list no_map repeats vs at all) inside bits =
        as_field false true (held_in pool f (Some (content_view v))) no_map repeats
        (subst (SuitsAs false true) (list_held pool f (Some v) vs at) (as_list (map content_view vs) (all_suit f.group f.kind vs all (inside.items vs at) (bits.values.items vs at))))
    whole_suits v (whole_map is_map es at keys values first second all) inside bits =
        let each = entries_suit keys values (part_is pool f 1 keys first) (part_is pool f 2 values second) es all (inside.entries es at) (bits.keys es at) (bits.values.entries es at) in
        as_field true (is_repeated f.cardinality) (held_in pool f (Some (content_view v))) is_map refl
        (subst (SuitsAs true (is_repeated f.cardinality)) (map_held pool f (Some v) es at)
        (as_map (is_repeated f.cardinality) es (map_suits inner the_key the_part es each (bits.ascending es at))))
