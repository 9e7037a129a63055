-- Maps that texts make hold values of the shape of their entries' type.
use Rattle.std.proofs.Common.{◌≡◌, Bool, true, false, cond, List, [], ◌∷◌, Option, Some, None, option_map, unwrap_or, Ordering, Less, Equal, Greater, refl, sym, ap, ◌∙◌, subst, MatchOption}
use Rattle.std.specs.BTreeMap.{insert_entry}
use Rattle.std.specs.List.{AllByRecursion}
use Rattle.std.specs.Ordering.{match_ordering}
use Rattle.reflect_tables.specs.Types.{PoolType, FieldType, KindType, type_at, type_of_field}
use Rattle.reflect_tables.specs.Types as types
use Rattle.reflect_tables.specs.declared.stored.StoredEntry.{StoredEntry}
use Rattle.reflect_entries.specs.Entries.{value_at}
use Rattle.reflect_pool.specs.Shapes.{is_repeated, holds_map, holds_list}
use Rattle.reflect_pool.specs.declared.message.MessageDescriptor.{MessageDescriptor}
use Rattle.reflect_scalar.specs.contracts.map_key.MapKeyOrd.TheImpl.{ghosts}
use Rattle.reflect_scalar.specs.declared.map_key.MapKey.{MapKey}
use Rattle.reflect_extend.specs.Gives as gives
use Rattle.reflect_extend.specs.Gives.{Entry, GivesOneEntry, GivesAs, GivesEntry, GivesIn, GivesPair, left_under}
use Rattle.reflect_extend.specs.Puts.{PutsAll, PutsEntries, with_given}
use Rattle.reflect_message.specs.Bytes.{form_of}
use Rattle.reflect_message.specs.Bytes as bytes
use Rattle.reflect_message.specs.Contents.{content_of, nothing}
use Rattle.reflect_message.specs.Defaults.{IsDefaultOne}
use Rattle.reflect_message.specs.Held.{fields_of}
use Rattle.reflect_message.specs.Known.{is_float, entry_field, holds_floats}
use Rattle.reflect_message.specs.MapKeys.{key_of_value}
use Rattle.reflect_message.specs.Maps.{entries_held}
use Rattle.reflect_message.specs.Messages.{message_in}
use Rattle.reflect_message.specs.Shown.{IsHeldOrDefault}
use Rattle.reflect_message.specs.Names.{DynamicMessage, Value}
use Rattle.reflect_message.specs.declared.value.ValueOf.TheVariants as held
use Rattle.message_view.proofs.Entries.{some_default}
use Rattle.message_view.specs.Shaped.{FitsShaped, FitsAs, FitsOne}
use Rattle.message_view.specs.Sound.{IsSound}
use Rattle.text_view.proofs.Entries.{key_part, value_known, value_part, values}
use Rattle.text_view.proofs.Given.{the_entry, value_no_float, value_there}
use Rattle.text_view.proofs.Puts.{message_is}
use Rattle.text_view.proofs.Rivals.{no_many}
use Rattle.text_view.proofs.Shaped.{IsShapely, single_fits}

-- what holds of the values of a map, and of one more
inserted : (P : Value → Type 0) (es : List (MapKey × Value)) (k : MapKey) (v : Value) → AllByRecursion (λ (e : MapKey × Value). P e.1) es → P v → AllByRecursion (λ (e : MapKey × Value). P e.1) (insert_entry ghosts.cmp es k v)
inserted P [] k v all one = (one, tt)
inserted P (e ∷ es) k v all one = by (inserted P es k v all.1 one) (ghosts.cmp k e.0) where
  by : AllByRecursion (λ (e : MapKey × Value). P e.1) (insert_entry ghosts.cmp es k v) → (o : Ordering) → AllByRecursion (λ (e : MapKey × Value). P e.1) (match_ordering o ((k, v) ∷ e ∷ es) ((e.0, v) ∷ es) (e ∷ insert_entry ghosts.cmp es k v))
  by later Less = (one, all)
  by later Equal = (one, all.1)
  by later Greater = (all.0, later)

-- a part of an entry, as it is taken out
module _ (inner : DynamicMessage → Type 0) (blank_inner : (m : DynamicMessage) → content_of m ≡ nothing → inner m) (pool : PoolType) (f : FieldType) (one : is_repeated f.cardinality ≡ false) where
  default_fits : (v : Value) → IsDefaultOne pool f v → FitsOne inner pool f v
  default_fits v h = record {
    plain = λ type. let w = some_default pool f type in (w.0, h.0 type ∙ w.1);
    nested = λ type. let m = h.1 type in (m.0, m.1, m.2.0, blank_inner m.0 m.2.1);
  }

  part_fits : (o : Option Value) → ((u : Value) → o ≡ Some u → FitsOne inner pool f u) → (v : Value) → gives.IsSetOrDefault pool f o v → FitsOne inner pool f v
  part_fits None each v h = default_fits v (h.2 (no_many pool f one).1 (no_many pool f one).0)
  part_fits (Some u) each v h = by (bytes.is_set pool f (form_of u)) h where
    by : (b : Bool) → IsHeldOrDefault pool f (cond b (Some u) None) v → FitsOne inner pool f v
    by true k = subst (FitsOne inner pool f) (sym k) (each u refl)
    by false k = default_fits v (k.2 (no_many pool f one).1 (no_many pool f one).0)

-- the value of a pair
value_of_pair : (o : Option MapKey) (value : Value) (k : MapKey) (v : Value) → ◌≡◌ {A = Option Entry} (option_map (λ k. (k, value)) o) (Some (k, v)) → value ≡ v
value_of_pair None value k v e = absurd (cc e)
value_of_pair (Some j) value k v e = ap (λ (p : Option Entry). elim p [ None ↦ value | Some q ↦ q.1 ]) e

module _ (inner : DynamicMessage → Type 0) (blank_inner : (m : DynamicMessage) → content_of m ≡ nothing → inner m) (d : MessageDescriptor) (sound : IsSound d.pool.now) (e : StoredEntry)
    (is : (type_at d.pool.now d.index).entry ≡ Some e) (whole : is_float (values d sound e is).kind ≡ false) where
  abbrev its_value : FieldType
  its_value = type_of_field d.pool.now d.index e.value

  pair_fits : (m : DynamicMessage) → IsShapely inner d.pool.now d.index (content_of m) → (given : Option Entry) → GivesPair d.pool.now (type_of_field d.pool.now d.index e.key) its_value (fields_of m) given
      → (k : MapKey) (v : Value) → given ≡ Some (k, v) → FitsOne inner d.pool.now its_value v
  pair_fits m shape given (key, value, of_key, of_value, is_given) k v same =
      let part = value_part d sound e is in
      let none = no_many d.pool.now its_value part.one in
      let left : left_under (type_of_field d.pool.now d.index e.key).number (fields_of m) its_value.number ≡ value_at (fields_of m) 2 =
      ap (λ n. left_under (type_of_field d.pool.now d.index e.key).number (fields_of m) n) part.number ∙ ap (λ n. left_under n (fields_of m) 2) (key_part d sound e is).number in
      subst (FitsOne inner d.pool.now its_value) (value_of_pair (key_of_value key) value k v (sym is_given ∙ same))
      (part_fits inner blank_inner d.pool.now its_value part.one (value_at (fields_of m) 2)
      (λ u at. single_fits inner d.pool.now its_value u none.0 none.1 (shape.field 2 its_value (value_known d sound e is whole) u at))
      value (subst (λ o. gives.IsSetOrDefault d.pool.now its_value o value) left of_value))

  -- an entry that texts make
  abbrev pub IsMadeEntry : Value → Type 0
  IsMadeEntry v = (m : DynamicMessage) × (v ≡ held.Message m) × (m.descriptor ≡ d) × IsShapely inner d.pool.now d.index (content_of m)

  abbrev Fit : Value → Type 0
  Fit v = FitsOne inner d.pool.now its_value v

  one_fits : (before between : List (MapKey × Value)) (v : Value) → AllByRecursion (λ (e : MapKey × Value). Fit e.1) before → IsMadeEntry v → (given : Option Entry) → GivesOneEntry v given → between ≡ with_given before given
      → AllByRecursion (λ (e : MapKey × Value). Fit e.1) between
  one_fits before between v all (m, is_message, same, shape) given gives_it put_so = subst (AllByRecursion (λ (e : MapKey × Value). Fit e.1)) (sym put_so) (by given (pair_fits m shape given pair)) where
    entry : GivesEntry m given
    entry = subst (λ o. GivesIn o given) (ap message_in is_message ∙ message_is m) gives_it

    pair : GivesPair d.pool.now (type_of_field d.pool.now d.index e.key) (type_of_field d.pool.now d.index e.value) (fields_of m) given
    pair =
        subst (λ o. GivesAs d.pool.now d.index o (fields_of m) given) is
        (subst (λ (c : MessageDescriptor). GivesAs c.pool.now c.index (type_at c.pool.now c.index).entry (fields_of m) given) same entry)

    by : (given : Option Entry) → ((k : MapKey) (v : Value) → given ≡ Some (k, v) → Fit v) → AllByRecursion (λ (e : MapKey × Value). Fit e.1) (with_given before given)
    by None fits = all
    by (Some p) fits = inserted Fit before p.0 p.1 all (fits p.0 p.1 refl)

  all_fit : (before after : List (MapKey × Value)) (vs : List Value) → AllByRecursion (λ (e : MapKey × Value). Fit e.1) before → AllByRecursion IsMadeEntry vs → PutsAll before after vs
      → AllByRecursion (λ (e : MapKey × Value). Fit e.1) after
  all_fit before after [] all made h = subst (AllByRecursion (λ (e : MapKey × Value). Fit e.1)) (sym h) all
  all_fit before after (v ∷ vs) all made (between, (given, gives_it, put_so), rest) =
      all_fit between after vs (one_fits before between v all made.0 given gives_it put_so) made.1 rest

-- what a map holds
abbrev pub AllValues : (DynamicMessage → Type 0) → PoolType → KindType → List (MapKey × Value) → Type 0
AllValues inner pool t es = AllByRecursion (λ (e : MapKey × Value). (g : FieldType) → entry_field pool t 2 ≡ Some g → FitsOne inner pool g e.1) es

values_told : (inner : DynamicMessage → Type 0) (pool : PoolType) (t : KindType) (g : FieldType) → entry_field pool t 2 ≡ Some g → (es : List (MapKey × Value)) → AllValues inner pool t es → AllByRecursion (λ (e : MapKey × Value). FitsOne inner pool g e.1) es
values_told inner pool t g there [] h = tt
values_told inner pool t g there (e ∷ es) h = (h.0 g there, values_told inner pool t g there es h.1)

told_values : (inner : DynamicMessage → Type 0) (pool : PoolType) (t : KindType) (g : FieldType) → entry_field pool t 2 ≡ Some g → (es : List (MapKey × Value)) → AllByRecursion (λ (e : MapKey × Value). FitsOne inner pool g e.1) es → AllValues inner pool t es
told_values inner pool t g there [] h = tt
told_values inner pool t g there (e ∷ es) h = ((λ k is. subst (λ k. FitsOne inner pool k e.1) (ap (λ o. unwrap_or o g) (sym there ∙ is)) h.0), told_values inner pool t g there es h.1)

module _ (inner : DynamicMessage → Type 0) (pool : PoolType) (f : FieldType) (is_map : holds_map pool f ≡ true) where
  pub map_before : (o : Option Value) → ((v : Value) → o ≡ Some v → FitsShaped inner pool f v) → (es : List (MapKey × Value)) × (entries_held o ≡ Some es) × AllValues inner pool f.kind es
  map_before None h = ([], refl, tt)
  map_before (Some v) h = subst (λ b. FitsAs inner pool f b (holds_list pool f) v) is_map (h v refl)

  pub map_after : (o p : Option Value) (vs : List Value) → ((v : Value) → o ≡ Some v → FitsShaped inner pool f v) → PutsEntries o p vs
      → ((before after : List (MapKey × Value)) → AllValues inner pool f.kind before → PutsAll before after vs → AllValues inner pool f.kind after) → (v : Value) → p ≡ Some v → FitsShaped inner pool f v
  map_after o p vs h puts step v is =
      let old = map_before o h in
      let put = subst (λ x. MatchOption x (p ≡ o) (λ b. (a : List (MapKey × Value)) × (entries_held p ≡ Some a) × PutsAll b a vs)) old.1 puts in
      subst (λ b. FitsAs inner pool f b (holds_list pool f) v) (sym is_map) (put.0, ap entries_held (sym is) ∙ put.1, step old.0 put.0 old.2 put.2)

-- entries that texts make are put into a map
pub entries_fit : (inner : DynamicMessage → Type 0) → ((m : DynamicMessage) → content_of m ≡ nothing → inner m) → (d : MessageDescriptor) (f : FieldType) → f.kind ≡ types.message d.index → (sound : IsSound d.pool.now) (is_map : holds_map d.pool.now f ≡ true)
    → holds_floats d.pool.now f ≡ false → (vs : List Value) → AllByRecursion (λ v. (m : DynamicMessage) × (v ≡ held.Message m) × (m.descriptor ≡ d) × IsShapely inner d.pool.now d.index (content_of m)) vs
    → (before after : List (MapKey × Value)) → AllValues inner d.pool.now f.kind before → PutsAll before after vs → AllValues inner d.pool.now f.kind after
entries_fit inner blank_inner d f kind sound is_map whole vs made before after all puts =
    let e = the_entry d f kind sound is_map whole in
    let there = value_there d f kind sound is_map whole in
    told_values inner d.pool.now f.kind (values d sound e.0 e.1) there after
    (all_fit inner blank_inner d sound e.0 e.1 (value_no_float d f kind sound is_map whole) before after vs
    (values_told inner d.pool.now f.kind (values d sound e.0 e.1) there before all) made puts)
