-- What adding entries to a map does to what is seen of a message.
use Rattle.std.proofs.Common.{◌≡◌, true, false, List, [], ◌∷◌, map, Option, Some, None, option_map, unwrap_or, Ordering, Less, Equal, Greater, refl, sym, ap, ◌∙◌, subst, MatchOption}
use Rattle.std.specs.BTreeMap.{insert_entry}
use Rattle.std.specs.List.{AllByRecursion}
use Rattle.std.specs.Ordering.{match_ordering}
use Rattle.protobuf_model.specs.Types.{Scalar, Key, Part, keyed}
use Rattle.protobuf_model.specs.Values.{Single, Content, dictionary, message, entries_of}
use Rattle.protobuf_model.specs.Keys.{put}
use Rattle.protobuf_model.specs.Meaning.{if_some, pairs, put_all}
use Rattle.protobuf_model.proofs.Pieces.{pairs-if_some}
use Rattle.reflect_tables.specs.Types.{PoolType, FieldType, type_at, type_of_field}
use Rattle.reflect_tables.specs.Types as types
use Rattle.reflect_tables.specs.declared.stored.StoredEntry.{StoredEntry}
use Rattle.reflect_pool.specs.Shapes.{holds_map}
use Rattle.reflect_pool.specs.declared.message.MessageDescriptor.{MessageDescriptor}
use Rattle.reflect_scalar.specs.contracts.map_key.MapKeyOrd.TheImpl.{ghosts}
use Rattle.reflect_scalar.specs.declared.map_key.MapKey.{MapKey}
use Rattle.reflect_extend.specs.Gives.{Entry, GivesOneEntry, GivesIn}
use Rattle.reflect_extend.specs.Puts.{PutsAll, with_given}
use Rattle.reflect_message.specs.Held.{fields_of, extensions_of}
use Rattle.reflect_message.specs.Known.{is_float, entry_field}
use Rattle.reflect_message.specs.Maps.{entries_held}
use Rattle.reflect_message.specs.Messages.{message_in}
use Rattle.reflect_message.specs.Names.{DynamicMessage, Value}
use Rattle.reflect_format.specs.Steps.{AddsValues, held_by}
use Rattle.reflect_format.specs.Takes.{target_type}
use Rattle.reflect_format.specs.declared.target.Target.{Target}
use Rattle.text_model.specs.Value.{add_all, assign, entry_of}
use Rattle.message_view.specs.Singles.{scalar_of}
use Rattle.message_view.specs.Types.{entry_part, field_at, key_of, part_of}
use Rattle.message_view.specs.Views.{held_in, content_view, view}
use Rattle.message_view.proofs.Entries.{form_at, part_is}
use Rattle.message_view.proofs.Keys.{form_of, key_single, entry_put}
use Rattle.message_view.proofs.Seen.{map_seen, message_seen, pairs_view}
use Rattle.message_view.specs.Sound.{AreApart, IsSound}
use Rattle.text_view.specs.Holds.{AreHeldAs, HasForm, HaveKeys, IsHeldAs}
use Rattle.text_view.specs.Values.{IsMessageOf}
use Rattle.text_view.proofs.Adds.{changed}
use Rattle.text_view.proofs.Entries.{key_numbered, value_numbered, values}
use Rattle.text_view.proofs.Forms.{form_is}
use Rattle.text_view.proofs.Gives.{entry_given}
use Rattle.text_view.proofs.Kept.{many_map, map_kind}
use Rattle.reflect_message.specs.Oneofs.{IsExclusive}
use Rattle.text_view.proofs.Owned.{OwnsTarget, pool_is, under_target}
use Rattle.text_view.proofs.Puts.{message_is}

-- a map as it is held
some_map : (pool : PoolType) (f : FieldType) (es : List (Single × Content)) → held_in pool f (Some (dictionary (entries_of es))) ≡ if_some es
some_map pool f [] = refl
some_map pool f (e ∷ es) = refl

map_held : (pool : PoolType) (f : FieldType) (o : Option Value) (es : List (MapKey × Value)) → entries_held o ≡ Some es → held_in pool f (option_map content_view o) ≡ if_some (pairs_view es)
map_held pool f None es e = ap (λ o. if_some (pairs_view (unwrap_or o []))) e
map_held pool f (Some v) es e = ap (λ c. held_in pool f (Some c)) (map_seen v es e) ∙ some_map pool f (pairs_view es)

-- keys of one kind
keys_formed : (k : Scalar) (es : List (MapKey × Value)) → HaveKeys k es → AllByRecursion (λ (e : MapKey × Value). form_of (key_single e.0) ≡ form_at k) es
keys_formed k [] h = tt
keys_formed k (e ∷ es) h = (form_is k (key_single e.0) h.0, keys_formed k es h.1)

keys_stay : (s : Scalar) (es : List (MapKey × Value)) (k : MapKey) (v : Value) → HaveKeys s es → HasForm s (key_single k) → HaveKeys s (insert_entry ghosts.cmp es k v)
keys_stay s [] k v all one = (one, tt)
keys_stay s (e ∷ es) k v all one = by (keys_stay s es k v all.1 one) (ghosts.cmp k e.0) where
  by : HaveKeys s (insert_entry ghosts.cmp es k v) → (o : Ordering) → HaveKeys s (match_ordering o ((k, v) ∷ e ∷ es) ((e.0, v) ∷ es) (e ∷ insert_entry ghosts.cmp es k v))
  by later Less = (one, all)
  by later Equal = (all.0, all.1)
  by later Greater = (all.0, later)

module _ (d : MessageDescriptor) (sound : IsSound d.pool.now) (e : StoredEntry) (is : (type_at d.pool.now d.index).entry ≡ Some e) (whole : is_float (values d sound e is).kind ≡ false) where
  abbrev the_key : Key
  the_key = key_of d.pool.now (type_of_field d.pool.now d.index e.key)

  abbrev the_part : Part
  the_part = part_of d.pool.now (type_of_field d.pool.now d.index e.value)

  abbrev of_key : Scalar
  of_key = scalar_of (type_of_field d.pool.now d.index e.key).kind

  one_put : (before between : List (MapKey × Value)) (v : Value) → HaveKeys of_key before → IsMessageOf d v → (given : Option Entry) → GivesOneEntry v given → between ≡ with_given before given
      → (put (entry_of the_key the_part (content_view v)).0 (entry_of the_key the_part (content_view v)).1 (pairs_view before) ≡ pairs_view between) × HaveKeys of_key between
  one_put before between v formed (m, is_message, same, kinds) given gives put_so =
      let at = ap message_in is_message ∙ message_is m in
      let seen : content_view v ≡ message (view m) = message_seen v m at in
      let p = entry_given d sound e is whole m same (subst (λ (c : MessageDescriptor). AreHeldAs c.pool.now c.index (fields_of m) (extensions_of m)) same kinds) given (subst (λ o. GivesIn o given) at gives) in
      let now : between ≡ insert_entry ghosts.cmp before p.0 p.1 = put_so ∙ ap (with_given before) p.2 in
      let one = ap (entry_of the_key the_part) seen ∙ p.3 in (
        ap (λ (x : Single × Content). put x.0 x.1 (pairs_view before)) one
            ∙ sym (entry_put content_view (form_at of_key) before p.0 p.1 (keys_formed of_key before formed) (form_is of_key (key_single p.0) p.4))
            ∙ ap pairs_view (sym now),
        subst (HaveKeys of_key) (sym now) (keys_stay of_key before p.0 p.1 formed p.4),
      )

  -- entries are put one behind the other
  all_put : (before after : List (MapKey × Value)) (vs : List Value) → HaveKeys of_key before → AllByRecursion (IsMessageOf d) vs → PutsAll before after vs
      → (put_all (pairs_view before) (map (entry_of the_key the_part) (map content_view vs)) ≡ pairs_view after) × HaveKeys of_key after
  all_put before after [] formed entries h = (sym (ap pairs_view h), subst (HaveKeys of_key) (sym h) formed)
  all_put before after (v ∷ vs) formed entries (between, (given, gives, put_so), rest) =
      let one = one_put before between v formed entries.0 given gives put_so in
      let more = all_put between after vs one.1 entries.1 rest in
      (ap (λ es. put_all es (map (entry_of the_key the_part) (map content_view vs))) one.0 ∙ more.0, more.1)

-- so keys of the kind of a map's keys stay so
pub keys_put : (pool : PoolType) (f : FieldType) (d : MessageDescriptor) → d.pool.now ≡ pool → f.kind ≡ types.message d.index → (sound : IsSound d.pool.now) (e : StoredEntry) (is : (type_at d.pool.now d.index).entry ≡ Some e)
    → is_float (values d sound e is).kind ≡ false → (vs : List Value) → AllByRecursion (IsMessageOf d) vs → (before after : List (MapKey × Value)) → PutsAll before after vs
    → HaveKeys (scalar_of (entry_part pool f 1).kind) before → HaveKeys (scalar_of (entry_part pool f 1).kind) after
keys_put pool f d at kind sound e is whole vs entries before after puts formed =
    let key_there : entry_part pool f 1 ≡ type_of_field d.pool.now d.index e.key =
    part_is pool f 1 (type_of_field d.pool.now d.index e.key) (ap (λ k. entry_field pool k 1) kind ∙ ap (λ p. entry_field p (types.message d.index) 1) (sym at) ∙ key_numbered d sound e is) in
    let all = all_put d sound e is whole before after vs (subst (λ (g : FieldType). HaveKeys (scalar_of g.kind) before) key_there formed) entries puts in
    subst (λ (g : FieldType). HaveKeys (scalar_of g.kind) after) (sym key_there) all.1

-- what is put into a map
abbrev pub MapAdded : DynamicMessage → DynamicMessage → Target → List Value → Type 0
MapAdded old new t vs =
    (add_all (field_at old.descriptor.pool.now old.descriptor.index) (target_type t).number
    (part_of old.descriptor.pool.now (entry_part old.descriptor.pool.now (target_type t) 2)) (keyed (key_of old.descriptor.pool.now (entry_part old.descriptor.pool.now (target_type t) 1)))
    (view old) (map content_view vs) ≡ Some (view new))
    × IsHeldAs old.descriptor.pool.now (target_type t) (held_by new t)

module _ (old new : DynamicMessage) (apart : AreApart old.descriptor.pool.now) (same : new.descriptor ≡ old.descriptor) (t : Target) (owns : OwnsTarget old.descriptor t)
    (is_map : holds_map old.descriptor.pool.now (target_type t) ≡ true) (exclusive : IsExclusive old) where
  abbrev pool : PoolType
  pool = old.descriptor.pool.now

  abbrev f : FieldType
  f = target_type t

  pub map_added : (d : MessageDescriptor) → d.pool.now ≡ old.descriptor.pool.now → f.kind ≡ types.message d.index → (sound : IsSound d.pool.now) (e : StoredEntry) (is : (type_at d.pool.now d.index).entry ≡ Some e)
      → is_float (values d sound e is).kind ≡ false → (vs : List Value) → AllByRecursion (IsMessageOf d) vs
      → (before : List (MapKey × Value)) → entries_held (held_by old t) ≡ Some before → HaveKeys (scalar_of (entry_part pool f 1).kind) before → AddsValues t vs old new → MapAdded old new t vs
  map_added d at kind sound e is whole vs entries before held formed adds =
      let key_there : entry_part pool f 1 ≡ type_of_field d.pool.now d.index e.key =
      part_is pool f 1 (type_of_field d.pool.now d.index e.key) (ap (λ k. entry_field pool k 1) kind ∙ ap (λ p. entry_field p (types.message d.index) 1) (sym at) ∙ key_numbered d sound e is) in
      let value_there : entry_part pool f 2 ≡ type_of_field d.pool.now d.index e.value =
      part_is pool f 2 (type_of_field d.pool.now d.index e.value) (ap (λ k. entry_field pool k 2) kind ∙ ap (λ p. entry_field p (types.message d.index) 2) (sym at) ∙ value_numbered d sound e is) in
      let its_map = subst (λ p. holds_map p f ≡ true) (sym (pool_is old.descriptor apart t owns)) is_map in
      let puts = subst (λ o. MatchOption o (held_by new t ≡ held_by old t) (λ b. (a : List (MapKey × Value)) × (entries_held (held_by new t) ≡ Some a) × PutsAll b a vs)) held (adds.2 its_map) in
      let all = all_put d sound e is whole before puts.0 vs (subst (λ (g : FieldType). HaveKeys (scalar_of g.kind) before) key_there formed) entries puts.2 in
      let key : key_of pool (entry_part pool f 1) ≡ key_of d.pool.now (type_of_field d.pool.now d.index e.key) = ap (key_of pool) key_there ∙ ap (λ p. key_of p (type_of_field d.pool.now d.index e.key)) (sym at) in
      let part : part_of pool (entry_part pool f 2) ≡ part_of d.pool.now (type_of_field d.pool.now d.index e.value) = ap (part_of pool) value_there ∙ ap (λ p. part_of p (type_of_field d.pool.now d.index e.value)) (sym at) in
      let stood : pairs (view old f.number) ≡ pairs_view before = ap pairs (under_target old.descriptor apart t owns old refl ∙ map_held pool f (held_by old t) before held) ∙ pairs-if_some (pairs_view before) in (
        ap (λ l. Some (assign (field_at pool old.descriptor.index) f.number (if_some (put_all l (map (entry_of (key_of pool (entry_part pool f 1)) (part_of pool (entry_part pool f 2))) (map content_view vs)))) (view old))) stood
            ∙ ap (λ k. Some (assign (field_at pool old.descriptor.index) f.number (if_some (put_all (pairs_view before) (map (entry_of k (part_of pool (entry_part pool f 2))) (map content_view vs)))) (view old))) key
            ∙ ap (λ p. Some (assign (field_at pool old.descriptor.index) f.number (if_some (put_all (pairs_view before) (map (entry_of (key_of d.pool.now (type_of_field d.pool.now d.index e.key)) p) (map content_view vs)))) (view old))) part
            ∙ ap (λ l. Some (assign (field_at pool old.descriptor.index) f.number (if_some l) (view old))) all.0
            ∙ ap Some (sym (changed old new apart same exclusive t vs owns (adds.5 (many_map t its_map)) adds (if_some (pairs_view puts.0)) (map_held pool f (held_by new t) puts.0 puts.1))),
        map_kind pool f is_map (held_by new t) puts.0 puts.1 (subst (λ (g : FieldType). HaveKeys (scalar_of g.kind) puts.0) (sym key_there) all.1),
      )
