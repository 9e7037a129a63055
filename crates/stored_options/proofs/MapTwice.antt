-- Into maps that are seen alike entries are put that are seen alike: what is seen behind is one too,
-- whatever keys stand there.
use Rattle.std.proofs.Common.{◌≡◌, inl, inr, ℕ, ℤ, suc, true, List, [], ◌∷◌, Option, Some, MatchOption, Ordering, Less, Equal, Greater, refl, sym, ap, ◌∙◌, subst}
use Rattle.std.specs.BTreeMap.{insert_entry}
use Rattle.std.specs.Ordering.{match_ordering}
use Rattle.descriptor_records.specs.Content.{OptionContent}
use Rattle.message_view.specs.Shaped.{Exclusive}
use Rattle.message_view.specs.Sound.{IsSound}
use Rattle.message_view.specs.Types.{entry_part, field_at, key_of, name_at, part_of, types_of}
use Rattle.message_view.specs.Views.{content_view, view}
use Rattle.message_view.proofs.Entries.{entry_of_map, map_held, part_is}
use Rattle.message_view.proofs.Keys.{key_single}
use Rattle.message_view.proofs.Seen.{message_seen, pairs_view}
use Rattle.option_setter.specs.OptionValues.{IsSaid}
use Rattle.option_setter.specs.SetOptions.{PutsSaid, SetsLast}
use Rattle.protobuf_model.specs.Meaning.{if_some, pairs}
use Rattle.protobuf_model.specs.Types.{Field, Key, Part}
use Rattle.protobuf_model.specs.Values.{Content, Message, Single, message}
use Rattle.protobuf_model.proofs.Pieces.{pairs-if_some}
use Rattle.reflect_extend.specs.Gives.{Entry, GivesIn}
use Rattle.reflect_extend.specs.Puts.{PutsAll, with_given}
use Rattle.reflect_format.specs.Steps.{AddsValues, held_by}
use Rattle.reflect_format.specs.Takes.{target_type}
use Rattle.reflect_format.specs.declared.target.Target.{Target}
use Rattle.reflect_message.specs.Held.{extensions_of, fields_of}
use Rattle.reflect_message.specs.Known.{entry_field}
use Rattle.reflect_message.specs.Maps.{entries_held}
use Rattle.reflect_message.specs.Messages.{message_in}
use Rattle.reflect_message.specs.Names.{DynamicMessage, Value}
use Rattle.reflect_pool.specs.Kinds.{IsKind}
use Rattle.reflect_pool.specs.Shapes.{holds_map}
use Rattle.reflect_pool.specs.declared.message.MessageDescriptor.{MessageDescriptor}
use Rattle.reflect_scalar.specs.contracts.map_key.MapKeyOrd.TheImpl.{ghosts}
use Rattle.reflect_scalar.specs.declared.map_key.MapKey.{MapKey}
use Rattle.reflect_tables.specs.Types.{FieldType, PoolType, type_of_field}
use Rattle.reflect_tables.specs.Types as types
use Rattle.text_model.specs.Value.{assign, entry_of}
use Rattle.text_view.specs.Holds.{AreHeldAs}
use Rattle.text_view.proofs.Adds.{changed, types_are}
use Rattle.text_view.proofs.Entries.{key_numbered, value_numbered}
use Rattle.text_view.proofs.Given.{entry_kind, the_entry, value_no_float}
use Rattle.text_view.proofs.Gives.{entry_given}
use Rattle.text_view.proofs.Kept.{many_map}
use Rattle.text_view.proofs.Owned.{OwnsTarget, pool_is, under_target}
use Rattle.text_view.proofs.Puts.{message_is}
use Rattle.valid_view.proofs.KeyOrder.{compared, seen_order}
use Rattle.stored_options.proofs.Fine.{made_kinds, made_type}
use Rattle.stored_options.proofs.MapShape.{entry_map, entry_sound, entry_whole, held_entries, target_map}

-- ---- one entry

-- entries that are seen alike are put into entries that are
inserted_alike : (es fs : List Entry) (k l : MapKey) (u v : Value) → pairs_view es ≡ pairs_view fs → key_single k ≡ key_single l → content_view u ≡ content_view v
    → pairs_view (insert_entry ghosts.cmp es k u) ≡ pairs_view (insert_entry ghosts.cmp fs l v)
inserted_alike [] [] k l u v is key value = λ i. (key i, value i) ∷ []
inserted_alike [] (f ∷ fs) k l u v is key value = absurd (cc is)
inserted_alike (e ∷ es) [] k l u v is key value = absurd (cc is)
inserted_alike (e ∷ es) (f ∷ fs) k l u v is key value =
    subst (λ o. pairs_view (match_ordering (ghosts.cmp k e.0) ((k, u) ∷ e ∷ es) ((e.0, u) ∷ es) (e ∷ insert_entry ghosts.cmp es k u))
    ≡ pairs_view (match_ordering o ((l, v) ∷ f ∷ fs) ((f.0, v) ∷ fs) (f ∷ insert_entry ghosts.cmp fs l v))) order
    (by (ghosts.cmp k e.0) (inserted_alike es fs k l u v rest key value)) where
      both : ◌≡◌ {A = Single × Content} (key_single e.0, content_view e.1) (key_single f.0, content_view f.1)
      both = cc is

      rest : pairs_view es ≡ pairs_view fs
      rest = cc is

      at : key_single e.0 ≡ key_single f.0
      at = ap (λ (p : Single × Content). p.0) both

      order : ghosts.cmp k e.0 ≡ ghosts.cmp l f.0
      order = compared k e.0 ∙ (λ i. seen_order (key i) (at i)) ∙ sym (compared l f.0)

      by : (o : Ordering) → pairs_view (insert_entry ghosts.cmp es k u) ≡ pairs_view (insert_entry ghosts.cmp fs l v)
          → pairs_view (match_ordering o ((k, u) ∷ e ∷ es) ((e.0, u) ∷ es) (e ∷ insert_entry ghosts.cmp es k u))
          ≡ pairs_view (match_ordering o ((l, v) ∷ f ∷ fs) ((f.0, v) ∷ fs) (f ∷ insert_entry ghosts.cmp fs l v))
      by Less later = λ i. (key i, value i) ∷ both i ∷ rest i
      by Equal later = λ i. (at i, value i) ∷ rest i
      by Greater later = λ i. both i ∷ later i

-- ---- what is put into a map, as it is seen

-- the content's entry is put into a map under a number of a type, over an entry of an equal key
pub record PutsEntry (type : ℕ → Option Field) (n : ℕ) (of_key : Key) (part : Part) (c : Content) (old new : Message) : Type 0 where
  pub before : List Entry
  pub key : MapKey
  pub value : Value
  pub stood : pairs (old n) ≡ pairs_view before
  pub entry : entry_of of_key part c ≡ (key_single key, content_view value)
  pub put : new ≡ assign type n (if_some (pairs_view (insert_entry ghosts.cmp before key value))) old

-- what is seen behind is one
pub one_map : (type : ℕ → Option Field) (n : ℕ) (of_key : Key) (part : Part) (c : Content) (old new other : Message) → PutsEntry type n of_key part c old new → PutsEntry type n of_key part c old other → new ≡ other
one_map type n of_key part c old new other a b =
    let same : ◌≡◌ {A = Single × Content} (key_single a.key, content_view a.value) (key_single b.key, content_view b.value) = sym a.entry ∙ b.entry in
    a.put
    ∙ ap (λ ps. assign type n (if_some ps) old)
    (inserted_alike a.before b.before a.key b.key a.value b.value (sym a.stood ∙ b.stood) (ap (λ (p : Single × Content). p.0) same) (ap (λ (p : Single × Content). p.1) same))
    ∙ sym b.put

module _ (o : OptionContent) (levels : ℕ) (old new : DynamicMessage)
    (sound : IsSound old.descriptor.pool.now) (shape : Exclusive (suc levels) old) (t : Target) (owns : OwnsTarget old.descriptor t) (path : List ℤ)
    (sets : SetsLast t o old new path) (is_map : holds_map old.descriptor.pool.now (target_type t) ≡ true) where
  abbrev d : MessageDescriptor
  d = old.descriptor

  abbrev pool : PoolType
  pool = old.descriptor.pool.now

  abbrev f : FieldType
  f = target_type t

  abbrev v : Value
  v = sets.put.2

  kind : IsKind pool sets.put.0 f.kind
  kind = subst (λ p. IsKind p sets.put.0 f.kind) (pool_is d sound.apart t owns) sets.put.1

  abbrev Puts : Type 0
  Puts = PutsEntry (types_of old.descriptor.pool.now (name_at old.descriptor.pool.now old.descriptor.index)) f.number (key_of pool (entry_part pool f 1)) (part_of pool (entry_part pool f 2)) (content_view v) (view old) (view new)

  same_fields : types_of old.descriptor.pool.now (name_at old.descriptor.pool.now old.descriptor.index) ≡ field_at old.descriptor.pool.now old.descriptor.index
  same_fields = types_are old.descriptor.pool.now sound.names old.descriptor refl

  -- the message that an option says is the entry
  put_so : AddsValues t (v ∷ []) old new → Puts
  put_so adds =
      let c = entry_kind pool sets.put.0 f.kind kind (entry_of_map pool f is_map) in
      let made = subst (λ k. IsSaid k o v) c.1 sets.put.3 in
      let its_sound = entry_sound d sound t owns is_map c.0 c.2 in
      let its_map = entry_map d sound t owns is_map c.0 c.2 in
      let its_whole = entry_whole d sound t owns is_map c.0 c.2 in
      let whole_map = target_map d sound t owns is_map in
      let written = made.1.2 in
      let type = made_type c.0 its_sound made.1.0 written.0 written.1 made.0 written.2 in
      let kinds = made_kinds c.0 its_sound made.1.0 written.0 written.1 made.0 written.2 in
      let e = the_entry c.0 f c.3 its_sound its_map its_whole in
      let stood = held_entries levels old sound shape t owns is_map in
      let puts = subst (λ o. MatchOption o (held_by new t ≡ held_by old t) (λ b. (a : List Entry) × (entries_held (held_by new t) ≡ Some a) × PutsAll b a (v ∷ []))) stood.1 (adds.2 whole_map) in
      let at : message_in v ≡ Some made.0 = ap message_in made.2 ∙ message_is made.0 in
      let given = puts.2.1 in
      let p = entry_given c.0 its_sound e.0 e.1 (value_no_float c.0 f c.3 its_sound its_map its_whole) made.0 type
      (subst (λ (c : MessageDescriptor). AreHeldAs c.pool.now c.index (fields_of made.0) (extensions_of made.0)) type kinds) given.0 (subst (λ o. GivesIn o given.0) at given.1) in
      let after : puts.0 ≡ insert_entry ghosts.cmp stood.0 p.0 p.1 = puts.2.2 ∙ given.2 ∙ ap (with_given stood.0) p.2 in
      let key_there : entry_part pool f 1 ≡ type_of_field c.0.pool.now c.0.index e.0.key =
      part_is pool f 1 (type_of_field c.0.pool.now c.0.index e.0.key) (ap (λ k. entry_field pool k 1) c.3 ∙ ap (λ p. entry_field p (types.message c.0.index) 1) (sym c.2) ∙ key_numbered c.0 its_sound e.0 e.1) in
      let value_there : entry_part pool f 2 ≡ type_of_field c.0.pool.now c.0.index e.0.value =
      part_is pool f 2 (type_of_field c.0.pool.now c.0.index e.0.value) (ap (λ k. entry_field pool k 2) c.3 ∙ ap (λ p. entry_field p (types.message c.0.index) 2) (sym c.2) ∙ value_numbered c.0 its_sound e.0 e.1) in
      let key : key_of pool (entry_part pool f 1) ≡ key_of c.0.pool.now (type_of_field c.0.pool.now c.0.index e.0.key) =
      ap (key_of pool) key_there ∙ ap (λ p. key_of p (type_of_field c.0.pool.now c.0.index e.0.key)) (sym c.2) in
      let part : part_of pool (entry_part pool f 2) ≡ part_of c.0.pool.now (type_of_field c.0.pool.now c.0.index e.0.value) =
      ap (part_of pool) value_there ∙ ap (λ p. part_of p (type_of_field c.0.pool.now c.0.index e.0.value)) (sym c.2) in
      let seen : content_view v ≡ message (view made.0) = message_seen v made.0 at in
      record {
        before = stood.0;
        key = p.0;
        value = p.1;
        stood = ap pairs (under_target d sound.apart t owns old refl ∙ sym (map_held pool f (held_by old t) stood.0 stood.1)) ∙ pairs-if_some (pairs_view stood.0);
        entry = (λ i. entry_of (key i) (part i) (seen i)) ∙ p.3;
        put = subst (λ fs. view new ≡ assign fs f.number (if_some (pairs_view (insert_entry ghosts.cmp stood.0 p.0 p.1))) (view old)) (sym same_fields)
            (subst (λ es. view new ≡ assign (field_at pool d.index) f.number (if_some (pairs_view es)) (view old)) after
            (changed old new sound.apart sets.same_type shape.1 t (v ∷ []) owns (adds.5 (many_map t whole_map)) adds (if_some (pairs_view puts.0)) (sym (map_held pool f (held_by new t) puts.0 puts.1))));
      }

  -- what the last part of a name puts into a map
  pub entry_put : PutsEntry (types_of old.descriptor.pool.now (name_at old.descriptor.pool.now old.descriptor.index)) (target_type t).number
      (key_of old.descriptor.pool.now (entry_part old.descriptor.pool.now (target_type t) 1)) (part_of old.descriptor.pool.now (entry_part old.descriptor.pool.now (target_type t) 2))
      (content_view sets.put.2) (view old) (view new)
  entry_put = by sets.put.4 where
    by : PutsSaid t v old new → Puts
    by (inl (one, unset, puts)) = absurd (cc (sym one ∙ many_map t (target_map d sound t owns is_map)))
    by (inr (many, adds)) = put_so adds
