-- Options that are refused are not settled, nor do they stay as they are, in that pool or in another that says the same to
-- texts.
use Rattle.std.proofs.Common.{◌≡◌, ◌≢◌, ◌⊎◌, inl, inr, ℕ, ℤ, suc, true, false, List, map, Option, None, Some, refl, sym, ap, ◌∙◌, subst, arith}
use Rattle.std.proofs.lemmas.Bool.Decides.{eqb_tells}
use Rattle.std.specs.Option.{unwrap_or}
use Rattle.std.specs.Prelude.{IfSome, codes}
use mathlib.Core.Path.{fun_ext}
use Rattle.descriptor_records.specs.Content.{OptionsContent}
use Rattle.descriptor_records.specs.declared.options.Options.{Options}
use Rattle.message_view.specs.Shaped.{Exclusive}
use Rattle.message_view.specs.Sound.{IsSound}
use Rattle.message_view.specs.Types.{name_at, types_of}
use Rattle.message_view.specs.Views.{view}
use Rattle.message_view.proofs.Deeper.{deeper_shape, exclusive_shaped}
use Rattle.message_view.proofs.Encoded.{shape_written}
use Rattle.message_view.proofs.Recoded.{decoded_exclusive}
use Rattle.option_parts.specs.OptionTypes.{CanRead, HasField, IsTruthValue, ListsMessages, type_name, typed_option}
use Rattle.option_parts.specs.declared.option_error.OptionErrorKind.{OptionErrorKind}
use Rattle.option_parts.specs.declared.option_error.OptionErrorKind.TheVariants as kinds
use Rattle.option_parts.specs.declared.option_scope.OptionScope.{OptionScope}
use Rattle.option_parts.specs.declared.option_scope.OptionScope.TheVariants as scopes
use Rattle.option_setter.specs.declared.option_setter.NameScope.{NameScope}
use Rattle.protobuf_model.specs.Bytes.{bytes_of}
use Rattle.protobuf_model.specs.Values.{Message}
use Rattle.reflect_decode.specs.Spelled.{IsSpelled, TellsWhy}
use Rattle.reflect_format.specs.declared.target.Target.TheVariants as targets
use Rattle.reflect_message.specs.Bytes.{message_bytes}
use Rattle.reflect_message.specs.Declares.{Owns}
use Rattle.reflect_message.specs.Held.{UpdatesField}
use Rattle.reflect_message.specs.Names.{DynamicMessage}
use Rattle.reflect_options.specs.Settled.{AgreesOnEntries, FindsForbidden, IsForbiddenAt, IsReadBack, IsStored, IsType, IsWhole, RefusesOptions, RefusesStored, RefusesTyped, RefusesWritten, Settles, StayAsTheyAre, truth_said}
use Rattle.reflect_pool.specs.Dots.{without_dot}
use Rattle.reflect_pool.specs.FieldsLeft.{field_type}
use Rattle.reflect_pool.specs.FindsNames.{FindsMessage}
use Rattle.reflect_pool.specs.declared.field.FieldDescriptor.{FieldDescriptor}
use Rattle.reflect_pool.specs.declared.message.MessageDescriptor.{MessageDescriptor}
use Rattle.reflect_tables.specs.Types.{MessageType, PoolType, no_type}
use Rattle.reflect_tables.proofs.Firsts.{one_first}
use Rattle.reflect_wire.specs.declared.wire_error.WireError.{WireError}
use Rattle.reflect_wire.specs.declared.wire_error.WireError.TheVariants as errors
use Rattle.set_view.specs.Puts.{IsUnset}
use Rattle.settled_records.proofs.Kept.{type_kept}
use Rattle.settled_records.proofs.Stored.{list_unset, stored_plain}
use Rattle.stored_options.proofs.Again.{list_field}
use Rattle.stored_options.proofs.Excluded.{not_set_at}
use Rattle.stored_options.proofs.OneTarget.{NameAlike}
use Rattle.stored_options.proofs.Refusals.{forbidden_there, none_there}
use Rattle.stored_options.proofs.Scoped.{option_type, type_sound}
use Rattle.stored_options.proofs.SetTwice.{AreTwins, all_twice}
use Rattle.stored_options.proofs.TwinPools.{AreTwinPools, message_there, name_same, outline, twins_moved, types_same}
use Rattle.stored_options.proofs.EachStep.{above}
use Rattle.stored_options.proofs.ShapeAlong.{all_shape}
use Rattle.stored_options.proofs.Shapes.{left_shape, unset_so}
use Rattle.stored_options.proofs.StoredTwice.{not_told, seen_truth, spelled_twice, truth_seen}

-- the levels that a message of options may have, while it is set
abbrev top : ℕ
top = suc (above 100)

-- ---- what options come to, by one type

module _ (scope : OptionScope) (s : NameScope) (sound : IsSound s.pool.now) (can : CanRead s.pool.now scope) (o : Options) (d : MessageDescriptor) (its : IsType scope s d) where
  its_sound : IsSound d.pool.now
  its_sound = type_sound scope s d its sound

  pub stored_shape : (stored : DynamicMessage) → IsStored scope d o stored → Exclusive (suc top) stored
  stored_shape stored is = deeper_shape true 101 (suc top) (omega arith) stored (decoded_exclusive d o.encoded.items stored is.0 is.1 is.3)

  module _ (whole : DynamicMessage) (paths : List (List ℤ)) (is : IsWhole scope s d o whole paths) where
    abbrev stored : DynamicMessage
    stored = is.0

    abbrev set : DynamicMessage
    set = is.1

    set_type : set.descriptor ≡ d
    set_type = type_kept s o.uninterpreted_option.items stored set paths is.3 ∙ is.2.0

    set_sound : IsSound set.descriptor.pool.now
    set_sound = subst (λ (c : MessageDescriptor). IsSound c.pool.now) (sym set_type) its_sound

    set_shape : Exclusive (suc top) set
    set_shape = all_shape s o.uninterpreted_option.items stored set paths (subst (λ (c : MessageDescriptor). IsSound c.pool.now) (sym is.2.0) its_sound) is.3 (stored_shape stored is.2)

    lists : HasField d.pool.now d.index 999 (ListsMessages d.pool.now)
    lists = (option_type scope s d its can).uninterpreted

    unset : UpdatesField set whole 999 None
    unset = list_unset d 999 lists.0 lists.1 lists.2 set whole set_type is.4

    list : (f : FieldDescriptor) × Owns set.descriptor f × ((field_type f).number ≡ 999)
    list = list_field set.descriptor (subst (λ (c : MessageDescriptor). HasField c.pool.now c.index 999 (ListsMessages c.pool.now)) (sym set_type) lists)

    taken : UpdatesField set whole (field_type list.0).number None
    taken = subst (λ n. UpdatesField set whole n None) (sym list.2) unset

    -- the list of uninterpreted options is taken out
    list_gone : IsUnset 999 (view set) (view whole)
    list_gone = subst (λ n. IsUnset n (view set) (view whole)) list.2 (unset_so top set set_sound set_shape whole (targets.Field list.0) list.1 taken)

    whole_type : whole.descriptor ≡ d
    whole_type = unset.same_type ∙ set_type

    -- the bytes are those of what is seen
    whole_written : message_bytes whole ≡ bytes_of (types_of d.pool.now) (name_at d.pool.now d.index) (view whole)
    whole_written =
        shape_written d its_sound whole whole_type (suc top)
        (exclusive_shaped (suc top) whole (left_shape top set set_sound set_shape whole (targets.Field list.0) list.1 taken))

-- ---- what they come to twice

-- no type has the name, and one has
pub no_such_type : (p : PoolType) (name : List ℕ) (d : MessageDescriptor) → FindsMessage p name None → FindsMessage p name (Some d) → ⊥
no_such_type p name d none some = none d.index no_type some.0 (some.1.0 no_type)

-- what is found in the one pool is found in the other
pub found_there : (p q : PoolType) → map outline p.messages ≡ map outline q.messages → (scope : OptionScope) (found : Option MessageDescriptor)
    → FindsMessage p (type_name scope) found → FindsMessage q (type_name scope) found
found_there p q same scope None h = message_there p q same (without_dot (type_name scope)) None h
found_there p q same scope (Some d) h = message_there p q same (without_dot (type_name scope)) (Some d.index) h

pub not_left : (scope : OptionScope) (s t : NameScope) → map outline s.pool.now.messages ≡ map outline t.pool.now.messages → (o : Options) (at : Option ℕ) (k : OptionErrorKind)
    → RefusesOptions scope s o at k → StayAsTheyAre scope t o → ⊥
not_left scope s t same o at k (inl forbidden) stay =
    let x = forbidden_there scope o at k forbidden in
    none_there x.0 o.uninterpreted_option.items x.1 stay.1 x.2
not_left scope s t same o at k (inr (finds, inl lacks)) stay = lacks.1 stay.1
not_left scope s t same o at k (inr (finds, inr (d, its, why))) stay = no_such_type t.pool.now (type_name scope) d stay.0 (found_there s.pool.now t.pool.now same scope (Some d) its.1)

module _ (scope : OptionScope) (s t : NameScope) (alike : NameAlike s t) (twins : AreTwinPools s.pool.now t.pool.now) (can : CanRead s.pool.now scope) (can_too : CanRead t.pool.now scope) (o : Options) where
  module _ (d e : MessageDescriptor) (its : IsType scope s d) (also : IsType scope t e) where
    pub type_twins : AreTwinPools d.pool.now e.pool.now
    type_twins = twins_moved s.pool.now t.pool.now d.pool.now e.pool.now its.0 also.0 twins

    pub one_index : d.index ≡ e.index
    one_index =
        one_first (λ (m : MessageType). m.full_name ≡ without_dot (type_name scope)) t.pool.now.messages no_type d.index e.index
        (found_there s.pool.now t.pool.now twins.messages scope (Some d) its.1) also.1

    -- what the bytes spell
    pub stored_twins : (m n : DynamicMessage) → IsStored scope d o m → IsStored scope e o n → AreTwins m n
    stored_twins m n a b = record {
      pools = twins_moved d.pool.now e.pool.now m.descriptor.pool.now n.descriptor.pool.now (ap (λ (c : MessageDescriptor). c.pool.now) a.0) (ap (λ (c : MessageDescriptor). c.pool.now) b.0) type_twins;
      index = ap (λ (c : MessageDescriptor). c.index) a.0 ∙ one_index ∙ sym (ap (λ (c : MessageDescriptor). c.index) b.0);
      seen = spelled_twice d e type_twins one_index o.encoded.items m n a.0 b.0 a.1 b.1;
    }

    -- of a message what it says of entries
    entry_agrees : scope ≡ scopes.Message → (m n : DynamicMessage) → m.descriptor ≡ d → n.descriptor ≡ e → IsSpelled d o.encoded.items m → IsSpelled e o.encoded.items n
        → truth_said 7 m ≡ truth_said 7 n
    entry_agrees message m n of too h k =
        let has = subst (λ c. IfSome (typed_option c) (λ t. HasField d.pool.now d.index t.1 (IsTruthValue t.0))) message (option_type scope s d its can).typed in
        let have = subst (λ c. IfSome (typed_option c) (λ t. HasField e.pool.now e.index t.1 (IsTruthValue t.0))) message (option_type scope t e also can_too).typed in
        truth_seen d type_twins.sound 7 (codes "map_entry") has.0 has.1 has.2 m of (stored_plain d o.encoded.items m h type_twins.sound 7 has.0 has.1 has.2.truth has.2.presence)
        ∙ ap (λ (v : Message). seen_truth (v 7)) (spelled_twice d e type_twins one_index o.encoded.items m n of too h k)
        ∙ sym (truth_seen e type_twins.also 7 (codes "map_entry") have.0 have.1 have.2 n too (stored_plain e o.encoded.items n k type_twins.also 7 have.0 have.1 have.2.truth have.2.presence))

    module _ (n : DynamicMessage) (b : IsStored scope e o n) where
      pub refuses_stored : (c : OptionScope) → scope ≡ c → (k : OptionErrorKind) → RefusesStored c d o k → ⊥
      refuses_stored c is (kinds.UndecodableOptions (Some w)) h = not_told d e type_twins one_index o.encoded.items n b.1 w h.0 h.1
      refuses_stored scopes.Message is (kinds.UndecodableOptions None) h =
          let agrees : AgreesOnEntries scopes.Message o n = subst (λ c. AgreesOnEntries c o n) is b.2 in
          h.3 (ap (λ t. unwrap_or t false) (entry_agrees is h.0 n h.1 b.0 h.2 b.1) ∙ agrees)
      refuses_stored c is k h = absurd h

    -- what is written
    module _ (whole other : DynamicMessage) (paths ways : List (List ℤ)) (a : IsWhole scope s d o whole paths) (b : IsWhole scope t e o other ways) where
      set_twins : AreTwins a.1 b.1
      set_twins =
          all_twice s t alike o.uninterpreted_option.items a.0 b.0 a.1 b.1 paths ways (stored_twins a.0 b.0 a.2 b.2)
          (stored_shape scope s twins.sound can o d its a.0 a.2) (stored_shape scope t twins.also can_too o e also b.0 b.2) a.3 b.3

      whole_seen : view whole ≡ view other
      whole_seen = fun_ext (λ n. by n (eqb_tells n 999)) where
        gone : IsUnset 999 (view a.1) (view whole)
        gone = list_gone scope s twins.sound can o d its whole paths a

        gone_too : IsUnset 999 (view b.1) (view other)
        gone_too = list_gone scope t twins.also can_too o e also other ways b

        by : {A B : Type 0} → (n : ℕ) → (A × (n ≡ 999)) ⊎ (B × (n ≡ 999 → ⊥)) → view whole n ≡ view other n
        by n (inl (_, same)) = ap (view whole) same ∙ gone.here ∙ sym gone_too.here ∙ ap (view other) (sym same)
        by n (inr (_, differs)) = gone.others n differs ∙ (λ i. set_twins.seen i n) ∙ sym (gone_too.others n differs)

      same_bytes : message_bytes whole ≡ message_bytes other
      same_bytes =
          whole_written scope s twins.sound can o d its whole paths a
          ∙ (λ i. bytes_of (types_same d.pool.now e.pool.now type_twins i) (name_same d.pool.now e.pool.now type_twins d.index e.index one_index i) (whole_seen i))
          ∙ sym (whole_written scope t twins.also can_too o e also other ways b)

      unlike : (w : WireError) → w ≢ errors.Memory → TellsWhy whole.descriptor (message_bytes whole) w → IsReadBack other → ⊥
      unlike w differs why (back, spelled) =
          let one : whole.descriptor ≡ d = whole_type scope s twins.sound can o d its whole paths a in
          let two : other.descriptor ≡ e = whole_type scope t twins.also can_too o e also other ways b in
          not_told d e type_twins one_index (message_bytes whole) back
          (subst (λ (c : MessageDescriptor). IsSpelled c (message_bytes whole) back) two (subst (λ bytes. IsSpelled other.descriptor bytes back) (sym same_bytes) spelled)) w differs
          (subst (λ (c : MessageDescriptor). TellsWhy c (message_bytes whole) w) one why)

      refuses_written : (k : OptionErrorKind) → RefusesWritten whole k → IsReadBack other → ⊥
      refuses_written kinds.OptionTooDeep why back = unlike errors.TooDeep (λ same. absurd (cc same)) why back
      refuses_written (kinds.UndecodableOptions (Some w)) (differs, shallow, why) back = unlike w differs why back
      refuses_written k why back = absurd why

    -- by their type they are not refused and settled
    refuses_typed : (at : Option ℕ) (k : OptionErrorKind) → RefusesTyped scope s d o at k → (other : DynamicMessage) (ways : List (List ℤ)) → IsWhole scope t e o other ways → IsReadBack other → ⊥
    refuses_typed None k (inl why) other ways b back = refuses_stored b.0 b.2 scope refl k why
    refuses_typed None k (inr (whole, paths, a, why)) other ways b back = refuses_written whole other paths ways a b k why back
    refuses_typed (Some place) k (stored, is, refuses) other ways b back =
        not_set_at s t alike o.uninterpreted_option.items place stored b.0 b.1 ways k (stored_twins stored b.0 is b.2)
        (stored_shape scope s twins.sound can o d its stored is) (stored_shape scope t twins.also can_too o e also b.0 b.2) refuses b.3

  -- none is forbidden, and one is
  pub forbidden_none : (at : Option ℕ) (k : OptionErrorKind) → IsForbiddenAt scope o at k → FindsForbidden scope o None → ⊥
  forbidden_none (Some place) (kinds.ForbiddenOption name) (first, (x, there, tells)) none = none place x first.0 (first.1.0 x)
  forbidden_none at k forbidden none = absurd forbidden

  -- nor in any way
  pub not_settled : (at : Option ℕ) (k : OptionErrorKind) → RefusesOptions scope s o at k → (settled : OptionsContent) (paths : List (List ℤ)) → Settles scope t o settled paths → ⊥
  not_settled at k (inl forbidden) settled paths is = forbidden_none at k forbidden is.0
  not_settled at k (inr (finds, inl lacks)) settled paths is = no_such_type t.pool.now (type_name scope) is.1.0 (found_there s.pool.now t.pool.now twins.messages scope None lacks.0) is.1.1.1
  not_settled at k (inr (finds, inr (d, its, why))) settled paths is = refuses_typed d is.1.0 its is.1.1 at k why is.1.2 paths is.1.3 is.1.4.1
