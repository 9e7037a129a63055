-- Options that are refused are refused for faults of one sort, and by one name: of the same record in two pools that say the
-- same to texts, and of the files of two such pools.
use Rattle.std.proofs.Common.{◌≡◌, ◌<◌, ◌⊎◌, inl, inr, ℕ, map, Option, None, Some, slice_get, take, refl, sym, ap, ◌∙◌, subst}
use Rattle.std.proofs.lemmas.Bool.{cases_order}
use Rattle.std.proofs.lemmas.Option.{same_Some}
use Rattle.descriptor_records.specs.Content.{OptionContent, file_view, option_view}
use Rattle.descriptor_records.specs.declared.options.Options.{Options}
use Rattle.descriptor_records.specs.declared.options.UninterpretedOption.{UninterpretedOption}
use Rattle.option_parts.specs.OptionTypes.{CanRead, TellsName, TellsType, scope_at, type_name}
use Rattle.option_parts.specs.declared.option_error.OptionErrorKind.{OptionErrorKind}
use Rattle.option_parts.specs.declared.option_error.OptionErrorKind.TheVariants as kinds
use Rattle.option_parts.specs.declared.option_scope.OptionScope.{OptionScope}
use Rattle.option_parts.specs.declared.option_scope.OptionScope.TheVariants as scopes
use Rattle.option_setter.specs.SetOptions.{RefusesParts}
use Rattle.option_setter.specs.WrittenNames.{TellsOption, name_told, written_name}
use Rattle.option_setter.specs.declared.option_setter.NameScope.{NameScope}
use Rattle.protox_lex.specs.Class.{Text}
use Rattle.reflect_decode.specs.Spelled.{IsSpelled, TellsWhy}
use Rattle.reflect_faults.specs.Faults.{Place}
use Rattle.reflect_message.specs.Names.{DynamicMessage}
use Rattle.reflect_options.specs.Settled.{IsForbiddenAt, IsType, LacksType, RefusesOptions, RefusesStored, RefusesTyped, RefusesWritten}
use Rattle.reflect_options.specs.Settling.{RefusesFrom}
use Rattle.reflect_pool.specs.declared.message.MessageDescriptor.{MessageDescriptor}
use Rattle.reflect_tables.specs.Types.{PoolType}
use Rattle.reflect_wire.specs.declared.wire_error.WireError.{WireError}
use Rattle.reflect_wire.specs.declared.wire_error.WireError.TheVariants as errors
use Rattle.types_view.specs.Pools.{IsPool}
use Rattle.stored_options.proofs.OnePlace.{OneRecord, TwinFiles, one_place, one_record}
use Rattle.stored_options.proofs.OneSort.{one_sort}
use Rattle.stored_options.proofs.RefusedAt.{TwinScopes, first_forbidden, refused_at, turned}
use Rattle.stored_options.proofs.RefusedOptions.{forbidden_none, found_there, no_such_type, one_index, refuses_stored, stored_shape, stored_twins, type_twins}
use Rattle.stored_options.proofs.SetTwice.{AreTwins, all_twice}
use Rattle.stored_options.proofs.ShapeAlong.{all_shape}
use Rattle.stored_options.proofs.StoredTwice.{not_told}
use Rattle.stored_options.proofs.TwinPools.{AreTwinPools, twins_back}
use Rattle.stored_options.specs.ToldAlike.{Sort, TellAlike, bad_type, contradicting, extends_another, floating, forbidden, no_message, no_type, not_found, set_already, sort_of, unread, unsuited, want_of_memory}

-- ---- the name that is told

-- of an option of this name, by the sort of the fault
abbrev name_of : Text → Sort → Option Text
name_of n not_found = Some n
name_of n extends_another = Some n
name_of n unsuited = Some n
name_of n no_message = Some n
name_of n floating = Some n
name_of n set_already = Some n
name_of n forbidden = Some n
name_of n unread = None
name_of n contradicting = None
name_of n no_type = None
name_of n (bad_type m) = None
name_of n want_of_memory = None

its_name : (o : OptionContent) (k : OptionErrorKind) → TellsOption o k → name_told k ≡ name_of (written_name o) (sort_of k)
its_name o (kinds.OptionNotFound name) tells = ap Some tells
its_name o (kinds.InvalidOptionType name) tells = ap Some tells
its_name o (kinds.InvalidOptionExtendee name) tells = ap Some tells
its_name o (kinds.InvalidMessageOption name e) tells = ap Some tells
its_name o (kinds.DuplicateOption name) tells = ap Some tells
its_name o (kinds.FloatOption name) tells = ap Some tells
its_name o kinds.OptionTooDeep tells = refl
its_name o (kinds.ForbiddenOption name) tells = ap Some tells
its_name o kinds.NoDescriptorProto tells = refl
its_name o (kinds.BadDescriptorProto name) tells = refl
its_name o (kinds.UndecodableOptions (Some e)) tells = refl
its_name o (kinds.UndecodableOptions None) tells = refl
its_name o kinds.Memory tells = refl

-- faults of one sort that tell the name of one option tell alike
of_option : (o : OptionContent) (k l : OptionErrorKind) → TellsOption o k → TellsOption o l → sort_of k ≡ sort_of l → TellAlike k l
of_option o k l tells also sort = record { sort = sort; option = its_name o k tells ∙ ap (name_of (written_name o)) sort ∙ sym (its_name o l also) }

-- and so do those of no option
of_none : (sort : Sort) (k l : OptionErrorKind) → (sort_of k ≡ sort) × (name_told k ≡ None) → (sort_of l ≡ sort) × (name_told l ≡ None) → TellAlike k l
of_none sort k l h j = record { sort = h.0 ∙ sym j.0; option = h.1 ∙ sym j.1 }

-- ---- what is stored

-- the bytes are at fault, or spell what contradicts the record
abbrev Unread : MessageDescriptor → Options → OptionErrorKind → Type 0
Unread d o k = ((sort_of k ≡ unread) × (name_told k ≡ None)) × ((w : WireError) × (w ≡ errors.Memory → ⊥) × TellsWhy d o.encoded.items w)

abbrev Contradicts : MessageDescriptor → Options → OptionErrorKind → Type 0
Contradicts d o k = ((sort_of k ≡ contradicting) × (name_told k ≡ None)) × ((m : DynamicMessage) × IsSpelled d o.encoded.items m)

stored_sort : (scope : OptionScope) (d : MessageDescriptor) (o : Options) (k : OptionErrorKind) → RefusesStored scope d o k → Unread d o k ⊎ Contradicts d o k
stored_sort scope d o (kinds.UndecodableOptions (Some w)) why = inl ((refl, refl), (w, why.0, why.1))
stored_sort scopes.Message d o (kinds.UndecodableOptions None) why = inr ((refl, refl), (why.0, why.2))
stored_sort scope d o k why = absurd why

written_sort : (whole : DynamicMessage) (k : OptionErrorKind) → RefusesWritten whole k → (sort_of k ≡ unread) × (name_told k ≡ None)
written_sort whole kinds.OptionTooDeep why = (refl, refl)
written_sort whole (kinds.UndecodableOptions (Some w)) why = (refl, refl)
written_sort whole k why = absurd why

module _ (scope : OptionScope) (o : Options) where
  module _ (s t : NameScope) (w : TwinScopes scope s t) (d e : MessageDescriptor) (its : IsType scope s d) (also : IsType scope t e) where
    -- by the type of the one they are not at fault where by that of the other they spell something
    not_unread : (k l : OptionErrorKind) → Unread d o k → Contradicts e o l → ⊥
    not_unread k l (sort, (x, other, why)) (contrary, (m, spelled)) =
        not_told d e (type_twins scope s t w.alike w.twins w.can w.can_too o d e its also) (one_index scope s t w.alike w.twins w.can w.can_too o d e its also) o.encoded.items m spelled x other why

  module _ (s t : NameScope) (w : TwinScopes scope s t) (d e : MessageDescriptor) (its : IsType scope s d) (also : IsType scope t e) where
    one_stored : (k l : OptionErrorKind) → RefusesStored scope d o k → RefusesStored scope e o l → TellAlike k l
    one_stored k l why other = by (stored_sort scope d o k why) (stored_sort scope e o l other) where
      by : Unread d o k ⊎ Contradicts d o k → Unread e o l ⊎ Contradicts e o l → TellAlike k l
      by (inl h) (inl j) = of_none unread k l h.0 j.0
      by (inl h) (inr j) = absurd (not_unread s t w d e its also k l h j)
      by (inr h) (inl j) = absurd (not_unread t s (turned scope s t w) e d also its l k j h)
      by (inr h) (inr j) = of_none contradicting k l h.0 j.0

    -- ---- one of the options

    at_one : (place : ℕ) (k l : OptionErrorKind) → RefusesTyped scope s d o (Some place) k → RefusesTyped scope t e o (Some place) l → TellAlike k l
    at_one place k l (stored, is, (x, front, paths, there, before, why, tells)) (held, spelled, (y, behind, ways, has, ahead, other, told)) =
        let one : y ≡ x = same_Some y x (sym has ∙ there) in
        let shape = stored_shape scope s w.twins.sound w.can o d its stored is in
        let shape_too = stored_shape scope t w.twins.also w.can_too o e also held spelled in
        let start : AreTwins stored held = stored_twins scope s t w.alike w.twins w.can w.can_too o d e its also stored held is spelled in
        let twins : AreTwins front behind = all_twice s t w.alike (take place o.uninterpreted_option.items) stored held front behind paths ways start shape shape_too before ahead in
        let other_of : RefusesParts t (option_view x) 100 x.name.items behind l = subst (λ (z : UninterpretedOption). RefusesParts t (option_view z) 100 z.name.items behind l) one other in
        of_option (option_view x) k l tells (subst (λ (z : UninterpretedOption). TellsOption (option_view z) l) one told)
        (one_sort s t w.alike w.back (option_view x) w.twins 100 x.name.items front behind k l twins
        (all_shape s (take place o.uninterpreted_option.items) stored front paths start.pools.sound before shape)
        (all_shape t (take place o.uninterpreted_option.items) held behind ways start.pools.also ahead shape_too) why other_of)

    -- ---- by their type, at one place

    typed_told : (at : Option ℕ) (k l : OptionErrorKind) → RefusesTyped scope s d o at k → RefusesTyped scope t e o at l → TellAlike k l
    typed_told (Some place) k l why other = at_one place k l why other
    typed_told None k l (inl why) (inl other) = one_stored k l why other
    typed_told None k l (inl why) (inr (whole, paths, is, other)) =
        absurd (refuses_stored scope s t w.alike w.twins w.can w.can_too o d e its also is.0 is.2 scope refl k why)
    typed_told None k l (inr (whole, paths, is, why)) (inl other) =
        absurd (refuses_stored scope t s w.back (twins_back s.pool.now t.pool.now w.twins) w.can_too w.can o e d also its is.0 is.2 scope refl l other)
    typed_told None k l (inr (whole, paths, is, why)) (inr (other, ways, also_is, why_too)) = of_none unread k l (written_sort whole k why) (written_sort other l why_too)

  -- ---- in any way

  forbidden_told : (at on : Option ℕ) (k l : OptionErrorKind) → at ≡ on → IsForbiddenAt scope o at k → IsForbiddenAt scope o on l → TellAlike k l
  forbidden_told at on k l same h j =
      let a = first_forbidden scope o at k h in
      let b = first_forbidden scope o on l j in
      let place : a.place ≡ b.place = same_Some a.place b.place (sym a.is ∙ same ∙ b.is) in
      let one : b.option ≡ a.option = same_Some b.option a.option (sym b.there ∙ ap (slice_get o.uninterpreted_option.items) (sym place) ∙ a.there) in
      of_option (option_view a.option) k l a.tells (subst (λ (z : UninterpretedOption). TellsOption (option_view z) l) one b.tells) (a.sort ∙ sym b.sort)

  lacks_told : (s : NameScope) (at : Option ℕ) (k : OptionErrorKind) → LacksType scope s o at k → (sort_of k ≡ no_type) × (name_told k ≡ None)
  lacks_told s at k lacks = (ap sort_of lacks.3, ap name_told lacks.3)

  pub told_alike : (s t : NameScope) → TwinScopes scope s t → (at on : Option ℕ) (k l : OptionErrorKind) → RefusesOptions scope s o at k → RefusesOptions scope t o on l → TellAlike k l
  told_alike s t w at on k l h j = by h j where
    same : at ≡ on
    same = refused_at scope o s t w at on k l h j

    by : RefusesOptions scope s o at k → RefusesOptions scope t o on l → TellAlike k l
    by (inl a) (inl b) = forbidden_told at on k l same a b
    by (inl a) (inr (finds, b)) = absurd (forbidden_none scope s t w.alike w.twins w.can w.can_too o at k a finds)
    by (inr (finds, a)) (inl b) = absurd (forbidden_none scope s t w.alike w.twins w.can w.can_too o on l b finds)
    by (inr (finds, inl a)) (inr (found, inl b)) = of_none no_type k l (lacks_told s at k a) (lacks_told t on l b)
    by (inr (finds, inl a)) (inr (found, inr (e, also, b))) =
        absurd (no_such_type t.pool.now (type_name scope) e (found_there s.pool.now t.pool.now w.twins.messages scope None a.0) also.1)
    by (inr (finds, inr (d, its, a))) (inr (found, inl b)) =
        absurd (no_such_type s.pool.now (type_name scope) d (found_there t.pool.now s.pool.now (sym w.twins.messages) scope None b.0) its.1)
    by (inr (finds, inr (d, its, a))) (inr (found, inr (e, also, b))) = typed_told s t w d e its also at k l a (subst (λ m. RefusesTyped scope t e o m l) (sym same) b)

-- ---- types of options

its_type : (name : Text) (k : OptionErrorKind) → TellsName name k → (sort_of k ≡ bad_type name) × (name_told k ≡ None)
its_type name (kinds.BadDescriptorProto told) tells = (ap bad_type tells, refl)
its_type name k tells = absurd tells

-- the first type that the one reads no options by is the first of the other
one_type : (p q : PoolType) → ((scope : OptionScope) → CanRead p scope → CanRead q scope) → ((scope : OptionScope) → CanRead q scope → CanRead p scope)
    → (k l : OptionErrorKind) → TellsType (CanRead p) k → TellsType (CanRead q) l → TellAlike k l
one_type p q to back k l (n, tells, fails, before) (m, told, lacks, ahead) = by (cases_order n m) where
  by : (n ≡ m) ⊎ ((n < m) ⊎ (m < n)) → TellAlike k l
  by (inl same) = of_none (bad_type (type_name (scope_at n))) k l (its_type (type_name (scope_at n)) k tells) (its_type (type_name (scope_at n)) l (subst (λ i. TellsName (type_name (scope_at i)) l) (sym same) told))
  by (inr (inl less)) = absurd (fails (back (scope_at n) (ahead n less)))
  by (inr (inr more)) = absurd (lacks (to (scope_at m) (before m more)))

-- ---- pools

pub one_telling : (p q : PoolType) → IsPool p → IsPool q → AreTwinPools p q → map file_view p.records ≡ map file_view q.records
    → ((scope : OptionScope) → CanRead p scope → CanRead q scope) → ((scope : OptionScope) → CanRead q scope → CanRead p scope)
    → (first : ℕ) (place other : Option Place) (e k : OptionErrorKind) → RefusesFrom p first place e → RefusesFrom q first other k → TellAlike e k
one_telling p q whole whole_too twins same to back first None None e k refuses also = one_type p q to back e k refuses also
one_telling p q whole whole_too twins same to back first None (Some on) e k (n, tells, fails, before) (can, also) = absurd (fails (back (scope_at n) (can (scope_at n))))
one_telling p q whole whole_too twins same to back first (Some at) None e k (can, refuses) (n, tells, fails, before) = absurd (fails (to (scope_at n) (can (scope_at n))))
one_telling p q whole whole_too twins same to back first (Some at) (Some on) e k (can, refuses) (can_too, also) =
    let w : TwinFiles p q = record { whole = whole; whole_too = whole_too; twins = twins; same = same; can = can; can_too = can_too } in
    let r : OneRecord p q at.path on.path e k = one_record p q w at.path on.path e k (one_place p q w first at on e k refuses also).entity in
    told_alike r.scope r.options r.first r.second r.twins r.at r.on e k r.refuses r.also
