-- Options that are held as sources' are, in the records of a pool that was linked once more, are not
-- refused.
use Rattle.std.proofs.Common.{◌≡◌, ◌+◌, ℕ, List, [], ◌∷◌, map, Option, Some, slice_get, inl, inr, sym, subst}
use Rattle.std.specs.List.{AllByRecursion}
use Rattle.descriptor_records.specs.Content.{FileContent, file_view, options_view}
use Rattle.descriptor_records.specs.declared.file.FileDescriptorProto.{FileDescriptorProto}
use Rattle.descriptor_records.specs.declared.options.Options.{Options}
use Rattle.linked_view.proofs.Named.{all_split}
use Rattle.message_view.specs.Sound.{IsSound}
use Rattle.message_view.specs.Types.{types_of}
use Rattle.option_parts.specs.OptionTypes.{CanRead}
use Rattle.option_parts.specs.TypedOptions.{TypedFiles}
use Rattle.option_parts.specs.declared.option_error.OptionErrorKind.{OptionErrorKind}
use Rattle.option_parts.specs.declared.option_scope.OptionScope.{OptionScope}
use Rattle.option_setter.specs.declared.option_setter.NameScope.{NameScope}
use Rattle.plain_records.specs.PlainRecords.{ArePlainFiles}
use Rattle.plain_records.specs.SaidOptions.{SaysAndIsSettled}
use Rattle.protobuf_model.specs.Values.{Message}
use Rattle.reflect_build.specs.Accepted.{FaultlessFiles}
use Rattle.reflect_faults.specs.Faults.{Place}
use Rattle.reflect_options.specs.Settled.{IsForbiddenAt, RefusesOptions}
use Rattle.reflect_options.specs.Settling.{RefusesAtPlace}
use Rattle.reflect_pool.specs.Linked.{empty_pool}
use Rattle.reflect_tables.specs.Types.{PoolType}
use Rattle.reflect_wire.specs.Written.{AreBytes}
use Rattle.settled_records.proofs.OfEntities.{Meets}
use Rattle.settled_records.proofs.PlainOptions.{said}
use Rattle.settled_view.proofs.Built.{itself}
use Rattle.stored_options.specs.StoredOptions.{AreStored}
use Rattle.stored_options.proofs.Again.{no_items}
use Rattle.stored_options.proofs.Later.{stored_later}
use Rattle.stored_options.proofs.Refusals.{forbidden_there, stored_not_refused}
use Rattle.types_view.specs.Pools.{IsKept, IsPool}
use Rattle.types_view.specs.Typed.{IsTyped}
use Rattle.schema_laws.proofs.Again.{Keeps, entities_again, types_again}
use Rattle.schema_laws.proofs.Said.{type_of_scope}
use Rattle.schema_laws.specs.HeldOptions.{HoldsOptions, ReadsAlike}

module _ (p linked : PoolType) (types : types_of linked ≡ types_of p) (sound : IsSound linked) (can : (scope : OptionScope) → CanRead linked scope) where
  -- an entity's options
  options_taken : (scope : OptionScope) (s : NameScope) (o : Options) (at : Option ℕ) (e : OptionErrorKind) → s.pool.now ≡ linked
      → Keeps p scope (options_view o) → RefusesOptions scope s o at e → ⊥
  options_taken scope s o at e is keeps refused = elim (keeps.0 keeps.1.0) [
    | inl stored ↦ by (stored.1.0, subst (λ types. AreStored types scope stored.1.0 o.encoded.items) (sym types) stored.1.1) refused
    | inr given ↦ elim refused [
      | inl forbidden ↦ absurd (none_forbidden at e forbidden)
      | inr rest ↦ elim rest.1 [
        | inl lacks ↦ absurd (lacks.1 items)
        | inr typed ↦
            let has = type_of_scope linked scope s is typed.0 typed.1 in
            by (stored_later scope linked o sound (has.0, has.1, can scope has.0 has.1) given.0.0 given.1) (inr (rest.0, inr typed))
      ]
    ]
  ]
    where
      items : o.uninterpreted_option.items ≡ []
      items = no_items o.uninterpreted_option.items keeps.1.1.1

      none_forbidden : (at : Option ℕ) (e : OptionErrorKind) → IsForbiddenAt scope o at e → ⊥
      none_forbidden at e h =
          let x = forbidden_there scope o at e h in
          let there : slice_get [] x.0 ≡ Some x.1 = subst (λ xs. slice_get xs x.0 ≡ Some x.1) items x.2 in
          absurd (cc there)

      by : (m : Message) × AreStored (types_of linked) scope m o.encoded.items → RefusesOptions scope s o at e → ⊥
      by (m, stored) h =
          stored_not_refused scope s o at e m (subst IsSound (sym is) sound) (subst (λ q. CanRead q scope) (sym is) (can scope)) keeps.1.0
          (subst (λ q. AreStored (types_of q) scope m o.encoded.items) (sym is) stored) keeps.1.1 h

-- those of the files of the pool that linking made
pub not_refused : (batches : List (List FileContent)) (p linked : PoolType) (files typed : List FileDescriptorProto) (t : IsTyped batches p) → IsKept p
    → ArePlainFiles SaysAndIsSettled (map file_view p.records) → HoldsOptions p → ReadsAlike t.but.linked p → ArePlainFiles (λ scope o. AreBytes o.encoded) (map file_view p.records)
    → map file_view files ≡ map file_view p.records → TypedFiles files typed → FaultlessFiles empty_pool typed linked → IsPool linked → IsSound linked
    → ((scope : OptionScope) → CanRead linked scope) → (place : Place) (e : OptionErrorKind) → RefusesAtPlace linked 0 place e → ⊥
not_refused batches p linked files typed t kept plain held alike bytes same copied faultless whole sound can place e
    (n, es, f, before, there, (front, back, c, own, ms, is, settles, (o, s, at, has, scope, refused, path)), placed) =
    let types = types_again batches p linked linked files typed t kept plain alike same copied faultless (itself linked) whole in
    let all = entities_again batches p linked linked files typed t kept plain alike same copied faultless (itself linked) whole held bytes (0 + n) f there in
    let rest = all_split (Meets (λ file. said (Keeps p))) front (c ∷ back) (subst (AllByRecursion (Meets (λ file. said (Keeps p)))) is all) in
    options_taken p linked types sound can c.scope s o at e scope.pool (rest.1.0 o has) refused
