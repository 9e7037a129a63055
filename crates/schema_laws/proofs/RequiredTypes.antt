-- A source that has all types of options lacks none, however it is linked.
use Rattle.std.proofs.Common.{◌≡◌, ◌∙◌, inl, inr, List, [], ◌∷◌, Some, map, ap, sym, subst}
use Rattle.descriptor_records.specs.Content.{FileContent, file_view}
use Rattle.option_parts.specs.OptionTypes.{ReadsOptions, TellsRequired, scope_at, type_name}
use Rattle.option_parts.specs.TypedOptions.{typed_file}
use Rattle.option_parts.specs.declared.option_error.OptionErrorKind.{OptionErrorKind}
use Rattle.option_parts.specs.declared.option_scope.OptionScope.{OptionScope}
use Rattle.reflect_build.specs.Refusals.{new_files}
use Rattle.reflect_pool.specs.Linked.{empty_pool}
use Rattle.reflect_tables.specs.Types.{PoolType}
use Rattle.schema_core.specs.Refusals.{IsPool, SourcesLinked}
use Rattle.schema_view.specs.Types.{message_at}
use Rattle.schema_view.specs.Views.{view_of}
use Rattle.schema_view.proofs.Batches.{one_built}
use Rattle.types_view.specs.Typed.{IsTyped}
use Rattle.types_view.proofs.Settled.{empty_typed}
use Rattle.schema_laws.specs.HeldOptions.{HasType}
use Rattle.schema_laws.specs.Histories.{Sources}
use Rattle.schema_laws.proofs.AddedBatches.{IsBatch, linked_batch}
use Rattle.schema_laws.proofs.TakenOrRefused.{new_alike}
use Rattle.schema_laws.proofs.HeldStill.{declared_type, type_declared}
use Rattle.schema_laws.proofs.Histories.{one_list}
use Rattle.schema_laws.proofs.Settled.{settled_reads}

module _ (given : Sources) (p q : PoolType) (is : IsPool p) (also : IsPool q) (first : SourcesLinked empty_pool given p) (second : SourcesLinked empty_pool given q) where
  abbrev one : IsBatch [] empty_pool first.0 p
  one = linked_batch [] empty_pool p first.0 empty_typed is first.2

  abbrev two : IsBatch [] empty_pool second.0 q
  two = linked_batch [] empty_pool q second.0 empty_typed also second.2

  abbrev here : List FileContent
  here = map file_view (new_files one.linking.indexes one.typed)

  abbrev there : List FileContent
  there = map file_view (new_files two.linking.indexes two.typed)

  -- both pools were made of one batch
  batch_alike : there ≡ here
  batch_alike =
      let typed : map file_view two.typed ≡ map file_view one.typed =
      two.types ∙ ap (map typed_file) (one_list given second.0 first.0 second.1 first.1) ∙ sym one.types in
      new_alike empty_pool two.linking one.linking two.of one.of two.typed one.typed typed

  abbrev other : IsTyped (here ∷ []) q
  other = subst (λ (batch : List FileContent). IsTyped (batch ∷ []) q) batch_alike two.built

  records_alike : map file_view one.built.but.linked.records ≡ map file_view other.but.linked.records
  records_alike =
      one_built (here ∷ []) (map file_view one.built.but.linked.records) (map file_view other.but.linked.records) one.built.but.built.built other.but.built.built

  -- a type that the one has the other has
  type_there : (scope : OptionScope) → HasType p scope → HasType q scope
  type_there scope has =
      let m = type_declared (here ∷ []) p one.built is.kept scope has in
      declared_type (here ∷ []) q other also.kept scope m.0
      (subst (λ (fs : List FileContent). message_at (view_of fs) (type_name scope) ≡ Some m.0) records_alike m.1)

  pub none_lacks : ((scope : OptionScope) → ReadsOptions p scope) → (kind : OptionErrorKind) → TellsRequired q kind → ⊥
  none_lacks reads kind (inl (n, tells, none, before)) =
      let has = reads (scope_at n) in
      none (type_there (scope_at n) (has.0, has.1))
  none_lacks reads kind (inr (all, (n, tells, cannot, before))) = read second
    where
      read : SourcesLinked empty_pool given q → ⊥
      read (files, are, (linked, fit, settles, settled, bare)) =
          cannot (settled_reads linked q (record { settled = settled; bare = bare }) (scope_at n) (settles.readable (scope_at n)))
