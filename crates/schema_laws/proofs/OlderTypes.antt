-- The types of a schema are older than the same types of a schema of further batches.
use Rattle.std.proofs.Common.{◌≡◌, ◌∙◌, ℕ, List, ◌++◌, Some, ap, map, sym, subst}
use Rattle.descriptor_records.specs.Content.{FileContent, file_view}
use Rattle.protobuf_model.specs.Older.{IsOlder}
use Rattle.protobuf_model.specs.Types.{Name}
use Rattle.reflect_pool.specs.Dots.{without_dot}
use Rattle.reflect_tables.specs.Types.{PoolType}
use Rattle.text_model.specs.Schemas.{Schema}
use Rattle.message_view.specs.Types.{types_of}
use Rattle.schema_view.specs.Lawful.{Builds}
use Rattle.schema_view.specs.Types as view
use Rattle.schema_view.specs.Views.{Grows, view_of}
use Rattle.schema_view.proofs.Growing.{stays_older}
use Rattle.schema_view.proofs.Road.{built_linked}
use Rattle.types_view.specs.Pools.{IsKept}
use Rattle.types_view.specs.Typed.{IsTyped}
use Rattle.types_view.proofs.Settled.{settled_types}
use Rattle.texts_view.specs.Named.{type_called}
use Rattle.texts_view.proofs.Settled.{settled_names}
use Rattle.stored_options.proofs.FurtherBatches.{called_declared, grows_further}
use Rattle.schema_core.specs.Refusals.{IsKnown}
use Rattle.schema_laws.proofs.LaterTexts.{called}
use Rattle.schema_laws.proofs.TextsAlike.{no_message}

module _ (earlier more : List (List FileContent)) (p q : PoolType) (typed : IsTyped earlier p) (also : IsTyped (more ++ earlier) q) (kept : IsKept p) (too : IsKept q) where
  abbrev old : List FileContent
  old = map file_view typed.but.linked.records

  abbrev new : List FileContent
  new = map file_view also.but.linked.records

  built : Builds earlier old
  built = typed.but.built.built

  grow : Grows (view_of old) (view_of new)
  grow = grows_further more earlier old new built also.but.built.built

  module _ (name : List ℕ) (known : IsKnown p name) where
    abbrev t : Name
    t = without_dot name

    found : type_called (view_of old) name ≡ Some t
    found = sym (ap (λ (w : Schema). w.message name) (settled_names earlier p typed kept no_message)) ∙ called name p known

    stays : IsOlder (view.types_of (view_of old)) t (view.types_of (view_of new)) t
    stays = stays_older old new (built_linked earlier old built) grow t (called_declared earlier old new built grow name t found)

    pub older_after : IsOlder (types_of p) t (types_of q) t
    older_after =
        subst (λ w. IsOlder w t (types_of q) t) (sym (settled_types earlier p typed kept))
        (subst (λ w. IsOlder (view.types_of (view_of old)) t w t) (sym (settled_types (more ++ earlier) q also too)) stays)
