-- Schemas of the same files in the end, but for lines, columns and comments, have the same types, and
-- say the same to texts.
use Rattle.std.proofs.Common.{◌≡◌, ◌∙◌, List, map, ap, sym}
use Rattle.descriptor_records.specs.Content.{FileContent, file_view}
use Rattle.message_view.specs.Types.{types_of}
use Rattle.schema_view.specs.Types as view
use Rattle.schema_view.specs.Views.{view_of}
use Rattle.text_view.specs.Schemas.{schema_of}
use Rattle.texts_view.specs.Named.{schema_in}
use Rattle.texts_view.proofs.Settled.{settled_names}
use Rattle.types_view.proofs.Settled.{settled_types}
use Rattle.schema_core.specs.declared.schema.Schema.{Schema}
use Rattle.schema_laws.proofs.TextsAlike.{no_message}
use Rattle.stored_options.proofs.Unlocated.{one_view}
use Rattle.schema_laws.specs.Batches.{HaveSameFiles}

module _ (batches others : List (List FileContent)) (s t : Schema) (are : HaveSameFiles batches others s t) where
  abbrev here : List FileContent
  here = map file_view are.first.but.linked.records

  abbrev there : List FileContent
  there = map file_view are.second.but.linked.records

  linked_alike : view_of here ≡ view_of there
  linked_alike = one_view batches others here there are.plain are.same are.first.but.built.built are.second.but.built.built

  pub same_types : types_of s.pool ≡ types_of t.pool
  same_types =
      settled_types batches s.pool are.first are.pool.kept
      ∙ ap view.types_of linked_alike
      ∙ sym (settled_types others t.pool are.second are.other_pool.kept)

  pub same_names : schema_of s.pool no_message ≡ schema_of t.pool no_message
  same_names =
      settled_names batches s.pool are.first are.pool.kept no_message
      ∙ ap (λ v. schema_in v no_message) linked_alike
      ∙ sym (settled_names others t.pool are.second are.other_pool.kept no_message)
