-- What a source wrote of options sets the same message, in the same bytes, by the schema that is there
-- when further batches have come.
use Rattle.std.proofs.Common.{◌≡◌, ◌∙◌, ℕ, ℤ, List, ◌++◌, map, Option, None, Some, Contains, ap, sym, subst}
use Rattle.descriptor_records.specs.Content.{FileContent, OptionContent, Text, file_view, options_view}
use Rattle.descriptor_records.specs.declared.options.Options.{Options}
use Rattle.texts_view.specs.Declared.{is_declared}
use Rattle.texts_view.proofs.Files.{back, built_entries, files_say_all}
use Rattle.known_messages.specs.KnownMessages.{KnowsAll}
use Rattle.known_messages.proofs.Written.{known_alike}
use Rattle.message_view.specs.Sound.{IsSound}
use Rattle.stored_options.specs.SetOptions.{Leads, SetsAll}
use Rattle.stored_options.proofs.SettingGrows.{all_stay}
use Rattle.stored_options.specs.Standing.{StandsIn}
use Rattle.stored_options.proofs.FurtherBatches.{called_declared, grows_further}
use Rattle.option_parts.specs.OptionTypes.{CanRead, type_name}
use Rattle.option_parts.specs.declared.option_scope.OptionScope.{OptionScope}
use Rattle.option_setter.specs.declared.option_setter.NameScope.{NameScope}
use Rattle.stored_options.specs.NamedNumbers.{numbers_named}
use Rattle.stored_options.proofs.OfSources.{sources_set}
use Rattle.plain_records.specs.SourceOptions.{HaveSmallNumbers, as_read}
use Rattle.protobuf_model.specs.Bytes.{bytes_of}
use Rattle.protobuf_model.specs.Older.{IsOlder}
use Rattle.protobuf_model.specs.Types.{Name}
use Rattle.protobuf_model.specs.Values.{Message, nothing}
use Rattle.reflect_options.specs.Settled.{Settles}
use Rattle.reflect_tables.specs.Types.{PoolType, no_type}
use Rattle.schema_view.specs.Lawful.{Builds}
use Rattle.schema_view.specs.Types.{types_of}
use Rattle.schema_view.specs.Views.{Grows, view_of}
use Rattle.schema_view.proofs.Growing.{stays_older}
use Rattle.schema_view.proofs.Looking.{Declared}
use Rattle.schema_view.proofs.Road.{AreLinked, built_linked}
use Rattle.stored_options.proofs.Scoped.{named_type}
use Rattle.text_model.specs.Schemas.{Schema}
use Rattle.text_view.specs.Schemas.{schema_of}
use Rattle.text_view.proofs.Wanted.{type_found}
use Rattle.texts_view.specs.Named.{schema_in, type_called}
use Rattle.texts_view.proofs.Settled.{settled_names}

-- nothing is read of the messages that bytes mean
abbrev pub unread : Name → Text → Option Message
unread t bytes = None

-- options set a message where nothing was set, along these paths, and its type writes these bytes of it
abbrev pub SetAndWritten : Schema → Leads → Name → List OptionContent → List ℕ → List (List ℤ) → Type 0
SetAndWritten w leads t os bytes paths = (m : Message) × (bytes ≡ bytes_of w.types t m) × SetsAll w leads t os nothing m paths

-- and the type knows all of it
abbrev AllKnown : Schema → Leads → Name → List OptionContent → List ℕ → List (List ℤ) → Type 0
AllKnown w leads t os bytes paths =
    (m : Message) × KnowsAll w.types t m × (bytes ≡ bytes_of w.types t m) × SetsAll w leads t os nothing m paths

module _ (batches more : List (List FileContent)) (after : List FileContent) (built : Builds (more ++ batches) after)
    (p : PoolType) (s : NameScope) (file name : Text) (stands : StandsIn batches p s file name)
    (scope : OptionScope) (o settled : Options) (paths : List (List ℤ)) (sound : IsSound s.pool.now) (can : CanRead s.pool.now scope)
    (given : options_view o ≡ as_read scope (options_view o).uninterpreted_option) (small : HaveSmallNumbers (options_view o))
    (is : Settles scope s o (options_view settled) paths) where
  -- the records that linking made
  abbrev before : List FileContent
  before = map file_view stands.typed.but.linked.records

  abbrev was : Builds batches before
  was = stands.typed.but.built.built

  linked : AreLinked before
  linked = built_linked batches before was

  grow : Grows (view_of before) (view_of after)
  grow = grows_further more batches before after was built

  schema : schema_of s.pool.now unread ≡ schema_in (view_of before) unread
  schema = ap (λ (q : PoolType). schema_of q unread) stands.in_pool ∙ settled_names batches p stands.typed stands.whole.kept unread

  -- the type of the options is declared by them
  found : type_called (view_of before) (type_name scope) ≡ Some (type_name scope)
  found =
      sym (ap (λ (w : Schema). w.message (type_name scope)) schema)
      ∙ type_found s.pool.now (type_name scope) is.1.0 is.1.1.1
      ∙ ap Some ((named_type scope s is.1.0 is.1.1).1.0 no_type)

  there : Declared before (type_name scope)
  there = called_declared batches before after was grow (type_name scope) (type_name scope) found

  older : IsOlder (types_of (view_of before)) (type_name scope) (types_of (view_of after)) (type_name scope)
  older = stays_older before after linked grow (type_name scope) there

  -- by the schema of the records
  set_before : AllKnown (schema_in (view_of before) unread) (numbers_named s) (type_name scope) (options_view o).uninterpreted_option settled.encoded.items paths
  set_before =
      subst (λ (w : Schema). AllKnown w (numbers_named s) (type_name scope) (options_view o).uninterpreted_option settled.encoded.items paths) schema
      (sources_set scope s o settled paths unread sound can given small is)

  pub set_in_the_end : SetAndWritten (schema_in (view_of after) unread) (numbers_named s) (type_name scope) (options_view o).uninterpreted_option settled.encoded.items paths
  set_in_the_end =
      let m : Message = set_before.0 in
      let alike : bytes_of (types_of (view_of after)) (type_name scope) m ≡ bytes_of (types_of (view_of before)) (type_name scope) m =
      known_alike (types_of (view_of before)) (types_of (view_of after)) (λ (t u : Name). Contains older.0 (t, u)) older.1 (type_name scope) (type_name scope) older.2 m set_before.1 in (
        m,
        set_before.2 ∙ sym alike,
        all_stay (schema_in (view_of before) unread) (schema_in (view_of after) unread) (is_declared (view_of before)) (files_say_all before after linked grow unread unread)
            (built_entries batches before unread was) (numbers_named s) (type_name scope) (back before after linked grow (type_name scope) there) (options_view o).uninterpreted_option nothing m paths set_before.3,
      )
