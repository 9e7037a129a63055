-- The set of a schema that holds its options is not refused.
use Rattle.std.proofs.Common.{rules, ◌≡◌, ◌<◌, ◌^◌, ◌∙◌, List, [], map, length, Option, None, Some, inl, inr, ap, refl, sym, subst}
use Rattle.descriptor_records.specs.Content.{file_view}
use Rattle.descriptor_records.specs.declared.file.FileDescriptorProto.{FileDescriptorProto}
use Rattle.texts_view.specs.ReadOptions.{read_file}
use Rattle.texts_view.proofs.Alike.{stand_again}
use Rattle.linked_view.proofs.Together.{empty_built}
use Rattle.message_view.specs.Sound.{IsSound}
use Rattle.schema_laws.specs.StoredBytes.{StoresBytes}
use Rattle.schema_laws.proofs.Stored.{files_stored}
use Rattle.option_parts.specs.OptionTypes.{CanRead, scope_at}
use Rattle.option_parts.specs.Places.{option_place}
use Rattle.option_parts.specs.TypedOptions.{TypedFiles}
use Rattle.option_parts.specs.declared.option_error.OptionErrorKind.{OptionErrorKind}
use Rattle.option_parts.specs.declared.option_scope.OptionScope.{OptionScope}
use Rattle.schema_laws.proofs.Alike.{read_alike, unread}
use Rattle.plain_records.specs.PlainRecords.{ArePlainFiles}
use Rattle.plain_records.specs.SaidOptions.{IsSettled, SaysAndIsSettled}
use Rattle.plain_records.proofs.Both.{files_weaker}
use Rattle.reflect_build.specs.Accepted.{FaultlessFiles}
use Rattle.reflect_build.specs.Refusals.{AreTooMany}
use Rattle.reflect_bytes.specs.Spelled.{SpellsSet}
use Rattle.reflect_bytes.specs.Written.{pool_bytes}
use Rattle.reflect_faults.specs.Faults.{Place}
use Rattle.reflect_options.specs.Settling.{RefusesFrom}
use Rattle.reflect_passes.specs.declared.error.DescriptorError.{DescriptorError}
use Rattle.reflect_pool.specs.Linked.{empty_pool}
use Rattle.reflect_tables.specs.Types.{PoolType}
use Rattle.reflect_wire.specs.Written.{AreBytes}
use Rattle.reflect_wire.specs.declared.wire_error.WireError.{WireError}
use Rattle.reflect_wire.specs.declared.wire_error.WireError.TheVariants as wire
use Rattle.schema_view.specs.Lawful.{IsLawful}
use Rattle.schema_laws.specs.HeldOptions.{HoldsOptions}
use Rattle.schema_laws.proofs.Again.{all_new, linked_same, names_again}
use Rattle.schema_laws.proofs.Taken.{not_refused}
use Rattle.schema_laws.proofs.TypedAgain.{typed_again}
use Rattle.settled_view.proofs.Built.{itself}
use Rattle.text_view.specs.Schemas.{schema_of}
use Rattle.schema_laws.specs.ToldMessages.{TellsMessages}
use Rattle.schema_laws.proofs.Accepted.{accepted_tell, empty_tells}
use Rattle.schema_laws.proofs.Numbers.{keep_alike}
use Rattle.types_view.specs.Pools.{IsBuiltBut}
use Rattle.types_view.proofs.Settled.{IsTypedMore, empty_typed, typed_more}
use Rattle.schema_core.specs.Refusals.{IsNoSet, IsPool, SetRefused}
use Rattle.schema_core.specs.declared.error.SchemaError.{SchemaError}
use Rattle.schema_core.specs.declared.error.SchemaError.TheVariants.{Link, Memory, Options, TooLong, Wire}
use Rattle.schema_core.specs.declared.schema.Schema.{Schema}
use Rattle.schema_laws.proofs.Grown.{HasGrown, grown}
use Rattle.schema_laws.proofs.OwnSets.{own_read, own_same}
use Rattle.schema_laws.proofs.RefusedBatches.{no_batch}
use Rattle.schema_laws.specs.Batches.{AreUnlawful}
use Rattle.schema_laws.specs.Histories.{IsGrown}

-- nothing was linked into a pool without files, nor settled in it
abbrev unlinked : IsBuiltBut [] empty_pool
unlinked = record { linked = empty_pool; built = empty_built; settles = itself empty_pool }

module _ (s : Schema) (is : IsGrown s) (held : HoldsOptions s.pool) (short : length (pool_bytes s.pool) < 2 ^ 64) where
  abbrev own : HasGrown s.pool
  own = grown is.0 s is.1

  own_bytes : (e : WireError) → IsNoSet (pool_bytes s.pool) e → ⊥
  own_bytes e none = none.1.0 s.pool.records (own_read s own.plain short)

  -- files as they are read, of which nothing is copied
  read_same : (files typed : List FileDescriptorProto) → SpellsSet (pool_bytes s.pool) files → TypedFiles files typed → map file_view typed ≡ map file_view s.pool.records
  read_same files typed spells copied =
      let same = own_same s own.plain short files spells in
      typed_again files typed (subst (ArePlainFiles (λ scope o. IsSettled o)) (sym same) (files_weaker SaysAndIsSettled (λ scope o. IsSettled o) (λ scope o says. says.1) (map file_view s.pool.records) own.plain))
      copied
      ∙ same

  -- they are lawful by themselves
  own_lawful : (typed : List FileDescriptorProto) → map file_view typed ≡ map file_view s.pool.records → AreUnlawful empty_pool empty_pool typed → ⊥
  own_lawful typed same (w, of, unlawful) =
      let l = stand_again own.batches (map file_view own.typed.but.linked.records) (map file_view typed) own.typed.but.built.built (ap (map read_file) same ∙ own.alike) in
      unlawful l.0 (subst (λ fs. IsLawful [] (map file_view fs) l.0) (sym (all_new w of typed)) l.1)

  own_link : (e : DescriptorError) → SetRefused empty_pool (pool_bytes s.pool) (Link e) → (typed : List FileDescriptorProto) × (map file_view typed ≡ map file_view s.pool.records) × AreTooMany empty_pool typed
  own_link e (files, spells, (typed, copied, told, refused)) =
      let same = read_same files typed spells copied in
      elim (no_batch [] empty_pool typed e unlinked (search rules) told refused) [
        | inl many ↦ (typed, same, many)
        | inr unlawful ↦ absurd (own_lawful typed same unlawful)
      ]

  -- ---- the pool that its files are linked into
  module _ (linked : PoolType) (files typed : List FileDescriptorProto) (spells : SpellsSet (pool_bytes s.pool) files) (copied : TypedFiles files typed) (faultless : FaultlessFiles empty_pool typed linked)
      (pool : IsPool linked) (sound : IsSound linked) where
    same : map file_view files ≡ map file_view s.pool.records
    same = own_same s own.plain short files spells

    more : IsTypedMore [] empty_pool empty_typed linked linked typed
    more = typed_more [] empty_pool linked linked typed empty_typed pool faultless (itself linked)

    records : map file_view s.pool.records ≡ map file_view linked.records
    records = sym (linked_same own.batches s.pool own.typed own.is.kept own.plain own.alike linked linked files typed same copied more (itself linked).settled pool.kept)

    told : TellsMessages linked
    told = accepted_tell empty_pool linked typed empty_tells faultless

    names : schema_of s.pool unread ≡ schema_of linked unread
    names =
        sym (names_again own.batches s.pool linked linked files typed own.typed own.is.kept own.plain own.alike same copied faultless (itself linked) pool unread)

    -- it reads the options that the schema read
    reads : (scope : OptionScope) → CanRead linked scope
    reads scope =
        read_alike s.pool linked s.sound sound names (keep_alike s.pool linked typed own.told told faultless pool records) scope (own.reads scope)

    own_options : ArePlainFiles StoresBytes (map file_view s.pool.records) → (place : Option Place) (e : OptionErrorKind) → RefusesFrom linked 0 place e → ⊥
    own_options bytes None e (n, tells, cannot, before) = cannot (reads (scope_at n))
    own_options bytes (Some place) e (readable, refuses) =
        not_refused own.batches s.pool linked files typed own.typed own.is.kept own.plain held own.alike bytes same copied faultless pool sound reads place e refuses

  -- ---- the whole
  pub own_refused : AreBytes (pool_bytes s.pool) → (e : SchemaError) → (e ≡ Memory → ⊥) → SetRefused empty_pool (pool_bytes s.pool) e
      → (typed : List FileDescriptorProto) × (map file_view typed ≡ map file_view s.pool.records) × AreTooMany empty_pool typed
  own_refused bytes (Wire e) other refused = absurd (own_bytes e refused.1)
  own_refused bytes TooLong other refused = absurd (own_bytes wire.TooLong refused)
  own_refused bytes Memory other refused = absurd (other refl)
  own_refused bytes (Link e) other refused = own_link e refused
  own_refused bytes (Options e) other (files, spells, (linked, (typed, copied, (adds, faultless, few)), pool, sound, refuses)) =
      absurd (own_options linked files typed spells copied faultless pool sound (files_stored SaysAndIsSettled s.pool.records own.plain bytes) (option_place e) e.kind refuses)
  own_refused bytes _ other refused = absurd refused
