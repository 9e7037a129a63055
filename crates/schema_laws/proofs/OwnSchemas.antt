-- The own set of a schema gives the same schema: the same types and names, and the same records where it
-- holds its options.
use Rattle.std.proofs.Common.{◌≡◌, ℕ, List, map, Option}
use Rattle.descriptor_records.specs.Content.{file_view}
use Rattle.message_view.specs.Types.{types_of}
use Rattle.schema_laws.specs.StoredBytes.{StoresBytes}
use Rattle.schema_laws.proofs.Stored.{files_stored}
use Rattle.plain_records.specs.PlainRecords.{ArePlainFiles}
use Rattle.plain_records.specs.SaidOptions.{SaysAndIsSettled}
use Rattle.protobuf_model.specs.Types.{Name}
use Rattle.protobuf_model.specs.Values.{Message}
use Rattle.reflect_bytes.specs.Written.{pool_bytes}
use Rattle.reflect_pool.specs.Linked.{empty_pool}
use Rattle.reflect_wire.specs.Written.{AreBytes}
use Rattle.schema_laws.specs.HeldOptions.{HoldsOptions}
use Rattle.schema_laws.proofs.Again.{names_again, records_again, types_again}
use Rattle.text_view.specs.Schemas.{schema_of}
use Rattle.schema_core.specs.Refusals.{SetLinked}
use Rattle.schema_core.specs.declared.schema.Schema.{Schema}
use Rattle.schema_laws.proofs.Grown.{HasGrown, grown}
use Rattle.schema_laws.proofs.OwnSets.{own_same}
use Rattle.schema_laws.specs.Detours.{IsDetour}
use Rattle.schema_laws.specs.Histories.{IsGrown}

module _ (s t : Schema) (is : IsGrown s) (detour : IsDetour s t) where
  abbrev g : HasGrown s.pool
  g = grown is.0 s is.1

  pub same_types : types_of t.pool ≡ types_of s.pool
  same_types = by detour.linked
    where
      by : SetLinked empty_pool (pool_bytes s.pool) t.pool → types_of t.pool ≡ types_of s.pool
      by (files, spells, (linked, (typed, types, (adds, faultless, few)), settles, settled, bare)) =
          types_again g.batches s.pool linked t.pool files typed g.typed g.is.kept g.plain g.alike (own_same s g.plain detour.short files spells) types faultless
          (record { settled = settled; bare = bare }) detour.pool

  pub same_names : (decoded : Name → List ℕ → Option Message) → schema_of t.pool decoded ≡ schema_of s.pool decoded
  same_names decoded = by detour.linked
    where
      by : SetLinked empty_pool (pool_bytes s.pool) t.pool → schema_of t.pool decoded ≡ schema_of s.pool decoded
      by (files, spells, (linked, (typed, types, (adds, faultless, few)), settles, settled, bare)) =
          names_again g.batches s.pool linked t.pool files typed g.typed g.is.kept g.plain g.alike (own_same s g.plain detour.short files spells) types faultless
          (record { settled = settled; bare = bare }) detour.pool decoded

  -- where its options are held as their types store them, or as sources give them
  pub same_records : HoldsOptions s.pool → AreBytes (pool_bytes s.pool) → map file_view t.pool.records ≡ map file_view s.pool.records
  same_records held bytes = by detour.linked
    where
      stored : ArePlainFiles StoresBytes (map file_view s.pool.records)
      stored = files_stored SaysAndIsSettled s.pool.records g.plain bytes

      by : SetLinked empty_pool (pool_bytes s.pool) t.pool → map file_view t.pool.records ≡ map file_view s.pool.records
      by (files, spells, (linked, (typed, types, (adds, faultless, few)), settles, settled, bare)) =
          records_again g.batches s.pool linked t.pool files typed g.typed g.is.kept g.plain g.alike (own_same s g.plain detour.short files spells) types faultless
          (record { settled = settled; bare = bare }) detour.pool held stored settles t.sound
