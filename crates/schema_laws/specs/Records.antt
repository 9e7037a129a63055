-- The records of a schema.
use Rattle.std.specs.Prelude.{map}
use Rattle.descriptor_records.specs.Content.{file_view}
use Rattle.reflect_tables.specs.Types.{PoolType}
use Rattle.plain_records.specs.PlainRecords.{ArePlainFiles}
use Rattle.plain_records.specs.SaidOptions.{SaysAndIsSettled}

-- bytes can say them, and nothing is left to settle in their options
abbrev pub HasPlainRecords : PoolType → Type 0
HasPlainRecords p = ArePlainFiles SaysAndIsSettled (map file_view p.records)
