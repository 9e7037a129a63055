-- What the records of a pool's messages declare, and which numbers these keep for extensions
-- (protobuf.dev, "Language Guide (proto 2)", Extensions).
use Rattle.std.specs.Prelude.{◌≡◌, ◌<◌, ℕ, List, length, map, Contains}
use Rattle.descriptor_records.specs.Content.{Text, FileContent, extension_range_view, file_view}
use Rattle.descriptor_records.specs.declared.message.DescriptorProto.{DescriptorProto}
use Rattle.descriptor_records.specs.declared.message.DescriptorProto.TheViews.{out-DescriptorProto}
use Rattle.message_view.specs.Types.{name_at}
use Rattle.option_parts.specs.OptionTypes.{KeepsExtensions}
use Rattle.reflect_link.specs.Lent.{IsMessageOf}
use Rattle.reflect_tables.specs.Types.{PoolType}
use Rattle.schema_view.specs.Declarations.{MessageFacts, Range, declarations, extension_range, of_message}

-- the numbers that a record keeps for extensions
abbrev pub ranges_of : DescriptorProto → List Range
ranges_of r = map (λ x. extension_range (extension_range_view x))
    (out-DescriptorProto r).extension_range.items

-- files declare a message of the full name that keeps the same numbers as the record
pub record Declare (fs : List FileContent) (full : Text) (r : DescriptorProto) : Type 0 where
  pub file : FileContent
  pub facts : MessageFacts
  pub there : Contains fs file
  pub inside : Contains (declarations file)
      (record { name = full; body = of_message facts })
  pub ranges : map extension_range facts.extensions ≡ ranges_of r

-- each message of a pool has a record, and the pool's files declare that under the message's full
-- name
abbrev pub TellsMessages : PoolType → Type 0
TellsMessages p = (i : ℕ) → i < length p.messages → (r : DescriptorProto) × IsMessageOf p i r
    × Declare (map file_view p.records) (name_at p i) r

-- where the message of a name keeps all numbers from 1000 on in the one pool, that of the name does
-- so in the other
abbrev pub KeepAlike : PoolType → PoolType → Type 0
KeepAlike p q = (i k : ℕ) → i < length p.messages → k < length q.messages
    → name_at p i ≡ name_at q k → KeepsExtensions p i → KeepsExtensions q k
