-- How much files declare, and how much a pool has.
use Rattle.std.specs.Prelude.{ℕ, ◌+◌, ◌-◌, ◌^◌, min, length, sum, sum_by}
use Rattle.descriptor_records.specs.declared.enums.EnumDescriptorProto.{EnumDescriptorProto}
use Rattle.descriptor_records.specs.declared.file.FileDescriptorProto.{FileDescriptorProto}
use Rattle.descriptor_records.specs.declared.message.DescriptorProto.{DescriptorProto}
use Rattle.descriptor_records.specs.declared.message.DescriptorProto.TheFolds.{fold-DescriptorProto}
use Rattle.descriptor_records.specs.declared.message.DescriptorProto.TheOpen.{DescriptorProto-F}
use Rattle.descriptor_records.specs.declared.service.ServiceDescriptorProto.{ServiceDescriptorProto}
use Rattle.reflect_tables.specs.Types.{PoolType}

-- an enum and its values
abbrev pub in_enum : EnumDescriptorProto → ℕ
in_enum e = 1 + length e.value.items

-- a service and its methods
abbrev pub in_service : ServiceDescriptorProto → ℕ
in_service s = 1 + length s.method.items

-- a message, its fields, extensions, oneofs and enums, and the messages in it
abbrev pub message_step : DescriptorProto-F ℕ → ℕ
message_step m =
    1 + (length m.field.items + (length m.extension.items + (length m.oneof_decl.items
    + (sum_by in_enum m.enum_type.items + sum m.nested_type.items))))

abbrev pub in_message : DescriptorProto → ℕ
in_message = fold-DescriptorProto ℕ message_step

-- a file, and what it declares
abbrev pub in_file : FileDescriptorProto → ℕ
in_file f =
    1 + (sum_by in_message f.message_type.items + (sum_by in_enum f.enum_type.items
    + (length f.extension.items + sum_by in_service f.service.items)))

-- the files, types, extensions and services of a pool
abbrev pub entries_of : PoolType → ℕ
entries_of p =
    length p.files + (length p.messages + (length p.enums
    + (length p.extensions + length p.services)))

-- a count, as far as a `u64` tells it
abbrev pub as_u64 : ℕ → ℕ
as_u64 n = min n (2 ^ 64 - 1)
