use Rattle.std.proofs.Common.{subst}
use Rattle.reflect_tables.specs.Types.{enum_at}
use Rattle.reflect_pool.specs.AtPaths.{HaveRecords, value_name}
use Rattle.reflect_pool.specs.Parts.{type_of_value}
use Rattle.reflect_pool.specs.Records.{value_along}
use Rattle.reflect_link.proofs.Along.{is_there, lent}
use Rattle.reflect_link.proofs.readers.EnumValueDescriptorEnumValueReaders.enum_value_descriptor_proto.Goals as goal

pub unwrap-requires : goal.unwrap-requires
unwrap-requires c =
    let self = c.args.self.now in
    let has = subst HaveRecords c.parent_pool.ensures c.has_records.ensures in
    is_there value_along value_name self.enumeration.pool.now (enum_at self.enumeration.pool.now self.enumeration.index).file
    (type_of_value self.enumeration.pool.now self.enumeration.index self.index).path
    (type_of_value self.enumeration.pool.now self.enumeration.index self.index).name (has.values self.enumeration.index self.index self.enumeration.in_range self.in_range)
    c.parent_file_descriptor_proto.result.now c.parent_file_descriptor_proto.ensures.stands
    c.path.result.now c.path.ensures c.value_record.result c.value_record.ensures

pub returns : goal.returns
returns c =
    let self = c.args.self.now in
    let has = subst HaveRecords c.parent_pool.ensures c.has_records.ensures in
    lent value_along value_name self.enumeration.pool.now (enum_at self.enumeration.pool.now self.enumeration.index).file
    (type_of_value self.enumeration.pool.now self.enumeration.index self.index).path
    (type_of_value self.enumeration.pool.now self.enumeration.index self.index).name (has.values self.enumeration.index self.index self.enumeration.in_range self.in_range)
    c.parent_file_descriptor_proto.result.now c.parent_file_descriptor_proto.ensures.stands
    c.path.result.now c.path.ensures c.value_record.result c.value_record.ensures c.unwrap.result c.unwrap.ensures
