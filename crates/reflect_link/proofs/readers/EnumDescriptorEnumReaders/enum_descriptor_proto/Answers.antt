use Rattle.std.proofs.Common.{subst}
use Rattle.reflect_tables.specs.Types.{enum_at}
use Rattle.reflect_pool.specs.AtPaths.{HaveRecords, enum_name}
use Rattle.reflect_pool.specs.Records.{enum_along}
use Rattle.reflect_link.proofs.Along.{is_there, lent}
use Rattle.reflect_link.proofs.readers.EnumDescriptorEnumReaders.enum_descriptor_proto.Goals as goal

pub unwrap-requires : goal.unwrap-requires
unwrap-requires c =
    let self = c.args.self.now in
    let has = subst HaveRecords c.parent_pool.ensures c.has_records.ensures in
    is_there enum_along enum_name self.pool.now (enum_at self.pool.now self.index).file
    (enum_at self.pool.now self.index).path
    (enum_at self.pool.now self.index).name (has.enums self.index self.in_range)
    c.parent_file_descriptor_proto.result.now c.parent_file_descriptor_proto.ensures.stands
    c.path.result.now c.path.ensures c.enum_record.result c.enum_record.ensures

pub returns : goal.returns
returns c =
    let self = c.args.self.now in
    let has = subst HaveRecords c.parent_pool.ensures c.has_records.ensures in
    lent enum_along enum_name self.pool.now (enum_at self.pool.now self.index).file
    (enum_at self.pool.now self.index).path
    (enum_at self.pool.now self.index).name (has.enums self.index self.in_range)
    c.parent_file_descriptor_proto.result.now c.parent_file_descriptor_proto.ensures.stands
    c.path.result.now c.path.ensures c.enum_record.result c.enum_record.ensures c.unwrap.result c.unwrap.ensures
