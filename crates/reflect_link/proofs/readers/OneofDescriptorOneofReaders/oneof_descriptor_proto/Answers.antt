use Rattle.std.proofs.Common.{subst}
use Rattle.reflect_tables.specs.Types.{type_at}
use Rattle.reflect_pool.specs.AtPaths.{HaveRecords, oneof_name}
use Rattle.reflect_pool.specs.Parts.{type_of_oneof}
use Rattle.reflect_pool.specs.Records.{oneof_along}
use Rattle.reflect_link.proofs.Along.{is_there, lent}
use Rattle.reflect_link.proofs.readers.OneofDescriptorOneofReaders.oneof_descriptor_proto.Goals as goal

pub unwrap-requires : goal.unwrap-requires
unwrap-requires c =
    let self = c.args.self.now in
    let has = subst HaveRecords c.parent_pool.ensures c.has_records.ensures in
    is_there oneof_along oneof_name self.message.pool.now (type_at self.message.pool.now self.message.index).file
    (type_of_oneof self.message.pool.now self.message.index self.index).path
    (type_of_oneof self.message.pool.now self.message.index self.index).name (has.oneofs self.message.index self.index self.message.in_range self.in_range)
    c.parent_file_descriptor_proto.result.now c.parent_file_descriptor_proto.ensures.stands
    c.path.result.now c.path.ensures c.oneof_record.result c.oneof_record.ensures

pub returns : goal.returns
returns c =
    let self = c.args.self.now in
    let has = subst HaveRecords c.parent_pool.ensures c.has_records.ensures in
    lent oneof_along oneof_name self.message.pool.now (type_at self.message.pool.now self.message.index).file
    (type_of_oneof self.message.pool.now self.message.index self.index).path
    (type_of_oneof self.message.pool.now self.message.index self.index).name (has.oneofs self.message.index self.index self.message.in_range self.in_range)
    c.parent_file_descriptor_proto.result.now c.parent_file_descriptor_proto.ensures.stands
    c.path.result.now c.path.ensures c.oneof_record.result c.oneof_record.ensures c.unwrap.result c.unwrap.ensures
