use Rattle.std.proofs.Common.{subst}
use Rattle.reflect_tables.specs.Types.{type_at}
use Rattle.reflect_pool.specs.AtPaths.{HaveRecords, message_name}
use Rattle.reflect_pool.specs.Records.{message_along}
use Rattle.reflect_link.proofs.Along.{is_there, lent}
use Rattle.reflect_link.proofs.readers.MessageDescriptorMessageReaders.descriptor_proto.Goals as goal

pub unwrap-requires : goal.unwrap-requires
unwrap-requires c =
    let self = c.args.self.now in
    let has = subst HaveRecords c.parent_pool.ensures c.has_records.ensures in
    is_there message_along message_name self.pool.now (type_at self.pool.now self.index).file
    (type_at self.pool.now self.index).path
    (type_at self.pool.now self.index).name (has.messages self.index self.in_range)
    c.parent_file_descriptor_proto.result.now c.parent_file_descriptor_proto.ensures.stands
    c.path.result.now c.path.ensures c.message_record.result c.message_record.ensures

pub returns : goal.returns
returns c =
    let self = c.args.self.now in
    let has = subst HaveRecords c.parent_pool.ensures c.has_records.ensures in
    lent message_along message_name self.pool.now (type_at self.pool.now self.index).file
    (type_at self.pool.now self.index).path
    (type_at self.pool.now self.index).name (has.messages self.index self.in_range)
    c.parent_file_descriptor_proto.result.now c.parent_file_descriptor_proto.ensures.stands
    c.path.result.now c.path.ensures c.message_record.result c.message_record.ensures c.unwrap.result c.unwrap.ensures
