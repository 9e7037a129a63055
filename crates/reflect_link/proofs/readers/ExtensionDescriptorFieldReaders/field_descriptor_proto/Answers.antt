use Rattle.std.proofs.Common.{subst}
use Rattle.reflect_tables.specs.Types.{extension_at}
use Rattle.reflect_pool.specs.AtPaths.{HaveRecords, field_name}
use Rattle.reflect_pool.specs.Records.{extension_along}
use Rattle.reflect_link.proofs.Along.{is_there, lent}
use Rattle.reflect_link.proofs.readers.ExtensionDescriptorFieldReaders.field_descriptor_proto.Goals as goal

pub unwrap-requires : goal.unwrap-requires
unwrap-requires c =
    let self = c.args.self.now in
    let has = subst HaveRecords c.parent_pool.ensures c.has_records.ensures in
    is_there extension_along field_name self.pool.now (extension_at self.pool.now self.index).file
    (extension_at self.pool.now self.index).field.path
    (extension_at self.pool.now self.index).field.name (has.extensions self.index self.in_range)
    c.parent_file_descriptor_proto.result.now c.parent_file_descriptor_proto.ensures.stands
    c.path.result.now c.path.ensures c.extension_record.result c.extension_record.ensures

pub returns : goal.returns
returns c =
    let self = c.args.self.now in
    let has = subst HaveRecords c.parent_pool.ensures c.has_records.ensures in
    lent extension_along field_name self.pool.now (extension_at self.pool.now self.index).file
    (extension_at self.pool.now self.index).field.path
    (extension_at self.pool.now self.index).field.name (has.extensions self.index self.in_range)
    c.parent_file_descriptor_proto.result.now c.parent_file_descriptor_proto.ensures.stands
    c.path.result.now c.path.ensures c.extension_record.result c.extension_record.ensures c.unwrap.result c.unwrap.ensures
