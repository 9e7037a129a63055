use Rattle.reflect_tables.specs.Types.{service_at}
use Rattle.reflect_pool.specs.AtPaths.{method_name}
use Rattle.reflect_pool.specs.Parts.{type_of_method}
use Rattle.reflect_pool.specs.Records.{method_along}
use Rattle.reflect_link.proofs.Along.{is_there, lent}
use Rattle.reflect_link.proofs.service.MethodDescriptor.method_descriptor_proto.Goals as goal

pub unwrap-requires : goal.unwrap-requires
unwrap-requires c =
    let self = c.args.self.now in
    let has = c.has_records.ensures in
    is_there method_along method_name self.service.pool.now (service_at self.service.pool.now self.service.index).file
    (type_of_method self.service.pool.now self.service.index self.index).path
    (type_of_method self.service.pool.now self.service.index self.index).name (has.methods self.service.index self.index self.service.in_range self.in_range)
    c.parent_file_descriptor_proto.result.now c.parent_file_descriptor_proto.ensures.stands
    c.path.result.now c.path.ensures c.method_record.result c.method_record.ensures

pub returns : goal.returns
returns c =
    let self = c.args.self.now in
    let has = c.has_records.ensures in
    lent method_along method_name self.service.pool.now (service_at self.service.pool.now self.service.index).file
    (type_of_method self.service.pool.now self.service.index self.index).path
    (type_of_method self.service.pool.now self.service.index self.index).name (has.methods self.service.index self.index self.service.in_range self.in_range)
    c.parent_file_descriptor_proto.result.now c.parent_file_descriptor_proto.ensures.stands
    c.path.result.now c.path.ensures c.method_record.result c.method_record.ensures c.unwrap.result c.unwrap.ensures
