use Rattle.reflect_tables.specs.Types.{service_at}
use Rattle.reflect_pool.specs.AtPaths.{service_name}
use Rattle.reflect_pool.specs.Records.{service_along}
use Rattle.reflect_link.proofs.Along.{is_there, lent}
use Rattle.reflect_link.proofs.service.ServiceDescriptor.service_descriptor_proto.Goals as goal

pub unwrap-requires : goal.unwrap-requires
unwrap-requires c =
    let self = c.args.self.now in
    let has = c.has_records.ensures in
    is_there service_along service_name self.pool.now (service_at self.pool.now self.index).file
    (service_at self.pool.now self.index).path
    (service_at self.pool.now self.index).name (has.services self.index self.in_range)
    c.parent_file_descriptor_proto.result.now c.parent_file_descriptor_proto.ensures.stands
    c.path.result.now c.path.ensures c.service_record.result c.service_record.ensures

pub returns : goal.returns
returns c =
    let self = c.args.self.now in
    let has = c.has_records.ensures in
    lent service_along service_name self.pool.now (service_at self.pool.now self.index).file
    (service_at self.pool.now self.index).path
    (service_at self.pool.now self.index).name (has.services self.index self.in_range)
    c.parent_file_descriptor_proto.result.now c.parent_file_descriptor_proto.ensures.stands
    c.path.result.now c.path.ensures c.service_record.result c.service_record.ensures c.unwrap.result c.unwrap.ensures
