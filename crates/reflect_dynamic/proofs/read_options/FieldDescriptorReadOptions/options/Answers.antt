use Rattle.std.proofs.Common.{IfErr, IfOk, codes, refl, subst}
use Rattle.reflect_dynamic.specs.StoredOptions.{IsReadBy, IsRefusedBy}
use Rattle.reflect_dynamic.proofs.Stored.{read_of, refused_of}
use Rattle.reflect_dynamic.proofs.read_options.FieldDescriptorReadOptions.options.Goals as goal

pub returns-clause-read : goal.returns-clause-read
returns-clause-read c =
    let f = c.field_descriptor_proto.result.now in
    let name = codes "google.protobuf.FieldOptions" in
    let here = c.args.self.now.message.pool.now in
    let read = subst (λ p. IfOk c.read.result (IsReadBy p name (f.options))) c.parent_pool.ensures c.read.ensures.read in
    read_of _ (f.options) (f, c.field_descriptor_proto.ensures, refl) (IsReadBy here name) c.read.result read

pub returns-clause-fault : goal.returns-clause-fault
returns-clause-fault c =
    let f = c.field_descriptor_proto.result.now in
    let name = codes "google.protobuf.FieldOptions" in
    let here = c.args.self.now.message.pool.now in
    let fault = subst (λ p. IfErr c.read.result (IsRefusedBy p name (f.options))) c.parent_pool.ensures c.read.ensures.fault in
    refused_of _ (f.options) (f, c.field_descriptor_proto.ensures, refl) (IsRefusedBy here name) c.read.result fault
