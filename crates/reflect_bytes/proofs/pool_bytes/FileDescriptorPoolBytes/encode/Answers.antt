use Rattle.std.proofs.Common.{refl}
use Rattle.std.proofs.lemmas.Result.{on_ok_weaker}
use Rattle.reflect_codec.specs.Written.{file_bytes}
use Rattle.reflect_bytes.proofs.pool_bytes.FileDescriptorPoolBytes.encode.Goals as goal

pub returns-clause-ok : goal.returns-clause-ok
returns-clause-ok c =
    let file = c.file_descriptor_proto.result.now in
    on_ok_weaker c.encode_file.result (λ is. (file_bytes file, (file, c.file_descriptor_proto.ensures.stands, refl), is)) c.encode_file.ensures.ok
