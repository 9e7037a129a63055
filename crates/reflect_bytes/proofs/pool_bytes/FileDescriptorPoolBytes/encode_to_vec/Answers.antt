use Rattle.std.proofs.Common.{◌∙◌, ◌++◌, ℕ, List, ap}
use Rattle.reflect_codec.specs.Written.{file_bytes}
use Rattle.reflect_bytes.proofs.pool_bytes.FileDescriptorPoolBytes.encode_to_vec.Goals as goal

pub returns-clause-ok : goal.returns-clause-ok
returns-clause-ok c =
    let file = c.file_descriptor_proto.result.now in
    (file, c.file_descriptor_proto.ensures.stands, c.in_ok-encode_file.ensures.ok ∙ ap (λ (bytes : List ℕ). bytes ++ file_bytes file) c.new-bytes.ensures.items)
