use Rattle.std.proofs.Common.{refl, [], ◌∷◌}
use Rattle.std.proofs.lemmas.Result.{err_from_is_err_and, IfErr-weaker, on_ok_weaker}
use Rattle.reflect_codec.specs.Faults.{FileBytesFault}
use Rattle.reflect_codec.specs.Meaning.{IsFileBytes}
use Rattle.reflect_bytes.specs.Spelled.{RecordsRefused, BytesRefused, SpellsFile}
use Rattle.reflect_bytes.proofs.Refused.{of_records, of_bytes}
use Rattle.reflect_bytes.proofs.pool_ext.DescriptorPoolPoolExt.decode_file_descriptor_proto.Goals as goal

pub returns-in_err-decode_file-clause-err : goal.returns-in_err-decode_file-clause-err
returns-in_err-decode_file-clause-err c =
    let p = err_from_is_err_and c.from_residual.result c.from_residual.ensures.1 in
    rw (p.1, p.2) (of_bytes IsFileBytes FileBytesFault (λ f. f ∷ []) c.args.bytes.now c.args.self.now _ c.in_err-decode_file.ensures)

pub returns-clause-linked : goal.returns-clause-linked
returns-clause-linked c = on_ok_weaker c.add_file_descriptor_proto.result (λ l. ((c.in_ok-decode_file.field-0 ∷ []), (c.in_ok-decode_file.field-0, c.in_ok-decode_file.ensures, refl), l)) c.add_file_descriptor_proto.ensures.linked

pub returns-clause-err : goal.returns-clause-err
returns-clause-err c = IfErr-weaker c.add_file_descriptor_proto.result (RecordsRefused c.args.self.now (c.in_ok-decode_file.field-0 ∷ [])) (BytesRefused (SpellsFile c.args.bytes.now) (FileBytesFault c.args.bytes.now) c.args.self.now) (λ e. of_records (SpellsFile c.args.bytes.now) (FileBytesFault c.args.bytes.now) c.args.self.now (c.in_ok-decode_file.field-0 ∷ []) e (c.in_ok-decode_file.field-0, c.in_ok-decode_file.ensures, refl)) c.add_file_descriptor_proto.ensures.err
