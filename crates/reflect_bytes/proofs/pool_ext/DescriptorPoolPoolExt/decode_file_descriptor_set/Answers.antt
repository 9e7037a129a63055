use Rattle.std.proofs.Common.{refl}
use Rattle.std.proofs.lemmas.Result.{err_from_is_err_and, IfErr-weaker, on_ok_weaker}
use Rattle.reflect_codec.specs.Faults.{SetBytesFault}
use Rattle.reflect_codec.specs.Meaning.{IsSetBytes}
use Rattle.reflect_bytes.specs.Spelled.{RecordsRefused, BytesRefused, SpellsSet}
use Rattle.reflect_bytes.proofs.Refused.{of_records, of_bytes}
use Rattle.reflect_bytes.proofs.pool_ext.DescriptorPoolPoolExt.decode_file_descriptor_set.Goals as goal

pub returns-in_err-decode_set-clause-err : goal.returns-in_err-decode_set-clause-err
returns-in_err-decode_set-clause-err c =
    let p = err_from_is_err_and c.from_residual.result c.from_residual.ensures.1 in
    rw (p.1, p.2) (of_bytes IsSetBytes SetBytesFault (λ s. s.file.items) c.args.bytes.now c.args.self.now _ c.in_err-decode_set.ensures)

pub returns-clause-linked : goal.returns-clause-linked
returns-clause-linked c = on_ok_weaker c.add_file_descriptor_set.result (λ l. (c.in_ok-decode_set.field-0.file.items, (c.in_ok-decode_set.field-0, c.in_ok-decode_set.ensures, refl), l)) c.add_file_descriptor_set.ensures.linked

pub returns-clause-err : goal.returns-clause-err
returns-clause-err c = IfErr-weaker c.add_file_descriptor_set.result (RecordsRefused c.args.self.now c.in_ok-decode_set.field-0.file.items) (BytesRefused (SpellsSet c.args.bytes.now) (SetBytesFault c.args.bytes.now) c.args.self.now) (λ e. of_records (SpellsSet c.args.bytes.now) (SetBytesFault c.args.bytes.now) c.args.self.now c.in_ok-decode_set.field-0.file.items e (c.in_ok-decode_set.field-0, c.in_ok-decode_set.ensures, refl)) c.add_file_descriptor_set.ensures.err
