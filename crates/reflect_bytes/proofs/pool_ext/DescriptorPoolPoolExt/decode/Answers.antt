use Rattle.reflect_pool.specs.Linked.{empty_pool}
use Rattle.std.proofs.Common.{refl}
use Rattle.std.proofs.lemmas.Result.{err_from_is_err_and, IfOk-weaker, IfErr-weaker}
use Rattle.reflect_codec.specs.Faults.{SetBytesFault}
use Rattle.reflect_codec.specs.Meaning.{IsSetBytes}
use Rattle.reflect_bytes.specs.Spelled.{RecordsLinked, RecordsRefused, BytesLinked, BytesRefused, SpellsSet}
use Rattle.reflect_bytes.proofs.Refused.{of_records, of_bytes}
use Rattle.reflect_bytes.proofs.pool_ext.DescriptorPoolPoolExt.decode.Goals as goal

pub returns-in_err-decode_set-clause-err : goal.returns-in_err-decode_set-clause-err
returns-in_err-decode_set-clause-err c =
    let p = err_from_is_err_and c.from_residual.result c.from_residual.ensures.1 in
    rw (p.1, p.2) (of_bytes IsSetBytes SetBytesFault (λ s. s.file.items) c.args.bytes.now empty_pool _ c.in_err-decode_set.ensures)

pub returns-clause-linked : goal.returns-clause-linked
returns-clause-linked c = IfOk-weaker c.from_file_descriptor_set.result (RecordsLinked empty_pool c.in_ok-decode_set.field-0.file.items) (BytesLinked (SpellsSet c.args.bytes.now) empty_pool) (λ new l. (c.in_ok-decode_set.field-0.file.items, (c.in_ok-decode_set.field-0, c.in_ok-decode_set.ensures, refl), l)) c.from_file_descriptor_set.ensures.linked

pub returns-clause-err : goal.returns-clause-err
returns-clause-err c = IfErr-weaker c.from_file_descriptor_set.result (RecordsRefused empty_pool c.in_ok-decode_set.field-0.file.items) (BytesRefused (SpellsSet c.args.bytes.now) (SetBytesFault c.args.bytes.now) empty_pool) (λ e. of_records (SpellsSet c.args.bytes.now) (SetBytesFault c.args.bytes.now) empty_pool c.in_ok-decode_set.field-0.file.items e (c.in_ok-decode_set.field-0, c.in_ok-decode_set.ensures, refl)) c.from_file_descriptor_set.ensures.err
