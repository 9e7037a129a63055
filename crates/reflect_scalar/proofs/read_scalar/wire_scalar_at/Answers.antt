use Rattle.std.proofs.lemmas.Result.{err_from_is_err_and}
use Rattle.reflect_wire.specs.Key.{IsDelimited}
use Rattle.reflect_wire.proofs.Groups.{no_delimited}
use Rattle.reflect_wire.proofs.Reading.{refuses_more}
use Rattle.reflect_scalar.specs.Meaning.{IsPlainPayload}
use Rattle.reflect_wire.specs.Records.{key_of}
use Rattle.reflect_scalar.proofs.read_scalar.wire_scalar_at.Goals as goal

pub returns-in_err-payload-in-LengthDelimited-clause-read : goal.returns-in_err-payload-in-LengthDelimited-clause-read
returns-in_err-payload-in-LengthDelimited-clause-read c =
    let r = c.from_residual-in_err-payload-in-LengthDelimited in
    let p = err_from_is_err_and r.result r.ensures.1 in
    rw (p.1, p.2) (refuses_more IsDelimited (IsPlainPayload c.args.wire) c.args.bytes.now c.args.bytes.now c.in_err-payload-in-LengthDelimited.field-0.0
    (λ none front more v h e. no_delimited 0 (key_of 0 c.args.wire) c.args.bytes.now c.in-LengthDelimited.is none front more v h e) c.in_err-payload-in-LengthDelimited.ensures.read)
