use Rattle.std.proofs.Common.{refl}
use Rattle.std.proofs.lemmas.Result.{err_from_is_err_and}
use Rattle.reflect_wire.specs.Faults.{ValueFault}
use Rattle.reflect_wire.specs.Key.{IsDelimited}
use Rattle.reflect_wire.specs.Records.{varint, fixed64, delimited}
use Rattle.reflect_wire.proofs.Faulty.{tells_fault, varint_fault, fixed64_fault, delimited_fault}
use Rattle.reflect_wire.proofs.Groups.{no_delimited}
use Rattle.reflect_wire.proofs.Reading.{refuses_more}
use Rattle.reflect_codec.specs.Raw.{IsRawValue}
use Rattle.reflect_codec.proofs.fields.raw_value_at.Goals as goal

pub returns-in_err-payload-in-LengthDelimited-clause-read : goal.returns-in_err-payload-in-LengthDelimited-clause-read
returns-in_err-payload-in-LengthDelimited-clause-read c =
    let r = c.from_residual-in_err-payload-in-LengthDelimited in
    let p = err_from_is_err_and r.result r.ensures.1 in
    rw (p.1, p.2) (refuses_more IsDelimited (IsRawValue c.args.levels c.args.key) c.args.bytes.now c.args.bytes.now c.in_err-payload-in-LengthDelimited.field-0.0
    (λ none front more v h e. no_delimited c.args.levels c.args.key c.args.bytes.now c.in-LengthDelimited.is none front more h.0 h.1 e) c.in_err-payload-in-LengthDelimited.ensures.read)

pub returns-in_ok-n-in-Varint-clause-read : goal.returns-in_ok-n-in-Varint-clause-read
returns-in_ok-n-in-Varint-clause-read c = let f = c.in_ok-n-in-Varint.ensures.read in (f.0, (varint c.in_ok-n-in-Varint.n, (c.in-Varint.is, f.1), refl), f.2)

pub returns-in_ok-n-in-SixtyFourBit-clause-read : goal.returns-in_ok-n-in-SixtyFourBit-clause-read
returns-in_ok-n-in-SixtyFourBit-clause-read c = let f = c.in_ok-n-in-SixtyFourBit.ensures.read in (f.0, (fixed64 c.in_ok-n-in-SixtyFourBit.n, (c.in-SixtyFourBit.is, f.1), refl), f.2)

pub returns-in_ok-payload-in-LengthDelimited-clause-read : goal.returns-in_ok-payload-in-LengthDelimited-clause-read
returns-in_ok-payload-in-LengthDelimited-clause-read c =
    let f = c.in_ok-payload-in-LengthDelimited.ensures.read in (f.0, (delimited c.in_ok-payload-in-LengthDelimited.payload.now, (c.in-LengthDelimited.is, f.1), refl), f.2)

pub returns-in_err-n-in-Varint-clause-fault : goal.returns-in_err-n-in-Varint-clause-fault
returns-in_err-n-in-Varint-clause-fault c =
    let r = c.from_residual in
    let p = err_from_is_err_and r.result r.ensures.1 in
    rw (p.1, p.2) (tells_fault (ValueFault c.args.levels c.args.key) c.args.bytes.now c.in_err-n-in-Varint.field-0.0
    (varint_fault c.args.levels c.args.key c.args.bytes.now c.in_err-n-in-Varint.field-0.0 c.in-Varint.is c.in_err-n-in-Varint.ensures.fault))

pub returns-in_err-n-in-SixtyFourBit-clause-fault : goal.returns-in_err-n-in-SixtyFourBit-clause-fault
returns-in_err-n-in-SixtyFourBit-clause-fault c =
    let r = c.from_residual-in_err-n-in-SixtyFourBit in
    let p = err_from_is_err_and r.result r.ensures.1 in
    rw (p.1, p.2) (tells_fault (ValueFault c.args.levels c.args.key) c.args.bytes.now c.in_err-n-in-SixtyFourBit.field-0.0
    (fixed64_fault c.args.levels c.args.key c.args.bytes.now c.in_err-n-in-SixtyFourBit.field-0.0 c.in-SixtyFourBit.is c.in_err-n-in-SixtyFourBit.ensures.fault))

pub returns-in_err-payload-in-LengthDelimited-clause-fault : goal.returns-in_err-payload-in-LengthDelimited-clause-fault
returns-in_err-payload-in-LengthDelimited-clause-fault c =
    let r = c.from_residual-in_err-payload-in-LengthDelimited in
    let p = err_from_is_err_and r.result r.ensures.1 in
    rw (p.1, p.2) (tells_fault (ValueFault c.args.levels c.args.key) c.args.bytes.now c.in_err-payload-in-LengthDelimited.field-0.0
    (delimited_fault c.args.levels c.args.key c.args.bytes.now c.in_err-payload-in-LengthDelimited.field-0.0 c.in-LengthDelimited.is c.in_err-payload-in-LengthDelimited.ensures.fault))
