use Rattle.std.proofs.Common.{rules, arith}
use Rattle.std.proofs.lemmas.Grind.{common_steps}
use Rattle.reflect_wire.specs.Encoding.{KeepsFront}
use Rattle.reflect_wire.proofs.Encodings.{keeps_behind}
use Rattle.reflect_wire.proofs.Views.{set_bytes}
use Rattle.reflect_wire.proofs.unknown.+write.Goals as goal

pub UnknownFieldSet::write-returns-in_err-write-clause-err : goal.UnknownFieldSet::write-returns-in_err-write-clause-err
UnknownFieldSet::write-returns-in_err-write-clause-err t c =
    let kept : KeepsFront c.args.out.now.items c.write.new.out.items = keeps_behind c.args.out.now.items c.loop-field.out.items c.write.new.out.items _ c.loop-field.invariant c.in_err-write.ensures.err in
    search rules

pub UnknownFieldSet::write-returns-clause-ok : goal.UnknownFieldSet::write-returns-clause-ok
UnknownFieldSet::write-returns-clause-ok t c =
    let whole = set_bytes c.args.self.now in
    grind (arith, common_steps)
