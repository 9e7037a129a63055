use Rattle.std.proofs.Common.{[], refl}
use Rattle.std.proofs.KnownBytes.{Appends-nil}
use Rattle.clap.specs.declared.error.kind.ErrorKind.TheVariants.{MissingRequiredArgument}
use Rattle.run_parts.proofs.lines.tell_untyped.Goals as goal

pub returns-in-Ok : goal.returns-in-Ok
returns-in-Ok g c = (MissingRequiredArgument, refl, ([], Appends-nil (g.E.Write.contents c.args.errors.now)))
