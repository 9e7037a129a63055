use Rattle.std.proofs.Common.{rules, inl, inr, refl, subst}
use Rattle.clap.specs.Matches.{found_of}
use Rattle.clap.specs.Walk.{rows_of}
use Rattle.run_parts.specs.Streams.{between, line_of}
use Rattle.schema_words.specs.Asked.{Asks, AsksNothing}
use Rattle.reflect_schema.specs.Texts.{said}
use Rattle.reflect_schema.proofs.Outcomes.{front_of}
use Rattle.reflect_schema.proofs.program.run.Goals as goal

pub returns-in-Err : goal.returns-in-Err
returns-in-Err g c =
    let usage = c.tell_usage.ensures in
    inl (c.in-Err.error.kind, c.in-Err.ensures, usage.status, (refl, refl), usage.kept, usage.told)

pub returns-in_default : goal.returns-in_default
returns-in_default g c =
    let read = c.in-Ok.ensures in
    let nothing : AsksNothing (rows_of (found_of c.in-Ok.matches)) = search rules in
    inr (read.0, read.1, read.2, inl (subst AsksNothing read.3 nothing, c.tell_untyped.ensures, (refl, refl), refl))

pub returns-in-Ok-answer : goal.returns-in-Ok-answer
returns-in-Ok-answer g c =
    let read = c.in-Ok.ensures in
    let wanted = c.in-Some.wanted in
    inr (read.0, read.1, read.2, inr (wanted, subst (λ rows. Asks rows wanted) read.3 c.in-Some.ensures.asked, inl (refl, c.in-Ok-answer.ensures.done, refl)))

pub returns : goal.returns
returns g c =
    let read = c.in-Ok.ensures in
    let wanted = c.in-Some.wanted in
    let fault = c.in-Err-answer.fault in
    let errors = between g.E.Write.contents c.args.errors.now c.write_line.new.stream in
    let told = front_of c.write_line.result errors (line_of (said fault)) c.write_line.ensures.whole c.write_line.ensures.part in
    inr (
      read.0,
      read.1,
      read.2,
      inr (
        wanted,
        subst (λ rows. Asks rows wanted) read.3 c.in-Some.ensures.asked,
        inr (fault, c.status-status.ensures, c.in-Err-answer.ensures.refused, told),
      ),
    )
