use Rattle.protox_lex.specs.Resolver.{feeds}
use Rattle.protox_parse.proofs.Answered.{refused_nowhere, refused_there, spelled, unspelled}
use Rattle.protox_tokens.specs.Refusal.{fault_view}
use Rattle.protox_tree.specs.declared.error.ParseErrorKind.TheVariants.{FileTooLarge}
use Rattle.std.proofs.Common.{◌≡◌, ◌∷◌, [], inl, inr, arith, refl}
use Rattle.std.proofs.lemmas.Result.{err_from_is_err_and}
use Rattle.protox_parse.proofs.source.parse.Goals as goal

pub returns-in_err-faults : goal.returns-in_err-faults
returns-in_err-faults c =
    let p = err_from_is_err_and c.from_residual.result c.from_residual.ensures.1 in
    rw (p.1, p.2) (record { named = tt; refused = inl refl; too_large = λ _. inl refl; answered = λ _. tt })

pub returns-in_err-new : goal.returns-in_err-new
returns-in_err-new c =
    let p = err_from_is_err_and c.from_residual-in_err-new.result c.from_residual-in_err-new.ensures.1 in
    rw (p.1, p.2) (record { named = tt; refused = inl refl; too_large = λ _. inl refl; answered = λ _. tt })

pub returns-in_err-lines : goal.returns-in_err-lines
returns-in_err-lines c =
    let p = err_from_is_err_and c.from_residual-in_err-lines.result c.from_residual-in_err-lines.ensures.1 in
    rw (p.1, p.2) (record { named = tt; refused = inl refl; too_large = λ _. inl refl; answered = λ _. tt })

pub returns-in_err-kind-in-Err-Refused : goal.returns-in_err-kind-in-Err-Refused
returns-in_err-kind-in-Err-Refused c =
    let p = err_from_is_err_and c.from_residual-in_err-kind-in-Err-Refused.result c.from_residual-in_err-kind-in-Err-Refused.ensures.1 in
    rw (p.1, p.2) (record { named = tt; refused = inl refl; too_large = λ _. inl refl; answered = λ _. tt })

pub returns-in_err-faults-in-Err-Refused : goal.returns-in_err-faults-in-Err-Refused
returns-in_err-faults-in-Err-Refused c =
    let p = err_from_is_err_and c.from_residual-in_err-faults-in-Err-Refused.result c.from_residual-in_err-faults-in-Err-Refused.ensures.1 in
    rw (p.1, p.2) (record { named = tt; refused = inl refl; too_large = λ _. inl refl; answered = λ _. tt })

pub returns-in_err-new-in-Err-Refused : goal.returns-in_err-new-in-Err-Refused
returns-in_err-new-in-Err-Refused c =
    let p = err_from_is_err_and c.from_residual-in_err-new-in-Err-Refused.result c.from_residual-in_err-new-in-Err-Refused.ensures.1 in
    rw (p.1, p.2) (record { named = tt; refused = inl refl; too_large = λ _. inl refl; answered = λ _. tt })

pub returns-in-Ok : goal.returns-in-Ok
returns-in-Ok c =
    let d = c.described.ensures in
    record {
      named = d.named;
      refused = d.refused;
      too_large = λ h. absurd (omega arith);
      answered = λ h. spelled c.args.name.now c.args.source.now c.in-Ok.file c.described.result c.in-Ok.ensures d.faulty d.faultless d.recorded;
    }

pub returns-in-Err-Memory : goal.returns-in-Err-Memory
returns-in-Err-Memory c = record { named = tt; refused = inl refl; too_large = λ _. inl refl; answered = λ _. tt }

pub returns : goal.returns
returns c =
    let fault = c.in-Err-Refused.fault in
    let r = c.in_ok-new-in-Err-Refused.field-0 in
    let made = c.in_ok-new-in-Err-Refused.ensures in
    let untold = rw c.in-Err-Refused.field-0-is at c.in-Err-Refused.ensures in
    let kind = c.in_ok-kind-in-Err-Refused in
    let alone : r.faults.items ≡ kind.kind ∷ [] = rw made.faults c.in_ok-faults-in-Err-Refused.ensures in
    record {
      named = tt;
      refused = inr (refused_there c.args.name.now c.args.source.now (feeds c.in_ok-lines.lines) r
          c.in_ok-lines.ensures made.file made.position);
      too_large = λ h. absurd (omega arith);
      answered = λ h. unspelled c.args.name.now c.args.source.now (fault_view fault) r kind.kind untold alone kind.ensures;
    }

pub returns-then-source : goal.returns-then-source
returns-then-source c =
    let r = c.in_ok-new.field-0 in
    let made = c.in_ok-new.ensures in
    let alone : r.faults.items ≡ FileTooLarge ∷ [] = rw made.faults c.in_ok-faults.ensures in
    record {
      named = tt;
      refused = inr (refused_nowhere c.args.name.now c.args.source.now r alone made.file made.position);
      too_large = λ h. inr alone;
      answered = λ h. absurd (omega arith);
    }
