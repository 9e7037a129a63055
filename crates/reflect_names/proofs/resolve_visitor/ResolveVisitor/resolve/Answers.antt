use Rattle.std.proofs.Common.{◌∷◌, ◌++◌, [], ℤ, refl, ap, sym, subst, w32}
use Rattle.std.proofs.lemmas.Int.{to_z-of_z}
use Rattle.std.proofs.lemmas.Result.{err_from_is_err_and}
use Rattle.reflect_faults.specs.Faults.{place_at}
use Rattle.reflect_names.specs.References.{kind_meant, meaning_of, targets, unmet}
use Rattle.reflect_names.specs.ReferenceSteps.{Finds, view_of}
use Rattle.reflect_names.proofs.resolve_visitor.ResolveVisitor.resolve.Goals as goal

pub returns-in_ok-push-in-Ok-clause-kind : goal.returns-in_ok-push-in-Ok-clause-kind
returns-in_ok-push-in-Ok-clause-kind c = sym (ap kind_meant c.in-Ok.ensures.answers)

pub returns-in_ok-push-in-Ok-clause-same : goal.returns-in_ok-push-in-Ok-clause-same
returns-in_ok-push-in-Ok-clause-same c = record { names = refl; links = refl; seen = refl }

pub returns-in_err-name-in-Ok : goal.returns-in_err-name-in-Ok
returns-in_err-name-in-Ok c =
    let r = c.from_residual in
    let p = err_from_is_err_and r.result r.ensures.1 in
    rw p.1 (record { finds = tt; kind = tt; same = record { names = refl; links = refl; seen = refl } })

pub returns-in_err-push-in-Ok : goal.returns-in_err-push-in-Ok
returns-in_err-push-in-Ok c =
    let r = c.from_residual-in_err-push-in-Ok in
    let p = err_from_is_err_and r.result r.ensures.1 in
    rw p.1 (record { finds = tt; kind = tt; same = record { names = refl; links = refl; seen = refl } })

pub returns-in_ok-unresolved-in-Err : goal.returns-in_ok-unresolved-in-Err
returns-in_ok-unresolved-in-Err c =
    let s = c.args.self.now in
    let m = meaning_of (view_of s) c.args.filter c.args.scope.now c.args.name.now in
    let found = c.in_ok-unresolved-in-Err.ensures in
    let at = λ (tag : ℤ). place_at s.faults c.args.file (c.args.path.now ++ (tag ∷ [])) in
    record {
      finds = subst (λ tag. Finds s c.unresolved.new.self (targets m) (unmet c.args.filter m c.args.name.now (at tag)))
          (to_z-of_z w32 c.args.tag c.ranges.tag) (found.finds m c.in-Err.ensures.answers);
      kind = sym (found.none m c.in-Err.ensures.answers);
      same = c.unresolved.ensures.same;
    }

pub returns-in_err-unresolved-in-Err : goal.returns-in_err-unresolved-in-Err
returns-in_err-unresolved-in-Err c =
    let r = c.from_residual-in_err-unresolved-in-Err in
    let p = err_from_is_err_and r.result r.ensures.1 in
    rw p.1 (record { finds = tt; kind = tt; same = c.unresolved.ensures.same })
