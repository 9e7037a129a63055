use Rattle.types_view.proofs.Settled.{empty_typed, typed_more}
use Rattle.types_view.proofs.laws.settled_pools_are_typed.Goals as goal

pub returns-clause-empty : goal.returns-clause-empty
returns-clause-empty c = empty_typed

pub returns-clause-kept : goal.returns-clause-kept
returns-clause-kept c earlier old linked new files t whole faultless settles =
    let m = typed_more earlier old linked new files t whole faultless settles in
    (m.linking, m.of, m.typed)
