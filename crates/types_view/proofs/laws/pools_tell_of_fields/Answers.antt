use Rattle.types_view.proofs.Batch.{empty_fields, pool_fields}
use Rattle.types_view.proofs.laws.pools_tell_of_fields.Goals as goal

pub returns-clause-empty : goal.returns-clause-empty
returns-clause-empty c = empty_fields

pub returns-clause-kept : goal.returns-clause-kept
returns-clause-kept c = pool_fields
