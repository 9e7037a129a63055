use Rattle.schema_laws.proofs.OwnSchemas.{same_names, same_records, same_types}
use Rattle.schema_laws.proofs.WrittenAlike.{written_alike}
use Rattle.schema_laws.proofs.detour.own_sets_give_the_same_schema.Goals as goal

pub returns-clause-records : goal.returns-clause-records
returns-clause-records c = λ s t is held detour. same_records s t is detour held

pub returns-clause-set : goal.returns-clause-set
returns-clause-set c = λ s t is held detour small.
    written_alike t.pool s.pool (same_records s t is detour held small)

pub returns-clause-types : goal.returns-clause-types
returns-clause-types c = same_types

pub returns-clause-names : goal.returns-clause-names
returns-clause-names c = same_names
