use Rattle.schema_core.proofs.schema.Schema.recode.Goals as goal

pub returns-clause-ok : goal.returns-clause-ok
returns-clause-ok c = (c.in_ok-read.field-0, c.in_ok-read.ensures.ok, c.in_ok-encode_to_vec.ensures.ok)
