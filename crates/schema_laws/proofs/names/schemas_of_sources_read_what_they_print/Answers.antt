use Rattle.schema_laws.proofs.Encoding.{same_again, taken_again}
use Rattle.schema_laws.proofs.Refusing.{not_unknown, text_taken}
use Rattle.schema_laws.proofs.names.schemas_of_sources_read_what_they_print.Goals as goal

pub returns-clause-same : goal.returns-clause-same
returns-clause-same c = λ s decoded named name text out reprint again small encodes short reads shallow. same_again s.pool s.sound decoded named.names name text out reprint small encodes short reads shallow again

pub returns-clause-taken : goal.returns-clause-taken
returns-clause-taken c = λ s decoded named name text out reprint small encodes short reads shallow.
    text_taken s.pool name reprint (not_unknown s.pool name (encodes.0.index, encodes.1.1))
    (taken_again s.pool s.sound decoded named.names name text out reprint small encodes short reads shallow)
