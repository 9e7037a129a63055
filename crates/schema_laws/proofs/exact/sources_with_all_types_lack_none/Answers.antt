use Rattle.schema_laws.proofs.RequiredTypes.{none_lacks}
use Rattle.schema_laws.proofs.exact.sources_with_all_types_lack_none.Goals as goal

pub returns : goal.returns
returns c = λ given s new kind is also first reads second. none_lacks given s.pool new is also first second reads kind
