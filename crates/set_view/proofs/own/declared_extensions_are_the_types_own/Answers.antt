use Rattle.set_view.proofs.Owned.{extension_owns, no_field_there}
use Rattle.set_view.proofs.own.declared_extensions_are_the_types_own.Goals as goal

pub returns-clause-own : goal.returns-clause-own
returns-clause-own c = extension_owns

pub returns-clause-apart : goal.returns-clause-apart
returns-clause-apart c = no_field_there
