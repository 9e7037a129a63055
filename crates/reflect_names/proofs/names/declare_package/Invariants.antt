use Rattle.std.proofs.Common.{◌≡◌, ◌++◌, length}
use denote.Shadow.{shadow}
use denote.Text.{Utf8}
use Rattle.reflect_scope.specs.Means.{scopes}
use Rattle.reflect_scope.specs.Known.{known_of}
use Rattle.reflect_faults.specs.Faults.{place_at, list_of}
use Rattle.reflect_known.specs.KnownNames.{packages}
use Rattle.reflect_names.specs.Names.{package_faults}
use Rattle.reflect_names.specs.NameSteps.{KeepsKnown}
use Rattle.reflect_names.proofs.names.declare_package.Given as goal

abbrev pub invariant-scopes : goal.invariant-scopes
invariant-scopes l = record {
  known : packages (known_of l.initial.names) l.file (scopes l.initial.scope) ≡ packages (known_of l.names) l.file (scopes l.scope);
  faults : list_of l.initial.faults ++ package_faults (place_at l.initial.faults l.file) (known_of l.initial.names) l.file (scopes l.initial.scope)
      ≡ list_of l.faults ++ package_faults (place_at l.initial.faults l.file) (known_of l.names) l.file (scopes l.scope);
  files : l.faults.files.now ≡ l.initial.faults.files.now;
  first : l.faults.first ≡ l.initial.faults.first;
  keeps : KeepsKnown l.file (known_of l.initial.names) (known_of l.names);
  utf8 : shadow (Utf8 l.scope);
}

abbrev pub decreases-scopes : goal.decreases-scopes
decreases-scopes l = length l.scope
