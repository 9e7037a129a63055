use Rattle.std.proofs.Common.{◌≡◌, length}
use denote.Shadow.{shadow}
use denote.Text.{Utf8}
use Rattle.reflect_scope.specs.Known.{known_of}
use Rattle.reflect_scope.specs.Seen.{tells}
use Rattle.reflect_scope.specs.Means.{join, standing, is_holder, dotted, scopes}
use Rattle.reflect_scope.proofs.resolve.by_first_part.Given as goal

abbrev pub invariant-scopes : goal.invariant-scopes
invariant-scopes l = record {
  same : dotted (λ p. is_holder (known_of l.names (join p l.first))) (λ p. standing (tells l.dependencies) l.filter (known_of l.names (join p l.name))) l.name (scopes l.initial.scope)
      ≡ dotted (λ p. is_holder (known_of l.names (join p l.first))) (λ p. standing (tells l.dependencies) l.filter (known_of l.names (join p l.name))) l.name (scopes l.scope);
  utf8 : shadow (Utf8 l.scope);
}

abbrev pub decreases-scopes : goal.decreases-scopes
decreases-scopes l = length l.scope
