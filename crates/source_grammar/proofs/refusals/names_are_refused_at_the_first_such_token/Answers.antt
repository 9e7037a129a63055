use Rattle.protox_tokens.proofs.Both.{Always}
use Rattle.std.proofs.Common.{refl}
use Rattle.source_grammar.proofs.Firsts.{tells_first}
use Rattle.source_grammar.proofs.ViableNames.{viable_full, viable_type_name, viable_int, viable_strings, start}
use Rattle.source_grammar.proofs.refusals.names_are_refused_at_the_first_such_token.Goals as goal

pub returns-clause-full : goal.returns-clause-full
returns-clause-full c = tells_first (λ i a. refl) (viable_full Always (λ x t u h. h) start (λ s. tt))

pub returns-clause-types : goal.returns-clause-types
returns-clause-types c = tells_first (λ i a. refl) (viable_type_name Always (λ x t u h. h) (λ s. tt))

pub returns-clause-integers : goal.returns-clause-integers
returns-clause-integers c = tells_first (λ i a. tt) (viable_int Always (λ x t u h. h) (λ s. tt))

pub returns-clause-string : goal.returns-clause-string
returns-clause-string c = tells_first (λ i a. refl) (viable_strings Always (λ x t u h. h) (λ s. tt))
