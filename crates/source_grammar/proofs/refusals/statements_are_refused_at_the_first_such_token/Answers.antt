use Rattle.protox_tokens.proofs.Both.{Always}
use Rattle.source_grammar.proofs.Firsts.{tells_first}
use Rattle.source_grammar.proofs.ViableAggregates.{viable_aggregate}
use Rattle.source_grammar.proofs.ViableDeclarations.{viable_enum, viable_service}
use Rattle.source_grammar.proofs.ViableFields.{viable_extensions}
use Rattle.source_grammar.proofs.ViableOptions.{viable_option}
use Rattle.source_grammar.proofs.ViableRanges.{viable_reserved}
use Rattle.source_grammar.proofs.refusals.statements_are_refused_at_the_first_such_token.Goals as goal

pub returns-clause-braces : goal.returns-clause-braces
returns-clause-braces c = tells_first (λ i a. tt) (viable_aggregate Always (λ x t u h. h) (λ s. tt))

pub returns-clause-options : goal.returns-clause-options
returns-clause-options c = tells_first (λ i a. tt) (viable_option Always (λ x t u h. h) (λ s. tt))

pub returns-clause-ranges : goal.returns-clause-ranges
returns-clause-ranges c = tells_first (λ i a. tt) (viable_reserved Always (λ x t u h. h) (λ s. tt))

pub returns-clause-extension : goal.returns-clause-extension
returns-clause-extension c = tells_first (λ i a. tt) (viable_extensions Always (λ x t u h. h) (λ s. tt))

pub returns-clause-enums : goal.returns-clause-enums
returns-clause-enums c = tells_first (λ i a. tt) (viable_enum Always (λ x t u h. h) (λ s. tt))

pub returns-clause-services : goal.returns-clause-services
returns-clause-services c = tells_first (λ i a. tt) (viable_service Always (λ x t u h. h) (λ s. tt))
