use Rattle.protox_messages.specs.MessageGrammar.{block}
use Rattle.protox_messages.proofs.MessageLaws.{Local-block}
use Rattle.protox_tokens.proofs.Both.{Always}
use Rattle.source_grammar.proofs.Firsts.{tells_in_blocks}
use Rattle.source_grammar.proofs.ViableMessages.{viable_message, open_messages, open_groups, viable_extend, viable_block}
use Rattle.source_grammar.proofs.refusals.messages_are_refused_at_the_first_such_token.Goals as goal
use Rattle.std.specs.Prelude.{suc}

pub returns-clause-messages : goal.returns-clause-messages
returns-clause-messages c n = tells_in_blocks (λ i a. tt) (viable_message (block (suc n)) (viable_block n) Always (λ x t u h. h) (λ s. tt))

pub returns-clause-extends : goal.returns-clause-extends
returns-clause-extends c n = tells_in_blocks (λ i a. tt)
    (viable_extend (block (suc n)) (Local-block (suc n)) (open_messages (block (suc n)) (viable_block n)) (open_groups (block (suc n)) (viable_block n)) Always (λ x t u h. h) (λ s. tt))
