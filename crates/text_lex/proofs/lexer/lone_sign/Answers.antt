use Rattle.std.proofs.Common.{refl, ◌∙◌}
use Rattle.protox_lex.specs.Lex.{front as source_front}
use Rattle.text_lex.specs.Lex.{front}
use Rattle.text_lex.proofs.lexer.lone_sign.Goals as goal

pub returns-in-45-clause-sign : goal.returns-in-45-clause-sign
unfolding front source_front
returns-in-45-clause-sign c at z first = rw (first ∙ c.in-45.is) refl

pub returns-in-123-clause-sign : goal.returns-in-123-clause-sign
unfolding front source_front
returns-in-123-clause-sign c at z first = rw (first ∙ c.in-123.is) refl

pub returns-in-125-clause-sign : goal.returns-in-125-clause-sign
unfolding front source_front
returns-in-125-clause-sign c at z first = rw (first ∙ c.in-125.is) refl

pub returns-in-91-clause-sign : goal.returns-in-91-clause-sign
unfolding front source_front
returns-in-91-clause-sign c at z first = rw (first ∙ c.in-91.is) refl

pub returns-in-93-clause-sign : goal.returns-in-93-clause-sign
unfolding front source_front
returns-in-93-clause-sign c at z first = rw (first ∙ c.in-93.is) refl

pub returns-in-60-clause-sign : goal.returns-in-60-clause-sign
unfolding front source_front
returns-in-60-clause-sign c at z first = rw (first ∙ c.in-60.is) refl

pub returns-in-62-clause-sign : goal.returns-in-62-clause-sign
unfolding front source_front
returns-in-62-clause-sign c at z first = rw (first ∙ c.in-62.is) refl

pub returns-in-44-clause-sign : goal.returns-in-44-clause-sign
unfolding front source_front
returns-in-44-clause-sign c at z first = rw (first ∙ c.in-44.is) refl

pub returns-in-58-clause-sign : goal.returns-in-58-clause-sign
unfolding front source_front
returns-in-58-clause-sign c at z first = rw (first ∙ c.in-58.is) refl

pub returns-in-59-clause-sign : goal.returns-in-59-clause-sign
unfolding front source_front
returns-in-59-clause-sign c at z first = rw (first ∙ c.in-59.is) refl

pub returns-in-47-clause-sign : goal.returns-in-47-clause-sign
unfolding front source_front
returns-in-47-clause-sign c at z first = rw (first ∙ c.in-47.is) refl
