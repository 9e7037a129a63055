use Rattle.std.proofs.Common.{◌∙◌, ap, option_map, subst, sym}
use Rattle.text_scalars.specs.Remaining.{remaining}
use Rattle.text_syntax.proofs.Parts.{text_fields}
use Rattle.text_syntax.proofs.Unfolding.{text_is}
use Rattle.reflect_format.specs.Reads.{IsCause, Stops}
use Rattle.reflect_format.specs.Told.{TextFault, Told}
use Rattle.reflect_format.proofs.Filling.{cause_of}
use Rattle.reflect_format.proofs.parser.Parser.parse_message.Goals as goal

pub returns-in-Ok-clause-filled : goal.returns-in-Ok-clause-filled
returns-in-Ok-clause-filled c =
    let w = c.in-Ok.ensures.filled in
    (w.0, text_is (remaining c.args.self.now.tokens) ∙ ap (option_map (λ p. p.0)) w.1, w.2)

pub returns-in-Err-clause-cause : goal.returns-in-Err-clause-cause
returns-in-Err-clause-cause c =
    subst (IsCause _) (sym c.new.ensures) (cause_of _ _ c.in-Err.kind
    (λ u fs h. let p = text_fields (remaining c.args.self.now.tokens) fs h in u fs p.rest p.there)
    c.in-Err.ensures.cause)

pub returns-in-Err-clause-stops : goal.returns-in-Err-clause-stops
returns-in-Err-clause-stops c =
    subst (λ k. Stops (remaining c.args.self.now.tokens) k c.args.message.now c.fields_to_end.new.message)
    (sym c.new.ensures) c.in-Err.ensures.stops

pub returns-in-Err-clause-told : goal.returns-in-Err-clause-told
returns-in-Err-clause-told c =
    subst (Told (TextFault c.args.message.now (remaining c.args.self.now.tokens)))
    (sym c.new.ensures) c.in-Err.ensures.told
