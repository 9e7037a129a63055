use Rattle.std.proofs.Common.{◌≡◌, ◌∙◌, List, [], ◌∷◌, inl, rules, refl, subst, true, false}
use Rattle.text_lex.specs.Token.{Lexeme}
use Rattle.text_model.specs.Tree.{append, no_fields}
use Rattle.text_scalars.specs.Front.{is_over}
use Rattle.text_scalars.specs.Remaining.{remaining}
use Rattle.text_syntax.specs.Syntax.{at_end, message_at}
use Rattle.text_syntax.proofs.Continuing.{all_read, begin_on, behind_begun, first_of, one}
use Rattle.text_syntax.proofs.Parts.{more_goes_on, over_ends}
use Rattle.text_syntax.proofs.Unfolding.{fields_is, message_shorter}
use Rattle.reflect_format.specs.Reads.{Stops}
use Rattle.reflect_format.specs.Told.{FieldFault, MessageFault, TextFault}
use Rattle.reflect_format.specs.Unfit.{Unfit}
use Rattle.reflect_format.proofs.Faults.{told_on}
use Rattle.reflect_format.proofs.Filling.{fills_on, passes, unfit_on}
use Rattle.reflect_format.proofs.Telling.{passed}
use Rattle.reflect_format.proofs.parser.fields_to_end.Goals as goal

pub fields-init : goal.fields-init
fields-init c = (refl, no_fields, refl, refl)

pub fields-preserved : goal.fields-preserved
fields-preserved c =
    let here = remaining c.fields.tokens in
    let inv = c.fields.invariant in
    let more : is_over here ≡ false = search rules in
    let w = c.in_ok-field.ensures.filled in (
      c.in_ok-field.ensures.type_stays ∙ inv.0,
      append inv.1 (one w.0),
      begin_on at_end (message_at 100) (fields_is (message_at 100) (message_shorter 100) at_end) inv.1 (remaining c.args.tokens.now) here (remaining c.field.new.tokens) w.0 inv.2 (more_goes_on here more) w.1,
      fills_on inv.1 w.0 c.args.message.now c.fields.message c.field.new.message inv.3 w.2,
    )

pub returns-in_err-field-clause-cause : goal.returns-in_err-field-clause-cause
returns-in_err-field-clause-cause c =
    let here = remaining c.fields.tokens in
    let inv = c.fields.invariant in
    let steps = fields_is (message_at 100) (message_shorter 100) at_end in
    let more : is_over here ≡ false = search rules in
    passes _ _ c.from_residual.result c.in_err-field.field-0.0 c.from_residual.ensures.1
    (λ u fs rest h.
    let b = behind_begun at_end (message_at 100) steps inv.1 (remaining c.args.tokens.now) here rest fs inv.2 h in
    let f = first_of at_end (message_at 100) steps here rest b.more (more_goes_on here more) b.there in
    subst (λ fs. Unfit fs c.args.message.now) b.same
    (unfit_on inv.1 b.more c.args.message.now c.fields.message inv.3
    (subst (λ fs. Unfit fs c.fields.message) f.same (inl (u f.field f.next f.there))))) c.in_err-field.ensures.cause

pub returns-in_err-field-clause-stops : goal.returns-in_err-field-clause-stops
returns-in_err-field-clause-stops c =
    let r = c.from_residual in
    let inv = c.fields.invariant in
    passed r.result (λ k. Stops (remaining c.args.tokens.now) k c.args.message.now c.field.new.message) c.in_err-field.field-0.0 r.ensures.1
    (inv.1, remaining c.fields.tokens, c.fields.message, inv.2, inv.3, record { cause = c.in_err-field.ensures.cause; stays = c.in_err-field.ensures.stays })

pub returns-in_err-field-clause-told : goal.returns-in_err-field-clause-told
returns-in_err-field-clause-told c =
    let ls = remaining c.args.tokens.now in
    let here = remaining c.fields.tokens in
    let inv = c.fields.invariant in
    let more : is_over here ≡ false = search rules in
    told_on (FieldFault 100 (MessageFault 100) c.fields.message here) (TextFault c.args.message.now ls) c.from_residual.result c.in_err-field.field-0.0 c.from_residual.ensures.1
    (λ h. (inv.1, here, c.fields.message, inv.2, inv.3, more_goes_on here more, h)) c.in_err-field.ensures.told

pub returns-clause-filled : goal.returns-clause-filled
returns-clause-filled c =
    let here = remaining c.fields.tokens in
    let inv = c.fields.invariant in
    let over : is_over here ≡ true = search rules in
    (inv.1, all_read at_end (message_at 100) (fields_is (message_at 100) (message_shorter 100) at_end) inv.1 (remaining c.args.tokens.now) here here inv.2 (over_ends here over), inv.3)

-- no lexeme is left at the end
none_left : (ls : List Lexeme) → is_over ls ≡ true → ls ≡ []
none_left [] h = refl
none_left (l ∷ ls) h = absurd (cc h)

pub returns-clause-spent : goal.returns-clause-spent
returns-clause-spent c = none_left (remaining c.fields.tokens) (search rules)
