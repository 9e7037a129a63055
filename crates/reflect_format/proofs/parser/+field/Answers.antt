use Rattle.std.proofs.Common.{◌≡◌, ◌∙◌, inl, inr, arith, rules, refl, ap, subst, sym, string_bytes, suc, ◌-◌, ◌++◌, ◌∷◌, [], Some, None, false, true}
use Rattle.std.specs.Prelude.{codes}
use Rattle.std.proofs.lemmas.Result.{IfErr-weaker, IfOk-weaker, on_ok_weaker}
use Rattle.reflect_pool.specs.FindsNames.{FindsMessage}
use Rattle.text_error.specs.Places.{place_of}
use Rattle.text_error.specs.declared.error.ParseErrorKind.{ParseErrorKind}
use Rattle.text_model.specs.Tree.{FieldName, Values, append, braced, listed, more_values, no_fields, no_values, one_message}
use Rattle.text_model.specs.Value.{written}
use Rattle.text_scalars.specs.Braces.{closing}
use Rattle.text_scalars.specs.Front.{behind, begins_name, sees, sign_bytes}
use Rattle.text_scalars.specs.Names.{name_at, name_view, separator_at, text_and_bytes, view_and_bytes}
use Rattle.text_scalars.specs.Reading.{TellsStop, seen_as}
use Rattle.text_scalars.specs.Refusals.{IsUnexpected}
use Rattle.text_scalars.specs.Remaining.{remaining}
use Rattle.text_syntax.specs.Syntax.{OneField, Read, alone, at_sign, brace_of, end_at, field_at, fields_at, list_at, message_at, more_at, value_at, values_by}
use Rattle.text_syntax.proofs.Continuing.{all_read, begin_on, behind_begun, behind_values, fields_stop, first_of, first_value, joined, listed_on, listed_twice, none_listed, one, values_next, values_over, values_stop}
use Rattle.text_syntax.proofs.Parts.{end_comma, end_semicolon, field_parts, field_read, given_alone, given_listed, list_closed, list_opened, message_fields, message_made, message_read, name_found, no_brace, none_open, sign_ends, sign_misses, taken_sign, untaken_sign}
use Rattle.text_syntax.proofs.Unfolding.{fields_is, message_shorter, more_is, unnamed}
use Rattle.reflect_format.specs.Begun.{Begins, BeginsAny}
use Rattle.reflect_format.specs.Filled.{AreGiven, AreValues, Expands, FillsBody, FillsField, url_of}
use Rattle.reflect_format.specs.Named.{NamesExtension, NamesField, NoExtensionNamed, NoFieldNamed}
use Rattle.reflect_format.specs.Reads.{StaysUnless, There}
use Rattle.reflect_format.specs.Refusals.{RefusesField}
use Rattle.reflect_format.specs.Told.{AssignmentFault, BodyFault, ClosesAt, ExpansionFault, ExtensionFault, FieldFault, GivenFault, ListBegins, ListFault, MessageFault, NamedFault, SecondFault, ValueBytes, ValueFault}
use Rattle.reflect_format.specs.Truth.{TrueOf}
use Rattle.reflect_format.specs.Unfit.{AreUnfitValues, CannotMake, IsUnfitBody, IsUnfitField, RejectsExpansion, Unfit}
use Rattle.reflect_format.proofs.Faults.{body_told, both_told, brace_told, depth_told, list_on, name_there, reading_told, scalar_bytes, scalar_told, tells_unseen, told_memory, told_on}
use Rattle.reflect_format.proofs.Filling.{alone_are, alone_is, cause, cause_of, colon_told, expansion_only, extension_only, fills_on, given_message, name_told, passes, plain_only, unfit_all, unfit_body, unfit_listed, unfit_message, unfit_on, unfit_one, unfit_values_on, unread, values_on}
use Rattle.reflect_format.proofs.Single.{scalar_reads, scalar_refutes}
use Rattle.reflect_format.proofs.Telling.{field_true, extension_true, scalar_true, second_true, passed}
use Rattle.reflect_format.proofs.Stepping.{begun_so, untouched, unfinished}
use Rattle.reflect_format.proofs.parser.+field.Goals as goal
use Rattle.reflect_format.proofs.parser.+field.Goals.{field-then-is_none, field-else-is_none}

pub named_value-returns-in_err-target-in-Field-clause-refused : goal.named_value-returns-in_err-target-in-Field-clause-refused
named_value-returns-in_err-target-in-Field-clause-refused t c =
    let type = c.descriptor-descriptor in
    let fault = c.in_err-target-in-Field in
    let r = c.from_residual in
    passed r.result (TrueOf c.args.message.now.descriptor.pool.now) fault.field-0.0 r.ensures.1
    (subst (λ d. TrueOf d.pool.now fault.field-0.0) type.ensures (field_true type.result c.in-Field.name.now fault.field-0.0 fault.ensures.refused))

pub named_value-returns-in_err-target-in-Extension-clause-refused : goal.named_value-returns-in_err-target-in-Extension-clause-refused
named_value-returns-in_err-target-in-Extension-clause-refused t c =
    let type = c.descriptor-descriptor in
    let fault = c.in_err-target-in-Extension in
    let r = c.from_residual-in_err-target-in-Extension in
    passed r.result (TrueOf c.args.message.now.descriptor.pool.now) fault.field-0.0 r.ensures.1
    (subst (λ d. TrueOf d.pool.now fault.field-0.0) type.ensures (extension_true type.result (string_bytes c.in-Extension.name) fault.field-0.0 fault.ensures.refused))

pub value-returns-in_default-clause-refused : goal.value-returns-in_default-clause-refused
value-returns-in_default-clause-refused t c = IfErr-weaker c.scalar_value.result _ _ (λ k h. scalar_true c.args.kind k h) c.scalar_value.ensures.refused

pub assignment-returns-in_err-refuse_second-clause-refused : goal.assignment-returns-in_err-refuse_second-clause-refused
assignment-returns-in_err-refuse_second-clause-refused t c =
    let fault = c.in_err-refuse_second in
    let m = c.args.message.now in
    passed c.from_residual-in_err-refuse_second.result (TrueOf m.descriptor.pool.now) fault.field-0.0 c.from_residual-in_err-refuse_second.ensures.1
    (second_true m c.args.target fault.field-0.0 c.requires.0 (sym c.holds_many.ensures ∙ c.if-holds_many.false) fault.ensures.refused)

pub field-returns-in_err-name-clause-stays : goal.field-returns-in_err-name-clause-stays
field-returns-in_err-name-clause-stays t c = untouched _ c.args.message.now c.from_residual.result

pub field-returns-in_err-separator-clause-stays : goal.field-returns-in_err-separator-clause-stays
field-returns-in_err-separator-clause-stays t c = untouched _ c.args.message.now c.from_residual-in_err-separator.result

pub field-returns-in_err-named_value-clause-stays :
    goal.field-returns-in_err-named_value-clause-stays
field-returns-in_err-named_value-clause-stays t c =
    let inner = message_at c.args.braces in
    let ls = remaining c.args.tokens.now in
    let named = remaining c.name.new.self in
    let found = name_found ls named _ c.in_ok-name.ensures.read in
    let fault = c.in_err-named_value in
    let r = c.from_residual-in_err-named_value in
    let old = c.args.message.now in
    let new = c.named_value.new.message in
    passed r.result (λ k. StaysUnless (There (field_at inner ls) (λ f. Begins f.name f.given old new)) k old new) fault.field-0.0 r.ensures.1
    (begun_so _ _ fault.field-0.0 old new
    (λ w.
    let field : OneField = record { name = found.name; given = w.0; separator = (end_at w.1).0 } in
    (field, (end_at w.1).1, field_read inner ls named (remaining c.separator.new.self) w.1 found.name found.span w.0 found.there c.in_ok-separator.ensures.read w.2, w.3))
    (fault.ensures.stays found.name (sees 58 named) found.same))

pub named_value-returns-in_err-target-in-Field-clause-stays : goal.named_value-returns-in_err-target-in-Field-clause-stays
named_value-returns-in_err-target-in-Field-clause-stays t c = λ n colon same. untouched _ c.args.message.now c.from_residual.result

pub named_value-returns-in_err-target-in-Extension-clause-stays : goal.named_value-returns-in_err-target-in-Extension-clause-stays
named_value-returns-in_err-target-in-Extension-clause-stays t c = λ n colon same. untouched _ c.args.message.now c.from_residual-in_err-target-in-Extension.result

pub named_value-returns-in_ok-target-in-Field-clause-stays :
    goal.named_value-returns-in_ok-target-in-Field-clause-stays
named_value-returns-in_ok-target-in-Field-clause-stays t c = λ n colon same.
    let old = c.args.message.now in
    let new = c.assignment.new.message in
    let target = c.in_ok-target-in-Field.target in
    let w = c.in-Field.name.now in
    let named = subst (λ d. NamesField d w target) c.descriptor-descriptor.ensures c.in_ok-target-in-Field.ensures.named in
    IfErr-weaker c.assignment.result _ _ (λ k h. begun_so _ _ k old new
    (λ b. (b.0, b.1, b.2, plain_only (λ n. Begins n b.0 old new) n w (same ∙ ap name_view c.in-Field.is) (target, named, b.3))) h)
    (c.assignment.ensures.stays colon)

pub named_value-returns-in_ok-target-in-Extension-clause-stays :
    goal.named_value-returns-in_ok-target-in-Extension-clause-stays
named_value-returns-in_ok-target-in-Extension-clause-stays t c = λ n colon same.
    let old = c.args.message.now in
    let new = c.assignment-in-Extension.new.message in
    let target = c.in_ok-target-in-Extension.target in
    let w = string_bytes c.in-Extension.name in
    let named = subst (λ d. NamesExtension d w target) c.descriptor-descriptor.ensures c.in_ok-target-in-Extension.ensures.named in
    IfErr-weaker c.assignment-in-Extension.result _ _ (λ k h. begun_so _ _ k old new
    (λ b. (
      b.0,
      b.1,
      b.2,
      extension_only (λ n. Begins n b.0 old new) n w (same ∙ ap name_view c.in-Extension.is)
          (λ e is. (target, subst (λ w. NamesExtension old.descriptor w target) (sym is) named, b.3)),
    )) h)
    (c.assignment-in-Extension.ensures.stays colon)

pub named_value-returns-in-Any-clause-stays : goal.named_value-returns-in-Any-clause-stays
named_value-returns-in-Any-clause-stays t c = λ n colon same.
    let old = c.args.message.now in
    let new = c.expansion.new.message in
    let name = c.in-Any.name in
    IfErr-weaker c.expansion.result _ _ (λ k h. begun_so _ _ k old new
    (λ b. (
      b.0,
      b.1,
      b.2,
      expansion_only (λ n. Begins n b.0 old new) n (string_bytes name.domain) (string_bytes name.message) (same ∙ ap name_view c.in-Any.is)
          (λ d e is was. subst (λ x. BeginsAny (url_of x (written e)) old new) (sym is) (subst (λ y. BeginsAny (url_of (string_bytes name.domain) y) old new) (sym was) b.3)),
    )) h)
    (c.expansion.ensures.stays colon)

pub assignment-returns-in_err-values-clause-stays : goal.assignment-returns-in_err-values-clause-stays
assignment-returns-in_err-values-clause-stays t c = λ colon. untouched _ c.args.message.now c.from_residual.result

pub assignment-returns-in_err-value-clause-stays : goal.assignment-returns-in_err-value-clause-stays
assignment-returns-in_err-value-clause-stays t c = λ colon. untouched _ c.args.message.now c.from_residual-in_err-value.result

pub assignment-returns-in_err-refuse_second-clause-stays : goal.assignment-returns-in_err-refuse_second-clause-stays
assignment-returns-in_err-refuse_second-clause-stays t c = λ colon. untouched _ c.args.message.now c.from_residual-in_err-refuse_second.result

pub assignment-returns-in_err-add-clause-stays : goal.assignment-returns-in_err-add-clause-stays
assignment-returns-in_err-add-clause-stays t c = λ colon.
    let r = c.from_residual-in_err-add in
    let w = c.in_ok-values.ensures.read colon in
    unfinished _ c.args.message.now c.add.new.message r.result r.ensures.1
    (w.0, remaining c.values.new.tokens, w.1, inr (c.kind.result, c.kind.ensures, sym c.holds_many.ensures ∙ c.if-holds_many.true, c.in_ok-values.values.items, w.2, c.in_err-add.ensures.left))

pub assignment-returns-in_err-set-clause-stays : goal.assignment-returns-in_err-set-clause-stays
assignment-returns-in_err-set-clause-stays t c = λ colon.
    let r = c.from_residual-in_err-set in
    let w = c.in_ok-value.ensures.read in
    let rest = remaining c.value.new.tokens in
    unfinished _ c.args.message.now c.set.new.message r.result r.ensures.1
    (alone colon w.0, rest, given_alone (message_at c.args.braces) colon (remaining c.args.tokens.now) rest w.0 w.1, inl (c.in_err-set.ensures.left, c.set.ensures.exclusive))

pub expansion-returns-in_default-clause-stays : goal.expansion-returns-in_default-clause-stays
expansion-returns-in_default-clause-stays t c = λ colon. inl refl

pub expansion-returns-in_err-body-clause-stays : goal.expansion-returns-in_err-body-clause-stays
expansion-returns-in_err-body-clause-stays t c = λ colon. untouched _ c.args.message.now c.from_residual.result

pub expansion-returns-clause-stays : goal.expansion-returns-clause-stays
expansion-returns-clause-stays t c = λ colon.
    let w = c.in_ok-body.ensures.made in
    let rest = remaining c.message_value.new.tokens in
    let read = given_message c.args.braces colon (remaining c.args.tokens.now) rest w.0 w.1 in
    IfErr-weaker c.hold.result _ _ (λ k h. begun_so _ _ k c.args.message.now c.hold.new.message (λ b. (one_message colon w.0.0 w.0.1, rest, read, b)) h) c.hold.ensures.stays

-- ---- a field

pub field-returns-in_err-name-clause-cause : goal.field-returns-in_err-name-clause-cause
field-returns-in_err-name-clause-cause t c =
    let inner = message_at c.args.braces in
    let ls = remaining c.args.tokens.now in
    passes _ _ c.from_residual.result c.in_err-name.field-0.0 c.from_residual.ensures.1
    (λ none f rest h. unread (field_at inner ls) (λ f. IsUnfitField f.name f.given c.args.message.now) none f rest h)
    (name_told inner ls (remaining c.name.new.self) _ c.in_err-name.ensures.read)

pub field-returns-in_err-separator-clause-cause : goal.field-returns-in_err-separator-clause-cause
field-returns-in_err-separator-clause-cause t c =
    let inner = message_at c.args.braces in
    let ls = remaining c.args.tokens.now in
    let named = remaining c.name.new.self in
    let found = name_found ls named _ c.in_ok-name.ensures.read in
    let r = c.from_residual-in_err-separator in
    passes _ _ r.result c.in_err-separator.field-0.0 r.ensures.1
    (λ none f rest h. unread (field_at inner ls) (λ f. IsUnfitField f.name f.given c.args.message.now) none f rest h)
    (colon_told inner ls named (remaining c.separator.new.self) (found.name, found.span) _ found.there c.in_err-separator.ensures.read)

pub field-returns-in_err-named_value-clause-cause :
    goal.field-returns-in_err-named_value-clause-cause
field-returns-in_err-named_value-clause-cause t c =
    let inner = message_at c.args.braces in
    let ls = remaining c.args.tokens.now in
    let named = remaining c.name.new.self in
    let found = name_found ls named _ c.in_ok-name.ensures.read in
    let r = c.from_residual-in_err-named_value in
    passes _ _ r.result c.in_err-named_value.field-0.0 r.ensures.1
    (λ u f rest h.
    let p = field_parts inner ls named (remaining c.separator.new.self) rest found.name found.span f found.there c.in_ok-separator.ensures.read h in
    subst (λ n. IsUnfitField n f.given c.args.message.now) p.name (u f.given p.last p.given))
    (c.in_err-named_value.ensures.cause found.name (sees 58 named) found.same)

pub field-returns-clause-filled : goal.field-returns-clause-filled
field-returns-clause-filled t c =
    let inner = message_at c.args.braces in
    let ls = remaining c.args.tokens.now in
    let named = remaining c.name.new.self in
    let last = remaining c.named_value.new.tokens in
    let found = name_found ls named _ c.in_ok-name.ensures.read in
    let w = c.in_ok-named_value.ensures.filled found.name (sees 58 named) found.same in
    let read = field_read inner ls named (remaining c.separator.new.self) last found.name found.span w.0 found.there c.in_ok-separator.ensures.read w.1 in
    let over : (end_at last).1 ≡ remaining c.if-is_none.tokens =
    elim c.if-is_none.branch [
      | field-then-is_none b ↦ end_semicolon last (remaining c.eat.new.self) (remaining b.eat-then-is_none.new.self) b.eat-then-is_none.result (untaken_sign 44 last (remaining c.eat.new.self) c.eat.result c.eat.ensures.found b.if-is_none.ensures c.eat.ensures.behind) b.eat-then-is_none.ensures.found b.eat-then-is_none.ensures.behind ∙ ap remaining (sym b.tokens-is)
      | field-else-is_none b ↦ end_comma last (remaining c.eat.new.self) (taken_sign 44 last (remaining c.eat.new.self) c.eat.result c.eat.ensures.found b.if-is_none.ensures c.eat.ensures.behind) ∙ ap remaining (sym b.tokens-is)
    ] in
    let field : OneField = record { name = found.name; given = w.0; separator = (end_at last).0 } in
    (field, subst (λ l. field_at inner ls ≡ Some (field, l)) over read, w.2)

-- ---- fields in braces

pub fields_to_brace-fields-init : goal.fields_to_brace-fields-init
fields_to_brace-fields-init t c = (omega arith, refl, no_fields, refl, refl)

pub fields_to_brace-returns-in-Some-clause-filled :
    goal.fields_to_brace-returns-in-Some-clause-filled
fields_to_brace-returns-in-Some-clause-filled t c =
    let n = c.args.braces in
    let ends = at_sign (closing c.args.closing) in
    let here = remaining c.fields.tokens in
    let inv = c.fields.invariant in
    let found : sign_bytes (closing c.args.closing) here ≡ Some c.in-Some.close = search rules in
    let after : remaining c.eat.new.self ≡ behind here = search rules in
    (inv.2, all_read ends (message_at n) (fields_is (message_at n) (message_shorter n) ends) inv.2 (remaining c.args.tokens.now) here (remaining c.eat.new.self) inv.3 (sign_ends (closing c.args.closing) here (remaining c.eat.new.self) c.in-Some.close found after), inv.4)

pub fields_to_brace-returns-then-not-is_at_name-clause-cause :
    goal.fields_to_brace-returns-then-not-is_at_name-clause-cause
fields_to_brace-returns-then-not-is_at_name-clause-cause t c =
    let n = c.args.braces in
    let ends = at_sign (closing c.args.closing) in
    let here = remaining c.fields.tokens in
    let inv = c.fields.invariant in
    let steps = fields_is (message_at n) (message_shorter n) ends in
    let missing : sign_bytes (closing c.args.closing) here ≡ None = search rules in
    let nameless : begins_name here ≡ false = search rules in
    cause _ c.refuse.result (λ fs rest h.
    let b = behind_begun ends (message_at n) steps inv.2 (remaining c.args.tokens.now) here rest fs inv.3 h in
    unread (fields_at ends (message_at n) here) (λ more. Unfit fs c.args.message.now)
    (fields_stop ends (message_at n) steps here (sign_misses (closing c.args.closing) here missing) (unnamed (message_at n) here nameless)) b.more rest b.there)

pub fields_to_brace-fields-preserved : goal.fields_to_brace-fields-preserved
fields_to_brace-fields-preserved t c =
    let n = c.args.braces in
    let ends = at_sign (closing c.args.closing) in
    let here = remaining c.fields.tokens in
    let inv = c.fields.invariant in
    let same : remaining c.eat.new.self ≡ here = search rules in
    let missing : sign_bytes (closing c.args.closing) here ≡ None = search rules in
    let w = c.in_ok-field.ensures.filled in (
      omega (arith, c.in_ok-field.ensures.taken, c.in_default.ensures.more, inv.0),
      c.in_ok-field.ensures.type_stays ∙ inv.1,
      append inv.2 (one w.0),
      begin_on ends (message_at n) (fields_is (message_at n) (message_shorter n) ends) inv.2 (remaining c.args.tokens.now) here (remaining c.field.new.tokens) w.0 inv.3 (sign_misses (closing c.args.closing) here missing) (subst (λ l. field_at (message_at n) l ≡ Some (w.0, remaining c.field.new.tokens)) same w.1),
      fills_on inv.2 w.0 c.args.message.now c.fields.message c.field.new.message inv.4 w.2,
    )

pub fields_to_brace-returns-in_err-field-clause-cause :
    goal.fields_to_brace-returns-in_err-field-clause-cause
fields_to_brace-returns-in_err-field-clause-cause t c =
    let n = c.args.braces in
    let ends = at_sign (closing c.args.closing) in
    let here = remaining c.fields.tokens in
    let inv = c.fields.invariant in
    let steps = fields_is (message_at n) (message_shorter n) ends in
    let same : remaining c.eat.new.self ≡ here = search rules in
    let missing : sign_bytes (closing c.args.closing) here ≡ None = search rules in
    passes _ _ c.from_residual.result c.in_err-field.field-0.0 c.from_residual.ensures.1
    (λ u fs rest h.
    let b = behind_begun ends (message_at n) steps inv.2 (remaining c.args.tokens.now) here rest fs inv.3 h in
    let f = first_of ends (message_at n) steps here rest b.more (sign_misses (closing c.args.closing) here missing) b.there in
    let unfit = u f.field f.next (subst (λ l. field_at (message_at n) l ≡ Some (f.field, f.next)) (sym same) f.there) in
    subst (λ fs. Unfit fs c.args.message.now) b.same
    (unfit_on inv.2 b.more c.args.message.now c.fields.message inv.4
    (subst (λ fs. Unfit fs c.fields.message) f.same (inl unfit)))) c.in_err-field.ensures.cause

-- ---- a message in braces

pub message_value-returns-in_default-clause-cause :
    goal.message_value-returns-in_default-clause-cause
message_value-returns-in_default-clause-cause t c =
    let n = c.args.braces in
    let ls = remaining c.args.tokens.now in
    let none = sym c.open_brace.ensures.found ∙ c.in_default.is in
    cause _ c.refuse.result (λ m rest h. unread (message_at n ls) (λ m. CannotMake c.args.descriptor (Unfit m.1)) (no_brace n ls none) m rest h)

pub message_value-returns-then-braces-eq0-clause-cause :
    goal.message_value-returns-then-braces-eq0-clause-cause
message_value-returns-then-braces-eq0-clause-cause t c = λ m rest h.
    let ls = remaining c.args.tokens.now in
    unread (message_at c.args.braces ls) (λ m. CannotMake c.args.descriptor (Unfit m.1))
    (ap (λ n. message_at n ls) c.if-braces-eq0.true ∙ none_open ls) m rest h

pub message_value-returns-in_err-close-clause-cause :
    goal.message_value-returns-in_err-close-clause-cause
message_value-returns-in_err-close-clause-cause t c =
    let n = c.args.braces in
    let ls = remaining c.args.tokens.now in
    let count : n ≡ suc (n - 1) = omega (arith, c.if-braces-eq0.false) in
    let brace = sym c.open_brace.ensures.found ∙ c.in-Some.is in
    let after : remaining c.open_brace.new.self ≡ behind ls = search rules in
    passes _ _ c.from_residual.result c.in_err-close.field-0.0 c.from_residual.ensures.1
    (λ u m rest h. (
      c.new-message.result,
      c.new-message.ensures.same_type,
      c.new-message.ensures.empty,
      u m.1 rest (subst (λ l. fields_at (at_sign (closing c.in-Some.closing)) (message_at (n - 1)) l ≡ Some (m.1, rest)) (sym after)
          (message_fields n (n - 1) ls (c.in-Some.open, c.in-Some.closing) rest m count brace h)),
    ))
    c.in_err-close.ensures.cause

pub message_value-returns-clause-made : goal.message_value-returns-clause-made
message_value-returns-clause-made t c =
    let n = c.args.braces in
    let ls = remaining c.args.tokens.now in
    let count : n ≡ suc (n - 1) = omega (arith, c.if-braces-eq0.false) in
    let brace = sym c.open_brace.ensures.found ∙ c.in-Some.is in
    let after : remaining c.open_brace.new.self ≡ behind ls = search rules in
    let w = c.in_ok-close.ensures.filled in
    let last = remaining c.fields_to_brace.new.tokens in
    let read = subst (λ l. fields_at (at_sign (closing c.in-Some.closing)) (message_at (n - 1)) l ≡ Some (w.0, last)) after w.1 in
    ((brace_of c.in-Some.closing, w.0), message_made n (n - 1) ls (c.in-Some.open, c.in-Some.closing) last w.0 count brace read, (c.new-message.result, c.new-message.ensures.same_type, c.new-message.ensures.empty, w.2))

-- ---- what stands under a name

pub named_value-returns-in_ok-target-in-Field-clause-filled :
    goal.named_value-returns-in_ok-target-in-Field-clause-filled
named_value-returns-in_ok-target-in-Field-clause-filled t c = λ n colon same.
    let old = c.args.message.now in
    let target = c.in_ok-target-in-Field.target in
    let w = c.in-Field.name.now in
    let named = subst (λ d. NamesField d w target) c.descriptor-descriptor.ensures c.in_ok-target-in-Field.ensures.named in
    on_ok_weaker c.assignment.result
    (λ h. (h.0, h.1, plain_only (λ n. FillsField n h.0 old c.assignment.new.message) n w (same ∙ ap name_view c.in-Field.is) (c.assignment.ensures.type_stays, (target, named, h.2))))
    (c.assignment.ensures.filled colon)

pub named_value-returns-in_ok-target-in-Field-clause-cause :
    goal.named_value-returns-in_ok-target-in-Field-clause-cause
named_value-returns-in_ok-target-in-Field-clause-cause t c = λ n colon same.
    let old = c.args.message.now in
    let target = c.in_ok-target-in-Field.target in
    let w = c.in-Field.name.now in
    let named = subst (λ d. NamesField d w target) c.descriptor-descriptor.ensures c.in_ok-target-in-Field.ensures.named in
    IfErr-weaker c.assignment.result _ _ (λ k h. cause_of _ _ k
    (λ u g rest e. plain_only (λ n. IsUnfitField n g old) n w (same ∙ ap name_view c.in-Field.is) (inr (target, named, u g rest e))) h)
    (c.assignment.ensures.cause colon)

pub named_value-returns-in_ok-target-in-Extension-clause-filled :
    goal.named_value-returns-in_ok-target-in-Extension-clause-filled
named_value-returns-in_ok-target-in-Extension-clause-filled t c = λ n colon same.
    let old = c.args.message.now in
    let target = c.in_ok-target-in-Extension.target in
    let w = string_bytes c.in-Extension.name in
    let named = subst (λ d. NamesExtension d w target) c.descriptor-descriptor.ensures c.in_ok-target-in-Extension.ensures.named in
    on_ok_weaker c.assignment-in-Extension.result
    (λ h. (
      h.0,
      h.1,
      extension_only (λ n. FillsField n h.0 old c.assignment-in-Extension.new.message) n w (same ∙ ap name_view c.in-Extension.is)
          (λ e is. (c.assignment-in-Extension.ensures.type_stays, (target, subst (λ w. NamesExtension old.descriptor w target) (sym is) named, h.2))),
    ))
    (c.assignment-in-Extension.ensures.filled colon)

pub named_value-returns-in_ok-target-in-Extension-clause-cause :
    goal.named_value-returns-in_ok-target-in-Extension-clause-cause
named_value-returns-in_ok-target-in-Extension-clause-cause t c = λ n colon same.
    let old = c.args.message.now in
    let target = c.in_ok-target-in-Extension.target in
    let w = string_bytes c.in-Extension.name in
    let named = subst (λ d. NamesExtension d w target) c.descriptor-descriptor.ensures c.in_ok-target-in-Extension.ensures.named in
    IfErr-weaker c.assignment-in-Extension.result _ _ (λ k h. cause_of _ _ k
    (λ u g rest e. extension_only (λ n. IsUnfitField n g old) n w (same ∙ ap name_view c.in-Extension.is)
    (λ x is. inr (target, subst (λ w. NamesExtension old.descriptor w target) (sym is) named, u g rest e))) h)
    (c.assignment-in-Extension.ensures.cause colon)

pub named_value-returns-in_err-target-in-Field-clause-cause :
    goal.named_value-returns-in_err-target-in-Field-clause-cause
named_value-returns-in_err-target-in-Field-clause-cause t c = λ n colon same.
    let old = c.args.message.now in
    let w = c.in-Field.name.now in
    passes _ _ c.from_residual.result c.in_err-target-in-Field.field-0.0 c.from_residual.ensures.1
    (λ none g rest e. plain_only (λ n. IsUnfitField n g old) n w (same ∙ ap name_view c.in-Field.is)
    (inl (subst (λ d. NoFieldNamed d w) c.descriptor-descriptor.ensures none)))
    c.in_err-target-in-Field.ensures.unnamed

pub named_value-returns-in_err-target-in-Extension-clause-cause :
    goal.named_value-returns-in_err-target-in-Extension-clause-cause
named_value-returns-in_err-target-in-Extension-clause-cause t c = λ n colon same.
    let old = c.args.message.now in
    let w = string_bytes c.in-Extension.name in
    let r = c.from_residual-in_err-target-in-Extension in
    passes _ _ r.result c.in_err-target-in-Extension.field-0.0 r.ensures.1
    (λ none g rest e. extension_only (λ n. IsUnfitField n g old) n w (same ∙ ap name_view c.in-Extension.is)
    (λ x is. inl (subst (λ w. NoExtensionNamed old.descriptor w) (sym is) (subst (λ d. NoExtensionNamed d w) c.descriptor-descriptor.ensures none))))
    c.in_err-target-in-Extension.ensures.unnamed

pub named_value-returns-in-Any-clause-filled : goal.named_value-returns-in-Any-clause-filled
named_value-returns-in-Any-clause-filled t c = λ n colon same.
    let old = c.args.message.now in
    let new = c.expansion.new.message in
    let name = c.in-Any.name in
    on_ok_weaker c.expansion.result
    (λ h. (
      h.0,
      h.1,
      expansion_only (λ n. FillsField n h.0 old new) n (string_bytes name.domain) (string_bytes name.message) (same ∙ ap name_view c.in-Any.is)
          (λ d e is was. (
            c.expansion.ensures.type_stays,
            subst (λ x. Expands x (written e) (FillsBody h.0) old new) (sym is) (subst (λ y. Expands (string_bytes name.domain) y (FillsBody h.0) old new) (sym was) h.2),
          )),
    ))
    (c.expansion.ensures.filled colon)

pub named_value-returns-in-Any-clause-cause : goal.named_value-returns-in-Any-clause-cause
named_value-returns-in-Any-clause-cause t c = λ n colon same.
    let old = c.args.message.now in
    let name = c.in-Any.name in
    IfErr-weaker c.expansion.result _ _ (λ k h. cause_of _ _ k
    (λ u g rest e. expansion_only (λ n. IsUnfitField n g old) n (string_bytes name.domain) (string_bytes name.message) (same ∙ ap name_view c.in-Any.is)
    (λ d x is was. subst (λ y. RejectsExpansion y (IsUnfitBody g) old) (sym was) (u g rest e))) h)
    (c.expansion.ensures.cause colon)

-- ---- expansions

pub expansion-returns-in_err-body-clause-cause : goal.expansion-returns-in_err-body-clause-cause
expansion-returns-in_err-body-clause-cause t c = λ colon.
    let pool : c.in-Some.kind.pool.now ≡ c.args.message.now.descriptor.pool.now = search rules in
    let finds : FindsMessage c.args.message.now.descriptor.pool.now (string_bytes c.args.name.message) (Some c.in-Some.kind) = search rules in
    passes _ _ c.from_residual.result c.in_err-body.field-0.0 c.from_residual.ensures.1
    (λ u g rest e. inr (inr (c.in-Some.kind, pool, finds, unfit_body c.args.braces colon (remaining c.args.tokens.now) rest g c.in-Some.kind e u)))
    c.in_err-body.ensures.cause

pub expansion-returns-clause-filled : goal.expansion-returns-clause-filled
expansion-returns-clause-filled t c = λ colon.
    let pool : c.in-Some.kind.pool.now ≡ c.args.message.now.descriptor.pool.now = search rules in
    let finds : FindsMessage c.args.message.now.descriptor.pool.now (string_bytes c.args.name.message) (Some c.in-Some.kind) = search rules in
    let w = c.in_ok-body.ensures.made in
    on_ok_weaker c.hold.result
    (λ h. (one_message colon w.0.0 w.0.1, given_message c.args.braces colon (remaining c.args.tokens.now) (remaining c.message_value.new.tokens) w.0 w.1, (c.in-Some.kind, c.in_ok-body.body, pool, finds, w.2, h)))
    c.hold.ensures.held

pub expansion-returns-clause-cause : goal.expansion-returns-clause-cause
expansion-returns-clause-cause t c = λ colon.
    IfErr-weaker c.hold.result _ _ (λ k h. cause_of _ _ k (λ none g rest e. inr (inl none)) h)
    c.hold.ensures.cause

-- ---- a value

pub value-returns-in_err-message-in-Message-clause-cause :
    goal.value-returns-in_err-message-in-Message-clause-cause
value-returns-in_err-message-in-Message-clause-cause t c =
    let fault = c.in_err-message-in-Message in
    passes _ _ c.from_residual.result fault.field-0.0 c.from_residual.ensures.1
    (λ u v rest e. unfit_message c.args.braces (remaining c.args.tokens.now) rest c.args.kind c.in-Message.descriptor v c.in-Message.is e u)
    fault.ensures.cause

pub value-returns-in_ok-message-in-Message-clause-read :
    goal.value-returns-in_ok-message-in-Message-clause-read
value-returns-in_ok-message-in-Message-clause-read t c =
    let made = c.in_ok-message-in-Message in
    let w = made.ensures.made in
    (braced w.0.0 w.0.1, message_read c.args.braces (remaining c.args.tokens.now) (remaining c.message_value.new.tokens) w.0 w.1, (c.in-Message.descriptor, made.message, c.in-Message.is, w.2, refl))

pub value-returns-in_default-clause-read : goal.value-returns-in_default-clause-read
value-returns-in_default-clause-read t c =
    scalar_reads c.args.kind (remaining c.args.tokens.now) (remaining c.scalar_value.new.tokens) (message_at c.args.braces) c.scalar_value.result c.scalar_value.ensures.read

pub value-returns-in_default-clause-cause : goal.value-returns-in_default-clause-cause
value-returns-in_default-clause-cause t c =
    scalar_refutes c.args.kind (remaining c.args.tokens.now) (remaining c.scalar_value.new.tokens) (message_at c.args.braces) c.scalar_value.result c.in_default.not-Message c.scalar_value.ensures.read

-- ---- what is given

pub assignment-returns-clause-filled : goal.assignment-returns-clause-filled
assignment-returns-clause-filled t c = λ colon.
    let inner = message_at c.args.braces in
    let w = c.in_ok-value.ensures.read in (
      alone colon w.0,
      given_alone inner colon (remaining c.args.tokens.now) (remaining c.value.new.tokens) w.0 w.1,
      (
        c.kind-2.result,
        c.kind-2.ensures,
        inl (
          c.in_ok-value.value,
          alone_is colon w.0 c.kind-2.result c.in_ok-value.value w.2,
          record {
            one = sym c.holds_many.ensures ∙ c.if-holds_many.false;
            unset = c.in_ok-refuse_second.ensures.none;
            alone = c.in_ok-refuse_second.ensures.alone;
            put = c.in_ok-set.ensures.ok;
            exclusive = c.set.ensures.exclusive;
            ascending = c.in_ok-set.ensures.ascending;
          },
        ),
      ),
    )

pub assignment-returns-in_err-values-clause-cause :
    goal.assignment-returns-in_err-values-clause-cause
assignment-returns-in_err-values-clause-cause t c = λ colon.
    passes _ _ c.from_residual.result c.in_err-values.field-0.0 c.from_residual.ensures.1
    (λ u g rest e. (c.kind.result, c.kind.ensures, inl (sym c.holds_many.ensures ∙ c.if-holds_many.true, u g rest e)))
    (c.in_err-values.ensures.cause colon)

pub assignment-returns-then-holds_many-clause-filled :
    goal.assignment-returns-then-holds_many-clause-filled
assignment-returns-then-holds_many-clause-filled t c = λ colon.
    let w = c.in_ok-values.ensures.read colon in
    (w.0, w.1, (c.kind.result, c.kind.ensures, inr (c.in_ok-values.values.items, sym c.holds_many.ensures ∙ c.if-holds_many.true, w.2, c.in_ok-add.ensures.ok)))

pub assignment-returns-in_err-value-clause-cause :
    goal.assignment-returns-in_err-value-clause-cause
assignment-returns-in_err-value-clause-cause t c = λ colon.
    let r = c.from_residual-in_err-value in
    passes _ _ r.result c.in_err-value.field-0.0 r.ensures.1
    (λ u g rest e. (c.kind-2.result, c.kind-2.ensures, inr (sym c.holds_many.ensures ∙ c.if-holds_many.false, inl (unfit_one c.args.braces colon (remaining c.args.tokens.now) rest g c.kind-2.result e u))))
    c.in_err-value.ensures.cause

pub values-returns-clause-read : goal.values-returns-clause-read
values-returns-clause-read t c = λ colon.
    let inner = message_at c.args.braces in
    let ls = remaining c.args.tokens.now in
    let rest = remaining c.value.new.tokens in
    let left = untaken_sign 91 ls (remaining c.eat.new.self) c.eat.result c.eat.ensures.found (sym c.is_some.ensures ∙ c.if-is_some.false) c.eat.ensures.behind in
    let w = c.in_ok-value.ensures.read in
    let items : c.push.new.self.items ≡ c.in_ok-value.value ∷ [] = search rules in
    (alone colon w.0, given_alone inner colon ls rest w.0 (subst (λ l. value_at inner l ≡ Some (w.0, rest)) left.same w.1), subst (AreGiven (alone colon w.0) c.args.kind) (sym items) (alone_are colon w.0 c.args.kind c.in_ok-value.value w.2))

pub values-returns-then-is_some-clause-cause : goal.values-returns-then-is_some-clause-cause
values-returns-then-is_some-clause-cause t c = λ colon.
    let ls = remaining c.args.tokens.now in
    let mid = remaining c.eat.new.self in
    let it = taken_sign 91 ls mid c.eat.result c.eat.ensures.found (sym c.is_some.ensures ∙ c.if-is_some.true) c.eat.ensures.behind in
    IfErr-weaker c.list.result _ _ (λ k h. cause_of _ _ k
    (λ u g rest e. unfit_listed c.args.braces colon ls mid rest g c.args.kind it e u) h) c.list.ensures.cause

pub values-returns-then-is_some-clause-read : goal.values-returns-then-is_some-clause-read
values-returns-then-is_some-clause-read t c = λ colon.
    let inner = message_at c.args.braces in
    let ls = remaining c.args.tokens.now in
    let mid = remaining c.eat.new.self in
    let it = taken_sign 91 ls mid c.eat.result c.eat.ensures.found (sym c.is_some.ensures ∙ c.if-is_some.true) c.eat.ensures.behind in
    IfOk-weaker c.list.result _ _ (λ vs h. (listed h.0, given_listed inner colon ls (remaining c.list.new.tokens) it.span h.0 it.there (ap (list_at inner) (sym it.rest) ∙ h.1), h.2)) c.list.ensures.read

pub values-returns-in_err-value-clause-cause : goal.values-returns-in_err-value-clause-cause
values-returns-in_err-value-clause-cause t c = λ colon.
    let ls = remaining c.args.tokens.now in
    let mid = remaining c.eat.new.self in
    let left = untaken_sign 91 ls mid c.eat.result c.eat.ensures.found (sym c.is_some.ensures ∙ c.if-is_some.false) c.eat.ensures.behind in
    passes _ _ c.from_residual.result c.in_err-value.field-0.0 c.from_residual.ensures.1
    (λ u g rest e. unfit_all c.args.braces colon ls mid rest g c.args.kind left e u) c.in_err-value.ensures.cause

-- ---- a list

pub list-returns-then-is_some-clause-read : goal.list-returns-then-is_some-clause-read
list-returns-then-is_some-clause-read t c =
    let ls = remaining c.args.tokens.now in
    let mid = remaining c.eat.new.self in
    (no_values, list_closed (message_at c.args.braces) ls mid (taken_sign 93 ls mid c.eat.result c.eat.ensures.found (sym c.is_some.ensures ∙ c.if-is_some.true) c.eat.ensures.behind), c.new-values.ensures.items)

pub list-values-init : goal.list-values-init
list-values-init t c =
    let inner = message_at c.args.braces in
    let ls = remaining c.args.tokens.now in
    let mid = remaining c.eat.new.self in
    let left = untaken_sign 93 ls mid c.eat.result c.eat.ensures.found (sym c.is_some.ensures ∙ c.if-is_some.false) c.eat.ensures.behind in
    (omega arith, no_values, c.new-values.ensures.items, list_opened inner mid (ap (sign_bytes 93) left.same ∙ left.none) ∙ none_listed (values_by inner (more_at inner) mid), refl)

pub list-values-preserved : goal.list-values-preserved
list-values-preserved t c =
    let inner = message_at c.args.braces in
    let first = remaining c.eat.new.self in
    let here = remaining c.values.tokens in
    let mid = remaining c.value.new.tokens in
    let closed = remaining c.eat-in-values.new.self in
    let last = remaining c.eat-in-values-2.new.self in
    let inv = c.values.invariant in
    let w = c.in_ok-value.ensures.read in
    let left = untaken_sign 93 mid closed c.eat-in-values.result c.eat-in-values.ensures.found (sym c.is_some-in-values.ensures ∙ c.if-is_some-2.false) c.eat-in-values.ensures.behind in
    let it = taken_sign 44 closed last c.eat-in-values-2.result c.eat-in-values-2.ensures.found c.if-is_none.ensures c.eat-in-values-2.ensures.behind in
    let items : c.push.new.self.items ≡ c.values.values.items ++ c.in_ok-value.value ∷ [] = search rules in
    let step = values_next inner (more_is inner (message_shorter c.args.braces)) here mid w.0 it.span w.1 left.none (ap (sign_bytes 44) (sym left.same) ∙ it.there) in
    let one_more = more_values w.0 no_values in (
      omega (arith, c.eat-in-values-2.ensures.more, c.eat-in-values.ensures.more, c.in_ok-value.ensures.taken, inv.0),
      joined inv.1 one_more,
      subst (AreValues (joined inv.1 one_more) c.args.kind) (sym items) (values_on inv.1 w.0 c.args.kind c.values.values.items c.in_ok-value.value inv.2 w.2),
      inv.3 ∙ ap (listed_on inv.1) (step ∙ ap (λ l. listed_on one_more (values_by inner (more_at inner) l)) (ap behind (sym left.same) ∙ sym it.rest)) ∙ listed_twice inv.1 one_more (values_by inner (more_at inner) last),
      subst (λ l. ListBegins inner first (joined inv.1 one_more) l) (ap behind (sym left.same) ∙ sym it.rest)
          (list_on inner first inv.1 here mid w.0 it.span inv.4 w.1 (ap (sign_bytes 44) (sym left.same) ∙ it.there)),
    )

pub list-returns-in_err-value-clause-cause : goal.list-returns-in_err-value-clause-cause
list-returns-in_err-value-clause-cause t c =
    let inner = message_at c.args.braces in
    let ls = remaining c.args.tokens.now in
    let here = remaining c.values.tokens in
    let inv = c.values.invariant in
    let left = untaken_sign 93 ls (remaining c.eat.new.self) c.eat.result c.eat.ensures.found (sym c.is_some.ensures ∙ c.if-is_some.false) c.eat.ensures.behind in
    passes _ _ c.from_residual.result c.in_err-value.field-0.0 c.from_residual.ensures.1
    (λ u vs rest h.
    let b = behind_values inv.1 (values_by inner (more_at inner) here) rest vs (sym inv.3 ∙ ap (list_at inner) left.same ∙ h) in
    let f = first_value inner here rest b.more b.there in
    subst (λ vs. AreUnfitValues vs c.args.kind) b.same (unfit_values_on inv.1 b.more c.args.kind
    (subst (λ vs. AreUnfitValues vs c.args.kind) f.same (inl (u f.value f.next f.there))))) c.in_err-value.ensures.cause

pub list-returns-then-is_some-2-clause-read : goal.list-returns-then-is_some-2-clause-read
list-returns-then-is_some-2-clause-read t c =
    let inner = message_at c.args.braces in
    let ls = remaining c.args.tokens.now in
    let here = remaining c.values.tokens in
    let mid = remaining c.value.new.tokens in
    let last = remaining c.eat-in-values.new.self in
    let inv = c.values.invariant in
    let w = c.in_ok-value.ensures.read in
    let left = untaken_sign 93 ls (remaining c.eat.new.self) c.eat.result c.eat.ensures.found (sym c.is_some.ensures ∙ c.if-is_some.false) c.eat.ensures.behind in
    let it = taken_sign 93 mid last c.eat-in-values.result c.eat-in-values.ensures.found (sym c.is_some-in-values.ensures ∙ c.if-is_some-2.true) c.eat-in-values.ensures.behind in
    let items : c.push.new.self.items ≡ c.values.values.items ++ c.in_ok-value.value ∷ [] = search rules in
    let step = values_over inner (more_is inner (message_shorter c.args.braces)) here mid w.0 it.span w.1 it.there in
    let all = joined inv.1 (more_values w.0 no_values) in (
      all,
      ap (list_at inner) (sym left.same) ∙ inv.3 ∙ ap (listed_on inv.1) step ∙ ap (λ l. let it : Read Values = Some (all, l) in it) (sym it.rest),
      subst (AreValues all c.args.kind) (sym items) (values_on inv.1 w.0 c.args.kind c.values.values.items c.in_ok-value.value inv.2 w.2),
    )

pub list-returns-then-is_none-clause-cause : goal.list-returns-then-is_none-clause-cause
list-returns-then-is_none-clause-cause t c =
    let inner = message_at c.args.braces in
    let ls = remaining c.args.tokens.now in
    let here = remaining c.values.tokens in
    let mid = remaining c.value.new.tokens in
    let closed = remaining c.eat-in-values.new.self in
    let inv = c.values.invariant in
    let w = c.in_ok-value.ensures.read in
    let left = untaken_sign 93 ls (remaining c.eat.new.self) c.eat.result c.eat.ensures.found (sym c.is_some.ensures ∙ c.if-is_some.false) c.eat.ensures.behind in
    let none = untaken_sign 93 mid closed c.eat-in-values.result c.eat-in-values.ensures.found (sym c.is_some-in-values.ensures ∙ c.if-is_some-2.false) c.eat-in-values.ensures.behind in
    let further = untaken_sign 44 closed (remaining c.eat-in-values-2.new.self) c.eat-in-values-2.result c.eat-in-values-2.ensures.found c.if-is_none.ensures c.eat-in-values-2.ensures.behind in
    let stop = values_stop inner (more_is inner (message_shorter c.args.braces)) here mid w.0 w.1 none.none (ap (sign_bytes 44) (sym none.same) ∙ further.none) in
    cause _ c.refuse.result (λ vs rest h. unread (list_at inner ls) (λ vs. AreUnfitValues vs c.args.kind)
    (ap (list_at inner) (sym left.same) ∙ inv.3 ∙ ap (listed_on inv.1) stop) vs rest h)

-- ---- what is told

pub field-returns-in_err-name-clause-told : goal.field-returns-in_err-name-clause-told
field-returns-in_err-name-clause-told t c =
    let n = c.args.braces in
    let ls = remaining c.args.tokens.now in
    let k = c.in_err-name.field-0.0 in
    let read = seen_as text_and_bytes (name_at ls) in
    told_on (TellsStop read) (FieldFault n (MessageFault n) c.args.message.now ls) c.from_residual.result k c.from_residual.ensures.1
    (λ h. inl (tells_unseen text_and_bytes (name_at ls) k h))
    (reading_told view_and_bytes read k (remaining c.name.new.self) c.in_err-name.ensures.read)

pub field-returns-in_err-separator-clause-told : goal.field-returns-in_err-separator-clause-told
field-returns-in_err-separator-clause-told t c =
    let n = c.args.braces in
    let ls = remaining c.args.tokens.now in
    let named = remaining c.name.new.self in
    let there = name_there ls named _ c.in_ok-name.ensures.read in
    let k = c.in_err-separator.field-0.0 in
    let r = c.from_residual-in_err-separator in
    told_on (TellsStop (separator_at named)) (FieldFault n (MessageFault n) c.args.message.now ls) r.result k r.ensures.1
    (λ h. inr ((there.0, _), named, there.1, inl h))
    (reading_told (λ x. x) (separator_at named) k (remaining c.separator.new.self) c.in_err-separator.ensures.read)

pub field-returns-in_err-named_value-clause-told : goal.field-returns-in_err-named_value-clause-told
field-returns-in_err-named_value-clause-told t c =
    let n = c.args.braces in
    let ls = remaining c.args.tokens.now in
    let named = remaining c.name.new.self in
    let parted = remaining c.separator.new.self in
    let there = name_there ls named _ c.in_ok-name.ensures.read in
    let k = c.in_err-named_value.field-0.0 in
    let r = c.from_residual-in_err-named_value in
    told_on (NamedFault n (MessageFault n) there.0 _ c.args.message.now parted) (FieldFault n (MessageFault n) c.args.message.now ls) r.result k r.ensures.1
    (λ h. inr ((there.0, _), named, there.1, inr (parted, c.in_ok-separator.ensures.read, h)))
    (c.in_err-named_value.ensures.told there.0 there.2)

pub named_value-returns-in_err-target-in-Field-clause-told :
    goal.named_value-returns-in_err-target-in-Field-clause-told
named_value-returns-in_err-target-in-Field-clause-told t c = λ n same.
    let b = c.args.braces in
    let m = c.args.message.now in
    let w = c.in-Field.name.now in
    let fault = c.in_err-target-in-Field in
    let k = fault.field-0.0 in
    let Named : FieldName → ParseErrorKind → Type 0 = λ n k. NamedFault b (MessageFault b) n c.args.span m (remaining c.args.tokens.now) k in
    told_on (λ e. place_of e ≡ Some c.args.span) (Named n) c.from_residual.result k c.from_residual.ensures.1
    (λ place. plain_only (λ n. Named n k) n w (same ∙ ap name_view c.in-Field.is)
    (inl (subst (λ d. RefusesField d w k) c.descriptor-descriptor.ensures fault.ensures.refused, place)))
    fault.ensures.placed

pub named_value-returns-in_err-target-in-Extension-clause-told :
    goal.named_value-returns-in_err-target-in-Extension-clause-told
named_value-returns-in_err-target-in-Extension-clause-told t c = λ n same.
    let b = c.args.braces in
    let m = c.args.message.now in
    let w = string_bytes c.in-Extension.name in
    let fault = c.in_err-target-in-Extension in
    let k = fault.field-0.0 in
    let r = c.from_residual-in_err-target-in-Extension in
    let Named : FieldName → ParseErrorKind → Type 0 = λ n k. NamedFault b (MessageFault b) n c.args.span m (remaining c.args.tokens.now) k in
    told_on (λ e. ExtensionFault c.descriptor-descriptor.result w e × (place_of e ≡ Some c.args.span)) (Named n) r.result k r.ensures.1
    (λ h. extension_only (λ n. Named n k) n w (same ∙ ap name_view c.in-Extension.is)
    (λ e is. inl (subst (λ x. ExtensionFault m.descriptor x k) (sym is) (subst (λ d. ExtensionFault d w k) c.descriptor-descriptor.ensures h.0), h.1)))
    (both_told (ExtensionFault c.descriptor-descriptor.result w) (λ e. place_of e ≡ Some c.args.span) k fault.ensures.told fault.ensures.placed)

pub named_value-returns-in_ok-target-in-Field-clause-told :
    goal.named_value-returns-in_ok-target-in-Field-clause-told
named_value-returns-in_ok-target-in-Field-clause-told t c = λ n same.
    let b = c.args.braces in
    let m = c.args.message.now in
    let target = c.in_ok-target-in-Field.target in
    let w = c.in-Field.name.now in
    let named = subst (λ d. NamesField d w target) c.descriptor-descriptor.ensures c.in_ok-target-in-Field.ensures.named in
    IfErr-weaker c.assignment.result _ _ (λ k h. cause_of _ _ k
    (λ a. plain_only (λ n. NamedFault b (MessageFault b) n c.args.span m (remaining c.args.tokens.now) k) n w (same ∙ ap name_view c.in-Field.is) (inr (target, named, a))) h)
    c.assignment.ensures.told

pub named_value-returns-in_ok-target-in-Extension-clause-told :
    goal.named_value-returns-in_ok-target-in-Extension-clause-told
named_value-returns-in_ok-target-in-Extension-clause-told t c = λ n same.
    let b = c.args.braces in
    let m = c.args.message.now in
    let target = c.in_ok-target-in-Extension.target in
    let w = string_bytes c.in-Extension.name in
    let named = subst (λ d. NamesExtension d w target) c.descriptor-descriptor.ensures c.in_ok-target-in-Extension.ensures.named in
    IfErr-weaker c.assignment-in-Extension.result _ _ (λ k h. cause_of _ _ k
    (λ a. extension_only (λ n. NamedFault b (MessageFault b) n c.args.span m (remaining c.args.tokens.now) k) n w (same ∙ ap name_view c.in-Extension.is)
    (λ e is. inr (target, subst (λ x. NamesExtension m.descriptor x target) (sym is) named, a))) h)
    c.assignment-in-Extension.ensures.told

pub named_value-returns-in-Any-clause-told : goal.named_value-returns-in-Any-clause-told
named_value-returns-in-Any-clause-told t c = λ n same.
    let b = c.args.braces in
    let m = c.args.message.now in
    let ls = remaining c.args.tokens.now in
    let name = c.in-Any.name in
    IfErr-weaker c.expansion.result _ _ (λ k h. cause_of _ _ k
    (λ a. expansion_only (λ n. NamedFault b (MessageFault b) n c.args.span m ls k) n (string_bytes name.domain) (string_bytes name.message) (same ∙ ap name_view c.in-Any.is)
    (λ d e is was. subst (λ x. ExpansionFault b (MessageFault b) x c.args.span m ls k) (sym was) a)) h)
    c.expansion.ensures.told

pub assignment-returns-in_err-values-clause-told : goal.assignment-returns-in_err-values-clause-told
assignment-returns-in_err-values-clause-told t c =
    let b = c.args.braces in
    let ls = remaining c.args.tokens.now in
    told_on (GivenFault b (MessageFault b) c.kind.result ls (sign_bytes 91 ls)) (AssignmentFault b (MessageFault b) c.args.target c.args.message.now ls) c.from_residual.result c.in_err-values.field-0.0 c.from_residual.ensures.1
    (λ h. (c.kind.result, c.kind.ensures, inl (sym c.holds_many.ensures ∙ c.if-holds_many.true, h)))
    c.in_err-values.ensures.told

pub assignment-returns-in_err-add-clause-told : goal.assignment-returns-in_err-add-clause-told
assignment-returns-in_err-add-clause-told t c =
    told_memory _ c.from_residual-in_err-add.result c.from_residual-in_err-add.ensures.1

pub assignment-returns-in_err-value-clause-told : goal.assignment-returns-in_err-value-clause-told
assignment-returns-in_err-value-clause-told t c =
    let b = c.args.braces in
    let ls = remaining c.args.tokens.now in
    let r = c.from_residual-in_err-value in
    told_on (ValueFault (MessageFault b) c.kind-2.result ls) (AssignmentFault b (MessageFault b) c.args.target c.args.message.now ls) r.result c.in_err-value.field-0.0 r.ensures.1
    (λ h. (c.kind-2.result, c.kind-2.ensures, inr (sym c.holds_many.ensures ∙ c.if-holds_many.false, inl h)))
    c.in_err-value.ensures.told

pub assignment-returns-in_err-refuse_second-clause-told :
    goal.assignment-returns-in_err-refuse_second-clause-told
assignment-returns-in_err-refuse_second-clause-told t c =
    let b = c.args.braces in
    let ls = remaining c.args.tokens.now in
    let m = c.args.message.now in
    let value = c.in_ok-value in
    let w = value.ensures.read in
    let r = c.from_residual-in_err-refuse_second in
    told_on (λ e. SecondFault m c.args.target e × (place_of e ≡ Some value.span)) (AssignmentFault b (MessageFault b) c.args.target m ls) r.result c.in_err-refuse_second.field-0.0 r.ensures.1
    (λ h. (
      c.kind-2.result,
      c.kind-2.ensures,
      inr (sym c.holds_many.ensures ∙ c.if-holds_many.false, inr (remaining c.value.new.tokens, (w.0, value.value, w.1, w.2), value.span, value.ensures.bytes, h.0, h.1)),
    ))
    c.in_err-refuse_second.ensures.told

pub assignment-returns-in_err-set-clause-told : goal.assignment-returns-in_err-set-clause-told
assignment-returns-in_err-set-clause-told t c =
    told_memory _ c.from_residual-in_err-set.result c.from_residual-in_err-set.ensures.1

pub values-returns-then-is_some-clause-told : goal.values-returns-then-is_some-clause-told
values-returns-then-is_some-clause-told t c =
    let b = c.args.braces in
    let k = c.args.kind in
    let ls = remaining c.args.tokens.now in
    let mid = remaining c.eat.new.self in
    let it = taken_sign 91 ls mid c.eat.result c.eat.ensures.found (sym c.is_some.ensures ∙ c.if-is_some.true) c.eat.ensures.behind in
    IfErr-weaker c.list.result _ _ (λ e h. cause_of _ _ e
    (λ a. subst (λ o. GivenFault b (MessageFault b) k ls o e) (sym it.there)
    (subst (λ l. ListFault b (MessageFault b) k l e) it.rest a)) h)
    c.list.ensures.told

pub values-returns-in_err-value-clause-told : goal.values-returns-in_err-value-clause-told
values-returns-in_err-value-clause-told t c =
    let b = c.args.braces in
    let k = c.args.kind in
    let ls = remaining c.args.tokens.now in
    let mid = remaining c.eat.new.self in
    let e = c.in_err-value.field-0.0 in
    let left = untaken_sign 91 ls mid c.eat.result c.eat.ensures.found (sym c.is_some.ensures ∙ c.if-is_some.false) c.eat.ensures.behind in
    told_on (ValueFault (MessageFault b) k mid) (GivenFault b (MessageFault b) k ls (sign_bytes 91 ls)) c.from_residual.result e c.from_residual.ensures.1
    (λ h. subst (λ o. GivenFault b (MessageFault b) k ls o e) (sym left.none)
    (subst (λ l. ValueFault (MessageFault b) k l e) left.same h))
    c.in_err-value.ensures.told

pub values-returns-in_err-push-clause-told : goal.values-returns-in_err-push-clause-told
values-returns-in_err-push-clause-told t c =
    told_memory _ c.from_residual-in_err-push.result c.from_residual-in_err-push.ensures.1

pub list-returns-in_err-value-clause-told : goal.list-returns-in_err-value-clause-told
list-returns-in_err-value-clause-told t c =
    let b = c.args.braces in
    let k = c.args.kind in
    let ls = remaining c.args.tokens.now in
    let here = remaining c.values.tokens in
    let inv = c.values.invariant in
    let left = untaken_sign 93 ls (remaining c.eat.new.self) c.eat.result c.eat.ensures.found (sym c.is_some.ensures ∙ c.if-is_some.false) c.eat.ensures.behind in
    told_on (ValueFault (MessageFault b) k here) (ListFault b (MessageFault b) k ls) c.from_residual.result c.in_err-value.field-0.0 c.from_residual.ensures.1
    (λ h. (left.none, inv.1, c.values.values.items, inv.2, here, subst (λ l. ListBegins (message_at b) l inv.1 here) left.same inv.4, inl h))
    c.in_err-value.ensures.told

pub list-returns-in_err-push-clause-told : goal.list-returns-in_err-push-clause-told
list-returns-in_err-push-clause-told t c =
    told_memory _ c.from_residual-in_err-push.result c.from_residual-in_err-push.ensures.1

pub list-returns-then-is_none-clause-told : goal.list-returns-then-is_none-clause-told
list-returns-then-is_none-clause-told t c =
    let b = c.args.braces in
    let ls = remaining c.args.tokens.now in
    let here = remaining c.values.tokens in
    let mid = remaining c.value.new.tokens in
    let closed = remaining c.eat-in-values.new.self in
    let inv = c.values.invariant in
    let w = c.in_ok-value.ensures.read in
    let left = untaken_sign 93 ls (remaining c.eat.new.self) c.eat.result c.eat.ensures.found (sym c.is_some.ensures ∙ c.if-is_some.false) c.eat.ensures.behind in
    let none = untaken_sign 93 mid closed c.eat-in-values.result c.eat-in-values.ensures.found (sym c.is_some-in-values.ensures ∙ c.if-is_some-2.false) c.eat-in-values.ensures.behind in
    let further = untaken_sign 44 closed (remaining c.eat-in-values-2.new.self) c.eat-in-values-2.result c.eat-in-values-2.ensures.found c.if-is_none.ensures c.eat-in-values-2.ensures.behind in
    cause (ListFault b (MessageFault b) c.args.kind ls c.refuse.result) c.refuse.result (
      left.none,
      inv.1,
      c.values.values.items,
      inv.2,
      here,
      subst (λ l. ListBegins (message_at b) l inv.1 here) left.same inv.4,
      inr (mid, (w.0, c.in_ok-value.value, w.1, w.2), none.none, ap (sign_bytes 44) (sym none.same) ∙ further.none, subst (λ l. IsUnexpected (codes "',' or ']'") l c.refuse.result) (further.same ∙ none.same) c.refuse.ensures.told),
    )

pub expansion-returns-in_default-clause-told : goal.expansion-returns-in_default-clause-told
expansion-returns-in_default-clause-told t c =
    let none : FindsMessage c.args.message.now.descriptor.pool.now (string_bytes c.args.name.message) None = search rules in
    cause _ c.unknown_message.result (inl (none, c.unknown_message.ensures.told, c.unknown_message.ensures.placed))

pub expansion-returns-in_err-body-clause-told : goal.expansion-returns-in_err-body-clause-told
expansion-returns-in_err-body-clause-told t c =
    let b = c.args.braces in
    let ls = remaining c.args.tokens.now in
    let pool : c.in-Some.kind.pool.now ≡ c.args.message.now.descriptor.pool.now = search rules in
    let finds : FindsMessage c.args.message.now.descriptor.pool.now (string_bytes c.args.name.message) (Some c.in-Some.kind) = search rules in
    told_on (MessageFault b c.in-Some.kind ls) (ExpansionFault b (MessageFault b) (string_bytes c.args.name.message) c.args.span c.args.message.now ls) c.from_residual.result c.in_err-body.field-0.0 c.from_residual.ensures.1
    (λ h. inr (c.in-Some.kind, pool, finds, inl h))
    c.in_err-body.ensures.told

pub expansion-returns-clause-told : goal.expansion-returns-clause-told
expansion-returns-clause-told t c =
    let pool : c.in-Some.kind.pool.now ≡ c.args.message.now.descriptor.pool.now = search rules in
    let finds : FindsMessage c.args.message.now.descriptor.pool.now (string_bytes c.args.name.message) (Some c.in-Some.kind) = search rules in
    let w = c.in_ok-body.ensures.made in
    IfErr-weaker c.hold.result _ _ (λ k h. cause_of _ _ k
    (λ a. inr (c.in-Some.kind, pool, finds, inr (w.0, remaining c.message_value.new.tokens, w.1, c.in_ok-body.body, w.2, a.0, a.1))) h)
    c.hold.ensures.told

pub value-returns-in_err-message-in-Message-clause-told :
    goal.value-returns-in_err-message-in-Message-clause-told
value-returns-in_err-message-in-Message-clause-told t c =
    let b = c.args.braces in
    let ls = remaining c.args.tokens.now in
    let fault = c.in_err-message-in-Message in
    let k = fault.field-0.0 in
    told_on (MessageFault b c.in-Message.descriptor ls) (ValueFault (MessageFault b) c.args.kind ls) c.from_residual.result k c.from_residual.ensures.1
    (λ h. subst (λ x. ValueFault (MessageFault b) x ls k) (sym c.in-Message.is) h)
    fault.ensures.told

pub value-returns-in_ok-message-in-Message-clause-bytes :
    goal.value-returns-in_ok-message-in-Message-clause-bytes
value-returns-in_ok-message-in-Message-clause-bytes t c =
    subst (λ x. ValueBytes c.args.braces x (remaining c.args.tokens.now) c.in_ok-message-in-Message.span) (sym c.in-Message.is)
    c.in_ok-message-in-Message.ensures.bytes

pub value-returns-in_default-clause-told : goal.value-returns-in_default-clause-told
value-returns-in_default-clause-told t c =
    scalar_told (MessageFault c.args.braces) c.args.kind (remaining c.args.tokens.now) (remaining c.scalar_value.new.tokens) c.scalar_value.result c.in_default.not-Message c.scalar_value.ensures.read c.scalar_value.ensures.told

pub value-returns-in_default-clause-bytes : goal.value-returns-in_default-clause-bytes
value-returns-in_default-clause-bytes t c =
    scalar_bytes c.args.braces c.args.kind (remaining c.args.tokens.now) (remaining c.scalar_value.new.tokens) c.scalar_value.result c.in_default.not-Message c.scalar_value.ensures.read

pub message_value-returns-in_default-clause-told :
    goal.message_value-returns-in_default-clause-told
message_value-returns-in_default-clause-told t c =
    let ls = remaining c.args.tokens.now in
    let none = sym c.open_brace.ensures.found ∙ c.in_default.is in
    let same : remaining c.open_brace.new.self ≡ ls = search rules in
    cause _ c.refuse.result (brace_told c.args.braces c.args.descriptor ls c.refuse.result none
    (subst (λ l. IsUnexpected (codes "'{' or '<'") l c.refuse.result) same c.refuse.ensures.told))

pub message_value-returns-then-braces-eq0-clause-told :
    goal.message_value-returns-then-braces-eq0-clause-told
message_value-returns-then-braces-eq0-clause-told t c =
    let brace = sym c.open_brace.ensures.found ∙ c.in-Some.is in
    depth_told c.args.braces c.args.descriptor (remaining c.args.tokens.now) (c.in-Some.open, c.in-Some.closing) c.if-braces-eq0.true brace

pub message_value-returns-in_err-close-clause-told :
    goal.message_value-returns-in_err-close-clause-told
message_value-returns-in_err-close-clause-told t c =
    let n = c.args.braces in
    let ls = remaining c.args.tokens.now in
    let count : n ≡ suc (n - 1) = omega (arith, c.if-braces-eq0.false) in
    let brace = sym c.open_brace.ensures.found ∙ c.in-Some.is in
    let after : remaining c.open_brace.new.self ≡ behind ls = search rules in
    let blank = c.new-message.result in
    let closing = c.in-Some.closing in
    let k = c.in_err-close.field-0.0 in
    told_on (BodyFault (n - 1) (MessageFault (n - 1)) closing blank (remaining c.open_brace.new.self)) (MessageFault n c.args.descriptor ls) c.from_residual.result k c.from_residual.ensures.1
    (λ h. body_told n (n - 1) c.args.descriptor ls (c.in-Some.open, closing) k count brace
    (blank, c.new-message.ensures.same_type, c.new-message.ensures.empty, subst (λ l. BodyFault (n - 1) (MessageFault (n - 1)) closing blank l k) after h))
    c.in_err-close.ensures.told

pub message_value-returns-clause-bytes : goal.message_value-returns-clause-bytes
message_value-returns-clause-bytes t c =
    let n = c.args.braces in
    let ls = remaining c.args.tokens.now in
    let brace = sym c.open_brace.ensures.found ∙ c.in-Some.is in
    let after : remaining c.open_brace.new.self ≡ behind ls = search rules in
    let closing = c.in-Some.closing in
    let close = c.in_ok-close.close in
    ((c.in-Some.open, closing), brace, close, subst (λ l. ClosesAt (n - 1) closing l close) after c.in_ok-close.ensures.closed, c.across.ensures)

pub fields_to_brace-returns-in-Some-clause-closed :
    goal.fields_to_brace-returns-in-Some-clause-closed
fields_to_brace-returns-in-Some-clause-closed t c =
    let here = remaining c.fields.tokens in
    let inv = c.fields.invariant in
    let found : sign_bytes (closing c.args.closing) here ≡ Some c.in-Some.close = search rules in
    (inv.2, here, inv.3, found)

pub fields_to_brace-returns-then-not-is_at_name-clause-told :
    goal.fields_to_brace-returns-then-not-is_at_name-clause-told
fields_to_brace-returns-then-not-is_at_name-clause-told t c =
    let here = remaining c.fields.tokens in
    let inv = c.fields.invariant in
    let same : remaining c.eat.new.self ≡ here = search rules in
    let missing : sign_bytes (closing c.args.closing) here ≡ None = search rules in
    let nameless : begins_name here ≡ false = search rules in
    cause _ c.refuse.result (
      inv.2,
      here,
      c.fields.message,
      inv.3,
      inv.4,
      missing,
      inl (nameless, subst (λ w. IsUnexpected w here c.refuse.result) c.expected.ensures (subst (λ l. IsUnexpected c.expected.result.now l c.refuse.result) same c.refuse.ensures.told)),
    )

pub fields_to_brace-returns-in_err-field-clause-told :
    goal.fields_to_brace-returns-in_err-field-clause-told
fields_to_brace-returns-in_err-field-clause-told t c =
    let n = c.args.braces in
    let ls = remaining c.args.tokens.now in
    let here = remaining c.fields.tokens in
    let mid = remaining c.eat.new.self in
    let inv = c.fields.invariant in
    let same : mid ≡ here = search rules in
    let missing : sign_bytes (closing c.args.closing) here ≡ None = search rules in
    let named : begins_name here ≡ true = search rules in
    let k = c.in_err-field.field-0.0 in
    told_on (FieldFault n (MessageFault n) c.fields.message mid) (BodyFault n (MessageFault n) c.args.closing c.args.message.now ls) c.from_residual.result k c.from_residual.ensures.1
    (λ h. (inv.2, here, c.fields.message, inv.3, inv.4, missing, inr (named, subst (λ l. FieldFault n (MessageFault n) c.fields.message l k) same h)))
    c.in_err-field.ensures.told
