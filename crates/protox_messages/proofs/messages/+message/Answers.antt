use Rattle.protox_declarations.specs.EnumGrammar.{enumeration}
use Rattle.protox_fields.proofs.FieldParts.{field_parts}
use Rattle.protox_fields.proofs.Flat.{flat_behind, flat_refused}
use Rattle.protox_fields.proofs.Heads.{head_behind, head_refused}
use Rattle.protox_fields.proofs.NumberedName.{numbered_behind, numbered_refused}
use Rattle.protox_fields.specs.FieldGrammar.{label}
use Rattle.protox_fields.specs.StatementGrammar.{oneof_head, extend_head}
use Rattle.protox_lex.specs.Token.{ident, sign}
use Rattle.protox_lex.specs.declared.span.Span.{Span}
use Rattle.protox_messages.proofs.Blocks.{unopened, too_many, in_braces}
use Rattle.protox_messages.proofs.MessageLaws.{item_turns, member_turns, added_turns, Local-block, Moves-block, Moves-message, Moves-group, Moves-field, Moves-member, Moves-oneof, Moves-added, Moves-extend, Moves-item}
use Rattle.protox_messages.proofs.Parts.{message_parts, oneof_parts, extend_parts, item_message_is, item_enum_is, item_extend_is, item_oneof_is, item_field_is, item_empty_is, member_field_is, member_option_is, member_empty_is, added_field_is, added_empty_is}
use Rattle.protox_messages.specs.MessageGrammar.{block, group_with, field_with, message_with, item_with, items_with, inside_with, member_with, members_with, oneof_with, added_with, all_added_with, extend_with, group_if, Block}
use Rattle.protox_options.proofs.Behind.{Answers, behind, refused, last, moved}
use Rattle.protox_options.proofs.Choices.{chosen, passed}
use Rattle.protox_options.proofs.Turns.{turn_goes, turns_end, turn_stops}
use Rattle.protox_options.specs.NameGrammar.{type_name}
use Rattle.protox_options.specs.OptionGrammar.{option}
use Rattle.protox_tokens.proofs.Loops.{none_before}
use Rattle.protox_tokens.specs.Parser.{Outcome, Parser, ◌>>=◌, expect, eat, sees, word}
use Rattle.protox_tokens.specs.Reads.{Fails, Reads}
use Rattle.protox_tokens.specs.Span.{across}
use Rattle.protox_tokens.specs.Stream.{Stream, stream, source, peek, span_of}
use Rattle.protox_tree.specs.Nest.{Field, Kind, message, items_of, item_field, item_oneof, item_message, item_enum, item_extend, item_empty, field, group, a_group, oneof, members_of, member_field, member_option, member_empty, extend, added_of, added_field, added_empty}
use Rattle.protox_tree.specs.NestView.{message_view, item_view, items_view, field_view, oneof_view, member_view, members_view, extend_view, added_view, added_items_view}
use Rattle.protox_tree.specs.View.{ident_view, type_name_view, option_list_view, option_view, enum_view}
use Rattle.std.proofs.Common.{◌≡◌, ◌++◌, ◌-◌, ◌∷◌, [], ◌∙◌, ap, sym, arith, refl, rules, subst, Ok}
use Rattle.std.proofs.lemmas.List.{map_push}
use Rattle.std.proofs.lemmas.Result.{err_from_is_err_and}
use Rattle.std.specs.Prelude.{codes, option_map}
use Rattle.protox_lex.specs.declared.token.Sign.TheVariants as s
use Rattle.protox_messages.proofs.messages.+message.Goals as goal

pub block-returns-in_err-open : goal.block-returns-in_err-open
block-returns-in_err-open t c =
    let p = err_from_is_err_and c.from_residual.result c.from_residual.ensures.1 in
    let e = c.in_err-open.field-0.0 in
    let h : Answers (Fails e) (block c.args.levels) (stream c.args.tokens.now) =
    unopened c.args.levels e c.in_err-open.ensures.reads in
    rw (p.1, p.2) (record { reads = h.so; moves = tt })

pub block-returns-then-levels-eq0 : goal.block-returns-then-levels-eq0
block-returns-then-levels-eq0 t c =
    record { reads = (too_many c.args.levels c.if-levels-eq0.true c.in_ok-open.ensures.reads).so; moves = tt }

pub block-items-init : goal.block-items-init
unfolding items_with
block-items-init t c = record { moves = search rules; so_far = rw c.new-items.ensures.items (none_before _) }

pub block-items-preserved : goal.block-items-preserved
block-items-preserved t c =
    let l = c.items in
    let inner = block (c.args.levels - 1) in
    let pushed : items_view c.push.new.self.items ≡ items_view l.items.items ++ item_view c.in_ok-item.item ∷ [] =
    rw c.in_ok-push.ensures.items (map_push _ l.items.items c.in_ok-item.item) in
    record {
      moves = omega (arith, l.invariant.moves, c.in_ok-item.ensures.moves);
      so_far = rw pushed (turn_goes (item_with inner) (item_turns inner (Local-block (c.args.levels - 1))) (items_view l.items.items) (stream l.tokens) l.invariant.so_far (sym c.sees_sign.ensures ∙ c.items-test.true) c.in_ok-item.ensures.reads);
    }

pub block-returns-in_err-item : goal.block-returns-in_err-item
unfolding inside_with
block-returns-in_err-item t c =
    let l = c.items in
    let inner = block (c.args.levels - 1) in
    let p = err_from_is_err_and c.from_residual-in_err-item.result c.from_residual-in_err-item.ensures.1 in
    let e = c.in_err-item.field-0.0 in
    let within : Answers (Fails e) (inside_with inner) (stream c.expect_sign.new.self) =
    refused (items_with inner) _ e (turn_stops (item_with inner) (item_turns inner (Local-block (c.args.levels - 1))) (items_view l.items.items) (stream l.tokens) l.invariant.so_far e (sym c.sees_sign.ensures ∙ c.items-test.true) c.in_err-item.ensures.reads) in
    let h : Answers (Fails e) (block c.args.levels) (stream c.args.tokens.now) =
    in_braces c.args.levels c.if-levels-eq0.false c.in_ok-open.ensures.reads (refused (inside_with inner) _ e within.so) in
    rw (p.1, p.2) (record { reads = h.so; moves = tt })

pub block-returns-in_err-close : goal.block-returns-in_err-close
unfolding inside_with
block-returns-in_err-close t c =
    let l = c.items in
    let inner = block (c.args.levels - 1) in
    let p = err_from_is_err_and c.from_residual-in_err-close.result c.from_residual-in_err-close.ensures.1 in
    let e = c.in_err-close.field-0.0 in
    let within : Answers (Fails e) (inside_with inner) (stream c.expect_sign.new.self) =
    behind (items_with inner) _ (turns_end (item_with inner) (item_turns inner (Local-block (c.args.levels - 1))) (items_view l.items.items) (stream l.tokens) l.invariant.so_far (sym c.sees_sign.ensures ∙ c.items-test.false)) (refused (expect (sign s.RightBrace)) _ e c.in_err-close.ensures.reads) in
    let h : Answers (Fails e) (block c.args.levels) (stream c.args.tokens.now) =
    in_braces c.args.levels c.if-levels-eq0.false c.in_ok-open.ensures.reads (refused (inside_with inner) _ e within.so) in
    rw (p.1, p.2) (record { reads = h.so; moves = tt })

pub block-returns : goal.block-returns
unfolding inside_with
block-returns t c =
    let l = c.items in
    let inner = block (c.args.levels - 1) in
    let within : Answers (λ o. o ≡ Ok ((items_view l.items.items, c.in_ok-close.close), stream c.expect_sign-2.new.self)) (inside_with inner) (stream c.expect_sign.new.self) =
    behind (items_with inner) _ (turns_end (item_with inner) (item_turns inner (Local-block (c.args.levels - 1))) (items_view l.items.items) (stream l.tokens) l.invariant.so_far (sym c.sees_sign.ensures ∙ c.items-test.false)) (behind (expect (sign s.RightBrace)) _ c.in_ok-close.ensures.reads (last _ refl)) in
    let h : Answers (λ o. o ≡ Ok ((items_view l.items.items, across c.in_ok-open.open c.in_ok-close.close), stream c.expect_sign-2.new.self)) (block c.args.levels) (stream c.args.tokens.now) =
    in_braces c.args.levels c.if-levels-eq0.false c.in_ok-open.ensures.reads (behind (inside_with inner) _ within.so (last _ refl)) in
    record { reads = rw c.across.ensures h.so; moves = (Moves-block c.args.levels).at _ _ _ h.so }

pub message-returns-in_err-first : goal.message-returns-in_err-first
unfolding message_with
message-returns-in_err-first t c =
    let p = err_from_is_err_and c.from_residual.result c.from_residual.ensures.1 in
    let e = c.in_err-first.field-0.0 in
    let h : Answers (Fails e) (message_with (block c.args.levels)) (stream c.args.tokens.now) =
    refused (expect (ident (codes "message"))) _ e c.in_err-first.ensures.reads in
    rw (p.1, p.2) (record { reads = h.so; moves = tt })

pub message-returns-in_err-name : goal.message-returns-in_err-name
unfolding message_with
message-returns-in_err-name t c =
    let p = err_from_is_err_and c.from_residual-in_err-name.result c.from_residual-in_err-name.ensures.1 in
    let e = c.in_err-name.field-0.0 in
    let h : Answers (Fails e) (message_with (block c.args.levels)) (stream c.args.tokens.now) =
    behind (expect (ident (codes "message"))) _ c.in_ok-first.ensures.reads (refused word _ e c.in_err-name.ensures.reads) in
    rw (p.1, p.2) (record { reads = h.so; moves = tt })

pub message-returns-in_err-items : goal.message-returns-in_err-items
unfolding message_with
message-returns-in_err-items t c =
    let p = err_from_is_err_and c.from_residual-in_err-items.result c.from_residual-in_err-items.ensures.1 in
    let e = c.in_err-items.field-0.0 in
    let h : Answers (Fails e) (message_with (block c.args.levels)) (stream c.args.tokens.now) =
    behind (expect (ident (codes "message"))) _ c.in_ok-first.ensures.reads (behind word _ c.in_ok-name.ensures.reads (refused (block c.args.levels) _ e c.in_err-items.ensures.reads)) in
    rw (p.1, p.2) (record { reads = h.so; moves = tt })

pub message-returns : goal.message-returns
unfolding message_with
message-returns t c =
    let h : Answers (λ o. o ≡ Ok (message (ident_view c.in_ok-name.name) c.in_ok-items.braces (items_of (items_view c.in_ok-items.items.items)) (across c.in_ok-first.first c.in_ok-items.braces), stream c.block.new.tokens)) (message_with (block c.args.levels)) (stream c.args.tokens.now) =
    behind (expect (ident (codes "message"))) _ c.in_ok-first.ensures.reads (behind word _ c.in_ok-name.ensures.reads (behind (block c.args.levels) _ c.in_ok-items.ensures.reads (last _ refl))) in
    record { reads = rw c.across.ensures (h.so ∙ ap (λ i. Ok (i, stream c.block.new.tokens)) (sym (message_parts _))); moves = (Moves-message (block c.args.levels) (Local-block c.args.levels)).at _ _ _ h.so }

pub group-returns-in_err-name : goal.group-returns-in_err-name
unfolding group_with
group-returns-in_err-name t c =
    let p = err_from_is_err_and c.from_residual.result c.from_residual.ensures.1 in
    let e = c.in_err-name.field-0.0 in
    let h : Answers (Fails e) (group_with (block c.args.levels) c.args.start c.args.label c.args.word) (stream c.args.tokens.now) =
    numbered_refused _ e c.in_err-name.ensures.reads in
    rw (p.1, p.2) (record { reads = h.so; moves = tt })

pub group-returns-in_err-items : goal.group-returns-in_err-items
unfolding group_with
group-returns-in_err-items t c =
    let p = err_from_is_err_and c.from_residual-in_err-items.result c.from_residual-in_err-items.ensures.1 in
    let e = c.in_err-items.field-0.0 in
    let h : Answers (Fails e) (group_with (block c.args.levels) c.args.start c.args.label c.args.word) (stream c.args.tokens.now) =
    numbered_behind _ c.in_ok-name.ensures.reads (refused (block c.args.levels) _ e c.in_err-items.ensures.reads) in
    rw (p.1, p.2) (record { reads = h.so; moves = tt })

pub group-returns : goal.group-returns
unfolding group_with
group-returns t c =
    let n = c.in_ok-name in
    let b = c.in_ok-items in
    let made : Kind → Field = λ k. field c.args.label k (ident_view n.name) n.number (option_map option_list_view n.options) (across c.args.start b.braces) in
    let h : Answers (λ o. o ≡ Ok (made (group (a_group c.args.word b.braces (items_of (items_view b.items.items)))), stream c.block.new.tokens)) (group_with (block c.args.levels) c.args.start c.args.label c.args.word) (stream c.args.tokens.now) =
    numbered_behind _ n.ensures.reads (behind (block c.args.levels) _ b.ensures.reads (last _ refl)) in
    record {
      reads = rw c.across.ensures (h.so ∙ ap (λ i. Ok (i, stream c.block.new.tokens)) (sym (field_parts _ ∙ ap made c.group_kind.ensures)));
      moves = (Moves-group (block c.args.levels) (Local-block c.args.levels) c.args.start c.args.label c.args.word).at _ _ _ h.so;
    }

pub oneof-returns-in_err-first : goal.oneof-returns-in_err-first
unfolding oneof_with oneof_head
oneof-returns-in_err-first t c =
    let p = err_from_is_err_and c.from_residual.result c.from_residual.ensures.1 in
    let e = c.in_err-first.field-0.0 in
    let h : Answers (Fails e) (oneof_with (block c.args.levels)) (stream c.args.tokens.now) =
    head_refused (ident (codes "oneof")) word _ e c.in_err-first.ensures.reads in
    rw (p.1, p.2) (record { reads = h.so; moves = tt })

pub oneof-items-init : goal.oneof-items-init
unfolding members_with
oneof-items-init t c = record { moves = search rules; so_far = rw c.new-items.ensures.items (none_before _) }

pub oneof-items-preserved : goal.oneof-items-preserved
oneof-items-preserved t c =
    let l = c.items in
    let inner = block c.args.levels in
    let pushed : members_view c.push.new.self.items ≡ members_view l.items.items ++ member_view c.in_ok-item.item ∷ [] =
    rw c.in_ok-push.ensures.items (map_push _ l.items.items c.in_ok-item.item) in
    record {
      moves = omega (arith, l.invariant.moves, c.in_ok-item.ensures.moves);
      so_far = rw pushed (turn_goes (member_with inner) (member_turns inner (Local-block c.args.levels)) (members_view l.items.items) (stream l.tokens) l.invariant.so_far (sym c.sees_sign.ensures ∙ c.items-test.true) c.in_ok-item.ensures.reads);
    }

pub oneof-returns-in_err-item : goal.oneof-returns-in_err-item
unfolding oneof_with oneof_head
oneof-returns-in_err-item t c =
    let l = c.items in
    let inner = block c.args.levels in
    let p = err_from_is_err_and c.from_residual-in_err-item.result c.from_residual-in_err-item.ensures.1 in
    let e = c.in_err-item.field-0.0 in
    let h : Answers (Fails e) (oneof_with (block c.args.levels)) (stream c.args.tokens.now) =
    head_behind (ident (codes "oneof")) word _ c.in_ok-first.ensures.reads (refused (members_with inner) _ e (turn_stops (member_with inner) (member_turns inner (Local-block c.args.levels)) (members_view l.items.items) (stream l.tokens) l.invariant.so_far e (sym c.sees_sign.ensures ∙ c.items-test.true) c.in_err-item.ensures.reads)) in
    rw (p.1, p.2) (record { reads = h.so; moves = tt })

pub oneof-returns-in_err-close : goal.oneof-returns-in_err-close
unfolding oneof_with oneof_head
oneof-returns-in_err-close t c =
    let l = c.items in
    let inner = block c.args.levels in
    let p = err_from_is_err_and c.from_residual-in_err-close.result c.from_residual-in_err-close.ensures.1 in
    let e = c.in_err-close.field-0.0 in
    let h : Answers (Fails e) (oneof_with (block c.args.levels)) (stream c.args.tokens.now) =
    head_behind (ident (codes "oneof")) word _ c.in_ok-first.ensures.reads (behind (members_with inner) _ (turns_end (member_with inner) (member_turns inner (Local-block c.args.levels)) (members_view l.items.items) (stream l.tokens) l.invariant.so_far (sym c.sees_sign.ensures ∙ c.items-test.false)) (refused (expect (sign s.RightBrace)) _ e c.in_err-close.ensures.reads)) in
    rw (p.1, p.2) (record { reads = h.so; moves = tt })

pub oneof-returns : goal.oneof-returns
unfolding oneof_with oneof_head
oneof-returns t c =
    let l = c.items in
    let inner = block c.args.levels in
    let h : Answers (λ o. o ≡ Ok (oneof (ident_view c.in_ok-first.name) (across c.in_ok-first.open c.in_ok-close.close) (members_of (members_view l.items.items)) (across c.in_ok-first.first c.in_ok-close.close), stream c.expect_sign.new.self)) (oneof_with (block c.args.levels)) (stream c.args.tokens.now) =
    head_behind (ident (codes "oneof")) word _ c.in_ok-first.ensures.reads (behind (members_with inner) _ (turns_end (member_with inner) (member_turns inner (Local-block c.args.levels)) (members_view l.items.items) (stream l.tokens) l.invariant.so_far (sym c.sees_sign.ensures ∙ c.items-test.false)) (behind (expect (sign s.RightBrace)) _ c.in_ok-close.ensures.reads (last _ refl))) in
    record { reads = rw (c.across.ensures, c.across-2.ensures) (h.so ∙ ap (λ i. Ok (i, stream c.expect_sign.new.self)) (sym (oneof_parts _))); moves = (Moves-oneof (block c.args.levels) (Local-block c.args.levels)).at _ _ _ h.so }

pub extend-returns-in_err-first : goal.extend-returns-in_err-first
unfolding extend_with extend_head
extend-returns-in_err-first t c =
    let p = err_from_is_err_and c.from_residual.result c.from_residual.ensures.1 in
    let e = c.in_err-first.field-0.0 in
    let h : Answers (Fails e) (extend_with (block c.args.levels)) (stream c.args.tokens.now) =
    head_refused (ident (codes "extend")) type_name _ e c.in_err-first.ensures.reads in
    rw (p.1, p.2) (record { reads = h.so; moves = tt })

pub extend-items-init : goal.extend-items-init
unfolding all_added_with
extend-items-init t c = record { moves = search rules; so_far = rw c.new-items.ensures.items (none_before _) }

pub extend-items-preserved : goal.extend-items-preserved
extend-items-preserved t c =
    let l = c.items in
    let inner = block c.args.levels in
    let pushed : added_items_view c.push.new.self.items ≡ added_items_view l.items.items ++ added_view c.in_ok-item.item ∷ [] =
    rw c.in_ok-push.ensures.items (map_push _ l.items.items c.in_ok-item.item) in
    record {
      moves = omega (arith, l.invariant.moves, c.in_ok-item.ensures.moves);
      so_far = rw pushed (turn_goes (added_with inner) (added_turns inner (Local-block c.args.levels)) (added_items_view l.items.items) (stream l.tokens) l.invariant.so_far (sym c.sees_sign.ensures ∙ c.items-test.true) c.in_ok-item.ensures.reads);
    }

pub extend-returns-in_err-item : goal.extend-returns-in_err-item
unfolding extend_with extend_head
extend-returns-in_err-item t c =
    let l = c.items in
    let inner = block c.args.levels in
    let p = err_from_is_err_and c.from_residual-in_err-item.result c.from_residual-in_err-item.ensures.1 in
    let e = c.in_err-item.field-0.0 in
    let h : Answers (Fails e) (extend_with (block c.args.levels)) (stream c.args.tokens.now) =
    head_behind (ident (codes "extend")) type_name _ c.in_ok-first.ensures.reads (refused (all_added_with inner) _ e (turn_stops (added_with inner) (added_turns inner (Local-block c.args.levels)) (added_items_view l.items.items) (stream l.tokens) l.invariant.so_far e (sym c.sees_sign.ensures ∙ c.items-test.true) c.in_err-item.ensures.reads)) in
    rw (p.1, p.2) (record { reads = h.so; moves = tt })

pub extend-returns-in_err-close : goal.extend-returns-in_err-close
unfolding extend_with extend_head
extend-returns-in_err-close t c =
    let l = c.items in
    let inner = block c.args.levels in
    let p = err_from_is_err_and c.from_residual-in_err-close.result c.from_residual-in_err-close.ensures.1 in
    let e = c.in_err-close.field-0.0 in
    let h : Answers (Fails e) (extend_with (block c.args.levels)) (stream c.args.tokens.now) =
    head_behind (ident (codes "extend")) type_name _ c.in_ok-first.ensures.reads (behind (all_added_with inner) _ (turns_end (added_with inner) (added_turns inner (Local-block c.args.levels)) (added_items_view l.items.items) (stream l.tokens) l.invariant.so_far (sym c.sees_sign.ensures ∙ c.items-test.false)) (refused (expect (sign s.RightBrace)) _ e c.in_err-close.ensures.reads)) in
    rw (p.1, p.2) (record { reads = h.so; moves = tt })

pub extend-returns : goal.extend-returns
unfolding extend_with extend_head
extend-returns t c =
    let l = c.items in
    let inner = block c.args.levels in
    let h : Answers (λ o. o ≡ Ok (extend (type_name_view c.in_ok-first.extendee) (across c.in_ok-first.open c.in_ok-close.close) (added_of (added_items_view l.items.items)) (across c.in_ok-first.first c.in_ok-close.close), stream c.expect_sign.new.self)) (extend_with (block c.args.levels)) (stream c.args.tokens.now) =
    head_behind (ident (codes "extend")) type_name _ c.in_ok-first.ensures.reads (behind (all_added_with inner) _ (turns_end (added_with inner) (added_turns inner (Local-block c.args.levels)) (added_items_view l.items.items) (stream l.tokens) l.invariant.so_far (sym c.sees_sign.ensures ∙ c.items-test.false)) (behind (expect (sign s.RightBrace)) _ c.in_ok-close.ensures.reads (last _ refl))) in
    record { reads = rw (c.across.ensures, c.across-2.ensures) (h.so ∙ ap (λ i. Ok (i, stream c.expect_sign.new.self)) (sym (extend_parts _))); moves = (Moves-extend (block c.args.levels) (Local-block c.args.levels)).at _ _ _ h.so }

pub item-returns-in-Some : goal.item-returns-in-Some
unfolding item_with
item-returns-in-Some t c =
    let h : Answers (λ o. o ≡ Ok (item_empty c.in-Some.span, stream c.eat_sign.new.self)) (item_with (block c.args.levels)) (stream c.args.tokens.now) =
    behind (eat (sign s.Semicolon)) _ c.in-Some.ensures.reads (last _ refl) in
    record { reads = h.so ∙ ap (λ i. Ok (i, stream c.eat_sign.new.self)) (sym (item_empty_is c.in-Some.span)); moves = (Moves-item (block c.args.levels) (Local-block c.args.levels)).at _ _ _ h.so }

pub item-returns-in_err-message : goal.item-returns-in_err-message
unfolding item_with
item-returns-in_err-message t c =
    let p = err_from_is_err_and c.from_residual.result c.from_residual.ensures.1 in
    let e = c.in_err-message.field-0.0 in
    let h : Answers (Fails e) (item_with (block c.args.levels)) (stream c.args.tokens.now) =
    behind (eat (sign s.Semicolon)) _ c.in_default.ensures.reads (chosen (sees (ident (codes "message"))) _ _ (sym c.sees.ensures ∙ c.if-sees.true) (refused (message_with (block c.args.levels)) _ e c.in_err-message.ensures.reads)) in
    rw (p.1, p.2) (record { reads = h.so; moves = tt })

pub item-returns-then-sees : goal.item-returns-then-sees
unfolding item_with
item-returns-then-sees t c =
    let h : Answers (λ o. o ≡ Ok (item_message (message_view c.in_ok-message.message), stream c.message.new.tokens)) (item_with (block c.args.levels)) (stream c.args.tokens.now) =
    behind (eat (sign s.Semicolon)) _ c.in_default.ensures.reads (chosen (sees (ident (codes "message"))) _ _ (sym c.sees.ensures ∙ c.if-sees.true) (behind (message_with (block c.args.levels)) _ c.in_ok-message.ensures.reads (last _ refl))) in
    record { reads = h.so ∙ ap (λ i. Ok (i, stream c.message.new.tokens)) (sym (item_message_is c.in_ok-message.message)); moves = (Moves-item (block c.args.levels) (Local-block c.args.levels)).at _ _ _ h.so }

pub item-returns-in_err-enumeration : goal.item-returns-in_err-enumeration
unfolding item_with
item-returns-in_err-enumeration t c =
    let p = err_from_is_err_and c.from_residual-in_err-enumeration.result c.from_residual-in_err-enumeration.ensures.1 in
    let e = c.in_err-enumeration.field-0.0 in
    let h : Answers (Fails e) (item_with (block c.args.levels)) (stream c.args.tokens.now) =
    behind (eat (sign s.Semicolon)) _ c.in_default.ensures.reads (passed (sees (ident (codes "message"))) _ _ (sym c.sees.ensures ∙ c.if-sees.false) (chosen (sees (ident (codes "enum"))) _ _ (sym c.sees-2.ensures ∙ c.if-sees-2.true) (refused enumeration _ e c.in_err-enumeration.ensures.reads))) in
    rw (p.1, p.2) (record { reads = h.so; moves = tt })

pub item-returns-then-sees-2 : goal.item-returns-then-sees-2
unfolding item_with
item-returns-then-sees-2 t c =
    let h : Answers (λ o. o ≡ Ok (item_enum (enum_view c.in_ok-enumeration.enumeration), stream c.enumeration.new.tokens)) (item_with (block c.args.levels)) (stream c.args.tokens.now) =
    behind (eat (sign s.Semicolon)) _ c.in_default.ensures.reads (passed (sees (ident (codes "message"))) _ _ (sym c.sees.ensures ∙ c.if-sees.false) (chosen (sees (ident (codes "enum"))) _ _ (sym c.sees-2.ensures ∙ c.if-sees-2.true) (behind enumeration _ c.in_ok-enumeration.ensures.reads (last _ refl)))) in
    record { reads = h.so ∙ ap (λ i. Ok (i, stream c.enumeration.new.tokens)) (sym (item_enum_is c.in_ok-enumeration.enumeration)); moves = (Moves-item (block c.args.levels) (Local-block c.args.levels)).at _ _ _ h.so }

pub item-returns-in_err-extend : goal.item-returns-in_err-extend
unfolding item_with
item-returns-in_err-extend t c =
    let p = err_from_is_err_and c.from_residual-in_err-extend.result c.from_residual-in_err-extend.ensures.1 in
    let e = c.in_err-extend.field-0.0 in
    let h : Answers (Fails e) (item_with (block c.args.levels)) (stream c.args.tokens.now) =
    behind (eat (sign s.Semicolon)) _ c.in_default.ensures.reads (passed (sees (ident (codes "message"))) _ _ (sym c.sees.ensures ∙ c.if-sees.false) (passed (sees (ident (codes "enum"))) _ _ (sym c.sees-2.ensures ∙ c.if-sees-2.false) (chosen (sees (ident (codes "extend"))) _ _ (sym c.sees-3.ensures ∙ c.if-sees-3.true) (refused (extend_with (block c.args.levels)) _ e c.in_err-extend.ensures.reads)))) in
    rw (p.1, p.2) (record { reads = h.so; moves = tt })

pub item-returns-then-sees-3 : goal.item-returns-then-sees-3
unfolding item_with
item-returns-then-sees-3 t c =
    let h : Answers (λ o. o ≡ Ok (item_extend (extend_view c.in_ok-extend.extend), stream c.extend.new.tokens)) (item_with (block c.args.levels)) (stream c.args.tokens.now) =
    behind (eat (sign s.Semicolon)) _ c.in_default.ensures.reads (passed (sees (ident (codes "message"))) _ _ (sym c.sees.ensures ∙ c.if-sees.false) (passed (sees (ident (codes "enum"))) _ _ (sym c.sees-2.ensures ∙ c.if-sees-2.false) (chosen (sees (ident (codes "extend"))) _ _ (sym c.sees-3.ensures ∙ c.if-sees-3.true) (behind (extend_with (block c.args.levels)) _ c.in_ok-extend.ensures.reads (last _ refl))))) in
    record { reads = h.so ∙ ap (λ i. Ok (i, stream c.extend.new.tokens)) (sym (item_extend_is c.in_ok-extend.extend)); moves = (Moves-item (block c.args.levels) (Local-block c.args.levels)).at _ _ _ h.so }

pub item-returns-in_err-item : goal.item-returns-in_err-item
unfolding item_with
item-returns-in_err-item t c =
    let p = err_from_is_err_and c.from_residual-in_err-item.result c.from_residual-in_err-item.ensures.1 in
    let e = c.in_err-item.field-0.0 in
    let h : Answers (Fails e) (item_with (block c.args.levels)) (stream c.args.tokens.now) =
    behind (eat (sign s.Semicolon)) _ c.in_default.ensures.reads (passed (sees (ident (codes "message"))) _ _ (sym c.sees.ensures ∙ c.if-sees.false) (passed (sees (ident (codes "enum"))) _ _ (sym c.sees-2.ensures ∙ c.if-sees-2.false) (passed (sees (ident (codes "extend"))) _ _ (sym c.sees-3.ensures ∙ c.if-sees-3.false) (flat_refused _ e c.in_err-item.ensures.reads)))) in
    rw (p.1, p.2) (record { reads = h.so; moves = tt })

pub item-returns-in-Some-2 : goal.item-returns-in-Some-2
unfolding item_with
item-returns-in-Some-2 t c =
    let h : Answers (λ o. o ≡ Ok (item_view c.in-Some-2.item, stream c.flat_item.new.tokens)) (item_with (block c.args.levels)) (stream c.args.tokens.now) =
    behind (eat (sign s.Semicolon)) _ c.in_default.ensures.reads (passed (sees (ident (codes "message"))) _ _ (sym c.sees.ensures ∙ c.if-sees.false) (passed (sees (ident (codes "enum"))) _ _ (sym c.sees-2.ensures ∙ c.if-sees-2.false) (passed (sees (ident (codes "extend"))) _ _ (sym c.sees-3.ensures ∙ c.if-sees-3.false) (flat_behind _ c.in-Some-2.is c.in_ok-item.ensures.reads (last _ refl))))) in
    record { reads = h.so; moves = (Moves-item (block c.args.levels) (Local-block c.args.levels)).at _ _ _ h.so }

pub item-returns-in_err-oneof : goal.item-returns-in_err-oneof
unfolding item_with
item-returns-in_err-oneof t c =
    let p = err_from_is_err_and c.from_residual-in_err-oneof.result c.from_residual-in_err-oneof.ensures.1 in
    let e = c.in_err-oneof.field-0.0 in
    let h : Answers (Fails e) (item_with (block c.args.levels)) (stream c.args.tokens.now) =
    behind (eat (sign s.Semicolon)) _ c.in_default.ensures.reads (passed (sees (ident (codes "message"))) _ _ (sym c.sees.ensures ∙ c.if-sees.false) (passed (sees (ident (codes "enum"))) _ _ (sym c.sees-2.ensures ∙ c.if-sees-2.false) (passed (sees (ident (codes "extend"))) _ _ (sym c.sees-3.ensures ∙ c.if-sees-3.false) (flat_behind _ c.in_default-2.is c.in_ok-item.ensures.reads (chosen (sees (ident (codes "oneof"))) _ _ (sym c.sees-4.ensures ∙ c.if-sees-4.true) (refused (oneof_with (block c.args.levels)) _ e c.in_err-oneof.ensures.reads)))))) in
    rw (p.1, p.2) (record { reads = h.so; moves = tt })

pub item-returns-then-sees-4 : goal.item-returns-then-sees-4
unfolding item_with
item-returns-then-sees-4 t c =
    let h : Answers (λ o. o ≡ Ok (item_oneof (oneof_view c.in_ok-oneof.oneof), stream c.oneof.new.tokens)) (item_with (block c.args.levels)) (stream c.args.tokens.now) =
    behind (eat (sign s.Semicolon)) _ c.in_default.ensures.reads (passed (sees (ident (codes "message"))) _ _ (sym c.sees.ensures ∙ c.if-sees.false) (passed (sees (ident (codes "enum"))) _ _ (sym c.sees-2.ensures ∙ c.if-sees-2.false) (passed (sees (ident (codes "extend"))) _ _ (sym c.sees-3.ensures ∙ c.if-sees-3.false) (flat_behind _ c.in_default-2.is c.in_ok-item.ensures.reads (chosen (sees (ident (codes "oneof"))) _ _ (sym c.sees-4.ensures ∙ c.if-sees-4.true) (behind (oneof_with (block c.args.levels)) _ c.in_ok-oneof.ensures.reads (last _ refl))))))) in
    record { reads = h.so ∙ ap (λ i. Ok (i, stream c.oneof.new.tokens)) (sym (item_oneof_is c.in_ok-oneof.oneof)); moves = (Moves-item (block c.args.levels) (Local-block c.args.levels)).at _ _ _ h.so }

pub item-returns-in_err-field : goal.item-returns-in_err-field
unfolding item_with
item-returns-in_err-field t c =
    let p = err_from_is_err_and c.from_residual-in_err-field.result c.from_residual-in_err-field.ensures.1 in
    let e = c.in_err-field.field-0.0 in
    let h : Answers (Fails e) (item_with (block c.args.levels)) (stream c.args.tokens.now) =
    behind (eat (sign s.Semicolon)) _ c.in_default.ensures.reads (passed (sees (ident (codes "message"))) _ _ (sym c.sees.ensures ∙ c.if-sees.false) (passed (sees (ident (codes "enum"))) _ _ (sym c.sees-2.ensures ∙ c.if-sees-2.false) (passed (sees (ident (codes "extend"))) _ _ (sym c.sees-3.ensures ∙ c.if-sees-3.false) (flat_behind _ c.in_default-2.is c.in_ok-item.ensures.reads (passed (sees (ident (codes "oneof"))) _ _ (sym c.sees-4.ensures ∙ c.if-sees-4.false) (refused (field_with (block c.args.levels)) _ e c.in_err-field.ensures.reads)))))) in
    rw (p.1, p.2) (record { reads = h.so; moves = tt })

pub item-returns : goal.item-returns
unfolding item_with
item-returns t c =
    let h : Answers (λ o. o ≡ Ok (item_field (field_view c.in_ok-field.field), stream c.field.new.tokens)) (item_with (block c.args.levels)) (stream c.args.tokens.now) =
    behind (eat (sign s.Semicolon)) _ c.in_default.ensures.reads (passed (sees (ident (codes "message"))) _ _ (sym c.sees.ensures ∙ c.if-sees.false) (passed (sees (ident (codes "enum"))) _ _ (sym c.sees-2.ensures ∙ c.if-sees-2.false) (passed (sees (ident (codes "extend"))) _ _ (sym c.sees-3.ensures ∙ c.if-sees-3.false) (flat_behind _ c.in_default-2.is c.in_ok-item.ensures.reads (passed (sees (ident (codes "oneof"))) _ _ (sym c.sees-4.ensures ∙ c.if-sees-4.false) (behind (field_with (block c.args.levels)) _ c.in_ok-field.ensures.reads (last _ refl))))))) in
    record { reads = h.so ∙ ap (λ i. Ok (i, stream c.field.new.tokens)) (sym (item_field_is c.in_ok-field.field)); moves = (Moves-item (block c.args.levels) (Local-block c.args.levels)).at _ _ _ h.so }

pub member-returns-in-Some : goal.member-returns-in-Some
unfolding member_with
member-returns-in-Some t c =
    let h : Answers (λ o. o ≡ Ok (member_empty c.in-Some.span, stream c.eat_sign.new.self)) (member_with (block c.args.levels)) (stream c.args.tokens.now) =
    behind (eat (sign s.Semicolon)) _ c.in-Some.ensures.reads (last _ refl) in
    record { reads = h.so ∙ ap (λ i. Ok (i, stream c.eat_sign.new.self)) (sym (member_empty_is c.in-Some.span)); moves = (Moves-member (block c.args.levels) (Local-block c.args.levels)).at _ _ _ h.so }

pub member-returns-in_err-option : goal.member-returns-in_err-option
unfolding member_with
member-returns-in_err-option t c =
    let p = err_from_is_err_and c.from_residual.result c.from_residual.ensures.1 in
    let e = c.in_err-option.field-0.0 in
    let h : Answers (Fails e) (member_with (block c.args.levels)) (stream c.args.tokens.now) =
    behind (eat (sign s.Semicolon)) _ c.in_default.ensures.reads (chosen (sees (ident (codes "option"))) _ _ (sym c.sees.ensures ∙ c.if-sees.true) (refused option _ e c.in_err-option.ensures.reads)) in
    rw (p.1, p.2) (record { reads = h.so; moves = tt })

pub member-returns-then-sees : goal.member-returns-then-sees
unfolding member_with
member-returns-then-sees t c =
    let h : Answers (λ o. o ≡ Ok (member_option (option_view c.in_ok-option.option), stream c.option.new.tokens)) (member_with (block c.args.levels)) (stream c.args.tokens.now) =
    behind (eat (sign s.Semicolon)) _ c.in_default.ensures.reads (chosen (sees (ident (codes "option"))) _ _ (sym c.sees.ensures ∙ c.if-sees.true) (behind option _ c.in_ok-option.ensures.reads (last _ refl))) in
    record { reads = h.so ∙ ap (λ i. Ok (i, stream c.option.new.tokens)) (sym (member_option_is c.in_ok-option.option)); moves = (Moves-member (block c.args.levels) (Local-block c.args.levels)).at _ _ _ h.so }

pub member-returns-in_err-field : goal.member-returns-in_err-field
unfolding member_with
member-returns-in_err-field t c =
    let p = err_from_is_err_and c.from_residual-in_err-field.result c.from_residual-in_err-field.ensures.1 in
    let e = c.in_err-field.field-0.0 in
    let h : Answers (Fails e) (member_with (block c.args.levels)) (stream c.args.tokens.now) =
    behind (eat (sign s.Semicolon)) _ c.in_default.ensures.reads (passed (sees (ident (codes "option"))) _ _ (sym c.sees.ensures ∙ c.if-sees.false) (refused (field_with (block c.args.levels)) _ e c.in_err-field.ensures.reads)) in
    rw (p.1, p.2) (record { reads = h.so; moves = tt })

pub member-returns : goal.member-returns
unfolding member_with
member-returns t c =
    let h : Answers (λ o. o ≡ Ok (member_field (field_view c.in_ok-field.field), stream c.field.new.tokens)) (member_with (block c.args.levels)) (stream c.args.tokens.now) =
    behind (eat (sign s.Semicolon)) _ c.in_default.ensures.reads (passed (sees (ident (codes "option"))) _ _ (sym c.sees.ensures ∙ c.if-sees.false) (behind (field_with (block c.args.levels)) _ c.in_ok-field.ensures.reads (last _ refl))) in
    record { reads = h.so ∙ ap (λ i. Ok (i, stream c.field.new.tokens)) (sym (member_field_is c.in_ok-field.field)); moves = (Moves-member (block c.args.levels) (Local-block c.args.levels)).at _ _ _ h.so }

pub added-returns-in-Some : goal.added-returns-in-Some
unfolding added_with
added-returns-in-Some t c =
    let h : Answers (λ o. o ≡ Ok (added_empty c.in-Some.span, stream c.eat_sign.new.self)) (added_with (block c.args.levels)) (stream c.args.tokens.now) =
    behind (eat (sign s.Semicolon)) _ c.in-Some.ensures.reads (last _ refl) in
    record { reads = h.so ∙ ap (λ i. Ok (i, stream c.eat_sign.new.self)) (sym (added_empty_is c.in-Some.span)); moves = (Moves-added (block c.args.levels) (Local-block c.args.levels)).at _ _ _ h.so }

pub added-returns-in_err-field : goal.added-returns-in_err-field
unfolding added_with
added-returns-in_err-field t c =
    let p = err_from_is_err_and c.from_residual.result c.from_residual.ensures.1 in
    let e = c.in_err-field.field-0.0 in
    let h : Answers (Fails e) (added_with (block c.args.levels)) (stream c.args.tokens.now) =
    behind (eat (sign s.Semicolon)) _ c.in_default.ensures.reads (refused (field_with (block c.args.levels)) _ e c.in_err-field.ensures.reads) in
    rw (p.1, p.2) (record { reads = h.so; moves = tt })

pub added-returns : goal.added-returns
unfolding added_with
added-returns t c =
    let h : Answers (λ o. o ≡ Ok (added_field (field_view c.in_ok-field.field), stream c.field.new.tokens)) (added_with (block c.args.levels)) (stream c.args.tokens.now) =
    behind (eat (sign s.Semicolon)) _ c.in_default.ensures.reads (behind (field_with (block c.args.levels)) _ c.in_ok-field.ensures.reads (last _ refl)) in
    record { reads = h.so ∙ ap (λ i. Ok (i, stream c.field.new.tokens)) (sym (added_field_is c.in_ok-field.field)); moves = (Moves-added (block c.args.levels) (Local-block c.args.levels)).at _ _ _ h.so }

from_start : {P : Outcome Field → Type 0} (inner : Parser Block) (ts : Stream) (start : Span) → start ≡ span_of (peek source ts)
    → Answers P (label >>= (λ l. eat (ident (codes "group")) >>= group_if inner start l)) ts → Answers P (field_with inner) ts
unfolding field_with
from_start {P = P} inner ts start e h =
    record { so = subst (λ at. P ((label >>= (λ l. eat (ident (codes "group")) >>= group_if inner at l)) ts)) e h.so }

pub field-returns-in-Some : goal.field-returns-in-Some
field-returns-in-Some t c =
    let h : Answers (λ o. Reads field_view o c.group.result c.group.new.tokens) (field_with (block c.args.levels)) (stream c.args.tokens.now) =
    from_start (block c.args.levels) (stream c.args.tokens.now) c.next_span-start.result c.next_span-start.ensures (behind label _ c.label-label.ensures.reads
    (behind (eat (ident (codes "group"))) _ c.in-Some.ensures.reads (record { so = c.group.ensures.reads }))) in
    record { reads = h.so; moves = moved field_view (Moves-field (block c.args.levels) (Local-block c.args.levels)) (stream c.args.tokens.now) c.group.result c.group.new.tokens h.so }

pub field-returns : goal.field-returns
field-returns t c =
    let h : Answers (λ o. Reads field_view o c.plain_field.result c.plain_field.new.tokens) (field_with (block c.args.levels)) (stream c.args.tokens.now) =
    from_start (block c.args.levels) (stream c.args.tokens.now) c.next_span-start.result c.next_span-start.ensures (behind label _ c.label-label.ensures.reads
    (behind (eat (ident (codes "group"))) _ c.in_default.ensures.reads (record { so = c.plain_field.ensures.reads }))) in
    record { reads = h.so; moves = moved field_view (Moves-field (block c.args.levels) (Local-block c.args.levels)) (stream c.args.tokens.now) c.plain_field.result c.plain_field.new.tokens h.so }
