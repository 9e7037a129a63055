use Rattle.protox_options.proofs.Behind.{Answers, behind, refused, last}
use Rattle.protox_options.proofs.Choices.{chosen, passed}
use Rattle.protox_options.proofs.RangeLaws.{Moves-reserved_items}
use Rattle.protox_options.specs.RangeGrammar.{names, ranges, reserved_items}
use Rattle.protox_tokens.specs.Parser.{is_string}
use Rattle.protox_tokens.specs.Reads.{Fails}
use Rattle.protox_tokens.specs.Stream.{stream}
use Rattle.protox_tree.specs.Tree.{reserved_names, reserved_ranges}
use Rattle.protox_tree.specs.View.{names_view}
use Rattle.std.proofs.Common.{◌≡◌, ◌∙◌, sym, refl, Ok}
use Rattle.std.proofs.lemmas.Result.{err_from_is_err_and}
use Rattle.protox_options.proofs.range.reserved_items.Goals as goal

pub returns-in_err-names : goal.returns-in_err-names
unfolding reserved_items
returns-in_err-names c =
    let p = err_from_is_err_and c.from_residual.result c.from_residual.ensures.1 in
    let e = c.in_err-names.field-0.0 in
    let h : Answers (Fails e) reserved_items (stream c.args.tokens.now) =
    chosen is_string _ _ (sym c.is_string.ensures ∙ c.if-is_string.true)
    (refused names _ e c.in_err-names.ensures.reads) in
    rw (p.1, p.2) (record { reads = h.so; moves = tt })

pub returns-then-is_string : goal.returns-then-is_string
unfolding reserved_items
returns-then-is_string c =
    let x = reserved_names (names_view c.in_ok-names.names.items) in
    let h : Answers (λ o. o ≡ Ok (x, stream c.names.new.tokens)) reserved_items
    (stream c.args.tokens.now) =
    chosen is_string _ _ (sym c.is_string.ensures ∙ c.if-is_string.true)
    (behind names _ c.in_ok-names.ensures.reads (last _ refl)) in
    record { reads = h.so; moves = Moves-reserved_items.at _ _ _ h.so }

pub returns-in_err-ranges : goal.returns-in_err-ranges
unfolding reserved_items
returns-in_err-ranges c =
    let r = c.from_residual-in_err-ranges in
    let p = err_from_is_err_and r.result r.ensures.1 in
    let e = c.in_err-ranges.field-0.0 in
    let h : Answers (Fails e) reserved_items (stream c.args.tokens.now) =
    passed is_string _ _ (sym c.is_string.ensures ∙ c.if-is_string.false)
    (refused ranges _ e c.in_err-ranges.ensures.reads) in
    rw (p.1, p.2) (record { reads = h.so; moves = tt })

pub returns : goal.returns
unfolding reserved_items
returns c =
    let x = reserved_ranges c.in_ok-ranges.ranges.items in
    let h : Answers (λ o. o ≡ Ok (x, stream c.ranges-2.new.tokens)) reserved_items
    (stream c.args.tokens.now) =
    passed is_string _ _ (sym c.is_string.ensures ∙ c.if-is_string.false)
    (behind ranges _ c.in_ok-ranges.ensures.reads (last _ refl)) in
    record { reads = h.so; moves = Moves-reserved_items.at _ _ _ h.so }
