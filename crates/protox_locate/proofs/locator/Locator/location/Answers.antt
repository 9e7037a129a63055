use Rattle.std.proofs.Common.{ℕ, ℤ, List, ◌++◌, None, map, ap, ◌∙◌, string_bytes}
use Rattle.descriptor_records.specs.Content.{LocationContent}
use Rattle.protox_lex.specs.Lines.{span_at}
use Rattle.protox_lex.specs.Resolver.{feeds}
use Rattle.protox_locate.specs.Located.{counted, place_at}
use Rattle.protox_locate.proofs.locator.Locator.location.Goals as goal

abbrev made : List ℤ → List ℤ → List (List ℕ) → LocationContent
made path span detached = record { path = path; span = span; leading_comments = None; trailing_comments = None; leading_detached_comments = detached }

pub returns : goal.returns
returns c =
    let ends = feeds c.args.self.now.lines.now in
    let span = c.in_ok-resolve_span.field-0.items in
    let detached = map string_bytes c.new.result.items in
    ap (λ p. made p span detached) c.in_ok-join_path.ensures
    ∙ ap (λ s. made (c.args.path.now ++ c.args.tail.now) s detached)
    (c.in_ok-resolve_span.ensures ∙ ap (λ a. span_at ends a c.min-2.result) c.min.ensures ∙ ap (span_at ends (counted c.args.span.start)) c.min-2.ensures)
    ∙ ap (λ d. made (c.args.path.now ++ c.args.tail.now) (place_at ends c.args.span) (map string_bytes d)) c.new.ensures.items
