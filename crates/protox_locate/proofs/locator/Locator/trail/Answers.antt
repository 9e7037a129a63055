use Rattle.std.proofs.Common.{◌≡◌, ◌<◌, List, length, map, ap, sym, rules, arith}
use Rattle.std.specs.Vec.{vec_len}
use Rattle.std.proofs.lemmas.Bool.{false≢true}
use Rattle.std.proofs.lemmas.List.{length-map}
use Rattle.descriptor_records.specs.Content.{LocationContent, location_view, text_view}
use Rattle.protox_lex.specs.Resolver.{feeds}
use Rattle.protox_locate.specs.Collected.{State}
use Rattle.protox_locate.proofs.Trailing.{trailed_past, trailed_set}
use Rattle.protox_locate.proofs.locator.Locator.trail.Goals as goal

pub returns-in-Some : goal.returns-in-Some
returns-in-Some c =
    let locator = c.args.self.now in
    let make : List LocationContent → State = λ ls. record { source = locator.source.now; line_feeds = feeds locator.lines.now; locations = ls; gap_start = locator.gap_start; front = locator.front } in
    let lt : c.args.place < length locator.locations.items = search rules in
    ap make (trailed_set locator.locations.items c.args.place c.in-Some.location.now c.args.comment lt c.in-Some.ensures.value)

pub returns-in_default : goal.returns-in_default
returns-in_default c =
    let locator = c.args.self.now in
    let make : List LocationContent → State = λ ls. record { source = locator.source.now; line_feeds = feeds locator.lines.now; locations = ls; gap_start = locator.gap_start; front = locator.front } in
    let items = locator.locations.items in
    let same : length items ≡ vec_len locator.locations = search rules in
    let outside : ¬ (c.args.place < vec_len locator.locations) = λ lt. false≢true (c.in_default.ensures.variant.1 lt) in
    ap make (sym (trailed_past c.args.place (text_view c.args.comment) (map location_view items) (omega (arith, same, outside, length-map items location_view))))
