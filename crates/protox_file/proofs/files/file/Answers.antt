use Rattle.protox_file.proofs.FileLaws.{file_turns, none_left}
use Rattle.protox_file.specs.FileGrammar.{syntax, file_item, file_items, file}
use Rattle.protox_options.proofs.Behind.{Answers, behind, refused, last}
use Rattle.protox_tokens.proofs.Loops.{none_before, when_goes, when_ends, when_stops}
use Rattle.protox_tokens.specs.Reads.{Fails}
use Rattle.protox_tokens.specs.Stream.{stream, is_over}
use Rattle.protox_tree.specs.FileTree.{File, file_span}
use Rattle.protox_tree.specs.FileView.{syntax_view, file_item_view, file_items_view}
use Rattle.std.proofs.Common.{◌≡◌, ◌∙◌, ◌++◌, ◌∷◌, [], ap, sym, refl, rules, arith, Ok, true, false, not}
use Rattle.std.proofs.lemmas.List.{map_push}
use Rattle.std.proofs.lemmas.Result.{err_from_is_err_and}
use Rattle.std.specs.Prelude.{option_map}
use Rattle.protox_file.proofs.files.file.Goals as goal

pub returns-in_err-syntax : goal.returns-in_err-syntax
unfolding file
returns-in_err-syntax c =
    let p = err_from_is_err_and c.from_residual.result c.from_residual.ensures.1 in
    let e = c.in_err-syntax.field-0.0 in
    let h : Answers (Fails e) file (stream c.args.tokens.now) =
    refused syntax _ e c.in_err-syntax.ensures.reads in
    rw (p.1, p.2) (record { reads = h.so; over = tt })

pub items-init : goal.items-init
unfolding file_items
items-init c =
    record {
      same = refl;
      moves = search rules;
      so_far = rw c.new-items.ensures.items (none_before _);
    }

pub items-preserved : goal.items-preserved
items-preserved c =
    let l = c.items in
    let more : not (is_over (stream l.tokens)) ≡ true =
    ap not (sym c.is_over.ensures ∙ c.items-test.true) in
    let pushed : file_items_view c.push.new.self.items ≡ file_items_view l.items.items ++
    file_item_view c.in_ok-item.item ∷ [] =
    rw c.in_ok-push.ensures.items (map_push _ l.items.items c.in_ok-item.item) in
    record {
      same = l.invariant.same;
      moves = omega (arith, l.invariant.moves, c.in_ok-item.ensures.moves);
      so_far = rw pushed
          (when_goes (λ ts. not (is_over ts)) file_item file_turns (file_items_view l.items.items)
          (stream l.tokens) _ l.invariant.so_far _ _ more c.in_ok-item.ensures.reads);
    }

pub returns-in_err-item : goal.returns-in_err-item
unfolding file
returns-in_err-item c =
    let r = c.from_residual-in_err-item in
    let p = err_from_is_err_and r.result r.ensures.1 in
    let e = c.in_err-item.field-0.0 in
    let l = c.items in
    let more : not (is_over (stream l.tokens)) ≡ true =
    ap not (sym c.is_over.ensures ∙ c.items-test.true) in
    let h : Answers (Fails e) file (stream c.args.tokens.now) =
    behind syntax _ c.in_ok-syntax.ensures.reads (refused file_items _ e
    (when_stops (λ ts. not (is_over ts)) file_item file_turns (file_items_view l.items.items)
    (stream l.tokens) _ l.invariant.so_far e more c.in_err-item.ensures.reads)) in
    rw (p.1, p.2) (record { reads = h.so; over = tt })

pub returns : goal.returns
unfolding file
returns c =
    let l = c.items in
    let none : not (is_over (stream l.tokens)) ≡ false =
    ap not (sym c.is_over.ensures ∙ c.items-test.false) in
    let x : File = record {
      syntax = option_map syntax_view c.in_ok-syntax.syntax;
      items = file_items_view l.items.items;
      span = file_span (option_map syntax_view c.in_ok-syntax.syntax)
          (file_items_view l.items.items);
    } in
    let h : Answers (λ o. o ≡ Ok (x, stream l.tokens)) file (stream c.args.tokens.now) =
    behind syntax _ c.in_ok-syntax.ensures.reads (behind file_items _
    (when_ends (λ ts. not (is_over ts)) file_item file_turns (file_items_view l.items.items)
    (stream l.tokens) _ l.invariant.so_far none) (last _ refl)) in
    record {
      reads = rw (c.file_span-span.ensures, c.as_slice.ensures.value, l.invariant.same) h.so;
      over = none_left (stream l.tokens) (sym c.is_over.ensures ∙ c.items-test.false);
    }
