use Rattle.protox_file.specs.FileGrammar.{file_item, file_items}
use Rattle.protox_tokens.proofs.Loops.{with_front}
use Rattle.protox_tokens.specs.Left.{left}
use Rattle.protox_tokens.specs.Parser.{loop, when}
use Rattle.protox_tokens.specs.Stream.{stream, is_over}
use Rattle.protox_tree.specs.FileView.{file_items_view}
use Rattle.std.proofs.Common.{◌≡◌, ◌≤◌, not}
use Rattle.protox_file.proofs.files.file.Given as goal

abbrev pub invariant-items : goal.invariant-items
invariant-items l =
    let rest = loop (when (λ ts. not (is_over ts)) file_item) in
    record {
      same : l.syntax ≡ l.initial.syntax;
      moves : left l.tokens ≤ left l.initial.tokens;
      so_far : with_front (file_items_view l.items.items) (rest (stream l.tokens)) ≡ file_items (stream l.initial.tokens);
    }

abbrev pub decreases-items : goal.decreases-items
decreases-items l = left l.tokens
