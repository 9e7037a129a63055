-- What lies from the first statement of a file to the last, by the places of these two.
use Rattle.protox_lex.specs.declared.span.Span.{Span}
use Rattle.protox_tokens.specs.Span.{across}
use Rattle.protox_tree.specs.FileTree.{SyntaxStatement, item_span, file_span}
use Rattle.protox_tree.specs.FileView.{file_item_view, file_items_view}
use Rattle.protox_tree.specs.Tree.{span_between}
use Rattle.protox_tree.specs.declared.file.FileItem.{FileItem}
use Rattle.std.proofs.Common.{◌≡◌, ℕ, suc, ◌-◌, List, ◌∷◌, length, Some, None, ap, ◌∙◌, arith}
use Rattle.std.proofs.lemmas.List.{length-map}
use Rattle.std.proofs.lemmas.Option.{slice_get-map, slice_get_within}
use Rattle.std.specs.Prelude.{map, option_map, slice_get}

abbrev places : List FileItem → List Span
places is = map item_span (file_items_view is)

place_at : (is : List FileItem) (k : ℕ) (i : FileItem) → slice_get is k ≡ Some i → slice_get (places is) k ≡ Some (item_span (file_item_view i))
place_at is k i h = slice_get-map item_span (file_items_view is) k ∙ ap (option_map item_span) (slice_get-map file_item_view is k ∙ ap (option_map file_item_view) h)

as_many : (is : List FileItem) → length (places is) ≡ length is
as_many is = length-map (file_items_view is) item_span ∙ length-map is file_item_view

pub statements_cover : (is : List FileItem) (f l : FileItem) → slice_get is 0 ≡ Some f → slice_get is (length is - 1) ≡ Some l
    → file_span None (file_items_view is) ≡ across (item_span (file_item_view f)) (item_span (file_item_view l))
statements_cover is f l g h =
    ap (λ n. span_between (slice_get (places is) 0) (slice_get (places is) (n - 1))) (as_many is)
    ∙ ap (λ o. span_between o (slice_get (places is) (length is - 1))) (place_at is 0 f g)
    ∙ ap (λ o. span_between (Some (item_span (file_item_view f))) o) (place_at is (length is - 1) l h)

pub syntax_covers : (s : SyntaxStatement) (is : List FileItem) (l : FileItem) → slice_get is (length is - 1) ≡ Some l
    → file_span (Some s) (file_items_view is) ≡ across s.span (item_span (file_item_view l))
syntax_covers s is l h =
    let within = slice_get_within is (length is - 1) l h in
    let at : suc (length (places is)) - 1 ≡ suc (length is - 1) = omega (arith, within, as_many is) in
    ap (λ n. span_between (Some s.span) (slice_get (s.span ∷ places is) n)) at
    ∙ ap (λ o. span_between (Some s.span) o) (place_at is (length is - 1) l h)
