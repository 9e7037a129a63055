-- Values that are put one before the other.
use Rattle.std.proofs.Common.{◌≡◌, ℕ, List, [], ◌∷◌, ◌++◌, map, Option, sym, ap, ◌∙◌, append_assoc, append-nil}
use Rattle.std.proofs.lemmas.List.{map-append}
use Rattle.std.proofs.lemmas.List.Concat.{flat_map-append}
use Rattle.reflect_pool.specs.declared.kind.Kind.{Kind}
use Rattle.reflect_scalar.specs.Singles.{Single}
use Rattle.reflect_encode.specs.Puts.{bare_bytes, row_bytes}
use Rattle.reflect_message.specs.Singles.{single}
use Rattle.reflect_message.specs.Names.{Value}

-- the last of the values that are left is put
pub row_more : (kind : Kind) (left front : List Value) (v : Value) (x : Option Single) (old new all : List ℕ) → left ≡ front ++ v ∷ [] → row_bytes kind (map single left) ++ old ≡ all → new ≡ bare_bytes kind x ++ old → x ≡ single v
    → row_bytes kind (map single front) ++ new ≡ all
row_more kind left front v x old new all e h put is =
    let before = row_bytes kind (map single front) in
    let whole : row_bytes kind (map single left) ≡ before ++ bare_bytes kind (single v) =
    ap (λ l. row_bytes kind (map single l)) e ∙ ap (row_bytes kind) (map-append single front (v ∷ [])) ∙ flat_map-append (bare_bytes kind) (map single front) (single v ∷ []) ∙ ap (λ l. before ++ l) (append-nil (bare_bytes kind (single v))) in
    ap (λ l. before ++ l) put ∙ ap (λ x. before ++ (bare_bytes kind x ++ old)) is ∙ sym (append_assoc before (bare_bytes kind (single v)) old) ∙ ap (λ l. l ++ old) (sym whole) ∙ h
