-- Sources with the same tokens spell the same trees, but for places.
use Rattle.std.proofs.Common.{[], ◌≡◌, List, ◌∷◌, Option, Some, None, refl, ap, sym, subst, ◌∙◌}
use Rattle.std.specs.Option.{option_or}
use Rattle.protox_laws.specs.Unplaced.{unplaced}
use Rattle.protox_lex.proofs.OneReading.{one_list}
use Rattle.protox_lex.specs.Class.{Text}
use Rattle.protox_lex.specs.Longest.{Lexes}
use Rattle.protox_lex.specs.Token.{Token, ident, int, float, str, sign, comment, Lexeme, token_at, fault_at}
use Rattle.protox_lex.specs.declared.span.Span.{Span}
use Rattle.protox_tokens.specs.Stream.{piece, Stream, gather}
use Rattle.protox_tree.specs.FileTree.{File}
use Rattle.source_grammar.proofs.FileLaws.{one_tree}
use Rattle.source_grammar.proofs.Stripped.{stripped}
use Rattle.source_grammar.proofs.StrippedFiles.{strips_file}
use Rattle.source_grammar.specs.Files.{a_file, IsSpelledBy}
use Rattle.source_grammar.specs.SameTokens.{tokens_of, HaveSameTokens}

abbrev alone : List Token → Stream
alone [] = []
alone (t ∷ ts) = piece None (token_at 0 0 t) ∷ alone ts

abbrev before : Token → Stream → Stream
before t s = piece None (token_at 0 0 t) ∷ s

-- what is read of a source comes to its tokens alone
gathered_alone : (h : Option Span) (ls : List Lexeme) → stripped (gather h ls) ≡ alone (tokens_of ls)
gathered_alone None [] = refl
gathered_alone (Some s) [] = refl
gathered_alone h (token_at a b comment ∷ ls) = gathered_alone (option_or h (Some (record { start = a; end = b }))) ls
gathered_alone h (token_at a b (ident t) ∷ ls) = ap (before (ident t)) (gathered_alone None ls)
gathered_alone h (token_at a b (int t) ∷ ls) = ap (before (int t)) (gathered_alone None ls)
gathered_alone h (token_at a b (float t) ∷ ls) = ap (before (float t)) (gathered_alone None ls)
gathered_alone h (token_at a b (str t) ∷ ls) = ap (before (str t)) (gathered_alone None ls)
gathered_alone h (token_at a b (sign t) ∷ ls) = ap (before (sign t)) (gathered_alone None ls)
gathered_alone h (fault_at k a b ∷ ls) = refl

-- a source's tokens alone spell its tree without places
spelled_alone : (z : Text) (t : File) (ls : List Lexeme) → Lexes 0 z ls → IsSpelledBy t z → a_file (unplaced t) (alone (tokens_of ls)) []
spelled_alone z t ls l h =
    let read : h.0 ≡ gather None ls = h.1.2 ∙ ap (gather None) (one_list 0 z h.1.0 ls h.1.1 l) in
    subst (λ s. a_file (unplaced t) s []) (ap stripped read ∙ gathered_alone None ls) ((strips_file t).keeps h.0 [] h.2)

pub same_trees : (z w : Text) (t u : File) → HaveSameTokens z w → IsSpelledBy t z → IsSpelledBy u w → unplaced t ≡ unplaced u
same_trees z w t u same g h =
    one_tree (alone (tokens_of same.0)) (unplaced t) (unplaced u) (spelled_alone z t same.0 same.2 g)
    (subst (λ l. a_file (unplaced u) (alone l) []) (sym same.4) (spelled_alone w u same.1 same.3 h))
