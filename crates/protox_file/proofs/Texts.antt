-- A text has one answer.
use Rattle.protox_file.proofs.FileLaws.{Local-file}
use Rattle.protox_file.specs.FileGrammar.{file}
use Rattle.protox_file.specs.Sources.{Spells, RefusedBy, IsDead}
use Rattle.protox_lex.proofs.OneReading.{one_list}
use Rattle.protox_lex.specs.Class.{Text}
use Rattle.protox_lex.specs.TextFormat.{format_fault}
use Rattle.protox_lex.specs.Token.{Token, token_at, fault_at}
use Rattle.protox_lex.specs.declared.error.LexErrorKind.{LexErrorKind}
use Rattle.protox_lex.specs.declared.span.Span.{Span}
use Rattle.protox_tokens.proofs.Local.{LocalAt, Cut}
use Rattle.protox_tokens.specs.Parser.{Outcome}
use Rattle.protox_tokens.specs.Refusal.{Expected, Fault, unexpected, eof, lexical, unknown_syntax, too_deep, misplaced, refusal}
use Rattle.protox_tokens.specs.Stream.{Piece, piece, last, Mode, source, text, Stream, IsRead, Seen, gather, look, unless_misplaced}
use Rattle.protox_tree.specs.FileTree.{File}
use Rattle.std.proofs.Common.{◌≡◌, ◌⊎◌, inl, inr, [], ◌∷◌, ◌++◌, Option, Some, None, Ok, Err, refl, ap, sym, subst, ◌∙◌, append_assoc}

-- a text has one list of tokens
one_stream : (z : Text) (s t : Stream) → IsRead z s → IsRead z t → s ≡ t
one_stream z s t a b = a.2 ∙ ap (gather None) (one_list 0 z a.0 b.0 a.1 b.1) ∙ sym b.2

same_outcome : (z : Text) (a b : Outcome File) (s t : Stream) → IsRead z s → IsRead z t → file s ≡ a → file t ≡ b → a ≡ b
same_outcome z a b s t r q e f = sym e ∙ ap file (one_stream z s t r q) ∙ f

tree_in : File → Outcome File → File
tree_in other (Ok x) = x.0
tree_in other (Err f) = other

fault_in : Fault → Outcome File → Fault
fault_in other (Ok x) = other
fault_in other (Err f) = f

pub same_tree : (z : Text) (a b : File) → Spells z a → Spells z b → a ≡ b
unfolding tree_in
same_tree z a b s t = ap (tree_in a) (same_outcome z (Ok (a, [])) (Ok (b, [])) s.0 t.0 s.1 t.1 s.2 t.2)

pub same_fault : (z : Text) (f g : Fault) → RefusedBy z f → RefusedBy z g → f ≡ g
unfolding fault_in
same_fault z f g s t = ap (fault_in f) (same_outcome z (Err f) (Err g) s.0 t.0 s.1 t.1 s.2 t.2)

pub not_both : (z : Text) (a : File) (f : Fault) → Spells z a → RefusedBy z f → ⊥
not_both z a f s t =
    let wrong : ◌≡◌ {A = Outcome File} (Ok (a, [])) (Err f) = same_outcome z (Ok (a, [])) (Err f) s.0 t.0 s.1 t.1 s.2 t.2 in
    absurd cc

-- ---- an unexpected token

-- the token that a fault finds
found_by : Fault → Seen
found_by (unexpected x t at) = Some (t, at)
found_by (eof x) = None
found_by (lexical e) = None
found_by (unknown_syntax at) = None
found_by (too_deep at) = None

-- it is the one ahead
is_found : (m : Mode) (e : Expected) (p : Piece) (rest : Stream) → look m p ≡ found_by (refusal m e (p ∷ rest))
unfolding found_by
is_found source e (last c) rest = refl
is_found text e (last c) rest = refl
is_found source e (piece (Some c) (token_at a b t)) rest = refl
is_found source e (piece (Some c) (fault_at k a b)) rest = refl
is_found source e (piece None (token_at a b t)) rest = by (format_fault t) where
  by : (o : Option LexErrorKind) → unless_misplaced o t (record { start = a; end = b }) ≡ found_by (misplaced e o t (record { start = a; end = b }))
  by None = refl
  by (Some k) = refl
is_found source e (piece None (fault_at k a b)) rest = refl
is_found text e (piece h (token_at a b t)) rest = refl
is_found text e (piece h (fault_at k a b)) rest = refl

in_mode : (m : Mode) (p : Piece) (t : Token) (at : Span) → look m p ≡ Some (t, at) → (look source p ≡ Some (t, at)) ⊎ (look text p ≡ Some (t, at))
in_mode source p t at h = inl h
in_mode text p t at h = inr h

pub dead : (ts : Stream) (x : Expected) (t : Token) (at : Span) → file ts ≡ Err (unexpected x t at) → IsDead ts x t at
unfolding found_by
dead ts x t at h = let c = subst (LocalAt file ts) h (Local-file.at ts) in by c.0 c.1.0 c.1.1 c.1.2 c.2 where
  by : (r : Stream) (m : Mode) (e : Expected) → refusal m e r ≡ unexpected x t at → Cut file ts r (λ s. Err (unexpected x t at)) → IsDead ts x t at
  by [] m e g cut = let wrong : ◌≡◌ {A = Seen} None (Some (t, at)) = ap found_by g in absurd cc
  by (p ∷ rest) m e g cut = (
    cut.front ++ p ∷ [],
    rest,
    cut.whole ∙ sym (append_assoc cut.front (p ∷ []) rest),
    (cut.front, p, refl, in_mode m p t at (is_found m e p rest ∙ ap found_by g)),
    λ other tree ok.
        let wrong : ◌≡◌ {A = Outcome File} (Ok (tree, [])) (Err (unexpected x t at)) =
        sym ok ∙ ap file (append_assoc cut.front (p ∷ []) other) ∙ cut.stable (p ∷ other) refl in
        absurd cc,
  )
