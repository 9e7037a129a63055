-- The words among the tokens of a source are identifiers.
use Rattle.std.proofs.Common.{◌≡◌, ◌∙◌, ◌+◌, ℕ, true, List, [], ◌∷◌, Option, Some, None, drop, take, refl, ap, subst, sym}
use Rattle.std.specs.List.{AllByRecursion, list_all}
use Rattle.std.specs.Option.{option_or}
use Rattle.std.proofs.lemmas.Bool.{and_from}
use Rattle.protox_lex.specs.Class.{Text, is_in}
use Rattle.protox_lex.specs.Longest.{IsPiece, word, Lexes, ends, passes, takes, stops}
use Rattle.protox_lex.specs.TextFormat.{format_fault}
use Rattle.protox_lex.specs.Token as cut
use Rattle.protox_lex.specs.Token.{Token, ident, int, float, str, sign, comment, Lexeme, token_at, fault_at}
use Rattle.protox_lex.specs.declared.class.Class.TheVariants as class
use Rattle.protox_lex.specs.declared.error.LexErrorKind.{LexErrorKind}
use Rattle.protox_lex.specs.declared.span.Span.{Span}
use Rattle.protox_tokens.specs.Parser.{value_of, word_of}
use Rattle.protox_tokens.specs.Stream.{IsRead, Piece, Seen, Stream, gather, last, look, look_in, piece, source, unless_misplaced}
use Rattle.protox_tree.specs.Tree.{Word}
use Rattle.source_laws.specs.TreeNames.{IsNamed}
use Rattle.text_model.specs.Identifiers.{is_identifier}

abbrev pub IsClean : Token → Type 0
IsClean (ident t) = is_identifier t ≡ true
IsClean t = Unit {0}

abbrev IsCleanCut : cut.Piece → Type 0
IsCleanCut cut.gap = Unit {0}
IsCleanCut (cut.token t) = IsClean t

abbrev IsCleanLexeme : Lexeme → Type 0
IsCleanLexeme (token_at a b t) = IsClean t
IsCleanLexeme (fault_at kind a b) = Unit {0}

abbrev IsCleanPiece : Piece → Type 0
IsCleanPiece (piece h l) = IsCleanLexeme l
IsCleanPiece (last s) = Unit {0}

abbrev pub IsCleanStream : Stream → Type 0
IsCleanStream ts = AllByRecursion IsCleanPiece ts

-- ---- how a source is cut

cut_clean : (z : Text) (p : cut.Piece) → IsPiece z p → IsCleanCut p
cut_clean z p (word b y e letter words) =
    ap is_identifier e
    ∙ and_from (is_in class.Letter b) (list_all (is_in class.Word) y) letter words
cut_clean z p h = tt

lexes_clean : (at : ℕ) (z : Text) (ts : List Lexeme) → Lexes at z ts
    → AllByRecursion IsCleanLexeme ts
lexes_clean at z ts ends = tt
lexes_clean at z ts (passes n longest rest) = lexes_clean (at + n) (drop n z) ts rest
lexes_clean at z ts (takes {ts = others} t n longest alone rest) =
    (cut_clean (take n z) (cut.token t) longest.is, lexes_clean (at + n) (drop n z) others rest)
lexes_clean at z ts (stops kind start end some fault) = (tt, tt)

gather_clean : (h : Option Span) (ts : List Lexeme) → AllByRecursion IsCleanLexeme ts
    → IsCleanStream (gather h ts)
gather_clean None [] c = tt
gather_clean (Some s) [] c = (tt, tt)
gather_clean h (token_at a b comment ∷ ts) c =
    gather_clean (option_or h (Some (record { start = a; end = b }))) ts c.1
gather_clean h (token_at a b (ident t) ∷ ts) c = (c.0, gather_clean None ts c.1)
gather_clean h (token_at a b (int t) ∷ ts) c = (tt, gather_clean None ts c.1)
gather_clean h (token_at a b (float t) ∷ ts) c = (tt, gather_clean None ts c.1)
gather_clean h (token_at a b (str t) ∷ ts) c = (tt, gather_clean None ts c.1)
gather_clean h (token_at a b (sign t) ∷ ts) c = (tt, gather_clean None ts c.1)
gather_clean h (fault_at k a b ∷ ts) c = (tt, tt)

pub read_clean : (z : Text) (ts : Stream) → IsRead z ts → IsCleanStream ts
read_clean z ts h = subst IsCleanStream (sym h.2) (gather_clean None h.0 (lexes_clean 0 z h.0 h.1))

-- ---- what is ahead

some_is : {A : Type 0} (x y : A) → Some x ≡ Some y → x ≡ y
some_is x y e = cc

placed_clean : (t : Token) (s : Span) → IsClean t → (o : Option LexErrorKind) (x : Token × Span)
    → unless_misplaced o t s ≡ Some x → IsClean x.0
placed_clean t s c None x e = subst (λ (y : Token × Span). IsClean y.0) (some_is (t, s) x e) c
placed_clean t s c (Some k) x e = absurd (cc e)

look_clean : (h : Option Span) (t : Token) (s : Span) → IsClean t → (x : Token × Span)
    → look_in source h t s ≡ Some x → IsClean x.0
look_clean None t s c x e = placed_clean t s c (format_fault t) x e
look_clean (Some p) t s c x e = absurd (cc e)

seen_clean : (p : Piece) → IsCleanPiece p → (x : Token × Span) → look source p ≡ Some x
    → IsClean x.0
seen_clean (last s) c x e = absurd (cc e)
seen_clean (piece h (token_at a b t)) c x e = look_clean h t (record { start = a; end = b }) c x e
seen_clean (piece h (fault_at k a b)) c x e = absurd (cc e)

word_named : (t : Token) (s : Span) (w : Word) → IsClean t → word_of t s ≡ Some w → IsNamed w
word_named (ident t) s w c e = subst IsNamed (some_is (record { text = t; span = s }) w e) c
word_named t s w c e = absurd (cc e)

-- a word that is ahead
pub ahead_named : (p : Piece) (w : Word) → IsCleanPiece p
    → value_of word_of (look source p) ≡ Some w → IsNamed w
ahead_named p w c e = by (look source p) refl e where
  by : (o : Seen) → look source p ≡ o → value_of word_of o ≡ Some w → IsNamed w
  by None is e = absurd (cc e)
  by (Some x) is e = word_named x.0 x.1 w (seen_clean p c x is) e
