-- A fault of tokens that is told is one that the text has.
use Rattle.protox_lex.specs.Class.{Text}
use Rattle.protox_lex.specs.TextFormat.{format_fault}
use Rattle.protox_lex.specs.Token.{Token, ident, int, float, str, sign, comment, Lexeme, token_at, fault_at}
use Rattle.protox_lex.specs.declared.error.LexError.{LexError}
use Rattle.protox_lex.specs.declared.error.LexErrorKind.{LexErrorKind}
use Rattle.protox_lex.specs.declared.error.LexErrorKind.TheVariants as kinds
use Rattle.protox_lex.specs.declared.span.Span.{Span}
use Rattle.protox_tokens.proofs.Local.{IsAt, Local, LocalAt}
use Rattle.protox_tokens.specs.Parser.{Parser}
use Rattle.protox_tokens.specs.Refusal.{Expected, lexical, misplaced, refusal}
use Rattle.protox_tokens.specs.Stream.{HasLexical, IsRead, Piece, piece, last, Mode, source, text, Stream, gather}
use Rattle.std.proofs.Common.{◌≡◌, ◌⊎◌, inl, inr, ℕ, List, [], ◌∷◌, ◌++◌, Option, Some, None, Err, refl, sym, subst, ◌∙◌, arith}
use Rattle.std.proofs.lemmas.List.Elements.{Contains-append_right}
use Rattle.std.specs.List.{Contains}

-- ---- where pieces come from

here : (l : Lexeme) (ls : List Lexeme) → Contains (l ∷ ls) l
here l ls = (0, omega arith, refl)

behind : (x l : Lexeme) (ls : List Lexeme) → Contains ls l → Contains (x ∷ ls) l
behind x l ls h = Contains-append_right (x ∷ []) ls l h

-- a comment was met before these lexemes, or is one of them
abbrev FromComment : Option Span → List Lexeme → Span → Type 0
FromComment h ls c = (h ≡ Some c) ⊎ Contains ls (token_at c.start c.end comment)

abbrev FromLexemes : Option Span → List Lexeme → Piece → Type 0
FromLexemes h ls (piece None l) = Contains ls l
FromLexemes h ls (piece (Some c) l) = Contains ls l × FromComment h ls c
FromLexemes h ls (last c) = FromComment h ls c

-- one lexeme more in front
module _ (h k : Option Span) (x : Lexeme) (ls : List Lexeme) (met : (c : Span) → k ≡ Some c → FromComment h (x ∷ ls) c) where
  more_comment : (c : Span) → FromComment k ls c → FromComment h (x ∷ ls) c
  more_comment c (inl e) = met c e
  more_comment c (inr i) = inr (behind x (token_at c.start c.end comment) ls i)

  more : (p : Piece) → FromLexemes k ls p → FromLexemes h (x ∷ ls) p
  more (piece None l) i = behind x l ls i
  more (piece (Some c) l) i = (behind x l ls i.0, more_comment c i.1)
  more (last c) i = more_comment c i

first : (h : Option Span) (x : Lexeme) (ls : List Lexeme) → FromLexemes h (x ∷ ls) (piece h x)
first None x ls = here x ls
first (Some c) x ls = (here x ls, inl refl)

-- a lexeme that is no comment, with what is gathered behind it
one_more : (h : Option Span) (x : Lexeme) (ls : List Lexeme) (s : Stream) (front rest : Stream) (p : Piece) → piece h x ∷ s ≡ front ++ (p ∷ rest)
    → ((f : Stream) → s ≡ f ++ (p ∷ rest) → FromLexemes None ls p) → FromLexemes h (x ∷ ls) p
one_more h x ls s [] rest p e later = let is : piece h x ≡ p = cc in subst (FromLexemes h (x ∷ ls)) is (first h x ls)
one_more h x ls s (y ∷ front) rest p e later =
    let others : s ≡ front ++ (p ∷ rest) = cc in
    more h None x ls (λ c n. absurd (cc)) p (later front others)

none_left : {X : Type 0} (front rest : Stream) (p : Piece) → ◌≡◌ {A = Stream} [] (front ++ (p ∷ rest)) → X
none_left [] rest p e = absurd (cc)
none_left (y ∷ front) rest p e = absurd (cc)

-- this comment
met_here : (at : Span) (ls : List Lexeme) (c : Span) → ◌≡◌ {A = Option Span} (Some at) (Some c) → FromComment None (token_at at.start at.end comment ∷ ls) c
met_here at ls c e =
    let is : at ≡ c = cc in
    inr (subst (λ s. Contains (token_at at.start at.end comment ∷ ls) (token_at s.start s.end comment)) is (here (token_at at.start at.end comment) ls))

gathered : (h : Option Span) (ls : List Lexeme) (front rest : Stream) (p : Piece) → gather h ls ≡ front ++ (p ∷ rest) → FromLexemes h ls p
gathered None [] front rest p e = none_left front rest p e
gathered (Some s) [] [] rest p e = let is : last s ≡ p = cc in subst (FromLexemes (Some s) []) is (inl refl)
gathered (Some s) [] (y ∷ front) rest p e = let left : ◌≡◌ {A = Stream} [] (front ++ (p ∷ rest)) = cc in none_left front rest p left
gathered None (token_at a b comment ∷ ls) front rest p e =
    let at : Span = record { start = a; end = b } in
    more None (Some at) (token_at a b comment) ls (met_here at ls) p (gathered (Some at) ls front rest p e)
gathered (Some s) (token_at a b comment ∷ ls) front rest p e =
    more (Some s) (Some s) (token_at a b comment) ls (λ c is. inl is) p (gathered (Some s) ls front rest p e)
gathered None (token_at a b (ident t) ∷ ls) front rest p e = one_more None (token_at a b (ident t)) ls (gather None ls) front rest p e (λ f g. gathered None ls f rest p g)
gathered None (token_at a b (int t) ∷ ls) front rest p e = one_more None (token_at a b (int t)) ls (gather None ls) front rest p e (λ f g. gathered None ls f rest p g)
gathered None (token_at a b (float t) ∷ ls) front rest p e = one_more None (token_at a b (float t)) ls (gather None ls) front rest p e (λ f g. gathered None ls f rest p g)
gathered None (token_at a b (str t) ∷ ls) front rest p e = one_more None (token_at a b (str t)) ls (gather None ls) front rest p e (λ f g. gathered None ls f rest p g)
gathered None (token_at a b (sign t) ∷ ls) front rest p e = one_more None (token_at a b (sign t)) ls (gather None ls) front rest p e (λ f g. gathered None ls f rest p g)
gathered None (fault_at k a b ∷ ls) front rest p e = one_more None (fault_at k a b) ls [] front rest p e (λ f g. none_left f rest p g)
gathered (Some s) (token_at a b (ident t) ∷ ls) front rest p e = one_more (Some s) (token_at a b (ident t)) ls (gather None ls) front rest p e (λ f g. gathered None ls f rest p g)
gathered (Some s) (token_at a b (int t) ∷ ls) front rest p e = one_more (Some s) (token_at a b (int t)) ls (gather None ls) front rest p e (λ f g. gathered None ls f rest p g)
gathered (Some s) (token_at a b (float t) ∷ ls) front rest p e = one_more (Some s) (token_at a b (float t)) ls (gather None ls) front rest p e (λ f g. gathered None ls f rest p g)
gathered (Some s) (token_at a b (str t) ∷ ls) front rest p e = one_more (Some s) (token_at a b (str t)) ls (gather None ls) front rest p e (λ f g. gathered None ls f rest p g)
gathered (Some s) (token_at a b (sign t) ∷ ls) front rest p e = one_more (Some s) (token_at a b (sign t)) ls (gather None ls) front rest p e (λ f g. gathered None ls f rest p g)
gathered (Some s) (fault_at k a b ∷ ls) front rest p e = one_more (Some s) (fault_at k a b) ls [] front rest p e (λ f g. none_left f rest p g)

-- ---- what is told of what is ahead

-- the lexemes have this fault
abbrev Has : List Lexeme → LexError → Type 0
Has ls e =
    Contains ls (fault_at e.kind e.span.start e.span.end)
    ⊎ ((t : Token) × Contains ls (token_at e.span.start e.span.end t) × (format_fault t ≡ Some e.kind))

of_comment : (ls : List Lexeme) (c : Span) (e : LexError) → lexical (record { kind = kinds.HashCommentOutsideTextFormat; span = c }) ≡ lexical e → FromComment None ls c → Has ls e
of_comment ls c e g (inl n) = absurd (cc)
of_comment ls c e g (inr i) =
    let is : ◌≡◌ {A = LexError} (record { kind = kinds.HashCommentOutsideTextFormat; span = c }) e = cc in
    subst (Has ls) is (inr (comment, i, refl))

of_token : (x : Expected) (ls : List Lexeme) (a b : ℕ) (t : Token) (e : LexError) (o : Option LexErrorKind) → format_fault t ≡ o → misplaced x o t (record { start = a; end = b }) ≡ lexical e
    → Contains ls (token_at a b t) → Has ls e
of_token x ls a b t e None n g i = absurd (cc)
of_token x ls a b t e (Some k) n g i =
    let is : ◌≡◌ {A = LexError} (record { kind = k; span = record { start = a; end = b } }) e = cc in
    subst (Has ls) is (inr (t, i, n))

of_fault : (ls : List Lexeme) (k : LexErrorKind) (a b : ℕ) (e : LexError) → lexical (record { kind = k; span = record { start = a; end = b } }) ≡ lexical e → Contains ls (fault_at k a b) → Has ls e
of_fault ls k a b e g i =
    let is : ◌≡◌ {A = LexError} (record { kind = k; span = record { start = a; end = b } }) e = cc in
    subst (Has ls) is (inl i)

ahead : (m : Mode) (x : Expected) (ls : List Lexeme) (p : Piece) (rest : Stream) (e : LexError) → refusal m x (p ∷ rest) ≡ lexical e → FromLexemes None ls p → Has ls e
ahead source x ls (last c) rest e g i = of_comment ls c e g i
ahead text x ls (last c) rest e g i = absurd (cc)
ahead source x ls (piece (Some c) l) rest e g i = of_comment ls c e (of_head l g) i.1 where
  of_head : (l : Lexeme) → refusal source x (piece (Some c) l ∷ rest) ≡ lexical e → lexical (record { kind = kinds.HashCommentOutsideTextFormat; span = c }) ≡ lexical e
  of_head (token_at a b t) g = g
  of_head (fault_at k a b) g = g
ahead source x ls (piece None (token_at a b t)) rest e g i = of_token x ls a b t e (format_fault t) refl g i
ahead source x ls (piece None (fault_at k a b)) rest e g i = of_fault ls k a b e g i
ahead text x ls (piece None (token_at a b t)) rest e g i = absurd (cc)
ahead text x ls (piece (Some c) (token_at a b t)) rest e g i = absurd (cc)
ahead text x ls (piece None (fault_at k a b)) rest e g i = of_fault ls k a b e g i
ahead text x ls (piece (Some c) (fault_at k a b)) rest e g i = of_fault ls k a b e g i.0

ended : {X : Type 0} (m : Mode) (x : Expected) (e : LexError) → refusal m x [] ≡ lexical e → X
ended source x e g = absurd (cc)
ended text x e g = absurd (cc)

-- where a rule refuses what is read of a text for a fault of tokens, the text has it
pub there : {A : Type 0} {p : Parser A} → Local p → (z : Text) (s : Stream) (e : LexError) → IsRead z s → p s ≡ Err (lexical e) → HasLexical z e ⊎ (e.kind ≡ kinds.IntegerOutOfRange)
there {p = p} local z s e (ls, lexes, is) h = let c = subst (LocalAt p s) h (local.at s) in by c.2.front c.0 (sym is ∙ c.2.whole) c.1 where
  by : (front r : Stream) → gather None ls ≡ front ++ r → IsAt (lexical e) r → HasLexical z e ⊎ (e.kind ≡ kinds.IntegerOutOfRange)
  by front r whole (inr out) = inr out
  by front [] whole (inl (m, x, g)) = ended m x e g
  by front (p ∷ rest) whole (inl (m, x, g)) = inl (ls, lexes, ahead m x ls p rest e g (gathered None ls front rest p whole))
