-- Where a rule stops is where its fault is told.
use Rattle.std.proofs.Common.{[], ◌≡◌, ◌⊎◌, inl, inr, ◌++◌, ◌∷◌, Option, Some, None, Ok, Err, refl, ap, sym, subst, ◌∙◌, append_assoc}
use Rattle.protox_lex.specs.TextFormat.{format_fault}
use Rattle.protox_lex.specs.Token.{Token, token_at, fault_at}
use Rattle.protox_lex.specs.declared.error.LexErrorKind.{LexErrorKind}
use Rattle.protox_lex.specs.declared.span.Span.{Span}
use Rattle.protox_tokens.specs.Parser.{Outcome, Parser}
use Rattle.protox_tokens.specs.Refusal.{Expected, Fault, unexpected, eof, lexical, unknown_syntax, too_deep, misplaced, refusal}
use Rattle.protox_tokens.specs.Stream.{Piece, piece, last, Mode, source, text, Stream, Seen, look, unless_misplaced}
use Rattle.protox_tokens.proofs.Local.{SameHead}
use Rattle.protox_tokens.proofs.Both.{Always}
use Rattle.source_grammar.specs.Refusals.{Begins, BeginNothing, Shows, OpensBlock, IsPast, IsFirst, HasNone, IsToldAt, TellsFirst, TellsFirstInBlocks}
use Rattle.source_grammar.proofs.Viable.{stand_behind, Goes, Doomed, Went, Viable}

-- the token that a fault finds
abbrev found_by : Fault → Seen
found_by (unexpected x t at) = Some (t, at)
found_by (eof x) = None
found_by (lexical e) = None
found_by (unknown_syntax at) = None
found_by (too_deep at) = None

misplaced_is : (e : Expected) (o : Option LexErrorKind) (t : Token) (at : Span) → unless_misplaced o t at ≡ found_by (misplaced e o t at)
misplaced_is e None t at = refl
misplaced_is e (Some k) t at = refl

-- it is the one ahead
found_is : (m : Mode) (e : Expected) (p : Piece) (rest : Stream) → look m p ≡ found_by (refusal m e (p ∷ rest))
found_is source e (last c) rest = refl
found_is text e (last c) rest = refl
found_is source e (piece (Some c) (token_at a b t)) rest = refl
found_is text e (piece h (token_at a b t)) rest = refl
found_is source e (piece (Some c) (fault_at k a b)) rest = refl
found_is source e (piece None (token_at a b t)) rest = misplaced_is e (format_fault t) t (record { start = a; end = b })
found_is source e (piece None (fault_at k a b)) rest = refl
found_is text e (piece h (fault_at k a b)) rest = refl

shows : (m : Mode) (p : Piece) (t : Token) (at : Span) → look m p ≡ Some (t, at) → Shows p t at
shows source p t at h = inl h
shows text p t at h = inr h

-- Where the end is told, no token is left.
abbrev IsEnd : Fault → Type 0
IsEnd (unexpected x t at) = ⊥
IsEnd (eof x) = Unit {0}
IsEnd (lexical e) = ⊥
IsEnd (unknown_syntax at) = ⊥
IsEnd (too_deep at) = ⊥

none_there : (m : Mode) (e : Expected) (rest : Stream) → IsEnd (refusal m e rest) → HasNone rest
none_there m e [] h = tt
none_there m e (last c ∷ rest) h = tt
none_there source e (piece (Some c) (token_at a b t) ∷ rest) h = h
none_there text e (piece o (token_at a b t) ∷ rest) h = h
none_there source e (piece (Some c) (fault_at k a b) ∷ rest) h = h
none_there source e (piece None (token_at a b t) ∷ rest) h = by (format_fault t) h where
  by : (o : Option LexErrorKind) → IsEnd (misplaced e o t (record { start = a; end = b })) → ⊥
  by None h = h
  by (Some k) h = h
none_there source e (piece None (fault_at k a b) ∷ rest) h = h
none_there text e (piece o (fault_at k a b) ∷ rest) h = h

begun : {A I : Type 0} {H : Stream → Type 0} {p : Parser A} {F : I → A → Stream → Type 0} → ((i : I) (a : A) → F i a []) → (front : Stream) → Goes H p F front → Begins p front
begun fits front c = (c.more ++ [], stand_behind c.more [] c.stand tt, c.value, (c.reads [] (fits c.kind c.value)).1)

module _ {A : Type 0} (p : Parser A) (Alive : Stream → Type 0) where
  dead : (front : Stream) (here : Piece) (f : Fault) → ((s : Stream) → p (front ++ (here ∷ s)) ≡ Err f) → BeginNothing p (front ++ here ∷ [])
  dead front here f refused more a read =
      let wrong : ◌≡◌ {A = Outcome A} (Ok (a, [])) (Err f) = sym read ∙ ap p (append_assoc front (here ∷ []) more) ∙ refused more in
      absurd cc

  first : (ts front : Stream) (x : Expected) (t : Token) (at : Span) (rest : Stream) → ts ≡ front ++ rest → (m : Mode) (e : Expected) → refusal m e rest ≡ unexpected x t at
      → ((s : Stream) → SameHead rest s → p (front ++ s) ≡ Err (unexpected x t at)) → Alive front → IsFirst Alive p ts t at
  first ts front x t at [] whole m e g refused c = let wrong : ◌≡◌ {A = Seen} None (Some (t, at)) = ap found_by g in absurd cc
  first ts front x t at (here ∷ rest) whole m e g refused c =
      (front, here, rest, whole, shows m here t at (found_is m e here rest ∙ ap found_by g), c, dead front here (unexpected x t at) (λ s. refused (here ∷ s) refl))

  module _ {I : Type 0} (W : Piece → Type 0) (H : Stream → Type 0) (F : I → A → Stream → Type 0) (fate : (front : Stream) → Goes H p F front ⊎ Doomed W H p F front → Alive front) where
    told : (ts : Stream) (f : Fault) → Went W H p F ts (Err f) → IsToldAt Alive p ts f
    told ts (unexpected x t at) c = first ts c.front x t at c.rest c.whole c.ahead.0 c.ahead.1 c.ahead.2 (λ s h. (c.dead s h).1) (fate c.front c.alive)
    told ts (eof x) c = (c.front, c.rest, c.whole, none_there c.ahead.0 c.ahead.1 c.rest (subst IsEnd (sym c.ahead.2) tt), fate c.front c.alive)
    told ts (lexical e) c = tt
    told ts (unknown_syntax at) c = tt
    told ts (too_deep at) c = tt

-- where no token is already the first before the one that is told
abbrev pub Nowhere : Piece → Type 0
Nowhere p = ⊥

pub tells_first : {A I : Type 0} {p : Parser A} {F : I → A → Stream → Type 0} → ((i : I) (a : A) → F i a []) → Viable Nowhere Always p F → TellsFirst p
tells_first {p = p} {F = F} fits rule ts f h = told p (Begins p) Nowhere Always F fate ts f (subst (Went Nowhere Always p F ts) h (rule.held.at ts tt)) where
  fate : (front : Stream) → Goes Always p F front ⊎ Doomed Nowhere Always p F front → Begins p front
  fate front (inl c) = begun fits front c
  fate front (inr c) = absurd c.is_word

pub tells_in_blocks : {A I : Type 0} {p : Parser A} {F : I → A → Stream → Type 0} → ((i : I) (a : A) → F i a []) → Viable OpensBlock Always p F → TellsFirstInBlocks p
tells_in_blocks {p = p} {F = F} fits rule ts f h = told p (λ front. Begins p front ⊎ IsPast p front) OpensBlock Always F fate ts f (subst (Went OpensBlock Always p F ts) h (rule.held.at ts tt)) where
  fate : (front : Stream) → Goes Always p F front ⊎ Doomed OpensBlock Always p F front → Begins p front ⊎ IsPast p front
  fate front (inl c) = inl (begun fits front c)
  fate front (inr c) = inr (c.before, c.word, c.between, c.whole, c.is_word, begun fits c.before c.alive, λ more a read. (c.dead more).1 (a, []) (sym (ap p (append_assoc c.before (c.word ∷ []) more)) ∙ read))
