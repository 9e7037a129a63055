-- Scalar values at the front of lexemes, and their tokens.
use Rattle.std.proofs.Common.{◌≡◌, ◌↔◌, ℕ, ◌==◌, List, [], ◌∷◌, map, Bool, true, false, cond, Option, Some, None, refl, sym, ap, subst, ◌∙◌}
use Rattle.std.proofs.lemmas.Bool.Decides.{Decides-eqb}
use Rattle.protox_lex.specs.Class.{Text}
use Rattle.protox_lex.specs.declared.span.Span.{Span}
use Rattle.text_lex.specs.declared.lexer.LexError.{LexError}
use Rattle.text_lex.specs.Token.{ident, int, float, str, sign, Lexeme, token_at, fault}
use Rattle.text_model.specs.Tree.{Word, integer, floating, identifier, ScalarValue, signed, strings}
use Rattle.text_model.specs.Tokens.{scalar_tokens, word_token}
use Rattle.text_scalars.specs.Front.{fault_at, from_to, literal_in, next, rest_of}
use Rattle.text_scalars.specs.Scalars.{Found, Literals, joined, literals_at, scalar_at, word_at}
use Rattle.text_scalars.specs.Spelled.{Begin, Follows, IsScalar, start_of}
use Rattle.text_scalars.proofs.Literals.{literals_end}

abbrev found : ScalarValue → ℕ → ℕ → List Lexeme → Option Found
found v start stop rest = Some (record { value = v; span = from_to start stop; rest = rest })

-- ---- from tokens

-- a word alone
word_alone : (a b : ℕ) (w : Word) (ls : List Lexeme)
    → scalar_at (token_at a b (word_token w) ∷ ls) ≡ found (signed false w) a b ls
word_alone a b (integer r d) ls = refl
word_alone a b (floating s) ls = refl
word_alone a b (identifier s) ls = refl

-- behind a minus
word_negative : (a b c d : ℕ) (w : Word) (ls : List Lexeme)
    → scalar_at (token_at a b (sign 45) ∷ token_at c d (word_token w) ∷ ls) ≡ found (signed true w) a d ls
word_negative a b c d (integer r digits) ls = refl
word_negative a b c d (floating s) ls = refl
word_negative a b c d (identifier s) ls = refl

-- literals
literals_are : (ss : List Text) (place : ℕ) (ls : List Lexeme) (stop : ℕ) (rest : List Lexeme)
    → Begin (map str ss) place ls stop rest → next literal_in rest ≡ None
    → literals_at place ls ≡ record { texts = ss; end = stop; rest = rest }
literals_are [] place ls stop rest h none =
    literals_end place ls (subst (λ r. next literal_in r ≡ None) h.1 none)
    ∙ ap (λ p. let it : Literals = record { texts = []; end = p; rest = ls } in it) (sym h.0)
    ∙ ap (λ r. let it : Literals = record { texts = []; end = stop; rest = r } in it) (sym h.1)
literals_are (s ∷ ss) place [] stop rest h none = absurd h
literals_are (s ∷ ss) place (fault e ∷ ls) stop rest h none = absurd h
literals_are (s ∷ ss) place (token_at a b u ∷ ls) stop rest h none =
    ap (λ t. literals_at place (token_at a b t ∷ ls)) h.0
    ∙ ap (λ (l : Literals). let it : Literals = record { texts = s ∷ l.texts; end = l.end; rest = l.rest } in it)
    (literals_are ss b ls stop rest h.1 none)

strings_are : (a b : ℕ) (s : Text) (ss : List Text) (ls : List Lexeme) (stop : ℕ) (rest : List Lexeme)
    → Begin (map str ss) b ls stop rest → next literal_in rest ≡ None → fault_at rest ≡ None
    → scalar_at (token_at a b (str s) ∷ ls) ≡ found (strings s ss) a stop rest
strings_are a b s ss ls stop rest h none good =
    ap (joined s a) (literals_are ss b ls stop rest h none)
    ∙ ap (λ o. elim o [ None ↦ found (strings s ss) a stop rest | Some e ↦ None ]) good

scalar_found : (v : ScalarValue) (ls : List Lexeme) (start stop : ℕ) (rest : List Lexeme)
    → Begin (scalar_tokens v) 0 ls stop rest → start ≡ start_of ls → Follows v rest
    → scalar_at ls ≡ found v start stop rest
scalar_found (signed true w) [] start stop rest h e f = absurd h
scalar_found (signed true w) (fault x ∷ ls) start stop rest h e f = absurd h
scalar_found (signed true w) (token_at a b u ∷ []) start stop rest h e f = absurd h.1
scalar_found (signed true w) (token_at a b u ∷ fault x ∷ ls) start stop rest h e f = absurd h.1
scalar_found (signed true w) (token_at a b u ∷ token_at c d t ∷ ls) start stop rest h e f =
    ap (λ x. scalar_at (token_at a b x ∷ token_at c d t ∷ ls)) h.0
    ∙ ap (λ x. scalar_at (token_at a b (sign 45) ∷ token_at c d x ∷ ls)) h.1.0
    ∙ word_negative a b c d w ls
    ∙ ap (λ x. found (signed true w) x d ls) (sym e)
    ∙ ap (λ x. found (signed true w) start x ls) (sym h.1.1.0)
    ∙ ap (found (signed true w) start stop) (sym h.1.1.1)
scalar_found (signed false w) [] start stop rest h e f = absurd h
scalar_found (signed false w) (fault x ∷ ls) start stop rest h e f = absurd h
scalar_found (signed false w) (token_at a b u ∷ ls) start stop rest h e f =
    ap (λ x. scalar_at (token_at a b x ∷ ls)) h.0
    ∙ word_alone a b w ls
    ∙ ap (λ x. found (signed false w) x b ls) (sym e)
    ∙ ap (λ x. found (signed false w) start x ls) (sym h.1.0)
    ∙ ap (found (signed false w) start stop) (sym h.1.1)
scalar_found (strings s ss) [] start stop rest h e f = absurd h
scalar_found (strings s ss) (fault x ∷ ls) start stop rest h e f = absurd h
scalar_found (strings s ss) (token_at a b u ∷ ls) start stop rest h e f =
    ap (λ x. scalar_at (token_at a b x ∷ ls)) h.0
    ∙ strings_are a b s ss ls stop rest h.1 f.0 f.1
    ∙ ap (λ x. found (strings s ss) x stop rest) (sym e)

-- ---- to tokens

-- what a found value has
abbrev Has : List Lexeme → Option Found → Type 0
Has ls (Some f) = IsScalar ls f
Has ls None = Unit {0}

-- the literals that are found are there
literals_begin : (place : ℕ) (ls : List Lexeme)
    → Begin (map str (literals_at place ls).texts) place ls (literals_at place ls).end (literals_at place ls).rest
    × (next literal_in (literals_at place ls).rest ≡ None)
literals_begin place [] = ((refl, refl), refl)
literals_begin place (fault e ∷ ls) = ((refl, refl), refl)
literals_begin place (token_at a b (str s) ∷ ls) =
    let h = literals_begin b ls in ((refl, h.0), h.1)
literals_begin place (token_at a b (ident s) ∷ ls) = ((refl, refl), refl)
literals_begin place (token_at a b (int r d) ∷ ls) = ((refl, refl), refl)
literals_begin place (token_at a b (float s) ∷ ls) = ((refl, refl), refl)
literals_begin place (token_at a b (sign k) ∷ ls) = ((refl, refl), refl)

has_strings : (a b : ℕ) (s : Text) (ls : List Lexeme) (o : Option LexError) → fault_at (literals_at b ls).rest ≡ o
    → Has (token_at a b (str s) ∷ ls) (elim o [ None ↦ found (strings s (literals_at b ls).texts) a (literals_at b ls).end (literals_at b ls).rest | Some e ↦ None ])
has_strings a b s ls (Some e) good = tt
has_strings a b s ls None good =
    let h = literals_begin b ls in record {
      begin = (refl, h.0);
      start = refl;
      follows = (h.1, good);
    }

negative : (a b k : ℕ) (ls : List Lexeme) → k ≡ 45
    → Has (token_at a b (sign k) ∷ ls) (word_at (Some (from_to a b)) ls None)
negative a b k [] e = tt
negative a b k (fault x ∷ ls) e = tt
negative a b k (token_at c d (ident s) ∷ ls) e =
    record { begin = (ap sign e, (refl, (refl, refl))); start = refl; follows = tt }
negative a b k (token_at c d (int r s) ∷ ls) e =
    record { begin = (ap sign e, (refl, (refl, refl))); start = refl; follows = tt }
negative a b k (token_at c d (float s) ∷ ls) e =
    record { begin = (ap sign e, (refl, (refl, refl))); start = refl; follows = tt }
negative a b k (token_at c d (str s) ∷ ls) e = tt
negative a b k (token_at c d (sign j) ∷ ls) e = tt

abbrev at_sign : Bool → ℕ → ℕ → Option Span
at_sign v a b = cond v (Some (from_to a b)) None

has_sign : (a b k : ℕ) (ls : List Lexeme) (v : Bool) → (k == 45) ≡ v
    → Has (token_at a b (sign k) ∷ ls)
    (word_at (at_sign v a b) (rest_of (at_sign v a b) (token_at a b (sign k) ∷ ls)) None)
has_sign a b k ls true e = negative a b k ls ((Decides-eqb k 45).0 e)
has_sign a b k ls false e = tt

has : (ls : List Lexeme) → Has ls (scalar_at ls)
has [] = tt
has (fault e ∷ ls) = tt
has (token_at a b (ident s) ∷ ls) = record { begin = (refl, (refl, refl)); start = refl; follows = tt }
has (token_at a b (int r d) ∷ ls) = record { begin = (refl, (refl, refl)); start = refl; follows = tt }
has (token_at a b (float s) ∷ ls) = record { begin = (refl, (refl, refl)); start = refl; follows = tt }
has (token_at a b (str s) ∷ ls) = has_strings a b s ls (fault_at (literals_at b ls).rest) refl
has (token_at a b (sign k) ∷ ls) = has_sign a b k ls (k == 45) refl

pub scalars : (ls : List Lexeme) (f : Found) → (scalar_at ls ≡ Some f) ↔ IsScalar ls f
scalars ls f = (
  (λ e. subst (Has ls) e (has ls)),
  λ h. scalar_found f.value ls f.span.start f.span.end f.rest h.begin h.start h.follows,
)
