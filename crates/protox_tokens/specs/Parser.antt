-- Parsers on lists of tokens, and the steps that they are made of.
use Rattle.protox_lex.specs.Token.{Token, ident, int, str, sign}
use Rattle.protox_lex.specs.contracts.token.Sign.{the_type}
use Rattle.protox_lex.specs.declared.span.Span.{Span}
use Rattle.protox_tokens.specs.Refusal.{Expected, this, an_ident, an_int, a_string, Fault, eof, refusal}
use Rattle.protox_tokens.specs.Stream.{Stream, Mode, source, Seen, peek, tail, span_of}
use Rattle.protox_tree.specs.Tree.{Word}
use Rattle.std.specs.Prelude.{ℕ, zero, suc, Bool, true, false, not, if◌then◌else◌, List, [], ◌∷◌, length, Option, Some, None, Result, Ok, Err, is_some}
use Rattle.std.specs.Str.{bytes_eq}
use denote.Enum.Bare.{sameb}
use Rattle.protox_lex.specs.Lex as lex

abbrev pub Outcome : Type 0 → Type 0
Outcome A = Result (A × Stream) Fault

abbrev pub Parser : Type 0 → Type 0
Parser A = Stream → Outcome A

abbrev pub and_then : {A B : Type 0} → Outcome A → (A → Parser B) → Outcome B
and_then (Ok p) f = f p.0 p.1
and_then (Err e) f = Err e

infixl 10 ◌>>=◌
abbrev pub ◌>>=◌ : {A B : Type 0} → Parser A → (A → Parser B) → Parser B
p >>= f = λ ts. and_then (p ts) f

infixl 10 ◌>>◌
abbrev pub ◌>>◌ : {A B : Type 0} → Parser A → Parser B → Parser B
p >> q = p >>= (λ _. q)

abbrev pub pure : {A : Type 0} → A → Parser A
pure a = λ ts. Ok (a, ts)

infixr 11 ◌<$>◌
abbrev pub ◌<$>◌ : {A B : Type 0} → (A → B) → Parser A → Parser B
f <$> p = p >>= (λ x. pure (f x))

-- the same token; of words and signs alone, which a grammar names
abbrev pub same : Token → Token → Bool
same (ident s) (ident r) = bytes_eq s r
same (sign s) (sign r) = sameb the_type s r
same _ _ = false

-- where this token stands
abbrev pub is : Token → Token → Span → Option Span
is k t s = if same t k then Some s else None

abbrev pub value_of : {A : Type 0} → (Token → Span → Option A) → Seen → Option A
value_of f None = None
value_of f (Some x) = f x.0 x.1

abbrev pub saw : Mode → Token → Stream → Option Span
saw m k ts = value_of (is k) (peek m ts)

abbrev pub sees_in : Mode → Token → Stream → Bool
sees_in m k ts = is_some (saw m k ts)

abbrev pub sees : Token → Stream → Bool
sees k ts = sees_in source k ts

-- takes the token, if it comes next
abbrev pub eaten : Option Span → Stream → Outcome (Option Span)
eaten None ts = Ok (None, ts)
eaten (Some s) ts = Ok (Some s, tail ts)

unfoldable pub eat_in : Mode → Token → Parser (Option Span)
eat_in m k = λ ts. eaten (saw m k ts) ts

abbrev pub eat : Token → Parser (Option Span)
eat k = eat_in source k

-- the same, where it doesn't matter where that is
abbrev pub pass_in : Mode → Token → Parser Bool
pass_in m k = is_some <$> eat_in m k

abbrev pub pass : Token → Parser Bool
pass k = pass_in source k

-- takes the next token, if it has a value
abbrev pub taken : {A : Type 0} → Mode → Expected → Option A → Stream → Outcome A
taken m e (Some a) ts = Ok (a, tail ts)
taken m e None ts = Err (refusal m e ts)

abbrev pub one : {A : Type 0} → Mode → Expected → (Token → Span → Option A) → Parser A
one m e f = λ ts. taken m e (value_of f (peek m ts)) ts

unfoldable pub expect_in : Mode → Token → Parser Span
expect_in m k = one m (this k) (is k)

abbrev pub expect : Token → Parser Span
expect k = expect_in source k

abbrev pub word_of : Token → Span → Option Word
word_of (ident t) s = Some (record { text = t; span = s })
word_of _ s = None

unfoldable pub word : Parser Word
word = one source an_ident word_of

abbrev pub digits_of : Token → Span → Option (ℕ × Span)
digits_of (int n) s = Some (n, s)
digits_of _ s = None

unfoldable pub digits : Parser (ℕ × Span)
digits = one source an_int digits_of

abbrev pub literal_of : Token → Span → Option Word
literal_of (str raw) s = Some (record { text = lex.unescaped raw; span = s })
literal_of _ s = None

unfoldable pub literal : Parser Word
literal = one source a_string literal_of

abbrev pub goes_on : {A : Type 0} → Option A → Parser (List A) → Parser (List A)
goes_on None more = pure []
goes_on (Some x) more = (λ xs. x ∷ xs) <$> more

-- one value after the other, until a step gives none. The number bounds the steps.
unfoldable pub loop_from : {A : Type 0} → Parser (Option A) → ℕ → Parser (List A)
loop_from step zero ts = Err (eof an_ident)
loop_from step (suc n) ts = and_then (step ts) (λ o. goes_on o (loop_from step n))

-- each step takes a token, so the count of them is enough
unfoldable pub loop : {A : Type 0} → Parser (Option A) → Parser (List A)
loop step ts = loop_from step (suc (length ts)) ts

-- ---- steps of loops, and choices

-- a value behind a token, where that comes next
abbrev pub behind_in : {A : Type 0} → Mode → Token → Parser A → Parser (Option A)
behind_in m k p = do
  found ← pass_in m k
  if found then Some <$> p else pure None

abbrev pub behind : {A : Type 0} → Token → Parser A → Parser (Option A)
behind k p = behind_in source k p

-- a value, where what is ahead is so
abbrev pub when : {A : Type 0} → (Stream → Bool) → Parser A → Parser (Option A)
when f p = λ ts. if f ts then (Some <$> p) ts else Ok (None, ts)

-- a value, unless this token comes
abbrev pub until_in : {A : Type 0} → Mode → Token → Parser A → Parser (Option A)
until_in m k p = when (λ ts. not (sees_in m k ts)) p

abbrev pub until : {A : Type 0} → Token → Parser A → Parser (Option A)
until k p = until_in source k p

abbrev pub done : Parser (Unit {0})
done = pure tt

-- steps until one gives nothing, of which no value is kept
abbrev pub many : Parser (Option (Unit {0})) → Parser (Unit {0})
many step = loop step >>= (λ _. done)

-- one or more, with this token between them
abbrev pub some_by : {A : Type 0} → Token → Parser A → Parser (List A)
some_by k p = do
  x ← p
  xs ← loop (behind k p)
  pure (x ∷ xs)

abbrev pub choose : {A : Type 0} → (Stream → Bool) → Parser A → Parser A → Parser A
choose f p q = λ ts. if f ts then p ts else q ts

-- ---- what is ahead

abbrev pub is_str : Token → Bool
is_str (str raw) = true
is_str _ = false

abbrev pub is_string_of : Option (Token × Span) → Bool
is_string_of None = false
is_string_of (Some x) = is_str x.0

abbrev pub is_string_in : Mode → Stream → Bool
is_string_in m ts = is_string_of (peek m ts)

abbrev pub is_string : Stream → Bool
is_string ts = is_string_in source ts

-- where the next token stands
abbrev pub here : Parser Span
here = λ ts. Ok (span_of (peek source ts), ts)
