-- What comes next is one thing alone.
use Rattle.std.proofs.Common.{[], ◌≡◌, Bool, true, false, ◌∷◌, Some, None, refl, ap, sym, ◌∙◌}
use Rattle.std.specs.Prelude.{is_some}
use Rattle.protox_lex.specs.Token.{Token, int, sign}
use Rattle.protox_lex.specs.declared.literal.Int.{Int}
use Rattle.protox_lex.specs.declared.span.Span.{Span}
use Rattle.protox_lex.specs.declared.token.Sign.TheVariants as s
use Rattle.protox_tokens.specs.Stream.{Stream, Mode, Seen, look}
use Rattle.protox_tokens.specs.Parser.{same, is, value_of, sees_in, sees, is_str, is_string_of, is_string_in, is_string}
use Rattle.protox_tokens.specs.Marks.{spot}
use Rattle.protox_tokens.proofs.Steps.{same_is, seen_is, sees_first}
use Rattle.source_grammar.specs.Languages.{token_at}
use Rattle.source_grammar.specs.Names.{integer_of, integer}
use Rattle.source_grammar.proofs.NameLaws.{no_string}

told_same : (k l t : Token) → same k l ≡ false → same t k ≡ true → same t l ≡ false
told_same k l t e h = ap (λ x. same x l) (same_is t k h) ∙ e

-- where one token comes, another one doesn't
pub one_seen : (m : Mode) (k l : Token) (r : Stream) → same k l ≡ false → sees_in m k r ≡ true → sees_in m l r ≡ false
one_seen m k l [] e h = absurd cc
one_seen m k l (p ∷ r) e h = by (look m p) h where
  by : (x : Seen) → is_some (value_of (is k) x) ≡ true → is_some (value_of (is l) x) ≡ false
  by None h = absurd cc
  by (Some x) h = seen_is l x.0 x.1 ∙ told_same k l x.0 e (sym (seen_is k x.0 x.1) ∙ h)

-- and no string
pub seen_no_string : (m : Mode) (k : Token) (r : Stream) → is_str k ≡ false → sees_in m k r ≡ true → is_string_in m r ≡ false
seen_no_string m k [] e h = refl
seen_no_string m k (p ∷ r) e h = by (look m p) h where
  by : (x : Seen) → is_some (value_of (is k) x) ≡ true → is_string_of x ≡ false
  by None h = refl
  by (Some x) h = ap is_str (same_is x.0 k (sym (seen_is k x.0 x.1) ∙ h)) ∙ e

pub int_misses : (k : Token) (n : Int) (ts r : Stream) → same (sign s.Minus) k ≡ false → same (int n.value) k ≡ false → integer n ts r → sees k ts ≡ false
int_misses k n ts r e f h = by (n.negative) h where
  by : (b : Bool) → integer_of b n ts r → sees k ts ≡ false
  by true h = sees_first k (spot h.1.0 (sign s.Minus)) [] ts h.0 h.1.1 ∙ e
  by false h = sees_first k (spot n.span (int n.value)) [] ts r h ∙ f

pub int_no_string : (n : Int) (ts r : Stream) → integer n ts r → is_string ts ≡ false
int_no_string n ts r h = by (n.negative) h where
  by : (b : Bool) → integer_of b n ts r → is_string ts ≡ false
  by true h = no_string (sign s.Minus) h.1.0 ts h.0 refl h.1.1
  by false h = no_string (int n.value) n.span ts r refl h

-- a token that a language begins with
pub begins_misses : (k l : Token) (P : Span → Type 0) (ts r : Stream) → same l k ≡ false → token_at l P ts r → sees k ts ≡ false
begins_misses k l P ts r e h = sees_first k (spot h.0 l) [] ts r h.1 ∙ e

pub begins_no_string : (l : Token) (P : Span → Type 0) (ts r : Stream) → is_str l ≡ false → token_at l P ts r → is_string ts ≡ false
begins_no_string l P ts r e h = no_string l h.0 ts r e h.1
