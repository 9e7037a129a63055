-- What the rules of names, numbers and strings read.
use Rattle.std.proofs.Common.{[], ◌≡◌, ℕ, Bool, true, false, List, ◌∷◌, Option, Some, None, Ok, refl, ap, sym, subst, ◌∙◌, inl, inr, ◌⊎◌}
use Rattle.std.specs.Prelude.{is_some}
use Rattle.protox_lex.specs.Lex as lex
use Rattle.protox_lex.specs.Token.{Token, ident, int, float, str, sign, comment}
use Rattle.protox_lex.specs.declared.literal.Int.{Int}
use Rattle.protox_lex.specs.declared.span.Span.{Span}
use Rattle.protox_lex.specs.declared.token.Sign.TheVariants as s
use Rattle.protox_options.specs.NameGrammar.{full_ident, parts_after, type_name, from_sign, an_int as int_rule, strings}
use Rattle.protox_options.proofs.NameLaws.{parts_turns, strings_turns}
use Rattle.protox_tree.specs.Tree.{Word, TypeName}
use Rattle.protox_tokens.specs.Stream.{Stream, Seen, source, look}
use Rattle.protox_tokens.specs.Parser.{Parser, ◌>>=◌, pure, same, sees, word_of, word, digits_of, digits, literal_of, literal, loop, when, is_str, is_string_of, is_string, some_by}
use Rattle.protox_tokens.specs.Refusal.{an_ident, an_int, a_string}
use Rattle.protox_tokens.specs.Marks.{literal as literal_mark, FitsMark, FitsToken, IsLiteral, spot, word_mark, IsAny}
use Rattle.protox_tokens.proofs.Local.{same_ok, bound}
use Rattle.protox_tokens.proofs.Both.{Always, Free, then_ok}
use Rattle.protox_tokens.proofs.Steps.{Absent, both_leaf, sees_first}
use Rattle.protox_tokens.proofs.Lists.{Lastly, lastly_all}
use Rattle.source_grammar.specs.Languages.{Language, one, token_at, begins, ends, ◌▸◌, each}
use Rattle.source_grammar.specs.Names.{a_word, full_name, a_type_name, integer_of, integer, a_string as string_of, NoDot, NoString}
use Rattle.source_grammar.proofs.Rules.{Rule, rule_as, of_both, rule_then, rule_map, rule_last, rule_eat, rule_branch, rule_while, rule_some_by}

-- ---- one token

word_fits : (t : Token) (p : Span) (w : Word) → word_of t p ≡ Some w → FitsToken (word_mark w) t p × (Unit {0} × Unit {0})
word_fits (ident t) p w e = let is : ◌≡◌ {A = Word} (record { text = t; span = p }) w = cc in ((ap (λ w. w.span) (sym is), ap (λ w. ident (w.text)) (sym is)), (tt, tt))
word_fits (int t) p w e = absurd cc
word_fits (float t) p w e = absurd cc
word_fits (str t) p w e = absurd cc
word_fits (sign t) p w e = absurd cc
word_fits comment p w e = absurd cc

word_back : (t : Token) (p : Span) (w : Word) → FitsToken (word_mark w) t p → Unit {0} → Unit {0} → word_of t p ≡ Some w
word_back t p w h k r = ap (λ t. word_of t p) (sym h.1) ∙ ap (λ p. Some (record { text = w.text; span = p })) (sym h.0)

pub rule_word : {H : Stream → Type 0} → Rule H word a_word IsAny Free
unfolding word
rule_word = of_both (both_leaf an_ident word_of word_mark IsAny IsAny word_fits word_back)

literal_fits : (t : Token) (p : Span) (w : Word) → literal_of t p ≡ Some w → FitsToken (literal_mark w) t p × (Unit {0} × Unit {0})
literal_fits (str t) p w e = let is : ◌≡◌ {A = Word} (record { text = lex.unescaped t; span = p }) w = cc in ((ap (λ w. w.text) (sym is), ap (λ w. w.span) (sym is)), (tt, tt))
literal_fits (ident t) p w e = absurd cc
literal_fits (int t) p w e = absurd cc
literal_fits (float t) p w e = absurd cc
literal_fits (sign t) p w e = absurd cc
literal_fits comment p w e = absurd cc

literal_back : (t : Token) (p : Span) (w : Word) → FitsToken (literal_mark w) t p → Unit {0} → Unit {0} → literal_of t p ≡ Some w
literal_back (str t) p w h k r = rw (← h.0, ← h.1) refl
literal_back (ident t) p w h k r = absurd h
literal_back (int t) p w h k r = absurd h
literal_back (float t) p w h k r = absurd h
literal_back (sign t) p w h k r = absurd h
literal_back comment p w h k r = absurd h

rule_literal : {H : Stream → Type 0} → Rule H literal (λ w. one (literal_mark w)) IsAny Free
unfolding literal
rule_literal = of_both (both_leaf a_string literal_of literal_mark IsAny IsAny literal_fits literal_back)

abbrev Digits : ℕ × Span → Language
Digits d = one (spot d.1 (int d.0))

digits_fits : (t : Token) (p : Span) (d : ℕ × Span) → digits_of t p ≡ Some d → FitsToken (spot d.1 (int d.0)) t p × (Unit {0} × Unit {0})
digits_fits (int n) p d e = let is : ◌≡◌ {A = ℕ × Span} (n, p) d = cc in ((ap (λ d. d.1) (sym is), ap (λ d. int (d.0)) (sym is)), (tt, tt))
digits_fits (ident t) p d e = absurd cc
digits_fits (float t) p d e = absurd cc
digits_fits (str t) p d e = absurd cc
digits_fits (sign t) p d e = absurd cc
digits_fits comment p d e = absurd cc

digits_back : (t : Token) (p : Span) (d : ℕ × Span) → FitsToken (spot d.1 (int d.0)) t p → Unit {0} → Unit {0} → digits_of t p ≡ Some d
digits_back t p d h k r = ap (λ t. digits_of t p) (sym h.1) ∙ ap (λ p. Some (d.0, p)) (sym h.0)

rule_digits : {H : Stream → Type 0} → Rule H digits Digits IsAny Free
unfolding digits
rule_digits = of_both (both_leaf an_int digits_of (λ d. spot d.1 (int d.0)) IsAny IsAny digits_fits digits_back)

-- ---- names

full_is : (ts : Stream) → full_ident ts ≡ some_by (sign s.Dot) word ts
unfolding full_ident parts_after
full_is ts = refl

pub rule_full : {H : Stream → Type 0} → Rule H full_ident full_name IsAny NoDot
rule_full {H} = record {
  sound = λ ts r ws h e. let x = dotted.sound ts r ws h (sym (full_is ts) ∙ e) in (x.0, tt, x.2.0);
  complete = λ ts r ws h k f. full_is ts ∙ dotted.complete ts r ws h tt (f, lastly_all Free ws r (λ w. tt));
} where
  dotted : Rule H (some_by (sign s.Dot) word) full_name IsAny (λ ws r. (sees (sign s.Dot) r ≡ false) × Lastly {A = Word} Free ws r)
  dotted = rule_some_by (sign s.Dot) refl rule_word parts_turns (λ w r e. tt)

-- a word is no sign
pub word_misses : (k : Token) (w : Word) (ts r : Stream) → same (ident w.text) k ≡ false → a_word w ts r → sees k ts ≡ false
word_misses k w ts r e h = sees_first k (word_mark w) [] ts r h ∙ e

pub full_no_dot : (ws : List Word) (ts r : Stream) → full_name ws ts r → sees (sign s.Dot) ts ≡ false
full_no_dot [] ts r h = absurd h
full_no_dot (w ∷ ws) ts r h = word_misses (sign s.Dot) w ts h.0 refl h.1

pub absent_dot : (o : Option Span) (ws : List Word) (ts r : Stream) → full_name ws ts r → Absent (sign s.Dot) o ts
absent_dot None ws ts r h = full_no_dot ws ts r h
absent_dot (Some p) ws ts r h = tt

pub rule_type_name : {H : Stream → Type 0} → Rule H type_name a_type_name IsAny NoDot
unfolding type_name
rule_type_name =
    rule_then (λ (t : TypeName). t.leading_dot) (rule_eat (sign s.Dot) refl) (λ t ts r h g. absent_dot t.leading_dot t.parts ts r h) (λ dot.
    rule_last (λ (t : TypeName). t.parts) (λ ws. record { leading_dot = dot; parts = ws }) rule_full (λ ws. (refl, (refl, tt))) (λ t k. rw (← k.0) refl) (λ t r f. f) (λ t r f. f))

-- ---- numbers

abbrev int_of : Option Span → ℕ × Span → Int
int_of minus d = record { negative = is_some minus; value = d.0; span = from_sign minus d.1 }

abbrev Negative : Int → Language
Negative n ts r = (n.negative ≡ true) × token_at (int n.value) (ends n.span) ts r

abbrev Unsigned : Int → Language
Unsigned n ts r = (n.negative ≡ false) × one (spot n.span (int n.value)) ts r

made_negative : (m q : Span) (n : Int) → n.negative ≡ true → n.span.start ≡ m.start → n.span.end ≡ q.end → int_of (Some m) (n.value, q) ≡ n
made_negative m q n e f g = rw (← e, ← f, ← g) refl

rule_negative : (m : Span) → Rule Always (digits >>= (λ d. pure (int_of (Some m) d))) Negative (λ n. begins n.span m) Free
rule_negative m = rule_map (int_of (Some m)) rule_digits (λ d ts r h f. ((refl, (d.1, h, refl)), refl, tt))
    (λ n ts r h k g. ((n.value, h.1.0), made_negative m h.1.0 n h.0 k h.1.2, h.1.1, tt))

made_unsigned : (n : Int) → n.negative ≡ false → int_of None (n.value, n.span) ≡ n
made_unsigned n e = rw (← e) refl

rule_unsigned : {H : Stream → Type 0} → Rule H (digits >>= (λ d. pure (int_of None d))) Unsigned IsAny Free
rule_unsigned = rule_map (int_of None) rule_digits (λ d ts r h f. ((refl, h), tt, tt)) (λ n ts r h k g. ((n.value, n.span), made_unsigned n h.0, h.1, tt))

abbrev int_after : Option Span → Parser Int
int_after minus = digits >>= (λ d. pure (int_of minus d))

pub rule_int : {H : Stream → Type 0} → Rule H int_rule integer IsAny Free
unfolding int_rule
rule_int = rule_as (rule_branch (sign s.Minus) refl int_after (λ n. begins n.span) rule_negative rule_unsigned
    (λ n ts r h g. sees_first (sign s.Minus) (spot n.span (int n.value)) [] ts r h.1)) (λ n ts r h f. (to n ts r h, tt)) (λ n ts r h f. (from n ts r h, tt)) where
      to : (n : Int) (ts r : Stream) → (token_at (sign s.Minus) (begins n.span) ▸ Negative n) ts r ⊎ Unsigned n ts r → integer n ts r
      to n ts r (inl h) = subst (λ b. integer_of b n ts r) (sym h.2.0) (h.0, h.1, h.2.1)
      to n ts r (inr h) = subst (λ b. integer_of b n ts r) (sym h.0) h.1

      from : (n : Int) (ts r : Stream) → integer n ts r → (token_at (sign s.Minus) (begins n.span) ▸ Negative n) ts r ⊎ Unsigned n ts r
      from n ts r h = by (n.negative) refl h where
        by : (b : Bool) → n.negative ≡ b → integer_of b n ts r → (token_at (sign s.Minus) (begins n.span) ▸ Negative n) ts r ⊎ Unsigned n ts r
        by true e h = inl (h.0, h.1, (e, h.2))
        by false e h = inr (e, h)

-- ---- strings

pub string_seen : (w : Word) (ts r : Stream) → one (literal_mark w) ts r → is_string ts ≡ true
string_seen w [] r h = absurd h
string_seen w (l ∷ ts) r h = by (look source l) h.0 where
  told : (t : Token) (p : Span) → IsLiteral w t p → is_str t ≡ true
  told (str t) p h = refl
  told (ident t) p h = absurd h
  told (int t) p h = absurd h
  told (float t) p h = absurd h
  told (sign t) p h = absurd h
  told comment p h = absurd h

  by : (x : Seen) → FitsMark (literal_mark w) x → is_string_of x ≡ true
  by None h = absurd h
  by (Some x) h = told x.0 x.1 h

-- a token that is named is no string
pub no_string : (k : Token) (at : Span) (ts r : Stream) → is_str k ≡ false → one (spot at k) ts r → is_string ts ≡ false
no_string k at [] r e h = absurd h
no_string k at (l ∷ ts) r e h = by (look source l) h.0 where
  by : (x : Seen) → FitsMark (spot at k) x → is_string_of x ≡ false
  by None h = absurd h
  by (Some x) h = ap is_str (sym h.1) ∙ e

more_strings : Rule Always (loop (when is_string literal)) (each (λ w. one (literal_mark w))) IsAny (λ ws r. (is_string r ≡ false) × Lastly {A = Word} Free ws r)
more_strings = rule_while is_string rule_literal strings_turns string_seen (λ w v ts r h. tt)

pub rule_strings : {H : Stream → Type 0} → Rule H strings string_of IsAny NoString
unfolding strings
rule_strings {H} = record { sound = forth; complete = λ ts r ws h k g. back ts r ws h g } where
  forth : (ts r : Stream) (ws : List Word) → H ts → (literal >>= (λ w. loop (when is_string literal) >>= (λ ws. pure (w ∷ ws)))) ts ≡ Ok (ws, r) → string_of ws ts r × Unit {0} × NoString ws r
  forth ts r ws h e =
      let a = bound (literal ts) (λ w. loop (when is_string literal) >>= (λ ws. pure (w ∷ ws))) (ws, r) e in
      let b = bound (loop (when is_string literal) a.0.1) (λ ws. pure (a.0.0 ∷ ws)) (ws, r) a.2 in
      let first = (rule_literal {H = H}).sound ts a.0.1 a.0.0 h a.1 in
      let others = more_strings.sound a.0.1 b.0.1 b.0.0 tt b.1 in
      subst (λ (y : List Word × Stream). string_of y.0 ts y.1 × Unit {0} × NoString y.0 y.1) (same_ok (a.0.0 ∷ b.0.0, b.0.1) (ws, r) b.2) ((a.0.1, first.0, others.0), tt, others.2.0)

  back : (ts r : Stream) (ws : List Word) → string_of ws ts r → is_string r ≡ false → (literal >>= (λ w. loop (when is_string literal) >>= (λ ws. pure (w ∷ ws)))) ts ≡ Ok (ws, r)
  back ts r [] h g = absurd h
  back ts r (w ∷ ws) h g =
      then_ok (λ w. loop (when is_string literal) >>= (λ ws. pure (w ∷ ws))) ((rule_literal {H = Always}).complete ts h.0 w h.1 tt tt)
      (then_ok (λ ws. pure (w ∷ ws)) (more_strings.complete h.0 r ws h.2 tt (g, lastly_all Free ws r (λ w. tt))) refl)
