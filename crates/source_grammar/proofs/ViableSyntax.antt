-- The statement `syntax` tells its faults at the first token with which nothing goes on, but for a language that is not
-- known, which is a fault of its own.
use Rattle.std.proofs.Common.{[], ◌≡◌, ℕ, zero, suc, ◌<◌, Bool, true, false, List, ◌∷◌, length, Option, Some, None, Ok, Err, refl, sym, subst, ◌∙◌, arith}
use Rattle.std.specs.Prelude.{codes, if◌then◌else◌}
use Rattle.protox_file.specs.FileGrammar.{language, known, syntax_behind}
use Rattle.protox_lex.specs.Lex.{unescaped, unescaped_from}
use Rattle.protox_lex.specs.Token.{ident, int, float, str, sign, comment}
use Rattle.protox_lex.specs.declared.span.Span.{Span}
use Rattle.protox_lex.specs.declared.token.Sign.TheVariants as signs
use Rattle.protox_options.specs.NameGrammar.{strings}
use Rattle.protox_options.proofs.NameLaws.{strings_turns}
use Rattle.protox_tokens.specs.Parser.{Outcome, Parser, and_then, ◌>>=◌, ◌<$>◌, pure, is_string, is_string_of, expect, one, taken, value_of, literal, literal_of, goes_on, loop, when}
use Rattle.protox_tokens.specs.Refusal.{Fault, a_string}
use Rattle.protox_tokens.specs.Span.{across}
use Rattle.protox_tokens.specs.Stream.{Piece, Stream, Seen, source, look}
use Rattle.protox_tokens.proofs.Both.{Always, then_ok}
use Rattle.protox_tokens.proofs.Loops.{loop-is}
use Rattle.protox_tree.specs.FileTree.{SyntaxStatement}
use Rattle.protox_tree.specs.Tree.{Word, joined, words_span}
use Rattle.protox_tree.specs.declared.types.Syntax.{Syntax}
use Rattle.protox_tree.specs.declared.types.Syntax.TheVariants as syntaxes
use Rattle.source_grammar.proofs.ViableTokens.{sign_written, string_written}
use Rattle.source_grammar.proofs.Viable.{Goes, Went, Viable, goes_then, then_at, viable_then, Any, viable_end}
use Rattle.source_grammar.proofs.ViableForms.{viable_equal}
use Rattle.source_grammar.proofs.ViableSteps.{made, viable_checked, viable_expect}
use Rattle.source_grammar.proofs.ViableLoops.{stops_when}
use Rattle.source_grammar.proofs.ViableNames.{some_string, start, NoString, viable_literals_after}

-- ---- behind a literal no string is refused

literal_there : (ts : Stream) → is_string ts ≡ true → (x : Word × Stream) × (literal ts ≡ Ok x)
unfolding literal
literal_there [] h = absurd cc
literal_there (l ∷ ts) h = by (look source l) h where
  by : (x : Seen) → is_string_of x ≡ true → (y : Word × Stream) × (taken source a_string (value_of literal_of x) (l ∷ ts) ≡ Ok y)
  by None h = absurd cc
  by (Some (str raw, at)) h = ((record { text = unescaped raw; span = at }, ts), refl)
  by (Some (ident t, at)) h = absurd cc
  by (Some (int t, at)) h = absurd cc
  by (Some (float t, at)) h = absurd cc
  by (Some (sign t, at)) h = absurd cc
  by (Some (comment, at)) h = absurd cc

not_refused : (ts : Stream) (f : Fault) → when is_string literal ts ≡ Err f → ⊥
not_refused ts f e = by (is_string ts) refl e where
  by : (b : Bool) → is_string ts ≡ b → (if b then (Some <$> literal) ts else Ok (None, ts)) ≡ Err f → ⊥
  by true h e = let x = literal_there ts h in
      let wrong : ◌≡◌ {A = Outcome (Option Word)} (Ok (Some x.0.0, x.0.1)) (Err f) = sym (then_ok (λ w. pure (Some w)) x.1 refl) ∙ e in absurd cc
  by false h e = let wrong : ◌≡◌ {A = Outcome (Option Word)} (Ok (None, ts)) (Err f) = e in absurd cc

abbrev others : Option Word → Parser (List Word)
others o = goes_on o (loop (when is_string literal))

literals_read : (n : ℕ) (ts : Stream) → length ts < n → (y : List Word × Stream) × (loop (when is_string literal) ts ≡ Ok y)
literals_read zero ts lt = absurd (omega arith)
literals_read (suc n) ts lt = by (literals_read n) (when is_string literal ts) refl where
  by : ((us : Stream) → length us < n → (y : List Word × Stream) × (loop (when is_string literal) us ≡ Ok y)) → (o : Outcome (Option Word)) → when is_string literal ts ≡ o → (y : List Word × Stream) × (loop (when is_string literal) ts ≡ Ok y)
  by later (Err f) e = absurd (not_refused ts f e)
  by later (Ok (None, r)) e = (([], r), loop-is (when is_string literal) strings_turns ts ∙ then_ok others e refl)
  by later (Ok (Some x, r)) e =
      let less = strings_turns ts r x e in
      let z = later r (omega arith) in
      ((x ∷ z.0.0, z.0.1), loop-is (when is_string literal) strings_turns ts ∙ then_ok others e (then_ok (λ xs. pure (x ∷ xs)) z.1 refl))

abbrev string_from : Word → Parser (List Word)
string_from w = loop (when is_string literal) >>= (λ rest. pure (w ∷ rest))

string_read : (w : Word) (ts : Stream) (f : Fault) → string_from w ts ≡ Err f → ⊥
string_read w ts f e =
    let x = literals_read (suc (length ts)) ts (omega arith) in
    let wrong : ◌≡◌ {A = Outcome (List Word)} (Ok (w ∷ x.0.0, x.0.1)) (Err f) = sym (then_ok (λ rest. pure (w ∷ rest)) x.1 refl) ∙ e in
    absurd cc

string_ends : (w : Word) (s : Stream) → is_string s ≡ false → string_from w s ≡ Ok (w ∷ [], s)
string_ends w s h = then_ok (λ rest. pure (w ∷ rest)) (loop-is (when is_string literal) strings_turns s ∙ then_ok others (stops_when is_string literal s h) refl) refl

-- ---- what stands behind the string

module _ (W : Piece → Type 0) (first : Span) where
  abbrev named_by : List Word → Option Syntax → Parser SyntaxStatement
  named_by value o = known (words_span value) o >>= (λ x. expect (sign signs.Semicolon) >>= (λ last. pure (record { syntax = x; value = value; span = across first last })))

  abbrev names : List Word → Parser SyntaxStatement
  names value = named_by value (language (joined value))

  viable_named : (value : List Word) (x : Syntax) → Viable W (λ s. is_string s ≡ false) (named_by value (Some x)) Any
  viable_named value x = viable_then (viable_expect (sign signs.Semicolon) (sign_written signs.Semicolon) (λ s. is_string s ≡ false) (λ x t u h. h) refl (λ s. refl)) (λ j last.
      viable_end (record { syntax = x; value = value; span = across first last }))

  named_went : (value : List Word) (o : Option Syntax) (r : Stream) → is_string r ≡ false → Went W (λ s. is_string s ≡ false) (named_by value o) Any r (named_by value o r)
  named_went value None r h = tt
  named_went value (Some x) r h = (viable_named value x).held.at r h

  abbrev behind_literal : Word → Parser SyntaxStatement
  behind_literal w = string_from w >>= names

  -- A string is not refused behind its first literal, so that no language has to be found for what was read of one.
  behind_by : (w : Word) (r : Stream) (o : Outcome (List Word)) → string_from w r ≡ o → Went W Always (string_from w) NoString r o → Went W Always (behind_literal w) Any r (and_then o names)
  behind_by w r (Ok x) e c = then_at W Always (string_from w) NoString names Any r x.1 x.0 c (names x.0 x.1) (named_went x.0 (language (joined x.0)) x.1 c.told)
  behind_by w r (Err f) e c = absurd (string_read w r f e)

  abbrev proto2 : Word
  proto2 = record { text = unescaped (codes "proto2"); span = start }

  is_language : language (joined (proto2 ∷ [])) ≡ Some syntaxes.Proto2
  unfolding unescaped_from
  is_language = refl

  behind_goes : Goes Always (behind_literal proto2) Any []
  behind_goes = goes_then W Always (string_from proto2) NoString names Any [] (record { more = []; stand = tt; kind = tt; value = proto2 ∷ []; reads = λ s g. (tt, string_ends proto2 s g) })
      (subst (λ o. Goes (λ s. is_string s ≡ false) (named_by (proto2 ∷ []) o) Any []) (sym is_language) (viable_named (proto2 ∷ []) syntaxes.Proto2).begin)

  regrouped : (o : Outcome Word) → and_then (and_then o string_from) names ≡ and_then o behind_literal
  regrouped (Ok x) = refl
  regrouped (Err f) = refl

  pub viable_syntax_behind : Viable W Always (syntax_behind first) Any
  unfolding syntax_behind strings literal
  viable_syntax_behind = viable_then (viable_expect (sign signs.Equals) (sign_written signs.Equals) Always (λ x t u h. h) refl (λ s. tt)) (λ i e.
      viable_equal (λ s. regrouped (one source a_string literal_of s))
      (viable_checked _ source a_string literal_of Always (λ x t u h. h) (made some_string) proto2 refl string_written (λ s. tt) behind_literal Any behind_goes
      (λ w r. behind_by w r (string_from w r) refl ((viable_literals_after w).held.at r tt))))
