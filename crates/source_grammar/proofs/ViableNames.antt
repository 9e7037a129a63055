-- Names, numbers and strings tell their faults at the first token with which nothing goes on.
use Rattle.std.proofs.Common.{◌≡◌, Bool, true, false, ◌∷◌, refl, sym, ◌∙◌}
use Rattle.std.specs.Prelude.{codes}
use Rattle.protox_lex.specs.Class.{Text}
use Rattle.protox_lex.specs.Token.{Token, ident, int, str, sign}
use Rattle.protox_lex.specs.Lex as lex
use Rattle.protox_lex.specs.declared.span.Span.{Span}
use Rattle.protox_lex.specs.declared.token.Sign.TheVariants as signs
use Rattle.protox_options.specs.NameGrammar.{parts_after, full_ident, type_name, an_int, strings}
use Rattle.protox_options.proofs.NameLaws.{parts_turns, strings_turns}
use Rattle.protox_tokens.specs.Stream.{Piece, Stream, source}
use Rattle.protox_tokens.specs.Parser.{◌>>=◌, pure, sees, is_string, word, word_of, digits, digits_of, literal, literal_of, loop, behind, when}
use Rattle.protox_tokens.specs.Refusal.{an_ident, an_int as an_integer, a_string}
use Rattle.protox_tokens.proofs.Both.{Always}
use Rattle.protox_tree.specs.Tree.{Word}
use Rattle.source_grammar.specs.Refusals.{IsWritten}
use Rattle.source_grammar.proofs.ViableTokens.{a_written, int_written, string_written}
use Rattle.source_grammar.proofs.Viable.{Viable, viable_then, viable_pure, Any, viable_end}
use Rattle.source_grammar.proofs.ViableForms.{viable_kind}
use Rattle.source_grammar.proofs.ViableSteps.{Heads, made_at, made, viable_one, viable_branch}
use Rattle.source_grammar.proofs.ViableLoops.{Free, viable_loop, viable_behind, viable_when, stops_behind, stops_when}

-- the word, the number and the string that are put where any will do
abbrev pub some_word : Token
some_word = ident (codes "a")

abbrev pub some_int : Token
some_int = int 1

abbrev pub some_string : Token
some_string = str (codes "proto2")

abbrev pub start : Span
start = record { start = 0; end = 0 }

-- this token does not follow
abbrev pub Lacks : {A : Type 0} → Token → Unit {0} → A → Stream → Type 0
Lacks k i a = λ s. sees k s ≡ false

abbrev pub NoString : {A : Type 0} → Unit {0} → A → Stream → Type 0
NoString i a = λ s. is_string s ≡ false

module _ (H : Stream → Type 0) (heads : Heads H) where
  -- the word that is put where one is missing
  pub viable_word_as : {W : Piece → Type 0} → (w : Text) → IsWritten (ident w) → (at : Span) → ((s : Stream) → H (made_at at (ident w) ∷ s)) → Viable W H word Any
  unfolding word
  viable_word_as w written at starts = viable_one _ source an_ident word_of H heads (made_at at (ident w)) (record { text = w; span = record { start = at.start; end = at.end } }) refl written starts

  pub viable_word : {W : Piece → Type 0} → (at : Span) → ((s : Stream) → H (made_at at some_word ∷ s)) → Viable W H word Any
  viable_word at starts = viable_word_as (codes "a") a_written at starts

  viable_digits : {W : Piece → Type 0} → ((s : Stream) → H (made some_int ∷ s)) → Viable W H digits Any
  unfolding digits
  viable_digits starts = viable_one _ source an_integer digits_of H heads (made some_int) (1, start) refl int_written starts

  pub viable_literal : {W : Piece → Type 0} → ((s : Stream) → H (made some_string ∷ s)) → Viable W H literal Any
  unfolding literal
  viable_literal starts = viable_one _ source a_string literal_of H heads (made some_string) (record { text = lex.unescaped (codes "proto2"); span = start }) refl string_written starts

pub any_word : {W : Piece → Type 0} → Viable W Always word Any
any_word = viable_word Always (λ x t u h. h) start (λ s. tt)

-- what is known where nothing was read, and what is behind a part
abbrev pub Then : (Stream → Type 0) → Bool → Stream → Type 0
Then H true = λ s. H s
Then H false = λ s. Unit {0}

abbrev pub NoPart : {A : Type 0} → (Stream → Type 0) → Bool → A → Stream → Type 0
NoPart H i a = λ s. Then H i s × (sees (sign signs.Dot) s ≡ false)

pub then_heads : (H : Stream → Type 0) → Heads H → (i : Bool) → Heads (Then H i)
then_heads H heads true = heads
then_heads H heads false = λ x t u h. tt

pub viable_parts_in : {W : Piece → Type 0} (H : Stream → Type 0) → Heads H → (first : Word) → Viable W H (parts_after first) (NoPart H)
unfolding parts_after
viable_parts_in H heads first = viable_then
    (viable_loop (Then H) (λ s. sees (sign signs.Dot) s ≡ false) _ (behind (sign signs.Dot) word) parts_turns
    (λ i. viable_behind source (sign signs.Dot) (Then H) (λ j a. false) (λ j a s h. tt) (λ j a s h. tt) any_word i (then_heads H heads i)) (λ i s h e. stops_behind source (sign signs.Dot) word s e) true)
    (λ i ws. viable_pure i (first ∷ ws) (λ s h. h) (λ s h. h))

any_then : (i : Bool) (s : Stream) → Then Always i s
any_then true s = tt
any_then false s = tt

pub viable_parts : {W : Piece → Type 0} → (first : Word) → Viable W Always (parts_after first) (Lacks (sign signs.Dot))
viable_parts first = viable_kind (λ i a. tt) (λ i a s h. h.1) (λ i a s h. (any_then i s, h)) (viable_parts_in Always (λ x t u h. h) first)

module _ (H : Stream → Type 0) (heads : Heads H) where
  pub viable_full : {W : Piece → Type 0} → (at : Span) → ((s : Stream) → H (made_at at some_word ∷ s)) → Viable W H full_ident (Lacks (sign signs.Dot))
  unfolding full_ident
  viable_full at starts = viable_then (viable_word H heads at starts) (λ i w. viable_parts w)

module _ (H : Stream → Type 0) (heads : Heads H) where
  pub viable_type_name : {W : Piece → Type 0} → ((s : Stream) → H (made some_word ∷ s)) → Viable W H type_name (Lacks (sign signs.Dot))
  unfolding type_name
  viable_type_name starts = viable_branch _ source (sign signs.Dot) H heads _
      (λ p. viable_then (viable_full Always (λ x t u h. h) start (λ s. tt)) (λ i ws. viable_pure tt _ (λ s h. h) (λ s h. h)))
      (viable_then (viable_full (λ s. H s × (sees (sign signs.Dot) s ≡ false)) (λ x t u h. (heads x t u h.0, h.1)) start (λ s. (starts s, refl))) (λ i ws. viable_pure tt _ (λ s h. h) (λ s h. h)))

  pub viable_int : {W : Piece → Type 0} → ((s : Stream) → H (made some_int ∷ s)) → Viable W H an_int Any
  unfolding an_int
  viable_int starts = viable_branch _ source (sign signs.Minus) H heads _
      (λ p. viable_then (viable_digits Always (λ x t u h. h) (λ s. tt)) (λ i n. viable_end _))
      (viable_then (viable_digits (λ s. H s × (sees (sign signs.Minus) s ≡ false)) (λ x t u h. (heads x t u h.0, h.1)) (λ s. (starts s, refl))) (λ i n. viable_end _))

-- the literals behind the first
pub viable_literals_after : {W : Piece → Type 0} → (first : Word) → Viable W Always (loop (when is_string literal) >>= (λ rest. pure (first ∷ rest))) NoString
viable_literals_after first = viable_then
    (viable_loop Free (λ s. is_string s ≡ false) _ (when is_string literal) strings_turns
    (λ i. viable_when is_string Free (λ j a. tt) (λ j a s h. tt) (λ j a s h. tt) i (viable_literal (λ s. Unit {0} × (is_string s ≡ true)) (λ x t u h. h) (λ s. (tt, refl)))) (λ i s h e. stops_when is_string literal s e) tt)
    (λ i ws. viable_pure tt (first ∷ ws) (λ s h. h.1) (λ s h. (tt, h)))

pub viable_strings : {W : Piece → Type 0} (H : Stream → Type 0) → Heads H → ((s : Stream) → H (made some_string ∷ s)) → Viable W H strings NoString
unfolding strings
viable_strings H heads starts = viable_then (viable_literal H heads starts) (λ i first. viable_literals_after first)

-- ---- what may follow some values alone

abbrev pub May : (Stream → Bool) → Bool → Stream → Type 0
May f true = λ s. f s ≡ false
May f false = λ s. Unit {0}

-- behind values of the one kind this is not so
abbrev pub Unless : {A : Type 0} → (Stream → Bool) → Bool → A → Stream → Type 0
Unless f i a = May f i

pub may_heads : (f : Stream → Bool) → ((x : Piece) (t u : Stream) → f (x ∷ t) ≡ f (x ∷ u)) → (i : Bool) → Heads (May f i)
may_heads f same true = λ x t u h. sym (same x t u) ∙ h
may_heads f same false = λ x t u h. tt

pub may_start : (f : Stream → Bool) (x : Piece) → ((s : Stream) → f (x ∷ s) ≡ false) → (i : Bool) (s : Stream) → May f i (x ∷ s)
may_start f x not_so true s = not_so s
may_start f x not_so false s = tt
