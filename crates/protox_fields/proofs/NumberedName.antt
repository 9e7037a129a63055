-- A name, its number and the options behind it, read by one rule or step by step.
use Rattle.protox_fields.specs.FieldGrammar.{numbered_name}
use Rattle.protox_lex.specs.Token.{sign}
use Rattle.protox_lex.specs.declared.literal.Int.{Int}
use Rattle.protox_lex.specs.declared.span.Span.{Span}
use Rattle.protox_options.proofs.Behind.{Answers, behind, refused}
use Rattle.protox_options.specs.NameGrammar.{an_int}
use Rattle.protox_options.specs.OptionGrammar.{options}
use Rattle.protox_tokens.specs.Parser.{Outcome, Parser, and_then, ◌>>=◌, ◌>>◌, pure, expect, word}
use Rattle.protox_tokens.specs.Reads.{Fails}
use Rattle.protox_tokens.specs.Stream.{Stream}
use Rattle.protox_tokens.specs.declared.fault.Stop.{Stop}
use Rattle.protox_tree.specs.Tree.{Word, OptionList}
use Rattle.std.proofs.Common.{◌≡◌, Option, Ok, Err, refl, subst}
use Rattle.protox_lex.specs.declared.token.Sign.TheVariants as s

module _ {B : Type 0} (f : Word → Int → Option OptionList → Parser B) where
  abbrev pub whole : Word × Int × Option OptionList → Parser B
  whole x = f x.0 x.1 x.2

  abbrev pub from_number : Word → Parser B
  from_number n = an_int >>= (λ i. options >>= f n i)

  abbrev pub steps : Parser B
  steps = word >>= (λ n. expect (sign s.Equals) >> from_number n)

  at_options : (n : Word) (i : Int) (o : Outcome (Option OptionList)) → and_then (and_then o (λ os. pure (n, i, os))) whole ≡ and_then o (f n i)
  at_options n i (Ok x) = refl
  at_options n i (Err e) = refl

  at_number : (n : Word) (o : Outcome Int) → and_then (and_then o (λ i. options >>= (λ os. pure (n, i, os)))) whole ≡ and_then o (λ i. options >>= f n i)
  at_number n (Ok x) = at_options n x.0 (options x.1)
  at_number n (Err e) = refl

  at_sign : (n : Word) (o : Outcome Span) → and_then (and_then o (λ _. an_int >>= (λ i. options >>= (λ os. pure (n, i, os))))) whole ≡ and_then o (λ _. from_number n)
  at_sign n (Ok x) = at_number n (an_int x.1)
  at_sign n (Err e) = refl

  at_name : (o : Outcome Word) → and_then (and_then o (λ n. expect (sign s.Equals) >> (an_int >>= (λ i. options >>= (λ os. pure (n, i, os)))))) whole ≡ and_then o (λ n. expect (sign s.Equals) >> from_number n)
  at_name (Ok x) = at_sign x.0 (expect (sign s.Equals) x.1)
  at_name (Err e) = refl

  same : (ts : Stream) → (numbered_name >>= whole) ts ≡ steps ts
  unfolding numbered_name
  same ts = at_name (word ts)

  pub numbered_behind : {P : Outcome B → Type 0} {ts s : Stream} {x : Word × Int × Option OptionList} → numbered_name ts ≡ Ok (x, s) → Answers P (whole x) s → Answers P steps ts
  numbered_behind {P = P} {ts = ts} e h = record { so = subst P (same ts) (behind numbered_name whole e h).so }

  pub numbered_refused : {ts : Stream} (e : Stop) → Fails e (numbered_name ts) → Answers (Fails e) steps ts
  numbered_refused {ts = ts} e h = record { so = subst (Fails e) (same ts) (refused numbered_name whole e h).so }
