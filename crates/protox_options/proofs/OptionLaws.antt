-- The rules of options look one token ahead, and each turn of their loops takes one.
use Rattle.protox_lex.specs.Token.{sign}
use Rattle.protox_lex.specs.declared.span.Span.{Span}
use Rattle.protox_aggregates.proofs.AggregateLaws.{Local-aggregate}
use Rattle.protox_options.proofs.NameLaws.{Local-type_name, Local-strings}
use Rattle.protox_options.specs.OptionGrammar.{in_parens, part_after, name_part, name, plain_of, negative_of, in_range, negative, plain_value, signed_or_plain, value, body, option, bodies, in_brackets, options_after, options}
use Rattle.protox_tokens.proofs.Local.{Local, Local-bind, Local-pure, Local-if, Local-choose, Local-one, Local-lexical, Local-word, Local-expect, Local-eat, Local-some_by, of_head-sees, of_head-string, Keeps-local, Moves, Moves-first, Moves-one, Moves-expect, Moves-word, Moves-eat, Moves-map, Moves-some_by, Shortens-behind}
use Rattle.protox_tokens.proofs.Loops.{Shortens}
use Rattle.protox_tokens.specs.Parser.{behind, is_string}
use Rattle.protox_tokens.specs.Refusal.{an_option_value, a_number}
use Rattle.protox_tokens.specs.Span.{across}
use Rattle.protox_tokens.specs.Stream.{source}
use Rattle.protox_tree.specs.Tree.{Value, word_value, minus_word, int_value, float_value, strings_value, braces_value}
use Rattle.std.proofs.Common.{Option, Some, None, refl}
use Rattle.protox_lex.specs.declared.token.Sign.TheVariants as s

Local-in_parens : (p : Span) → Local (in_parens p)
unfolding in_parens
Local-in_parens p = Local-bind Local-type_name (λ t. Local-bind (Local-expect _) (λ q. Local-pure _))

Local-part_after : (o : Option Span) → Local (part_after o)
Local-part_after (Some p) = Local-bind (Local-in_parens p) (λ x. Local-pure _)
Local-part_after None = Local-bind Local-word (λ w. Local-pure _)

Local-name_part : Local name_part
unfolding name_part
Local-name_part = Local-bind (Local-eat _) Local-part_after

pub Moves-name_part : Moves name_part
unfolding name_part
Moves-name_part = Moves-eat _ part_after (λ p. Keeps-local (Local-part_after (Some p))) (Moves-map _ Moves-word)

pub name_turns : Shortens (behind (sign s.Dot) name_part)
name_turns = Shortens-behind (sign s.Dot) (Keeps-local Local-name_part)

Local-name : Local name
unfolding name
Local-name = Local-some_by _ Local-name_part

pub Moves-name : Moves name
unfolding name
Moves-name = Moves-some_by _ Local-name_part Moves-name_part

Local-in_range : (v : Value) → Local (in_range v)
Local-in_range (int_value n) = Local-if _ (Local-pure _) (Local-lexical _ refl)
Local-in_range (word_value w) = Local-pure _
Local-in_range (minus_word w) = Local-pure _
Local-in_range (float_value n w) = Local-pure _
Local-in_range (strings_value w) = Local-pure _
Local-in_range (braces_value w at) = Local-pure _

Local-negative : (p : Span) → Local (negative p)
unfolding negative
Local-negative p = Local-bind (Local-one source a_number (λ t at. negative_of t (across p at))) Local-in_range

pub Moves-negative : (p : Span) → Moves (negative p)
unfolding negative
Moves-negative p =
    Moves-first (Moves-one source a_number (λ t at. negative_of t (across p at))) (λ v. Keeps-local (Local-in_range v))

Local-plain_value : Local plain_value
unfolding plain_value
Local-plain_value = Local-one source an_option_value plain_of

Local-signed_or_plain : (o : Option Span) → Local (signed_or_plain o)
Local-signed_or_plain (Some p) = Local-negative p
Local-signed_or_plain None =
    Local-choose _ (of_head-sees _) _ _ (Local-bind Local-aggregate (λ a. Local-pure _)) Local-plain_value

Local-value : Local value
unfolding value
Local-value = Local-choose is_string of_head-string _ _
    (Local-bind Local-strings (λ s. Local-pure _)) (Local-bind (Local-eat _) Local-signed_or_plain)

Local-body : Local body
unfolding body
Local-body =
    Local-bind Local-name (λ n. Local-bind (Local-expect _) (λ e. Local-bind Local-value (λ v. Local-pure _)))

pub Moves-body : Moves body
unfolding body
Moves-body = Moves-first Moves-name (λ n.
    Keeps-local (Local-bind (Local-expect _) (λ e. Local-bind Local-value (λ v. Local-pure _))))

pub body_turns : Shortens (behind (sign s.Comma) body)
body_turns = Shortens-behind (sign s.Comma) (Keeps-local Local-body)

pub Local-option : Local option
unfolding option
Local-option =
    Local-bind (Local-expect _) (λ p. Local-bind Local-body (λ b. Local-bind (Local-expect _) (λ q. Local-pure _)))

pub Moves-option : Moves option
unfolding option
Moves-option = Moves-first (Moves-expect _) (λ p.
    Keeps-local (Local-bind Local-body (λ b. Local-bind (Local-expect _) (λ q. Local-pure _))))

Local-bodies : Local bodies
unfolding bodies
Local-bodies = Local-some_by _ Local-body

pub Moves-bodies : Moves bodies
unfolding bodies
Moves-bodies = Moves-some_by _ Local-body Moves-body

Local-in_brackets : (p : Span) → Local (in_brackets p)
unfolding in_brackets
Local-in_brackets p = Local-bind Local-bodies (λ bs. Local-bind (Local-expect _) (λ q. Local-pure _))

Local-options_after : (o : Option Span) → Local (options_after o)
Local-options_after None = Local-pure _
Local-options_after (Some p) = Local-bind (Local-in_brackets p) (λ o. Local-pure _)

pub Local-options : Local options
unfolding options
Local-options = Local-bind (Local-eat _) Local-options_after
