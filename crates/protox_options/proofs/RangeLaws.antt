-- The rules of ranges look one token ahead, and each turn of their loops takes one.
use Rattle.protox_lex.specs.Token.{sign}
use Rattle.protox_lex.specs.declared.span.Span.{Span}
use Rattle.protox_options.proofs.NameLaws.{Local-int, Moves-int, Local-strings, Moves-strings}
use Rattle.protox_options.specs.NameGrammar.{strings}
use Rattle.protox_options.specs.RangeGrammar.{max_or_int, end_behind, range_end, range, ranges, names, reserved_items, reserved}
use Rattle.protox_tokens.proofs.Local.{Local, Local-bind, Local-pure, Local-choose, Local-expect, Local-eat, Local-some_by, of_head-string, Keeps-local, Moves, Moves-first, Moves-expect, Moves-choose, Moves-map, Moves-some_by, Shortens-behind}
use Rattle.protox_tokens.proofs.Loops.{Shortens}
use Rattle.protox_tokens.specs.Parser.{behind, is_string}
use Rattle.std.proofs.Common.{Option, Some, None}
use Rattle.protox_lex.specs.declared.token.Sign.TheVariants as s

Local-max : (o : Option Span) → Local (max_or_int o)
Local-max (Some at) = Local-pure _
Local-max None = Local-bind Local-int (λ n. Local-pure _)

Local-end_behind : (o : Option Span) → Local (end_behind o)
Local-end_behind (Some to) = Local-bind (Local-eat _) Local-max
Local-end_behind None = Local-pure _

pub Local-end : Local range_end
unfolding range_end
Local-end = Local-bind (Local-eat _) Local-end_behind

Local-range : Local range
unfolding range
Local-range = Local-bind Local-int (λ n. Local-bind Local-end (λ e. Local-pure _))

pub Moves-range : Moves range
unfolding range
Moves-range = Moves-first Moves-int (λ n. Keeps-local (Local-bind Local-end (λ e. Local-pure _)))

pub range_turns : Shortens (behind (sign s.Comma) range)
range_turns = Shortens-behind (sign s.Comma) (Keeps-local Local-range)

pub Local-ranges : Local ranges
unfolding ranges
Local-ranges = Local-some_by _ Local-range

pub Moves-ranges : Moves ranges
unfolding ranges
Moves-ranges = Moves-some_by _ Local-range Moves-range

pub names_turns : Shortens (behind (sign s.Comma) strings)
names_turns = Shortens-behind (sign s.Comma) (Keeps-local Local-strings)

Local-names : Local names
unfolding names
Local-names = Local-some_by _ Local-strings

pub Moves-names : Moves names
unfolding names
Moves-names = Moves-some_by _ Local-strings Moves-strings

Local-reserved_items : Local reserved_items
unfolding reserved_items
Local-reserved_items =
    Local-choose is_string of_head-string _ _ (Local-bind Local-names (λ n. Local-pure _)) (Local-bind Local-ranges (λ r. Local-pure _))

pub Moves-reserved_items : Moves reserved_items
unfolding reserved_items
Moves-reserved_items = Moves-choose is_string (Moves-map _ Moves-names) (Moves-map _ Moves-ranges)

pub Local-reserved : Local reserved
unfolding reserved
Local-reserved =
    Local-bind (Local-expect _) (λ p. Local-bind Local-reserved_items (λ i. Local-bind (Local-expect _) (λ q. Local-pure _)))

pub Moves-reserved : Moves reserved
unfolding reserved
Moves-reserved = Moves-first (Moves-expect _) (λ p.
    Keeps-local (Local-bind Local-reserved_items (λ i. Local-bind (Local-expect _) (λ q. Local-pure _))))
