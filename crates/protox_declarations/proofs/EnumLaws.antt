-- The rules of enums look one token ahead, and each turn of their loop takes one.
use Rattle.protox_declarations.specs.EnumGrammar.{an_enum_value, enum_item_unless, enum_item, enum_items, enumeration}
use Rattle.protox_lex.specs.Token.{sign}
use Rattle.protox_lex.specs.declared.span.Span.{Span}
use Rattle.protox_options.proofs.NameLaws.{Local-int}
use Rattle.protox_options.proofs.OptionLaws.{Local-option, Moves-option, Local-options}
use Rattle.protox_options.proofs.RangeLaws.{Local-reserved, Moves-reserved}
use Rattle.protox_tokens.proofs.Local.{Local, Local-bind, Local-pure, Local-choose, Local-until, Local-expect, Local-word, Local-eat, Local-loop, of_head-sees, Keeps-local, Moves, Moves-first, Moves-expect, Moves-word, Moves-eat, Moves-choose, Moves-map, Shortens-when}
use Rattle.protox_tokens.proofs.Loops.{Shortens}
use Rattle.protox_tokens.specs.Parser.{until}
use Rattle.std.proofs.Common.{Option, Some, None}
use Rattle.protox_lex.specs.declared.token.Sign.TheVariants as s

Local-value : Local an_enum_value
unfolding an_enum_value
Local-value = Local-bind Local-word (λ w. Local-bind (Local-expect _) (λ e. Local-bind Local-int (λ n.
    Local-bind Local-options (λ o. Local-bind (Local-expect _) (λ q. Local-pure _)))))

pub Moves-value : Moves an_enum_value
unfolding an_enum_value
Moves-value = Moves-first Moves-word (λ w. Keeps-local (Local-bind (Local-expect _) (λ e.
    Local-bind Local-int (λ n. Local-bind Local-options (λ o. Local-bind (Local-expect _) (λ q. Local-pure _))))))

Local-item_unless : (o : Option Span) → Local (enum_item_unless o)
Local-item_unless (Some p) = Local-pure _
Local-item_unless None =
    Local-choose _ (of_head-sees _) _ _ (Local-bind Local-option (λ o. Local-pure _))
    (Local-choose _ (of_head-sees _) _ _ (Local-bind Local-reserved (λ r. Local-pure _))
    (Local-bind Local-value (λ v. Local-pure _)))

Local-item : Local enum_item
unfolding enum_item
Local-item = Local-bind (Local-eat _) Local-item_unless

pub Moves-item : Moves enum_item
unfolding enum_item
Moves-item = Moves-eat _ enum_item_unless (λ p. Keeps-local (Local-pure _))
    (Moves-choose _ (Moves-map _ Moves-option)
    (Moves-choose _ (Moves-map _ Moves-reserved) (Moves-map _ Moves-value)))

pub enum_turns : Shortens (until (sign s.RightBrace) enum_item)
enum_turns = Shortens-when _ Moves-item

Local-items : Local enum_items
unfolding enum_items
Local-items = Local-loop _ (Local-until _ Local-item) enum_turns

pub Local-enumeration : Local enumeration
unfolding enumeration
Local-enumeration = Local-bind (Local-expect _) (λ p. Local-bind Local-word (λ w. Local-bind (Local-expect _) (λ o.
    Local-bind Local-items (λ is. Local-bind (Local-expect _) (λ q. Local-pure _)))))

pub Moves-enumeration : Moves enumeration
unfolding enumeration
Moves-enumeration = Moves-first (Moves-expect _) (λ p. Keeps-local (Local-bind Local-word (λ w.
    Local-bind (Local-expect _) (λ o. Local-bind Local-items (λ is. Local-bind (Local-expect _) (λ q. Local-pure _))))))
