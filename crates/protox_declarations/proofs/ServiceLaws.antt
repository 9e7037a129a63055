-- The rules of services look one token ahead, and each turn of their loops takes one.
use Rattle.protox_declarations.specs.ServiceGrammar.{method_type, method_item_unless, method_item, method_items, method_end, method_body, a_method, service_item_unless, service_item, service_items, service}
use Rattle.protox_lex.specs.Token.{sign}
use Rattle.protox_lex.specs.declared.span.Span.{Span}
use Rattle.protox_options.proofs.NameLaws.{Local-type_name}
use Rattle.protox_options.proofs.OptionLaws.{Local-option, Moves-option}
use Rattle.protox_tokens.proofs.Local.{Local, Local-bind, Local-pure, Local-choose, Local-until, Local-expect, Local-word, Local-eat, Local-loop, Local-refused, of_head-sees, Keeps-local, Moves, Moves-first, Moves-expect, Moves-eat, Moves-choose, Moves-map, Moves-refused, Shortens-when}
use Rattle.protox_tokens.proofs.Loops.{Shortens}
use Rattle.protox_tokens.specs.Parser.{until}
use Rattle.protox_tokens.specs.Refusal.{a_service_item}
use Rattle.protox_tokens.specs.Stream.{source}
use Rattle.std.proofs.Common.{Option, Some, None}
use Rattle.protox_lex.specs.declared.token.Sign.TheVariants as s

Local-method_type : Local method_type
unfolding method_type
Local-method_type = Local-bind (Local-expect _) (λ p. Local-bind (Local-eat _) (λ o.
    Local-bind Local-type_name (λ t. Local-bind (Local-expect _) (λ q. Local-pure _))))

pub Moves-method_type : Moves method_type
unfolding method_type
Moves-method_type = Moves-first (Moves-expect _) (λ p. Keeps-local (Local-bind (Local-eat _) (λ o.
    Local-bind Local-type_name (λ t. Local-bind (Local-expect _) (λ q. Local-pure _)))))

Local-method_item_unless : (o : Option Span) → Local (method_item_unless o)
Local-method_item_unless (Some p) = Local-pure _
Local-method_item_unless None = Local-bind Local-option (λ o. Local-pure _)

Local-method_item : Local method_item
unfolding method_item
Local-method_item = Local-bind (Local-eat _) Local-method_item_unless

pub Moves-method_item : Moves method_item
unfolding method_item
Moves-method_item =
    Moves-eat _ method_item_unless (λ p. Keeps-local (Local-pure _)) (Moves-map _ Moves-option)

pub method_turns : Shortens (until (sign s.RightBrace) method_item)
method_turns = Shortens-when _ Moves-method_item

Local-method_items : Local method_items
unfolding method_items
Local-method_items = Local-loop _ (Local-until _ Local-method_item) method_turns

Local-method_end : (o : Option Span) → Local (method_end o)
Local-method_end None = Local-bind (Local-expect _) (λ q. Local-pure _)
Local-method_end (Some p) = Local-bind Local-method_items (λ is. Local-bind (Local-expect _) (λ q. Local-pure _))

Local-method_body : Local method_body
unfolding method_body
Local-method_body = Local-bind (Local-eat _) Local-method_end

pub Moves-method_body : Moves method_body
unfolding method_body
Moves-method_body = Moves-eat _ method_end (λ p. Keeps-local (Local-method_end (Some p)))
    (Moves-first (Moves-expect _) (λ q. Keeps-local (Local-pure _)))

Local-method : Local a_method
unfolding a_method
Local-method = Local-bind (Local-expect _) (λ p. Local-bind Local-word (λ w. Local-bind Local-method_type (λ i.
    Local-bind (Local-expect _) (λ r. Local-bind Local-method_type (λ o.
    Local-bind Local-method_body (λ b. Local-pure _))))))

pub Moves-method : Moves a_method
unfolding a_method
Moves-method = Moves-first (Moves-expect _) (λ p. Keeps-local (Local-bind Local-word (λ w.
    Local-bind Local-method_type (λ i. Local-bind (Local-expect _) (λ r. Local-bind Local-method_type (λ o.
    Local-bind Local-method_body (λ b. Local-pure _)))))))

Local-item_unless : (o : Option Span) → Local (service_item_unless o)
Local-item_unless (Some p) = Local-pure _
Local-item_unless None =
    Local-choose _ (of_head-sees _) _ _ (Local-bind Local-option (λ o. Local-pure _))
    (Local-choose _ (of_head-sees _) _ _ (Local-bind Local-method (λ m. Local-pure _))
    (Local-refused source a_service_item))

Local-item : Local service_item
unfolding service_item
Local-item = Local-bind (Local-eat _) Local-item_unless

pub Moves-item : Moves service_item
unfolding service_item
Moves-item = Moves-eat _ service_item_unless (λ p. Keeps-local (Local-pure _))
    (Moves-choose _ (Moves-map _ Moves-option)
    (Moves-choose _ (Moves-map _ Moves-method) (Moves-refused source a_service_item)))

pub service_turns : Shortens (until (sign s.RightBrace) service_item)
service_turns = Shortens-when _ Moves-item

Local-items : Local service_items
unfolding service_items
Local-items = Local-loop _ (Local-until _ Local-item) service_turns

pub Local-service : Local service
unfolding service
Local-service = Local-bind (Local-expect _) (λ p. Local-bind Local-word (λ w. Local-bind (Local-expect _) (λ o.
    Local-bind Local-items (λ is. Local-bind (Local-expect _) (λ q. Local-pure _)))))

pub Moves-service : Moves service
unfolding service
Moves-service = Moves-first (Moves-expect _) (λ p. Keeps-local (Local-bind Local-word (λ w.
    Local-bind (Local-expect _) (λ o. Local-bind Local-items (λ is. Local-bind (Local-expect _) (λ q. Local-pure _))))))
