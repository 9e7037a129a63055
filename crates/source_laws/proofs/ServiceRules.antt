-- Services, as they are read, have identifiers for names.
use Rattle.std.proofs.Common.{Option, Some, None}
use Rattle.protox_declarations.specs.ServiceGrammar.{a_method, method_body, method_end, method_item, method_item_unless, method_items, method_type, service, service_item, service_item_unless, service_items}
use Rattle.protox_lex.specs.Token.{sign}
use Rattle.protox_lex.specs.declared.span.Span.{Span}
use Rattle.protox_lex.specs.declared.token.Sign.TheVariants as s
use Rattle.protox_options.proofs.NameLaws.{Local-type_name}
use Rattle.protox_options.proofs.OptionLaws.{Local-option}
use Rattle.protox_tokens.proofs.Local.{Local-eat, Local-expect}
use Rattle.protox_tokens.specs.Marks.{Each, IsAny}
use Rattle.protox_tokens.specs.Refusal.{a_service_item, refusal}
use Rattle.protox_tokens.specs.Stream.{source}
use Rattle.source_laws.proofs.Giving.{Gives, gives-after, gives-any, gives-bind, gives-choose, gives-map, gives-none, gives-pure, gives-until, gives-word}
use Rattle.source_laws.specs.TreeNames.{IsNamed, IsNamedMethod, IsNamedService}

-- ---- methods

gives-method_type : Gives IsAny method_type
unfolding method_type
gives-method_type = gives-after (Local-expect _) (λ p. gives-after (Local-eat _) (λ o.
    gives-after Local-type_name (λ t. gives-after (Local-expect _) (λ q. gives-pure _ tt))))

gives-method_unless : (o : Option Span) → Gives IsAny (method_item_unless o)
gives-method_unless (Some p) = gives-pure _ tt
gives-method_unless None = gives-map _ (gives-any Local-option) (λ x any. tt)

gives-method_item : Gives IsAny method_item
unfolding method_item
gives-method_item = gives-after (Local-eat _) gives-method_unless

gives-method_items : Gives (Each IsAny) method_items
unfolding method_items
gives-method_items = gives-until (sign s.RightBrace) gives-method_item

gives-method_end : (o : Option Span) → Gives IsAny (method_end o)
gives-method_end None = gives-after (Local-expect _) (λ q. gives-pure _ tt)
gives-method_end (Some p) =
    gives-bind gives-method_items (λ is all. gives-after (Local-expect _) (λ q. gives-pure _ tt))

gives-method_body : Gives IsAny method_body
unfolding method_body
gives-method_body = gives-after (Local-eat _) gives-method_end

gives-method : Gives (λ m. IsNamed m.name) a_method
unfolding a_method
gives-method = gives-after (Local-expect _) (λ p. gives-bind gives-word (λ w h.
    gives-bind gives-method_type (λ i a. gives-after (Local-expect _) (λ r.
    gives-bind gives-method_type (λ o b. gives-bind gives-method_body (λ e c. gives-pure _ h))))))

-- ---- services

gives-item_unless : (o : Option Span) → Gives IsNamedMethod (service_item_unless o)
gives-item_unless (Some p) = gives-pure _ tt
gives-item_unless None =
    gives-choose _ (gives-map _ (gives-any Local-option) (λ x any. tt))
    (gives-choose _ (gives-map _ gives-method (λ m h. h))
    (gives-none (refusal source a_service_item)))

gives-item : Gives IsNamedMethod service_item
unfolding service_item
gives-item = gives-after (Local-eat _) gives-item_unless

gives-items : Gives (Each IsNamedMethod) service_items
unfolding service_items
gives-items = gives-until (sign s.RightBrace) gives-item

pub gives-service : Gives IsNamedService service
unfolding service
gives-service = gives-after (Local-expect _) (λ p. gives-bind gives-word (λ w h.
    gives-after (Local-expect _) (λ b.
    gives-bind gives-items (λ is hs. gives-after (Local-expect _) (λ q. gives-pure _ (h, hs))))))
