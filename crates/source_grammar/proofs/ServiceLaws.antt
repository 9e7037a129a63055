-- What the rules of services read.
use Rattle.std.proofs.Common.{[], ◌≡◌, ℕ, List, ◌∷◌, Option, Some, None, Err, refl, ap, sym, subst, ◌∙◌, inl, inr, ◌⊎◌}
use Rattle.std.specs.Prelude.{codes, true}
use Rattle.protox_declarations.specs.ServiceGrammar.{method_type, method_item_unless, method_item, method_items, method_end, method_body, a_method as method_rule, service_item_unless, service_item, service_items, service}
use Rattle.protox_declarations.proofs.ServiceLaws.{method_turns, service_turns}
use Rattle.protox_options.specs.NameGrammar.{type_name}
use Rattle.protox_lex.specs.Token.{Token, ident, sign}
use Rattle.protox_lex.specs.declared.span.Span.{Span}
use Rattle.protox_lex.specs.declared.token.Sign.TheVariants as s
use Rattle.protox_tree.specs.Tree.{Word, OptionStatement, MethodType, MethodItem, method_option, method_empty, MethodBody, Method, ServiceItem, service_method, service_option, service_empty, Service}
use Rattle.protox_tokens.specs.Stream.{Stream, source}
use Rattle.protox_tokens.specs.Parser.{◌>>=◌, pure, sees, expect}
use Rattle.protox_tokens.specs.Refusal.{Fault, a_service_item as expected_item, refusal}
use Rattle.protox_tokens.specs.Span.{across}
use Rattle.protox_tokens.specs.Marks.{IsAny}
use Rattle.protox_tokens.proofs.Local.{good}
use Rattle.protox_tokens.proofs.Both.{Always, Free}
use Rattle.protox_tokens.proofs.Steps.{Absent}
use Rattle.source_grammar.specs.Languages.{Language, the, token_at, begins, ends, ◌▸◌, ◌∪◌, each, FirstIsNoneOf, unless}
use Rattle.source_grammar.specs.Names.{a_type_name}
use Rattle.source_grammar.specs.Options.{an_option}
use Rattle.source_grammar.specs.Services.{stream_words, a_method_type, a_method_item, a_method_end, a_method, a_service_item, a_service}
use Rattle.source_grammar.proofs.Rules.{Rule, rule_as, rule_then, rule_last, rule_token, rule_close, rule_eat, rule_branch, first_is}
use Rattle.source_grammar.proofs.NameLaws.{rule_word, rule_type_name}
use Rattle.source_grammar.proofs.OptionLaws.{rule_option}
use Rattle.source_grammar.proofs.EnumLaws.{option_starts, whole}
use Rattle.source_grammar.proofs.Ahead.{begins_misses}
use Rattle.source_grammar.proofs.Choices.{Misses, Differs, seen_misses, Made, Empty, Choice, choice_word, choice_empty, choice_last, rule_items}

-- ---- methods

stream_told : (o : Option Span) (ts : Stream) → Absent (ident (codes "stream")) o ts → FirstIsNoneOf (stream_words o) ts
stream_told None ts a = (a, tt)
stream_told (Some at) ts a = tt

stream_absent : (o : Option Span) (ts : Stream) → FirstIsNoneOf (stream_words o) ts → Absent (ident (codes "stream")) o ts
stream_absent None ts n = n.0
stream_absent (Some at) ts n = tt

abbrev Named : MethodType → Language
Named t = unless (stream_words t.stream) (a_type_name t.name ▸ the (sign s.RightParen))

rule_named : (o : Option Span) → Rule (Absent (ident (codes "stream")) o) (type_name >>= (λ n. expect (sign s.RightParen) >>= (λ q. pure (record { stream = o; name = n })))) Named (λ (t : MethodType). (t.stream ≡ o) × (Unit {0} × IsAny t)) Free
rule_named o = record {
  sound = λ ts r t h e. let x = (inner {H = Absent (ident (codes "stream")) o}).sound ts r t h e in
      ((stream_told t.stream ts (subst (λ o. Absent (ident (codes "stream")) o ts) (sym x.1.0) h), x.0), x.1, x.2);
  complete = λ ts r t h k g. (inner {H = Always}).complete ts r t h.1 k g;
} where
  inner : {H : Stream → Type 0} → Rule H (type_name >>= (λ n. expect (sign s.RightParen) >>= (λ q. pure (record { stream = o; name = n })))) (λ (t : MethodType). a_type_name t.name ▸ the (sign s.RightParen)) (λ (t : MethodType). (t.stream ≡ o) × (Unit {0} × IsAny t)) Free
  inner = rule_then (λ (t : MethodType). t.name) rule_type_name (λ t ts r h g. begins_misses (sign s.Dot) (sign s.RightParen) (λ at. Unit {0}) ts r refl h) (λ n.
      rule_close (sign s.RightParen) refl (λ q. record { stream = o; name = n }) (λ t at. Unit {0}) (λ q. (tt, (refl, (refl, (tt, tt))))) (λ t q e k. rw (← k.0, ← k.1.0) refl))

rule_method_type : {H : Stream → Type 0} → Rule H method_type a_method_type IsAny Free
unfolding method_type
rule_method_type = rule_token (sign s.LeftParen) refl (λ t at. Unit {0}) (λ at.
    rule_then (λ (t : MethodType). t.stream) (rule_eat (ident (codes "stream")) refl) (λ t ts r h g. stream_absent t.stream ts h.0) rule_named)

abbrev Item : MethodItem → Language
Item i = Empty method_empty i ∪ Made method_option an_option i

pub option_misses : (ks : List Token) → Differs (ident (codes "option")) ks → (o : OptionStatement) (ts r : Stream) → an_option o ts r → Misses ks ts
option_misses ks d o ts r h = seen_misses (ident (codes "option")) ks ts d (option_starts o ts r h)

choice : Choice (sign s.RightBrace ∷ []) Always method_item Item
unfolding method_item
choice = choice_empty method_empty method_item_unless (λ at. refl) (refl, tt) (choice_last method_option rule_option (option_misses (sign s.Semicolon ∷ sign s.RightBrace ∷ []) (refl, (refl, tt))))

item_to : (i : MethodItem) (ts r : Stream) → Item i ts r → a_method_item i ts r
item_to i ts r (inl h) = subst (λ i. a_method_item i ts r) (sym h.2) h.1
item_to i ts r (inr h) = subst (λ i. a_method_item i ts r) (sym h.1) h.2

item_from : (i : MethodItem) (ts r : Stream) → a_method_item i ts r → Item i ts r
item_from (method_empty at) ts r h = inl (at, h, refl)
item_from (method_option o) ts r h = inr (o, refl, h)

rule_method_items : {H : Stream → Type 0} → Rule H method_items (each a_method_item) IsAny (λ is r. sees (sign s.RightBrace) r ≡ true)
unfolding method_items
rule_method_items = rule_items (rule_as choice.rule (λ i ts r h f. (item_to i ts r h, f)) (λ i ts r h f. (item_from i ts r h, f))) method_turns (λ i ts r h. (choice.misses i ts r (item_from i ts r h)).0)

abbrev End : Type 0
End = Option MethodBody × ℕ

abbrev end_begins : End → Span → Type 0
end_begins (None, e) at = Unit {0}
end_begins (Some b, e) at = begins b.braces at

abbrev braced : List MethodItem → Span → Span → End
braced is p q = (Some (record { braces = across p q; items = is }), q.end)

abbrev items_of : End → List MethodItem
items_of (None, e) = []
items_of (Some b, e) = b.items

abbrev brace_ends : End → Span → Type 0
brace_ends (None, e) at = ⊥
brace_ends (Some b, e) at = ends b.braces at × (e ≡ at.end)

abbrev semicolon_ends : End → Span → Type 0
semicolon_ends (None, e) at = e ≡ at.end
semicolon_ends (Some b, e) at = ⊥

abbrev body_of : List MethodItem → Span → MethodBody
body_of is p = record { braces = p; items = is }

made_braced : (is : List MethodItem) (p q : Span) (x : End) → brace_ends x q → items_of x ≡ is → end_begins x p → braced is p q ≡ x
made_braced is p q (None, e) h k b = absurd h
made_braced is p q (Some y, e) h k b = ap (λ at. (Some (body_of is at), q.end)) (whole y.braces p q b h.0) ∙ ap (λ is. (Some (body_of is y.braces), q.end)) (sym k) ∙ ap (λ n. (Some y, n)) (sym h.1)

rule_braced : (p : Span) → Rule Always (method_end (Some p)) (λ x. each a_method_item (items_of x) ▸ token_at (sign s.RightBrace) (brace_ends x)) (λ x. end_begins x p) Free
rule_braced p = rule_then items_of rule_method_items (λ x ts r h g. first_is (sign s.RightBrace) (sign s.RightBrace) (brace_ends x) ts r h) (λ is.
    rule_close (sign s.RightBrace) refl (braced is p) brace_ends (λ q. ((refl, refl), (refl, refl))) (λ x q e k. made_braced is p q x e k.0 k.1))

made_unbraced : (q : Span) (x : End) → semicolon_ends x q → ◌≡◌ {A = End} (None, q.end) x
made_unbraced q (None, e) h = ap (λ n. (None, n)) (sym h)
made_unbraced q (Some b, e) h = absurd h

rule_unbraced : {H : Stream → Type 0} → Rule H (method_end None) (λ x. token_at (sign s.Semicolon) (semicolon_ends x)) IsAny Free
rule_unbraced = rule_close (sign s.Semicolon) refl (λ q. (None, q.end)) semicolon_ends (λ q. (refl, tt)) (λ x q e k. made_unbraced q x e)

abbrev Ended : End → Language
Ended x ts r = (token_at (sign s.LeftBrace) (end_begins x) ▸ (each a_method_item (items_of x) ▸ token_at (sign s.RightBrace) (brace_ends x))) ts r ⊎ token_at (sign s.Semicolon) (semicolon_ends x) ts r

end_to : (x : End) (ts r : Stream) → Ended x ts r → a_method_end x.0 x.1 ts r
end_to (None, e) ts r (inl h) = absurd h.2.2.2
end_to (None, e) ts r (inr h) = h
end_to (Some b, e) ts r (inl h) = h
end_to (Some b, e) ts r (inr h) = absurd h.2

end_from : (x : End) (ts r : Stream) → a_method_end x.0 x.1 ts r → Ended x ts r
end_from (None, e) ts r h = inr h
end_from (Some b, e) ts r h = inl h

rule_method_body : {H : Stream → Type 0} → Rule H method_body (λ (x : End). a_method_end x.0 x.1) IsAny Free
unfolding method_body
rule_method_body = rule_as (rule_branch (sign s.LeftBrace) refl method_end end_begins rule_braced rule_unbraced (λ x ts r h g. begins_misses (sign s.LeftBrace) (sign s.Semicolon) (semicolon_ends x) ts r refl h))
    (λ x ts r h f. (end_to x ts r h, f)) (λ x ts r h f. (end_from x ts r h, f))

abbrev method_of : Span → Word → MethodType → MethodType → End → Method
method_of p w i o end = record { name = w; input = i; output = o; body = end.0; span = record { start = p.start; end = end.1 } }

made_method : (p : Span) (w : Word) (i o : MethodType) (m : Method) → m.output ≡ o → m.input ≡ i → m.name ≡ w → begins m.span p → method_of p w i o (m.body, m.span.end) ≡ m
made_method p w i o m a b c d = rw (← a, ← b, ← c, ← d) refl

rule_method : {H : Stream → Type 0} → Rule H method_rule a_method IsAny Free
unfolding method_rule
rule_method = rule_token (ident (codes "rpc")) refl (λ (m : Method). begins m.span) (λ p.
    rule_then (λ (m : Method). m.name) rule_word (λ m ts r h g. tt) (λ w.
    rule_then (λ (m : Method). m.input) rule_method_type (λ m ts r h g. tt) (λ i.
    rule_token (ident (codes "returns")) refl (λ m at. Unit {0}) (λ at.
    rule_then (λ (m : Method). m.output) rule_method_type (λ m ts r h g. tt) (λ o.
    rule_last (λ (m : Method). (m.body, m.span.end)) (method_of p w i o) rule_method_body (λ x. (refl, (refl, (tt, (refl, (refl, (refl, tt))))))) (λ m k. made_method p w i o m k.0 k.1.1.0 k.1.1.1.0 k.1.1.1.1.0) (λ m r f. f) (λ m r f. f))))))

-- ---- services

abbrev Never : {B : Type 0} → B → Language
Never b ts r = ⊥

method_starts : (m : Method) (ts r : Stream) → a_method m ts r → sees (ident (codes "rpc")) ts ≡ true
method_starts m ts r h = first_is (ident (codes "rpc")) (ident (codes "rpc")) (begins m.span) ts h.0 h.1

-- nothing else may come
pub choice_refused : {B : Type 0} {ks : List Token} {H : Stream → Type 0} (refused : Stream → Fault) → Choice {B = B} ks H (λ ts. Err (refused ts)) (λ b ts r. ⊥)
choice_refused {B = B} refused = record { rule = record { sound = λ ts r b h e. never e; complete = λ ts r b h k f. absurd h }; misses = λ b ts r h. absurd h } where
  never : {X : Type 0} {f : Fault} {y : B × Stream} → Err f ≡ good y → X
  never e = absurd cc

abbrev ServiceItems : ServiceItem → Language
ServiceItems i = Empty service_empty i ∪ (Made service_option an_option i ∪ (Made service_method a_method i ∪ Never i))

service_choice : Choice (sign s.RightBrace ∷ []) Always service_item ServiceItems
unfolding service_item
service_choice = choice_empty service_empty service_item_unless (λ at. refl) (refl, tt)
    (choice_word (ident (codes "option")) refl service_option rule_option option_starts (refl, (refl, tt))
    (choice_word (ident (codes "rpc")) refl service_method rule_method method_starts (refl, (refl, (refl, tt))) (choice_refused (refusal source expected_item))))

service_to : (i : ServiceItem) (ts r : Stream) → ServiceItems i ts r → a_service_item i ts r
service_to i ts r (inl h) = subst (λ i. a_service_item i ts r) (sym h.2) h.1
service_to i ts r (inr (inl h)) = subst (λ i. a_service_item i ts r) (sym h.1) h.2
service_to i ts r (inr (inr (inl h))) = subst (λ i. a_service_item i ts r) (sym h.1) h.2
service_to i ts r (inr (inr (inr h))) = absurd h

service_from : (i : ServiceItem) (ts r : Stream) → a_service_item i ts r → ServiceItems i ts r
service_from (service_empty at) ts r h = inl (at, h, refl)
service_from (service_option o) ts r h = inr (inl (o, refl, h))
service_from (service_method m) ts r h = inr (inr (inl (m, refl, h)))

rule_service_items : {H : Stream → Type 0} → Rule H service_items (each a_service_item) IsAny (λ is r. sees (sign s.RightBrace) r ≡ true)
unfolding service_items
rule_service_items = rule_items (rule_as service_choice.rule (λ i ts r h f. (service_to i ts r h, f)) (λ i ts r h f. (service_from i ts r h, f))) service_turns (λ i ts r h. (service_choice.misses i ts r (service_from i ts r h)).0)

abbrev service_of : Word → Span → List ServiceItem → Span → Span → Service
service_of w b is p q = record { name = w; braces = across b q; items = is; span = across p q }

made_service : (w : Word) (b : Span) (is : List ServiceItem) (p q : Span) (e : Service) → e.name ≡ w → begins e.braces b → e.items ≡ is → begins e.span p → ends e.braces q → ends e.span q → service_of w b is p q ≡ e
made_service w b is p q e a c d f g h =
    ap (λ b. record { name = w; braces = b; items = is; span = across p q }) (whole e.braces b q c g) ∙ ap (λ p. record { name = w; braces = e.braces; items = is; span = p }) (whole e.span p q f h) ∙ rw (← a, ← d) refl

pub rule_service : {H : Stream → Type 0} → Rule H service a_service IsAny Free
unfolding service
rule_service = rule_token (ident (codes "service")) refl (λ (e : Service). begins e.span) (λ p.
    rule_then (λ (e : Service). e.name) rule_word (λ e ts r h g. tt) (λ w.
    rule_token (sign s.LeftBrace) refl (λ (e : Service). begins e.braces) (λ b.
    rule_then (λ (e : Service). e.items) rule_service_items (λ e ts r h g. first_is (sign s.RightBrace) (sign s.RightBrace) (λ at. ends e.braces at × ends e.span at) ts r h) (λ is.
    rule_close (sign s.RightBrace) refl (service_of w b is p) (λ e at. ends e.braces at × ends e.span at) (λ q. ((refl, refl), (refl, (refl, (refl, (refl, tt))))))
    (λ e q x k. made_service w b is p q e k.1.1.0 k.1.0 k.0 k.1.1.1.0 x.0 x.1)))))
