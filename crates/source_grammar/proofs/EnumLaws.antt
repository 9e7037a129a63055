-- What the rules of enums read.
use Rattle.std.proofs.Common.{[], ◌≡◌, List, ◌∷◌, Option, Some, None, refl, ap, sym, subst, ◌∙◌, inl, inr}
use Rattle.std.specs.Prelude.{codes, true}
use Rattle.protox_declarations.specs.EnumGrammar.{an_enum_value as value_rule, enum_item_unless, enum_item, enum_items, enumeration}
use Rattle.protox_declarations.proofs.EnumLaws.{enum_turns}
use Rattle.protox_lex.specs.Class.{Text}
use Rattle.protox_lex.specs.Token.{ident, sign}
use Rattle.protox_lex.specs.declared.literal.Int.{Int}
use Rattle.protox_lex.specs.declared.span.Span.{Span}
use Rattle.protox_lex.specs.declared.token.Sign.TheVariants as s
use Rattle.protox_tree.specs.Tree.{Word, OptionStatement, OptionList, Reserved, EnumValue, EnumItem, enum_value, enum_option, enum_reserved, enum_empty, Enum}
use Rattle.protox_tokens.specs.Stream.{Stream}
use Rattle.protox_tokens.specs.Parser.{sees}
use Rattle.protox_tokens.specs.Span.{across}
use Rattle.protox_tokens.specs.Marks.{IsAny}
use Rattle.protox_tokens.proofs.Both.{Always, Free}
use Rattle.source_grammar.specs.Languages.{Language, token_at, begins, ends, ◌∪◌, each, unless}
use Rattle.source_grammar.specs.Options.{an_option, NoBracket}
use Rattle.source_grammar.specs.Ranges.{a_reserved}
use Rattle.source_grammar.specs.Enums.{an_enum_value, an_enum_item, an_enum}
use Rattle.source_grammar.proofs.Rules.{Rule, rule_as, rule_then, rule_token, rule_close, first_is}
use Rattle.source_grammar.proofs.NameLaws.{rule_word, rule_int, word_misses}
use Rattle.source_grammar.proofs.OptionLaws.{rule_option, rule_options}
use Rattle.source_grammar.proofs.RangeLaws.{rule_reserved}
use Rattle.source_grammar.proofs.Ahead.{begins_misses}
use Rattle.source_grammar.proofs.Choices.{Misses, Made, Empty, Choice, choice_word, choice_empty, choice_last, rule_unless, rule_items}

-- ---- values

pub bracket_or : (o : Option OptionList) (P : Span → Type 0) (ts r : Stream) → token_at (sign s.Semicolon) P ts r → NoBracket o ts
bracket_or None P ts r h = begins_misses (sign s.LeftBracket) (sign s.Semicolon) P ts r refl h
bracket_or (Some o) P ts r h = tt

abbrev value_of : Word → Int → Option OptionList → Span → EnumValue
value_of w n o q = record { name = w; number = n; options = o; span = across w.span q }

made_value : (w : Word) (n : Int) (o : Option OptionList) (q : Span) (v : EnumValue) → v.name ≡ w → v.number ≡ n → v.options ≡ o → begins v.span v.name.span → ends v.span q → value_of w n o q ≡ v
made_value w n o q v a b c d e = rw (← a, ← b, ← c, ← d, ← e) refl

rule_value : {H : Stream → Type 0} → Rule H value_rule an_enum_value IsAny Free
unfolding value_rule
rule_value = rule_then (λ (v : EnumValue). v.name) rule_word (λ v ts r h g. tt) (λ w.
    rule_token (sign s.Equals) refl (λ v at. Unit {0}) (λ at.
    rule_then (λ (v : EnumValue). v.number) rule_int (λ v ts r h g. tt) (λ n.
    rule_then (λ (v : EnumValue). v.options) rule_options (λ v ts r h g. bracket_or v.options (λ at. begins v.span v.name.span × ends v.span at) ts r h) (λ o.
    rule_close (sign s.Semicolon) refl (value_of w n o) (λ v at. begins v.span v.name.span × ends v.span at) (λ q. ((refl, refl), (refl, (refl, (tt, (refl, tt))))))
    (λ v q e k. made_value w n o q v k.1.1.1.0 k.1.0 k.0 e.0 e.1)))))

-- ---- items

abbrev words : List Text
words = codes "reserved" ∷ codes "option" ∷ []

abbrev Valued : EnumValue → Language
Valued v = unless words (an_enum_value v)

valued_misses : (v : EnumValue) (ts r : Stream) → Valued v ts r → Misses (ident (codes "reserved") ∷ ident (codes "option") ∷ sign s.Semicolon ∷ sign s.RightBrace ∷ []) ts
valued_misses v ts r h = (h.0.0, (h.0.1.0, (word_misses (sign s.Semicolon) v.name ts h.1.0 refl h.1.1, (word_misses (sign s.RightBrace) v.name ts h.1.0 refl h.1.1, tt))))

pub option_starts : (o : OptionStatement) (ts r : Stream) → an_option o ts r → sees (ident (codes "option")) ts ≡ true
option_starts o ts r h = first_is (ident (codes "option")) (ident (codes "option")) (begins o.span) ts h.0 h.1

pub reserved_starts : (x : Reserved) (ts r : Stream) → a_reserved x ts r → sees (ident (codes "reserved")) ts ≡ true
reserved_starts x ts r h = first_is (ident (codes "reserved")) (ident (codes "reserved")) (begins x.span) ts h.0 h.1

abbrev Item : EnumItem → Language
Item i = Empty enum_empty i ∪ (Made enum_option an_option i ∪ (Made enum_reserved a_reserved i ∪ Made enum_value Valued i))

choice : Choice (sign s.RightBrace ∷ []) Always enum_item Item
unfolding enum_item
choice = choice_empty enum_empty enum_item_unless (λ at. refl) (refl, tt)
    (choice_word (ident (codes "option")) refl enum_option rule_option option_starts (refl, (refl, tt))
    (choice_word (ident (codes "reserved")) refl enum_reserved rule_reserved reserved_starts (refl, (refl, (refl, tt)))
    (choice_last enum_value (rule_unless words rule_value (λ ts h. (h.1, (h.0.1, tt)))) valued_misses)))

item_to : (i : EnumItem) (ts r : Stream) → Item i ts r → an_enum_item i ts r
item_to i ts r (inl h) = subst (λ i. an_enum_item i ts r) (sym h.2) h.1
item_to i ts r (inr (inl h)) = subst (λ i. an_enum_item i ts r) (sym h.1) h.2
item_to i ts r (inr (inr (inl h))) = subst (λ i. an_enum_item i ts r) (sym h.1) h.2
item_to i ts r (inr (inr (inr h))) = subst (λ i. an_enum_item i ts r) (sym h.1) h.2

item_from : (i : EnumItem) (ts r : Stream) → an_enum_item i ts r → Item i ts r
item_from (enum_empty at) ts r h = inl (at, h, refl)
item_from (enum_option o) ts r h = inr (inl (o, refl, h))
item_from (enum_reserved x) ts r h = inr (inr (inl (x, refl, h)))
item_from (enum_value v) ts r h = inr (inr (inr (v, refl, h)))

rule_item : Rule Always enum_item an_enum_item IsAny Free
rule_item = rule_as choice.rule (λ i ts r h f. (item_to i ts r h, f)) (λ i ts r h f. (item_from i ts r h, f))

rule_enum_items : {H : Stream → Type 0} → Rule H enum_items (each an_enum_item) IsAny (λ is r. sees (sign s.RightBrace) r ≡ true)
unfolding enum_items
rule_enum_items = rule_items rule_item enum_turns (λ i ts r h. (choice.misses i ts r (item_from i ts r h)).0)

-- ---- enums

abbrev enum_of : Word → Span → List EnumItem → Span → Span → Enum
enum_of w b is p q = record { name = w; braces = across b q; items = is; span = across p q }

pub whole : (p a b : Span) → begins p a → ends p b → across a b ≡ p
whole p a b e f = rw (← e, ← f) refl

made_enum : (w : Word) (b : Span) (is : List EnumItem) (p q : Span) (e : Enum) → e.name ≡ w → begins e.braces b → e.items ≡ is → begins e.span p → ends e.braces q → ends e.span q → enum_of w b is p q ≡ e
made_enum w b is p q e a c d f g h = ap (λ b. record { name = w; braces = b; items = is; span = across p q }) (whole e.braces b q c g) ∙ ap (λ p. record { name = w; braces = e.braces; items = is; span = p }) (whole e.span p q f h) ∙ rw (← a, ← d) refl

pub rule_enum : {H : Stream → Type 0} → Rule H enumeration an_enum IsAny Free
unfolding enumeration
rule_enum = rule_token (ident (codes "enum")) refl (λ (e : Enum). begins e.span) (λ p.
    rule_then (λ (e : Enum). e.name) rule_word (λ e ts r h g. tt) (λ w.
    rule_token (sign s.LeftBrace) refl (λ (e : Enum). begins e.braces) (λ b.
    rule_then (λ (e : Enum). e.items) rule_enum_items (λ e ts r h g. first_is (sign s.RightBrace) (sign s.RightBrace) (λ at. ends e.braces at × ends e.span at) ts r h) (λ is.
    rule_close (sign s.RightBrace) refl (enum_of w b is p) (λ e at. ends e.braces at × ends e.span at) (λ q. ((refl, refl), (refl, (refl, (refl, (refl, tt))))))
    (λ e q x k. made_enum w b is p q e k.1.1.0 k.1.0 k.0 k.1.1.1.0 x.0 x.1)))))
