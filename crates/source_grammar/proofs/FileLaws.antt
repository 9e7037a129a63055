-- What the rules of whole sources read.
use Rattle.std.proofs.Common.{[], ◌≡◌, Bool, true, false, List, ◌∷◌, Option, Some, None, Ok, refl, ap, sym, subst, ◌∙◌, inl, inr, ◌⊎◌}
use Rattle.std.specs.Prelude.{if◌then◌else◌, codes, not, ◌↔◌}
use Rattle.std.specs.Str.{bytes_eq}
use Rattle.std.proofs.lemmas.Slice.Eq.{bytes_eq-Decides}
use Rattle.protox_file.specs.FileGrammar.{language, known, syntax_behind, syntax_if, unless_edition, syntax, public_if, weak_if, import_kind, an_import as import_rule, a_package as package_rule, file_item_unless, file_item, file_items, file}
use Rattle.protox_file.specs.Sources.{Spells}
use Rattle.protox_file.proofs.FileLaws.{file_turns}
use Rattle.protox_lex.specs.Class.{Text}
use Rattle.protox_lex.specs.Token.{Token, ident, sign}
use Rattle.protox_lex.specs.declared.span.Span.{Span}
use Rattle.protox_lex.specs.declared.token.Sign.TheVariants as s
use Rattle.protox_tree.specs.FileTree.{SyntaxStatement, Import, Package, FileItem, file_import, file_package, file_option, file_message, file_enum, file_service, file_extend, file_empty, File, file_span}
use Rattle.protox_tree.specs.Tree.{Word, Enum, Service, joined, words_span}
use Rattle.protox_tree.specs.declared.file.ImportKind.{ImportKind}
use Rattle.protox_tree.specs.declared.file.ImportKind.TheVariants as imports
use Rattle.protox_tree.specs.declared.types.Syntax.{Syntax}
use Rattle.protox_tree.specs.declared.types.Syntax.TheVariants as syntaxes
use Rattle.protox_tokens.specs.Stream.{Stream, source, is_over}
use Rattle.protox_tokens.specs.Parser.{Parser, ◌>>=◌, pure, sees, eat, expect}
use Rattle.protox_tokens.specs.Refusal.{a_file_item as expected_item, refusal}
use Rattle.protox_tokens.specs.Span.{across}
use Rattle.protox_tokens.specs.Marks.{spot, literal, IsAny}
use Rattle.protox_tokens.proofs.Local.{same_ok, bound}
use Rattle.protox_tokens.proofs.Both.{Always, Free, then_ok}
use Rattle.protox_tokens.proofs.Steps.{Absent, sees_first, eat_none}
use Rattle.protox_tokens.proofs.Lists.{lastly_all}
use Rattle.source_grammar.specs.Languages.{Language, the, token_at, begins, ends, ◌▸◌, ◌∪◌, if_there, each, given}
use Rattle.source_grammar.specs.Names.{a_string, NoString}
use Rattle.source_grammar.specs.Options.{an_option}
use Rattle.source_grammar.specs.Enums.{an_enum}
use Rattle.source_grammar.specs.Services.{a_service}
use Rattle.source_grammar.specs.Messages.{a_message, an_extend, block}
use Rattle.source_grammar.specs.Files.{syntax_name, a_syntax_if, an_import_kind, an_import, a_package, a_file_item, a_file, IsSpelledBy}
use Rattle.source_grammar.proofs.Rules.{Rule, rule_as, rule_then, rule_map, rule_token, rule_close, rule_eat, rule_while, first_is}
use Rattle.source_grammar.proofs.NameLaws.{rule_full, rule_strings}
use Rattle.source_grammar.proofs.OptionLaws.{rule_option}
use Rattle.source_grammar.proofs.EnumLaws.{rule_enum, whole, option_starts}
use Rattle.source_grammar.proofs.ServiceLaws.{rule_service, choice_refused}
use Rattle.source_grammar.proofs.FieldLaws.{rule_or}
use Rattle.source_grammar.proofs.MessageLaws.{message_starts, extend_starts, message_law, extend_law}
use Rattle.source_grammar.proofs.Ahead.{begins_misses, begins_no_string}
use Rattle.source_grammar.proofs.Choices.{Made, Empty, Choice, choice_word, choice_empty, rule_under}

-- ---- the language

language_to : (x : Text) (y : Syntax) → language x ≡ Some y → x ≡ syntax_name y
language_to x y e = by (bytes_eq x (codes "proto2")) refl (bytes_eq x (codes "proto3")) refl e where
  by : (b : Bool) → bytes_eq x (codes "proto2") ≡ b → (c : Bool) → bytes_eq x (codes "proto3") ≡ c → (if b then Some syntaxes.Proto2 else if c then Some syntaxes.Proto3 else None) ≡ Some y → x ≡ syntax_name y
  by true i c j e = let is : syntaxes.Proto2 ≡ y = cc in (bytes_eq-Decides x (codes "proto2")).0 i ∙ ap syntax_name is
  by false i true j e = let is : syntaxes.Proto3 ≡ y = cc in (bytes_eq-Decides x (codes "proto3")).0 j ∙ ap syntax_name is
  by false i false j e = absurd (let wrong : ◌≡◌ {A = Option Syntax} None (Some y) = e in cc)

language_from : (x : Text) (y : Syntax) → x ≡ syntax_name y → language x ≡ Some y
language_from x syntaxes.Proto2 e = ap language e
language_from x syntaxes.Proto3 e = ap language e

abbrev statement : Syntax → List Word → Span → Span → SyntaxStatement
statement y v p q = record { syntax = y; value = v; span = across p q }

made_syntax : (y : Syntax) (v : List Word) (p q : Span) (x : SyntaxStatement) → x.syntax ≡ y → x.value ≡ v → begins x.span p → ends x.span q → statement y v p q ≡ x
made_syntax y v p q x a b c d = ap (λ at. record { syntax = y; value = v; span = at }) (whole x.span p q c d) ∙ rw (← a, ← b) refl

abbrev behind_syntax : List Word → Span → Syntax → Parser SyntaxStatement
behind_syntax v p y = expect (sign s.Semicolon) >>= (λ q. pure (statement y v p q))

rule_said : (y : Syntax) (v : List Word) (p : Span) → Rule Always (behind_syntax v p y) (λ (x : SyntaxStatement). token_at (sign s.Semicolon) (ends x.span)) (λ x. (x.syntax ≡ y) × ((x.value ≡ v) × begins x.span p)) Free
rule_said y v p = rule_close (sign s.Semicolon) refl (statement y v p) (λ (x : SyntaxStatement). ends x.span) (λ q. (refl, (refl, (refl, refl)))) (λ x q e k. made_syntax y v p q x k.0 k.1.0 k.1.1 e)

abbrev Said : SyntaxStatement → Language
Said x = given (joined x.value ≡ syntax_name x.syntax) (token_at (sign s.Semicolon) (ends x.span))

abbrev SaidKnown : List Word → Span → SyntaxStatement → Type 0
SaidKnown v p x = (x.value ≡ v) × (Unit {0} × begins x.span p)

rule_known : (v : List Word) (p : Span) → Rule (NoString v) (known (words_span v) (language (joined v)) >>= behind_syntax v p) Said (SaidKnown v p) Free
rule_known v p = record { sound = λ ts r x h e. by ts r x (language (joined v)) refl e; complete = λ ts r x h k g. back ts r x h k } where
  by : (ts r : Stream) (x : SyntaxStatement) (o : Option Syntax) → language (joined v) ≡ o → (known (words_span v) o >>= behind_syntax v p) ts ≡ Ok (x, r) → Said x ts r × SaidKnown v p x × Unit {0}
  by ts r x None i e = absurd cc
  by ts r x (Some y) i e =
      let z = (rule_said y v p).sound ts r x tt e in
      ((ap joined z.1.1.0 ∙ language_to (joined v) y i ∙ ap syntax_name (sym z.1.0), z.0), (z.1.1.0, (tt, z.1.1.1)), tt)

  back : (ts r : Stream) (x : SyntaxStatement) → Said x ts r → SaidKnown v p x → (known (words_span v) (language (joined v)) >>= behind_syntax v p) ts ≡ Ok (x, r)
  back ts r x h k = ap (λ o. (known (words_span v) o >>= behind_syntax v p) ts) (language_from (joined v) x.syntax (sym (ap joined k.0) ∙ h.0)) ∙ (rule_said x.syntax v p).complete ts r x h.1 (refl, (k.0, k.1.1)) tt

abbrev SyntaxRest : SyntaxStatement → Language
SyntaxRest x = the (sign s.Equals) ▸ (a_string x.value ▸ Said x)

rule_behind : (p : Span) → Rule Always (syntax_behind p) SyntaxRest (λ x. begins x.span p) Free
unfolding syntax_behind
rule_behind p = rule_token (sign s.Equals) refl (λ x at. Unit {0}) (λ at.
    rule_then (λ (x : SyntaxStatement). x.value) rule_strings (λ x ts r h g. begins_no_string (sign s.Semicolon) (ends x.span) ts r refl h.1) (λ v. rule_known v p))

-- what follows a language that is not said
abbrev SyntaxEnds : Option SyntaxStatement → Stream → Type 0
SyntaxEnds None r = (sees (ident (codes "edition")) r ≡ false) × (sees (ident (codes "syntax")) r ≡ false)
SyntaxEnds (Some x) r = Unit {0}

abbrev SyntaxRead : Stream → Option SyntaxStatement × Stream → Type 0
SyntaxRead ts y = a_syntax_if y.0 ts y.1 × Unit {0} × SyntaxEnds y.0 y.1

rule_syntax : {H : Stream → Type 0} → Rule H syntax a_syntax_if IsAny SyntaxEnds
unfolding syntax
rule_syntax {H} = record { sound = λ ts r x h e. forth ts r x h e; complete = λ ts r x h k g. back ts r x h g } where
  third : (ts r : Stream) (x : Option SyntaxStatement) → sees (ident (codes "edition")) ts ≡ false → (o : Option Span) (u : Stream) → if_there (ident (codes "syntax")) o ts u × Unit {0} × Absent (ident (codes "syntax")) o u → syntax_if o u ≡ Ok (x, r) → SyntaxRead ts (x, r)
  third ts r x n None u d e = subst (SyntaxRead ts) (same_ok (None, u) (x, r) e) (d.0, tt, (subst (λ u. sees (ident (codes "edition")) u ≡ false) d.0 n, d.2))
  third ts r x n (Some at) u d e =
      let z = bound (syntax_behind at u) (λ x. pure (Some x)) (x, r) e in
      let f = (rule_behind at).sound u z.0.1 z.0.0 tt z.1 in
      subst (SyntaxRead ts) (same_ok (Some z.0.0, z.0.1) (x, r) z.2) ((u, (at, d.0, f.1), f.0), tt, tt)

  second : (ts r : Stream) (x : Option SyntaxStatement) (o : Option Span) (u : Stream) → if_there (ident (codes "edition")) o ts u × Unit {0} × Absent (ident (codes "edition")) o u → unless_edition o u ≡ Ok (x, r) → SyntaxRead ts (x, r)
  second ts r x (Some at) u d e = absurd cc
  second ts r x None u d e =
      let y = bound (eat (ident (codes "syntax")) u) syntax_if (x, r) e in
      subst (λ t. SyntaxRead t (x, r)) (sym d.0) (third u r x d.2 y.0.0 y.0.1 ((rule_eat (ident (codes "syntax")) refl {H = Always}).sound u y.0.1 y.0.0 tt y.1) y.2)

  forth : (ts r : Stream) (x : Option SyntaxStatement) → H ts → (eat (ident (codes "edition")) >>= unless_edition) ts ≡ Ok (x, r) → SyntaxRead ts (x, r)
  forth ts r x h e =
      let y = bound (eat (ident (codes "edition")) ts) unless_edition (x, r) e in
      second ts r x y.0.0 y.0.1 ((rule_eat (ident (codes "edition")) refl {H = H}).sound ts y.0.1 y.0.0 h y.1) y.2

  back : (ts r : Stream) (x : Option SyntaxStatement) → a_syntax_if x ts r → SyntaxEnds x r → (eat (ident (codes "edition")) >>= unless_edition) ts ≡ Ok (x, r)
  back ts r None h g =
      then_ok unless_edition (eat_none (ident (codes "edition")) ts (subst (λ u. sees (ident (codes "edition")) u ≡ false) (sym h) g.0))
      (then_ok syntax_if (eat_none (ident (codes "syntax")) ts (subst (λ u. sees (ident (codes "syntax")) u ≡ false) (sym h) g.1)) (ap (λ s. Ok (None, s)) h))
  back ts r (Some x) h g =
      then_ok unless_edition (eat_none (ident (codes "edition")) ts (sees_first (ident (codes "edition")) (spot h.1.0 (ident (codes "syntax"))) [] ts h.0 h.1.1))
      (then_ok syntax_if ((rule_eat (ident (codes "syntax")) refl {H = Always}).complete ts h.0 (Some h.1.0) h.1.1 tt tt)
      (then_ok (λ x. pure (Some x)) ((rule_behind h.1.0).complete h.0 r x h.2 h.1.2 tt) refl))

-- ---- imports and packages

abbrev Importing : Type 0
Importing = Option (ImportKind × Span)

abbrev kind_at : ImportKind → Span → Importing
kind_at k at = Some (k, at)

abbrev KindEnds : Importing → Stream → Type 0
KindEnds None r = (sees (ident (codes "weak")) r ≡ false) × (sees (ident (codes "public")) r ≡ false)
KindEnds (Some x) r = Unit {0}

abbrev Unsaid : Importing → Language
Unsaid x ts r = (x ≡ None) × (ts ≡ r)

rule_unsaid : Rule (λ ts. (Unit {0} × (sees (ident (codes "weak")) ts ≡ false)) × (sees (ident (codes "public")) ts ≡ false)) (public_if None) Unsaid IsAny KindEnds
rule_unsaid = record {
  sound = λ ts r l h e. subst (λ (y : Importing × Stream). Unsaid y.0 ts y.1 × Unit {0} × KindEnds y.0 y.1) (same_ok (None, ts) (l, r) e) ((refl, refl), tt, (h.0.1, h.1));
  complete = λ ts r l h k f. ap (λ x. Ok (x, ts)) (sym h.0) ∙ ap (λ s. Ok (l, s)) h.1;
}

unsaid_ends : (l : Importing) (ts r : Stream) → Unsaid l ts r → KindEnds l r → KindEnds None ts
unsaid_ends l ts r h g = subst (KindEnds None) (sym h.1) (subst (λ l. KindEnds l r) h.0 g)

abbrev Public : Importing → Language
Public l = token_at (ident (codes "public")) (λ at. l ≡ kind_at imports.Public at)

abbrev Weak : Importing → Language
Weak l = token_at (ident (codes "weak")) (λ at. l ≡ kind_at imports.Weak at)

rule_public : Rule (λ ts. Unit {0} × (sees (ident (codes "weak")) ts ≡ false)) (weak_if None) (λ l ts r. Public l ts r ⊎ Unsaid l ts r) IsAny KindEnds
rule_public = rule_or (ident (codes "public")) refl (kind_at imports.Public) public_if (λ at. refl) (λ at r. tt) rule_unsaid (λ l ts r h g. (unsaid_ends l ts r h g).1)

rule_import_kind : Rule Always import_kind an_import_kind IsAny KindEnds
unfolding import_kind
rule_import_kind = rule_as (rule_or (ident (codes "weak")) refl (kind_at imports.Weak) weak_if (λ at. refl) (λ at r. tt) rule_public tails) (λ l ts r h f. (to l ts r h, f)) (λ l ts r h f. (from l ts r h, f)) where
  tails : (l : Importing) (ts r : Stream) → Public l ts r ⊎ Unsaid l ts r → KindEnds l r → sees (ident (codes "weak")) ts ≡ false
  tails l ts r (inl h) g = sees_first (ident (codes "weak")) (spot h.0 (ident (codes "public"))) [] ts r h.1
  tails l ts r (inr h) g = (unsaid_ends l ts r h g).0

  to : (l : Importing) (ts r : Stream) → Weak l ts r ⊎ (Public l ts r ⊎ Unsaid l ts r) → an_import_kind l ts r
  to l ts r (inl h) = subst (λ l. an_import_kind l ts r) (sym h.2) h.1
  to l ts r (inr (inl h)) = subst (λ l. an_import_kind l ts r) (sym h.2) h.1
  to l ts r (inr (inr h)) = subst (λ l. an_import_kind l ts r) (sym h.0) h.1

  from : (l : Importing) (ts r : Stream) → an_import_kind l ts r → Weak l ts r ⊎ (Public l ts r ⊎ Unsaid l ts r)
  from None ts r h = inr (inr (refl, h))
  from (Some (imports.Weak, at)) ts r h = inl (at, h, refl)
  from (Some (imports.Public, at)) ts r h = inr (inl (at, h, refl))

string_misses : (k : Text) (ws : List Word) (ts r : Stream) → a_string ws ts r → sees (ident k) ts ≡ false
string_misses k [] ts r h = absurd h
string_misses k (w ∷ ws) ts r h = sees_first (ident k) (literal w) [] ts h.0 h.1

kind_ends : (l : Importing) (ws : List Word) (ts r : Stream) → a_string ws ts r → KindEnds l ts
kind_ends None ws ts r h = (string_misses (codes "weak") ws ts r h, string_misses (codes "public") ws ts r h)
kind_ends (Some x) ws ts r h = tt

abbrev import_of : Span → Importing → List Word → Span → Import
import_of p k v q = record { kind = k; value = v; span = across p q }

made_import : (p q : Span) (k : Importing) (v : List Word) (x : Import) → x.kind ≡ k → x.value ≡ v → begins x.span p → ends x.span q → import_of p k v q ≡ x
made_import p q k v x a b c d = ap (λ at. record { kind = k; value = v; span = at }) (whole x.span p q c d) ∙ rw (← a, ← b) refl

pub rule_import : {H : Stream → Type 0} → Rule H import_rule an_import IsAny Free
unfolding import_rule
rule_import = rule_token (ident (codes "import")) refl (λ (x : Import). begins x.span) (λ p.
    rule_then (λ (x : Import). x.kind) rule_import_kind (λ x ts r h g. kind_ends x.kind x.value ts h.0 h.1) (λ k.
    rule_then (λ (x : Import). x.value) rule_strings (λ x ts r h g. begins_no_string (sign s.Semicolon) (ends x.span) ts r refl h) (λ v.
    rule_close (sign s.Semicolon) refl (import_of p k v) (λ (x : Import). ends x.span) (λ q. (refl, (refl, (refl, (refl, tt))))) (λ x q e y. made_import p q k v x y.1.0 y.0 y.1.1.0 e))))

abbrev package_of : Span → List Word → Span → Package
package_of p n q = record { name = n; span = across p q }

made_package : (p q : Span) (n : List Word) (x : Package) → x.name ≡ n → begins x.span p → ends x.span q → package_of p n q ≡ x
made_package p q n x a c d = rw (← a, ← c, ← d) refl

pub rule_package : {H : Stream → Type 0} → Rule H package_rule a_package IsAny Free
unfolding package_rule
rule_package = rule_token (ident (codes "package")) refl (λ (x : Package). begins x.span) (λ p.
    rule_then (λ (x : Package). x.name) rule_full (λ x ts r h g. begins_misses (sign s.Dot) (sign s.Semicolon) (ends x.span) ts r refl h) (λ n.
    rule_close (sign s.Semicolon) refl (package_of p n) (λ (x : Package). ends x.span) (λ q. (refl, (refl, (refl, tt)))) (λ x q e k. made_package p q n x k.0 k.1.0 e)))

-- ---- statements

abbrev ItemLanguage : FileItem → Language
ItemLanguage i = Empty file_empty i ∪ (Made file_import an_import i ∪ (Made file_package a_package i ∪ (Made file_message (a_message (block 31)) i ∪ (Made file_enum an_enum i
    ∪ (Made file_service a_service i ∪ (Made file_extend (an_extend (block 31)) i ∪ (Made file_option an_option i ∪ (λ ts r. ⊥))))))))

import_starts : (x : Import) (ts r : Stream) → an_import x ts r → sees (ident (codes "import")) ts ≡ true
import_starts x ts r h = first_is (ident (codes "import")) (ident (codes "import")) (begins x.span) ts h.0 h.1

package_starts : (x : Package) (ts r : Stream) → a_package x ts r → sees (ident (codes "package")) ts ≡ true
package_starts x ts r h = first_is (ident (codes "package")) (ident (codes "package")) (begins x.span) ts h.0 h.1

enum_starts : (x : Enum) (ts r : Stream) → an_enum x ts r → sees (ident (codes "enum")) ts ≡ true
enum_starts x ts r h = first_is (ident (codes "enum")) (ident (codes "enum")) (begins x.span) ts h.0 h.1

service_starts : (x : Service) (ts r : Stream) → a_service x ts r → sees (ident (codes "service")) ts ≡ true
service_starts x ts r h = first_is (ident (codes "service")) (ident (codes "service")) (begins x.span) ts h.0 h.1

item_choice : Choice (ident (codes "edition") ∷ ident (codes "syntax") ∷ []) Always file_item ItemLanguage
unfolding file_item
item_choice = choice_empty file_empty file_item_unless (λ at. refl) (refl, (refl, tt))
    (choice_word (ident (codes "import")) refl file_import rule_import import_starts (refl, (refl, (refl, tt)))
    (choice_word (ident (codes "package")) refl file_package rule_package package_starts (refl, (refl, (refl, (refl, tt))))
    (choice_word (ident (codes "message")) refl file_message (message_law 31) (message_starts (block 31)) (refl, (refl, (refl, (refl, (refl, tt)))))
    (choice_word (ident (codes "enum")) refl file_enum rule_enum enum_starts (refl, (refl, (refl, (refl, (refl, (refl, tt))))))
    (choice_word (ident (codes "service")) refl file_service rule_service service_starts (refl, (refl, (refl, (refl, (refl, (refl, (refl, tt)))))))
    (choice_word (ident (codes "extend")) refl file_extend (extend_law 31) (extend_starts (block 31)) (refl, (refl, (refl, (refl, (refl, (refl, (refl, (refl, tt))))))))
    (choice_word (ident (codes "option")) refl file_option rule_option option_starts (refl, (refl, (refl, (refl, (refl, (refl, (refl, (refl, (refl, tt)))))))))
    (choice_refused (refusal source expected_item)))))))))

item_to : (i : FileItem) (ts r : Stream) → ItemLanguage i ts r → a_file_item i ts r
item_to i ts r (inl h) = subst (λ i. a_file_item i ts r) (sym h.2) h.1
item_to i ts r (inr (inl h)) = subst (λ i. a_file_item i ts r) (sym h.1) h.2
item_to i ts r (inr (inr (inl h))) = subst (λ i. a_file_item i ts r) (sym h.1) h.2
item_to i ts r (inr (inr (inr (inl h)))) = subst (λ i. a_file_item i ts r) (sym h.1) h.2
item_to i ts r (inr (inr (inr (inr (inl h))))) = subst (λ i. a_file_item i ts r) (sym h.1) h.2
item_to i ts r (inr (inr (inr (inr (inr (inl h)))))) = subst (λ i. a_file_item i ts r) (sym h.1) h.2
item_to i ts r (inr (inr (inr (inr (inr (inr (inl h))))))) = subst (λ i. a_file_item i ts r) (sym h.1) h.2
item_to i ts r (inr (inr (inr (inr (inr (inr (inr (inl h)))))))) = subst (λ i. a_file_item i ts r) (sym h.1) h.2
item_to i ts r (inr (inr (inr (inr (inr (inr (inr (inr h)))))))) = absurd h

item_from : (i : FileItem) (ts r : Stream) → a_file_item i ts r → ItemLanguage i ts r
item_from (file_empty at) ts r h = inl (at, h, refl)
item_from (file_import x) ts r h = inr (inl (x, refl, h))
item_from (file_package x) ts r h = inr (inr (inl (x, refl, h)))
item_from (file_message m) ts r h = inr (inr (inr (inl (m, refl, h))))
item_from (file_enum e) ts r h = inr (inr (inr (inr (inl (e, refl, h)))))
item_from (file_service x) ts r h = inr (inr (inr (inr (inr (inl (x, refl, h))))))
item_from (file_extend e) ts r h = inr (inr (inr (inr (inr (inr (inl (e, refl, h)))))))
item_from (file_option o) ts r h = inr (inr (inr (inr (inr (inr (inr (inl (o, refl, h))))))))

-- where a token comes the source is not over
goes_on : (k : Token) (ts : Stream) → sees k ts ≡ true → not (is_over ts) ≡ true
goes_on k [] h = absurd cc
goes_on k (p ∷ ts) h = refl

item_goes : (i : FileItem) (ts r : Stream) → a_file_item i ts r → not (is_over ts) ≡ true
item_goes (file_empty at) ts r h = goes_on (sign s.Semicolon) ts (sees_first (sign s.Semicolon) (spot at (sign s.Semicolon)) [] ts r h)
item_goes (file_import x) ts r h = goes_on (ident (codes "import")) ts (import_starts x ts r h)
item_goes (file_package x) ts r h = goes_on (ident (codes "package")) ts (package_starts x ts r h)
item_goes (file_message m) ts r h = goes_on (ident (codes "message")) ts (message_starts (block 31) m ts r h)
item_goes (file_enum e) ts r h = goes_on (ident (codes "enum")) ts (enum_starts e ts r h)
item_goes (file_service x) ts r h = goes_on (ident (codes "service")) ts (service_starts x ts r h)
item_goes (file_extend e) ts r h = goes_on (ident (codes "extend")) ts (extend_starts (block 31) e ts r h)
item_goes (file_option o) ts r h = goes_on (ident (codes "option")) ts (option_starts o ts r h)

-- nothing is left
abbrev Over : {A : Type 0} → A → Stream → Type 0
Over a r = r ≡ []

all_read : (r : Stream) → not (is_over r) ≡ false → r ≡ []
all_read [] h = refl
all_read (p ∷ r) h = absurd cc

rule_file_items : {H : Stream → Type 0} → Rule H file_items (each a_file_item) IsAny Over
unfolding file_items
rule_file_items = rule_as (rule_while (λ ts. not (is_over ts)) (rule_under (rule_as item_choice.rule (λ i ts r h f. (item_to i ts r h, f)) (λ i ts r h f. (item_from i ts r h, f)))) file_turns item_goes (λ x y ts r h. tt))
    (λ is ts r h g. (h, all_read r g.0)) (λ is ts r h g. (h, (ap (λ r. not (is_over r)) g, lastly_all Free is r (λ x. tt))))

items_miss : (is : List FileItem) (ts r : Stream) → each a_file_item is ts r → r ≡ [] → SyntaxEnds None ts
items_miss [] ts r h e = subst (SyntaxEnds None) (sym (h ∙ e)) (refl, refl)
items_miss (i ∷ is) ts r h e = let m = item_choice.misses i ts h.0 (item_from i ts h.0 h.1) in (m.0, m.1.0)

syntax_ends : (x : Option SyntaxStatement) (is : List FileItem) (ts r : Stream) → each a_file_item is ts r → r ≡ [] → SyntaxEnds x ts
syntax_ends None is ts r h e = items_miss is ts r h e
syntax_ends (Some x) is ts r h e = tt

abbrev file_of : Option SyntaxStatement → List FileItem → File
file_of x is = record { syntax = x; items = is; span = file_span x is }

made_file : (x : Option SyntaxStatement) (f : File) → f.syntax ≡ x → f.span ≡ file_span f.syntax f.items → file_of x f.items ≡ f
made_file x f e h = ap (λ x. file_of x f.items) (sym e) ∙ ap (λ at. record { syntax = f.syntax; items = f.items; span = at }) (sym h)

pub rule_file : Rule Always file a_file IsAny Over
unfolding file
rule_file = rule_then (λ (f : File). f.syntax) rule_syntax (λ f ts r h g. syntax_ends f.syntax f.items ts r h.1 g) (λ x.
    rule_map (file_of x) rule_file_items (λ is ts r h g. ((refl, h), (refl, tt), g)) (λ f ts r h k g. (f.items, made_file x f k.0 h.0, h.1, g)))

pub spelled : (z : Text) (tree : File) → Spells z tree ↔ IsSpelledBy tree z
spelled z tree = (λ h. (h.0, h.1, (rule_file.sound h.0 [] tree tt h.2).0), λ h. (h.0, h.1, rule_file.complete h.0 [] tree h.2 tt refl))

-- the grammar is not ambiguous
pub one_tree : (ts : Stream) (a b : File) → a_file a ts [] → a_file b ts [] → a ≡ b
one_tree ts a b h g = ap (λ (y : File × Stream). y.0) (same_ok (a, []) (b, []) (sym (rule_file.complete ts [] a h tt refl) ∙ rule_file.complete ts [] b g tt refl))
