-- Choices by the word that comes first, and statements up to a closing brace.
use Rattle.std.proofs.Common.{[], ◌≡◌, Bool, true, false, List, ◌∷◌, Option, Some, None, refl, ap, sym, subst, inl, inr, ◌⊎◌}
use Rattle.std.specs.Prelude.{not}
use Rattle.protox_lex.specs.Class.{Text}
use Rattle.protox_lex.specs.Token.{Token, ident, sign}
use Rattle.protox_lex.specs.declared.span.Span.{Span}
use Rattle.protox_lex.specs.declared.token.Sign.TheVariants as s
use Rattle.protox_tokens.specs.Stream.{Stream, source}
use Rattle.protox_tokens.specs.Parser.{Parser, ◌>>=◌, ◌<$>◌, pure, same, sees, eat, loop, until, choose}
use Rattle.protox_tokens.specs.Marks.{spot, IsAny}
use Rattle.protox_tokens.proofs.Loops.{Shortens}
use Rattle.protox_tokens.proofs.Both.{IsNamed, Always, Free}
use Rattle.protox_tokens.proofs.Steps.{sees_first}
use Rattle.protox_tokens.proofs.Lists.{lastly_all}
use Rattle.source_grammar.specs.Languages.{Language, nothing, one, token_at, ◌▸◌, ◌∪◌, each, FirstIsNoneOf, unless}
use Rattle.source_grammar.proofs.Rules.{Rule, rule_as, rule_made, rule_pure, rule_choose, rule_branch, rule_while}
use Rattle.source_grammar.proofs.Ahead.{one_seen}

-- none of these tokens comes next
abbrev pub Misses : List Token → Stream → Type 0
Misses [] ts = Unit {0}
Misses (k ∷ ks) ts = (sees k ts ≡ false) × Misses ks ts

abbrev pub Differs : Token → List Token → Type 0
Differs l [] = Unit {0}
Differs l (k ∷ ks) = (same l k ≡ false) × Differs l ks

pub seen_misses : (l : Token) (ks : List Token) (ts : Stream) → Differs l ks → sees l ts ≡ true → Misses ks ts
seen_misses l [] ts d h = tt
seen_misses l (k ∷ ks) ts d h = (one_seen source l k ts d.0 h, seen_misses l ks ts d.1 h)

-- a value of one kind
abbrev pub Made : {A B : Type 0} → (A → B) → (A → Language) → B → Language
Made {A} c L b ts r = (a : A) × (b ≡ c a) × L a ts r

-- a rule of whose language none begins with these tokens
pub record Choice {B : Type 0} (ks : List Token) (H : Stream → Type 0) (p : Parser B) (L : B → Language) : Type 0 where
  pub rule : Rule H p L IsAny Free
  pub misses : (b : B) (ts r : Stream) → L b ts r → Misses ks ts

-- by the word that begins values of one kind
pub choice_word : {A B : Type 0} (k : Token) → IsNamed k → (c : A → B) {ks : List Token} {H : Stream → Type 0} {p : Parser A} {q : Parser B} {L : A → Language} {M : B → Language} → Rule Always p L IsAny Free → ((a : A) (ts r : Stream) → L a ts r → sees k ts ≡ true) → Differs k ks
    → Choice (k ∷ ks) (λ ts. H ts × (sees k ts ≡ false)) q M → Choice ks H (choose (sees k) (c <$> p) q) (λ b. Made c L b ∪ M b)
choice_word {B = B} k named c {ks = ks} {H = H} {p = p} {L = L} {M = M} rule starts differs others = record {
  rule = rule_choose (sees k) (rule_made c (under rule) (λ a. tt) (λ a r f. f) (λ a r f. f)) others.rule (λ b ts r h. starts h.0 ts r h.2) (λ b ts r h. (others.misses b ts r h).0);
  misses = by;
} where
  under : Rule Always p L IsAny Free → Rule (λ ts. H ts × (sees k ts ≡ true)) p L IsAny Free
  under rule = record { sound = λ ts r a h e. rule.sound ts r a tt e; complete = rule.complete }

  by : (b : B) (ts r : Stream) → (Made c L b ∪ M b) ts r → Misses ks ts
  by b ts r (inl h) = seen_misses k ks ts differs (starts h.0 ts r h.2)
  by b ts r (inr h) = (others.misses b ts r h).1

abbrev pub Empty : {B : Type 0} → (Span → B) → B → Language
Empty e b = token_at (sign s.Semicolon) (λ at. b ≡ e at)

-- a semicolon alone, or another value
pub choice_empty : {B : Type 0} (e : Span → B) (f : Option Span → Parser B) {ks : List Token} {H : Stream → Type 0} {M : B → Language} → ((at : Span) → f (Some at) ≡ pure (e at)) → Differs (sign s.Semicolon) ks
    → Choice (sign s.Semicolon ∷ ks) (λ ts. sees (sign s.Semicolon) ts ≡ false) (f None) M → Choice ks H (eat (sign s.Semicolon) >>= f) (λ b. Empty e b ∪ M b)
choice_empty {B = B} e f {ks = ks} {H = H} {M = M} alone differs others = record {
  rule = rule_as (rule_branch (sign s.Semicolon) refl f (λ b at. b ≡ e at) (λ at. empty at) others.rule (λ b ts r h g. (others.misses b ts r h).0)) (λ b ts r h g. (forth b ts r h, g)) (λ b ts r h g. (back b ts r h, g));
  misses = by;
} where
  empty : (at : Span) → Rule Always (f (Some at)) (λ b. nothing) (λ b. b ≡ e at) Free
  empty at = subst (λ p. Rule Always p (λ b. nothing) (λ b. b ≡ e at) Free) (sym (alone at)) (rule_pure (e at) refl (λ b k. sym k) (λ r h. tt))

  forth : (b : B) (ts r : Stream) → (token_at (sign s.Semicolon) (λ at. b ≡ e at) ▸ nothing) ts r ⊎ M b ts r → (Empty e b ∪ M b) ts r
  forth b ts r (inl h) = inl (h.1.0, subst (λ u. one (spot h.1.0 (sign s.Semicolon)) ts u) h.2 h.1.1, h.1.2)
  forth b ts r (inr h) = inr h

  back : (b : B) (ts r : Stream) → (Empty e b ∪ M b) ts r → (token_at (sign s.Semicolon) (λ at. b ≡ e at) ▸ nothing) ts r ⊎ M b ts r
  back b ts r (inl h) = inl (r, h, refl)
  back b ts r (inr h) = inr h

  by : (b : B) (ts r : Stream) → (Empty e b ∪ M b) ts r → Misses ks ts
  by b ts r (inl h) = seen_misses (sign s.Semicolon) ks ts differs (sees_first (sign s.Semicolon) (spot h.0 (sign s.Semicolon)) [] ts r h.1)
  by b ts r (inr h) = (others.misses b ts r h).1

-- values of another kind, when nothing else comes
pub choice_last : {A B : Type 0} (c : A → B) {ks : List Token} {H : Stream → Type 0} {p : Parser A} {L : A → Language} → Rule H p L IsAny Free → ((a : A) (ts r : Stream) → L a ts r → Misses ks ts) → Choice ks H (c <$> p) (Made c L)
choice_last c rule starts = record { rule = rule_made c rule (λ a. tt) (λ a r f. f) (λ a r f. f); misses = λ b ts r h. starts h.0 ts r h.2 }

-- more is known of the input than is needed
pub rule_under : {A : Type 0} {H : Stream → Type 0} {p : Parser A} {L : A → Language} {K : A → Type 0} {F : A → Stream → Type 0} → Rule Always p L K F → Rule H p L K F
rule_under rule = record { sound = λ ts r a h e. rule.sound ts r a tt e; complete = rule.complete }

-- ---- words that do not come

-- the tokens of these words
abbrev pub words_of : List Text → List Token
words_of [] = []
words_of (k ∷ ks) = ident k ∷ words_of ks

pub none_misses : (ks : List Text) (ts : Stream) → FirstIsNoneOf ks ts → Misses (words_of ks) ts
none_misses [] ts n = tt
none_misses (k ∷ ks) ts n = (n.0, none_misses ks ts n.1)

-- where none of these words comes
pub rule_unless : {A : Type 0} (ks : List Text) {H : Stream → Type 0} {p : Parser A} {L : A → Language} {K : A → Type 0} {F : A → Stream → Type 0} → Rule Always p L K F → ((ts : Stream) → H ts → FirstIsNoneOf ks ts) → Rule H p (λ a. unless ks (L a)) K F
rule_unless ks rule told = record { sound = λ ts r a h e. let x = rule.sound ts r a tt e in ((told ts h, x.0), x.1, x.2); complete = λ ts r a h k f. rule.complete ts r a h.1 k f }

-- ---- statements up to a closing brace

pub rule_items : {A : Type 0} {p : Parser A} {L : A → Language} → Rule Always p L IsAny Free → Shortens (until (sign s.RightBrace) p) → ((a : A) (ts r : Stream) → L a ts r → sees (sign s.RightBrace) ts ≡ false)
    → {H : Stream → Type 0} → Rule H (loop (until (sign s.RightBrace) p)) (each L) IsAny (λ xs r. sees (sign s.RightBrace) r ≡ true)
rule_items rule short starts = rule_as (rule_while (λ ts. not (sees (sign s.RightBrace) ts)) (rule_under rule) short (λ a ts r h. ap not (starts a ts r h)) (λ x y ts r h. tt))
    (λ xs ts r h g. (h, closed (sees (sign s.RightBrace) r) g.0)) (λ xs ts r h g. (h, (ap not g, lastly_all Free xs r (λ x. tt)))) where
      closed : (b : Bool) → not b ≡ false → b ≡ true
      closed true e = refl
      closed false e = absurd cc
