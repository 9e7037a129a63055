-- Languages of tokens: which tokens may stand from one place of a source to another.
use Rattle.protox_lex.specs.Class.{Text}
use Rattle.protox_lex.specs.Token.{Token, ident}
use Rattle.protox_lex.specs.declared.span.Span.{Span}
use Rattle.protox_tokens.specs.Marks.{Mark, SpellsMarks, spot}
use Rattle.protox_tokens.specs.Parser.{Parser, sees}
use Rattle.protox_tokens.specs.Stream.{Stream, source, peek, span_of}
use Rattle.std.specs.Prelude.{[], ◌≡◌, ◌↔◌, ◌⊎◌, ℕ, zero, suc, false, List, ◌∷◌, Option, Some, None, Ok}

-- What stands before the first place and not before the second is of the language.
abbrev pub Language : Type 1
Language = Stream → Stream → Type 0

abbrev pub nothing : Language
nothing ts r = ts ≡ r

abbrev pub never : Language
never ts r = ⊥

-- one token
abbrev pub one : Mark → Language
one m ts r = SpellsMarks (m ∷ []) ts r

-- this token, at a place of which that holds
abbrev pub token_at : Token → (Span → Type 0) → Language
token_at k Holds ts r = (at : Span) × one (spot at k) ts r × Holds at

abbrev pub the : Token → Language
the k = token_at k (λ at. Unit {0})

-- where what stands at the first place begins, and where it ends
abbrev pub begins : Span → Span → Type 0
begins whole at = whole.start ≡ at.start

abbrev pub ends : Span → Span → Type 0
ends whole at = whole.end ≡ at.end

-- one behind the other
infixr 10 ◌▸◌
abbrev pub ◌▸◌ : Language → Language → Language
L ▸ M = λ ts r. (u : Stream) × L ts u × M u r

-- this token at the place that is kept of it, or none
abbrev pub if_there : Token → Option Span → Language
if_there k None = nothing
if_there k (Some at) = one (spot at k)

abbrev pub each : {A : Type 0} → (A → Language) → List A → Language
each L [] = nothing
each L (x ∷ xs) = L x ▸ each L xs

-- one or more
abbrev pub some : {A : Type 0} → (A → Language) → List A → Language
some L [] = never
some L (x ∷ xs) = L x ▸ each L xs

-- one or more, with this token between them
abbrev pub some_by : {A : Type 0} → Token → (A → Language) → List A → Language
some_by k L [] = never
some_by k L (x ∷ xs) = L x ▸ each (λ y. the k ▸ L y) xs

-- the one or the other
infixr 9 ◌∪◌
abbrev pub ◌∪◌ : Language → Language → Language
L ∪ M = λ ts r. L ts r ⊎ M ts r

abbrev pub perhaps : Language → Language
perhaps L = L ∪ nothing

abbrev pub times : Language → ℕ → Language
times L zero = nothing
times L (suc n) = L ▸ times L n

-- any number of these, one behind the other
abbrev pub many : Language → Language
many L ts r = (n : ℕ) × times L n ts r

-- where this holds
abbrev pub given : Type 0 → Language → Language
given Holds L = λ ts r. Holds × L ts r

abbrev pub FirstIsNoneOf : List Text → Stream → Type 0
FirstIsNoneOf [] ts = Unit {0}
FirstIsNoneOf (k ∷ ks) ts = (sees (ident k) ts ≡ false) × FirstIsNoneOf ks ts

-- where none of these words comes first
abbrev pub unless : List Text → Language → Language
unless ks L = λ ts r. FirstIsNoneOf ks ts × L ts r

-- where the first token begins at the start of this place
abbrev pub starts : Span → Language → Language
starts whole L = λ ts r. begins whole (span_of (peek source ts)) × L ts r

-- A rule reads a value off tokens, and leaves the others, exactly where those that it takes spell
-- the value and this holds of the others.
abbrev pub ReadsExactly : {A : Type 0} → Parser A → (A → Language) → (A → Stream → Type 0) → Type 0
ReadsExactly {A = A} p L Behind =
    (a : A) (ts r : Stream) → (p ts ≡ Ok (a, r)) ↔ (L a ts r × Behind a r)

-- Whatever may follow.
abbrev pub Anything : {A : Type 0} → A → Stream → Type 0
Anything a r = Unit {0}
