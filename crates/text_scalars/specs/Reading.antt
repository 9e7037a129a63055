-- What functions read at the front of lexemes.
use Rattle.std.specs.Prelude.{◌≡◌, List, Result, Ok, Err}
use Rattle.protox_lex.specs.Class.{Text}
use Rattle.text_lex.specs.Token.{Lexeme}
use Rattle.text_error.specs.declared.error.ParseErrorKind.{ParseErrorKind}
use Rattle.text_error.specs.declared.error.ParseErrorKind.TheVariants as kinds
use Rattle.text_scalars.specs.Refusals.{IsUnexpected}

-- what is read, and the lexemes behind it; or the words for what is expected, and the lexemes that
-- do not begin so
abbrev pub Reading : Type 0 → Type 0
Reading A = Result (A × List Lexeme) (Text × List Lexeme)

abbrev pub and_then : {A B : Type 0} → Reading A → (A → List Lexeme → Reading B) → Reading B
and_then (Ok p) f = f p.0 p.1
and_then (Err stop) f = Err stop

abbrev pub seen_as : {A B : Type 0} → (A → B) → Reading A → Reading B
seen_as f (Ok p) = Ok (f p.0, p.1)
seen_as f (Err stop) = Err stop

-- it stops there, which is told
abbrev pub TellsStop : {A : Type 0} → Reading A → ParseErrorKind → Type 0
TellsStop (Ok p) kind = ⊥
TellsStop (Err stop) kind = IsUnexpected stop.0 stop.1 kind

-- it is read, and these lexemes stand behind it; or it is refused there, or memory ran out
abbrev pub ReadsLexemes : {A B : Type 0} → (B → A) → Reading A → Result B ParseErrorKind
    → List Lexeme → Type 0
ReadsLexemes view r (Ok x) rest = r ≡ Ok (view x, rest)
ReadsLexemes view r (Err kinds.Memory) rest = Unit {0}
ReadsLexemes view r (Err kind) rest = TellsStop r kind
