-- What the parser's functions do, by the tree that is at the front of the lexemes before them.
use Rattle.std.specs.Prelude.{◌≡◌, ◌⊎◌, List, Some}
use Rattle.text_lex.specs.Token.{Lexeme}
use Rattle.text_model.specs.Tree.{Fields}
use Rattle.text_syntax.specs.Beginning.{BeginWith}
use Rattle.text_syntax.specs.Syntax.{OneField, Read, at_end, field_at, message_at}
use Rattle.text_error.specs.declared.error.ParseErrorKind.{ParseErrorKind}
use Rattle.text_error.specs.declared.error.ParseErrorKind.TheVariants as kinds
use Rattle.reflect_message.specs.Names.{DynamicMessage}
use Rattle.reflect_format.specs.Begun.{Begins}
use Rattle.reflect_format.specs.Filled.{Fills}
use Rattle.reflect_format.specs.Unfit.{IsUnfitField}

-- a tree is there of which P holds, and the rest stands behind it
abbrev pub ReadsTree : {A : Type 0} → Read A → (A → Type 0) → List Lexeme → Type 0
ReadsTree {A} r P rest = (x : A) × (r ≡ Some (x, rest)) × P x

-- P is why it is refused, unless memory ran out
abbrev pub IsCause : Type 0 → ParseErrorKind → Type 0
IsCause P kinds.Memory = Unit {0}
IsCause P kind = P

-- P holds of the tree that is there, if one is
abbrev pub Refutes : {A : Type 0} → Read A → (A → Type 0) → ParseErrorKind → Type 0
Refutes {A} r P kind = IsCause ((x : A) (rest : List Lexeme) → r ≡ Some (x, rest) → P x) kind

-- a tree is there of which P holds, whatever stands behind it
abbrev pub There : {A : Type 0} → Read A → (A → Type 0) → Type 0
There {A} r P = (x : A) × (rest : List Lexeme) × (r ≡ Some (x, rest)) × P x

-- the message stays as it is, unless memory ran out; then P holds
abbrev pub StaysUnless : Type 0 → ParseErrorKind → DynamicMessage → DynamicMessage → Type 0
StaysUnless P kind old new = (new ≡ old) ⊎ ((kind ≡ kinds.Memory) × P)

-- the field that is there is refused, and the message does not have it but in part, for want of
-- memory
pub record IsRefused (r : Read OneField) (kind : ParseErrorKind)
    (old new : DynamicMessage) : Type 0 where
  pub cause : Refutes r (λ f. IsUnfitField f.name f.given old) kind
  pub stays : StaysUnless (There r (λ f. Begins f.name f.given old new)) kind old new

-- so many fields of a text were taken in, and the one behind them was refused
abbrev pub Stops : List Lexeme → ParseErrorKind → DynamicMessage → DynamicMessage → Type 0
Stops ls kind old new =
    (done : Fields) × (rest : List Lexeme) × (reached : DynamicMessage)
    × BeginWith at_end (message_at 100) ls done rest × Fills done old reached
    × IsRefused (field_at (message_at 100) rest) kind reached new
