-- The tree of a text, with each choice of spelling kept (protobuf.dev, "Text Format Language
-- Specification", Syntax Elements).
use Rattle.std.specs.Prelude.{Bool, List}
use Rattle.protox_lex.specs.Class.{Text}
use Rattle.text_lex.specs.declared.token.Radix.{Radix}

-- identifiers with dots between them
pub record FullName : Type 0 where
  pub first : Text
  pub others : List Text

-- a field by its name, an extension by its full name, or a type by its full name behind a domain,
-- which expands a google.protobuf.Any
pub data FieldName : Type 0 where
  plain : Text → FieldName
  extension : FullName → FieldName
  expansion : FullName → FullName → FieldName

-- an integer by its digits, a float and an identifier as they are written
pub data Word : Type 0 where
  integer : Radix → Text → Word
  floating : Text → Word
  identifier : Text → Word

-- a word, with a minus where the flag says so, or adjacent strings, each as what stands between its
-- quotes
pub data ScalarValue : Type 0 where
  signed : Bool → Word → ScalarValue
  strings : Text → List Text → ScalarValue

pub data Brace : Type 0 where
  curly : Brace
  angle : Brace

pub data Separator : Type 0 where
  no_separator : Separator
  comma : Separator
  semicolon : Separator

mutual
  -- a value of a list
  pub data Value : Type 0 where
    scalar : ScalarValue → Value
    braced : Brace → Fields → Value

  pub data Values : Type 0 where
    no_values : Values
    more_values : Value → Values → Values

  -- what is given to a field: a scalar or a list behind a colon, or a message, with a colon or not
  pub data Given : Type 0 where
    one_scalar : ScalarValue → Given
    one_message : Bool → Brace → Fields → Given
    listed : Values → Given

  pub data Fields : Type 0 where
    no_fields : Fields
    more_fields : FieldName → Given → Separator → Fields → Fields

-- fields, and others behind them
abbrev pub append : Fields → Fields → Fields
append no_fields gs = gs
append (more_fields n g s fs) gs = more_fields n g s (append fs gs)
