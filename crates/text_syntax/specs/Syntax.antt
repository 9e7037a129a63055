-- The tree that lexemes spell, apart from any type (protobuf.dev, "Text Format Language
-- Specification", Syntax Elements). Its Message is read by `fields_at`, its MessageValue by
-- `message_at`, its ScalarValue by `scalar_at` of text_scalars, and ScalarList and MessageList both
-- by `list_at`: a list has a colon before it, and may have values of either sort, of which the kind
-- of a field then takes one.
--
-- What reads a message in braces is handed in as `inner`: it is `message_at` of as many braces as
-- may still be opened.
use Rattle.std.specs.Prelude.{ℕ, zero, suc, Bool, List, [], ◌∷◌, length, Option, None, Some, option_map, Ok, Err}
use Rattle.protox_lex.specs.declared.span.Span.{Span}
use Rattle.text_lex.specs.Token.{Lexeme}
use Rattle.text_model.specs.Tree.{FieldName, Brace, curly, angle, Separator, no_separator, comma, semicolon, Value, scalar, braced, Values, no_values, more_values, Given, one_scalar, one_message, listed, Fields, no_fields, more_fields}
use Rattle.text_scalars.specs.declared.tokens.Brace as code
use Rattle.text_scalars.specs.declared.tokens.Brace.TheVariants as braces
use Rattle.text_scalars.specs.Braces.{closing, opening_brace}
use Rattle.text_scalars.specs.Front.{behind, sees, sign_bytes}
use Rattle.text_scalars.specs.Names.{name_at, separator_at}
use Rattle.text_scalars.specs.Reading.{Reading}
use Rattle.text_scalars.specs.Scalars.{Found, scalar_at}

-- what is read, and the lexemes behind it; nothing where they do not begin so
abbrev pub Read : Type 0 → Type 0
Read A = Option (A × List Lexeme)

abbrev pub then : {A B : Type 0} → Read A → (A → List Lexeme → Read B) → Read B
then (Some p) f = f p.0 p.1
then None f = None

-- apart from what a refusal tells
abbrev pub untold : {A : Type 0} → Reading A → Read A
untold (Ok p) = Some p
untold (Err stop) = None

abbrev pub Inner : Type 0
Inner = List Lexeme → Read (Brace × Fields)

abbrev pub brace_of : code.Brace → Brace
brace_of braces.Curly = curly
brace_of braces.Angle = angle

-- ---- values

abbrev pub scalar_of : Option Found → Read Value
scalar_of (Some f) = Some (scalar f.value, f.rest)
scalar_of None = None

-- a message where a brace is at the front, else a scalar value
abbrev pub value_by : Inner → List Lexeme → (brace : Option (Span × code.Brace)) → Read Value
value_by inner ls (Some brace) = then (inner ls) (λ m rest. Some (braced m.0 m.1, rest))
value_by inner ls None = scalar_of (scalar_at ls)

abbrev pub value_at : Inner → List Lexeme → Read Value
value_at inner ls = value_by inner ls (opening_brace ls)

-- a value, and what stands behind it in a list
abbrev pub values_by : Inner → (more : List Lexeme → Read Values) → List Lexeme → Read Values
values_by inner more ls =
    then (value_at inner ls) (λ v rest.
    then (more rest) (λ vs last. Some (more_values v vs, last)))

-- behind a value: `]`, or `,` and a further one
abbrev pub more_by : Inner → (more : List Lexeme → Read Values) → List Lexeme
    → (close further : Option Span) → Read Values
more_by inner more ls (Some close) further = Some (no_values, behind ls)
more_by inner more ls None (Some further) = values_by inner more (behind ls)
more_by inner more ls None None = None

-- at most so many
unfoldable pub more_within : ℕ → Inner → List Lexeme → Read Values
more_within zero inner ls = None
more_within (suc n) inner ls =
    more_by inner (more_within n inner) ls (sign_bytes 93 ls) (sign_bytes 44 ls)

-- the values behind one of a list, up to its bracket; no more than there are lexemes
unfoldable pub more_at : Inner → List Lexeme → Read Values
more_at inner ls = more_within (suc (length ls)) inner ls

abbrev pub list_by : Inner → List Lexeme → (close : Option Span) → Read Values
list_by inner ls (Some close) = Some (no_values, behind ls)
list_by inner ls None = values_by inner (more_at inner) ls

-- the values of a list, up to its bracket
abbrev pub list_at : Inner → List Lexeme → Read Values
list_at inner ls = list_by inner ls (sign_bytes 93 ls)

-- ---- fields

-- one value as what is given; the flag tells of a colon before it
abbrev pub alone : (colon : Bool) → Value → Given
alone colon (scalar s) = one_scalar s
alone colon (braced b fs) = one_message colon b fs

-- a list where a bracket is at the front, else one value
abbrev pub given_by : Inner → (colon : Bool) → List Lexeme → (opened : Option Span) → Read Given
given_by inner colon ls (Some opened) =
    then (list_at inner (behind ls)) (λ vs rest. Some (listed vs, rest))
given_by inner colon ls None = then (value_at inner ls) (λ v rest. Some (alone colon v, rest))

abbrev pub given_at : Inner → (colon : Bool) → List Lexeme → Read Given
given_at inner colon ls = given_by inner colon ls (sign_bytes 91 ls)

abbrev pub end_by : List Lexeme → (first second : Option Span) → Separator × List Lexeme
end_by ls (Some s) second = (comma, behind ls)
end_by ls None (Some s) = (semicolon, behind ls)
end_by ls None None = (no_separator, ls)

-- `,` or `;` behind a field, if it is there
abbrev pub end_at : List Lexeme → Separator × List Lexeme
end_at ls = end_by ls (sign_bytes 44 ls) (sign_bytes 59 ls)

pub record OneField : Type 0 where
  pub name : FieldName
  pub given : Given
  pub separator : Separator

-- a name, a colon where it has to be, what is given, and the sign behind it
abbrev pub field_at : Inner → List Lexeme → Read OneField
field_at inner ls =
    then (untold (name_at ls)) (λ name named.
    then (untold (separator_at named)) (λ colon parted.
    then (given_at inner (sees 58 named) parted) (λ given rest. Some (
      record {
        name = name.0;
        given = given;
        separator = (end_at rest).0;
      },
      (end_at rest).1,
    ))))

-- no further field where something ends them, else a field and those behind it
abbrev pub fields_by : Inner → (more : List Lexeme → Read Fields) → List Lexeme
    → (end : Option (List Lexeme)) → Read Fields
fields_by inner more ls (Some end) = Some (no_fields, end)
fields_by inner more ls None =
    then (field_at inner ls) (λ f rest.
    then (more rest) (λ fs last. Some (more_fields f.name f.given f.separator fs, last)))

-- at most so many
unfoldable pub fields_within : ℕ → (ends : List Lexeme → Option (List Lexeme)) → Inner
    → List Lexeme → Read Fields
fields_within zero ends inner ls = None
fields_within (suc n) ends inner ls =
    fields_by inner (fields_within n ends inner) ls (ends ls)

-- the fields up to what ends them, and what stands behind that; no more than there are lexemes
unfoldable pub fields_at : (ends : List Lexeme → Option (List Lexeme)) → Inner
    → List Lexeme → Read Fields
fields_at ends inner ls = fields_within (suc (length ls)) ends inner ls

-- ---- messages and texts

-- a sign ends them, which is taken
abbrev pub at_sign : ℕ → List Lexeme → Option (List Lexeme)
at_sign k ls = option_map (λ s. behind ls) (sign_bytes k ls)

-- the end of the lexemes ends them
abbrev pub at_end : List Lexeme → Option (List Lexeme)
at_end [] = Some []
at_end (l ∷ ls) = None

-- the fields in braces
abbrev pub message_by : Inner → List Lexeme → (brace : Option (Span × code.Brace))
    → Read (Brace × Fields)
message_by inner ls None = None
message_by inner ls (Some brace) =
    then (fields_at (at_sign (closing brace.1)) inner (behind ls)) (λ fs rest. Some
    ((brace_of brace.1, fs), rest))

-- a message in braces, of which so many may be open at once
unfoldable pub message_at : (braces : ℕ) → Inner
message_at zero ls = None
message_at (suc braces) ls = message_by (message_at braces) ls (opening_brace ls)

-- the fields that all lexemes spell, with at most 100 braces open at once
unfoldable pub text_at : List Lexeme → Option Fields
text_at ls = option_map (λ p. p.0) (fields_at at_end (message_at 100) ls)
