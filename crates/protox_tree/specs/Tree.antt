-- The tree of a source: what the values of `src/` say, without the memory that they take.
use Rattle.std.specs.Prelude.{◌-◌, Bool, true, false, if◌then◌else◌, List, [], ◌∷◌, ◌++◌, length, map, Option, None, Some, is_some, codes, slice_get}
use Rattle.std.specs.List.{flat_map}
use Rattle.std.specs.Str.{bytes_eq}
use Rattle.protox_lex.specs.Class.{Text}
use Rattle.protox_lex.specs.declared.span.Span.{Span}
use Rattle.protox_lex.specs.declared.literal.Int.{Int}
use Rattle.descriptor_records.specs.declared.field.FieldType.{FieldType}
use Rattle.protox_tree.specs.declared.range.ReservedRange.{ReservedRange}

-- a name, a number as it is written, or the bytes of a literal, and where it stands
pub record Word : Type 0 where
  pub text : Text
  pub span : Span

-- the bytes of literals that mean one string
abbrev pub joined : List Word → Text
joined ws = flat_map (λ w. w.text) ws

abbrev pub span_between : Option Span → Option Span → Span
span_between (Some first) (Some last) = record { start = first.start; end = last.end }
span_between first last = record { start = 0; end = 0 }

-- from the start of the first to the end of the last; of none, the start of the source
abbrev pub spans_cover : List Span → Span
spans_cover ss = span_between (slice_get ss 0) (slice_get ss (length ss - 1))

abbrev pub words_span : List Word → Span
words_span ws = spans_cover (map (λ w. w.span) ws)

-- names with dots between them
abbrev pub dotted : List Word → Text
dotted [] = []
dotted (w ∷ ws) = w.text ++ flat_map (λ w. 46 ∷ w.text) ws

pub record TypeName : Type 0 where
  pub leading_dot : Option Span
  pub parts : List Word

-- a name as it is written, without gaps
abbrev pub type_text : TypeName → Text
type_text t = if is_some t.leading_dot then 46 ∷ dotted t.parts else dotted t.parts

pub data Ty : Type 0 where
  scalar : FieldType → Span → Ty
  named : TypeName → Ty

-- ---- options

pub data NamePart : Type 0 where
  plain : Word → NamePart
  extension : TypeName → Span → NamePart

pub data Value : Type 0 where
  word_value : Word → Value
  -- `inf` or `nan` behind a minus, which stands in the span alone
  minus_word : Word → Value
  int_value : Int → Value
  -- whether a minus stands before a float, and what stands behind it; the span begins with the
  -- minus
  float_value : Bool → Word → Value
  strings_value : List Word → Value
  -- braces: the text of the tokens in them, and where they stand
  braces_value : Text → Span → Value

pub record Body : Type 0 where
  pub name : List NamePart
  pub value : Value

pub record OptionStatement : Type 0 where
  pub body : Body
  pub span : Span

pub record OptionList : Type 0 where
  pub options : List Body
  pub span : Span

-- an option's name is this one plain word
abbrev pub is_plain : Text → NamePart → Bool
is_plain name (plain w) = bytes_eq w.text name
is_plain name (extension t span) = false

abbrev pub has_name : Text → List NamePart → Bool
has_name name [] = false
has_name name (part ∷ []) = is_plain name part
has_name name (part ∷ (next ∷ more)) = false

-- what the words `true` and `false` say
abbrev pub bool_of : Value → Option Bool
bool_of (word_value w) =
    if bytes_eq w.text (codes "true") then Some true
    else if bytes_eq w.text (codes "false") then Some false
    else None
bool_of _ = None

-- ---- ranges

pub data ReservedItems : Type 0 where
  reserved_ranges : List ReservedRange → ReservedItems
  reserved_names : List (List Word) → ReservedItems

pub record Reserved : Type 0 where
  pub items : ReservedItems
  pub span : Span

-- ---- enums

pub record EnumValue : Type 0 where
  pub name : Word
  pub number : Int
  pub options : Option OptionList
  pub span : Span

pub data EnumItem : Type 0 where
  enum_value : EnumValue → EnumItem
  enum_option : OptionStatement → EnumItem
  enum_reserved : Reserved → EnumItem
  enum_empty : Span → EnumItem

pub record Enum : Type 0 where
  pub name : Word
  pub braces : Span
  pub items : List EnumItem
  pub span : Span

-- ---- services

pub record MethodType : Type 0 where
  pub stream : Option Span
  pub name : TypeName

pub data MethodItem : Type 0 where
  method_option : OptionStatement → MethodItem
  method_empty : Span → MethodItem

pub record MethodBody : Type 0 where
  pub braces : Span
  pub items : List MethodItem

pub record Method : Type 0 where
  pub name : Word
  pub input : MethodType
  pub output : MethodType
  pub body : Option MethodBody
  pub span : Span

pub data ServiceItem : Type 0 where
  service_method : Method → ServiceItem
  service_option : OptionStatement → ServiceItem
  service_empty : Span → ServiceItem

pub record Service : Type 0 where
  pub name : Word
  pub braces : Span
  pub items : List ServiceItem
  pub span : Span
