-- Where the reading of a text into a message stops, and what is told there: the fields and values
-- before that place are taken, and what has to stand there does not, or the message does not take
-- it (protobuf.dev, "Text Format Language Specification").
--
-- So many braces may be opened, and what is told of a message in them is handed in as `inner`.
use Rattle.std.specs.Prelude.{◌≡◌, ◌⊎◌, ◌-◌, ℕ, zero, suc, true, false, List, Option, None, Some, Ok, option_map, codes, string_bytes}
use Rattle.protox_lex.specs.Class.{Text}
use Rattle.protox_lex.specs.declared.span.Span.{Span}
use Rattle.reflect_any.specs.Any.{IsAny}
use Rattle.reflect_message.specs.Names.{DynamicMessage}
use Rattle.reflect_message.specs.Names as held
use Rattle.reflect_pool.specs.FindsNames.{FindsMessage}
use Rattle.reflect_pool.specs.Kinds.{IsKind}
use Rattle.reflect_pool.specs.declared.extension.ExtensionDescriptor.{ExtensionDescriptor}
use Rattle.reflect_pool.specs.declared.kind.Kind.{Kind}
use Rattle.reflect_pool.specs.declared.kind.Kind.TheVariants as values
use Rattle.reflect_pool.specs.declared.message.MessageDescriptor.{MessageDescriptor}
use Rattle.reflect_pool.specs.declared.oneof.OneofDescriptor.{OneofDescriptor}
use Rattle.reflect_scalar.specs.FieldTypes.{extension_pool, extension_type}
use Rattle.reflect_scalar.specs.Floats.{HoldsFloats}
use Rattle.reflect_tables.specs.Types.{extension_at}
use Rattle.text_error.specs.Places.{place_of}
use Rattle.text_error.specs.declared.error.ParseErrorKind.{ParseErrorKind}
use Rattle.text_error.specs.declared.error.ParseErrorKind.TheVariants as kinds
use Rattle.text_lex.specs.Token.{Lexeme}
use Rattle.text_model.specs.Tree as tree
use Rattle.text_model.specs.Tree.{FieldName, plain, extension, expansion, Fields, Value, Values, no_values, more_values}
use Rattle.text_model.specs.Value.{written}
use Rattle.text_scalars.specs.Braces.{closing, closing_words, opening_brace}
use Rattle.text_scalars.specs.Front.{begins_name, behind, from_to, sign_bytes}
use Rattle.text_scalars.specs.Names.{name_at, separator_at}
use Rattle.text_scalars.specs.Reading.{TellsStop}
use Rattle.text_scalars.specs.Refusals.{IsUnexpected}
use Rattle.text_scalars.specs.Scalars.{scalar_at}
use Rattle.text_scalars.specs.declared.tokens.Brace.{Brace}
use Rattle.text_syntax.specs.Beginning.{BeginWith}
use Rattle.text_syntax.specs.Syntax.{Inner, at_end, at_sign, message_at, value_at}
use Rattle.reflect_format.specs.Filled.{AreValues, Fills, IsValue, Makes}
use Rattle.reflect_format.specs.Kinds.{RefusesKind, kind_value_at}
use Rattle.reflect_format.specs.Lacks.{LacksExtension}
use Rattle.reflect_format.specs.Named.{FindsExtension, NamesExtension, NamesField}
use Rattle.reflect_format.specs.Reads.{IsCause}
use Rattle.reflect_format.specs.Refusals.{HoldsMember, IsTextName, RefusesField, Shares, TellsExtension, TellsFloatField, TellsMessage, TellsOneof}
use Rattle.reflect_format.specs.Steps.{is_set}
use Rattle.reflect_format.specs.Takes.{holds_many, target_pool, target_type}
use Rattle.reflect_format.specs.Unfit.{CannotMake}
use Rattle.reflect_format.specs.declared.target.Target.{Target}

-- it is told so, unless memory ran out
abbrev pub Told : (ParseErrorKind → Type 0) → ParseErrorKind → Type 0
Told P kind = IsCause (P kind) kind

-- what is told of lexemes, and of them as a message of a type
abbrev pub Fault : Type 1
Fault = List Lexeme → ParseErrorKind → Type 0

abbrev pub MessageFaults : Type 1
MessageFaults = MessageDescriptor → Fault

-- ---- bytes of values

-- fields stand there, up to a brace of these bytes that closes them
abbrev pub ClosesAt : ℕ → Brace → List Lexeme → Span → Type 0
ClosesAt n brace ls close =
    (done : Fields) × (last : List Lexeme)
    × BeginWith (at_sign (closing brace)) (message_at n) ls done last
    × (sign_bytes (closing brace) last ≡ Some close)

-- a message in braces, so many of which may be open, has the bytes from the one to the other
abbrev pub MessageBytes : ℕ → List Lexeme → Span → Type 0
MessageBytes n ls s =
    (opening : Span × Brace) × (opening_brace ls ≡ Some opening)
    × (close : Span) × ClosesAt (n - 1) opening.1 (behind ls) close
    × (s ≡ from_to opening.0.start close.end)

-- a value of the kind does
abbrev pub ValueBytes : ℕ → Kind → List Lexeme → Span → Type 0
ValueBytes n (values.Message d) ls s = MessageBytes n ls s
ValueBytes n _ ls s = option_map (λ f. f.span) (scalar_at ls) ≡ Some s

-- ---- values

-- no value of the kind stands there
abbrev pub ValueFault : MessageFaults → Kind → Fault
ValueFault inner (values.Message d) ls kind = inner d ls kind
ValueFault inner k ls kind = (kind_value_at k ls ≡ None) × RefusesKind k ls kind

-- a value of the kind stands there, and these lexemes behind it
abbrev pub TakesValue : ℕ → Kind → List Lexeme → List Lexeme → Type 0
TakesValue n k ls rest =
    (v : Value) × (x : held.Value) × (value_at (message_at n) ls ≡ Some (v, rest)) × IsValue v k x

-- values stand there, a comma behind each
abbrev pub ListBegins : Inner → List Lexeme → Values → List Lexeme → Type 0
ListBegins inner ls no_values rest = rest ≡ ls
ListBegins inner ls (more_values v vs) rest =
    (here : List Lexeme) × (value_at inner ls ≡ Some (v, here))
    × (comma : Span) × (sign_bytes 44 here ≡ Some comma) × ListBegins inner (behind here) vs rest

-- a value of the kind stands there, and behind it neither a comma nor what closes a list
abbrev pub CommaFault : ℕ → Kind → Fault
CommaFault n k ls kind =
    (here : List Lexeme) × TakesValue n k ls here
    × (sign_bytes 93 here ≡ None) × (sign_bytes 44 here ≡ None)
    × IsUnexpected (codes "',' or ']'") here kind

-- values of the kind stand there in a list, and behind them none, or no comma behind the next
abbrev pub ListFault : ℕ → MessageFaults → Kind → Fault
ListFault n inner k ls kind =
    (sign_bytes 93 ls ≡ None)
    × (done : Values) × (given : List held.Value) × AreValues done k given
    × (rest : List Lexeme) × ListBegins (message_at n) ls done rest
    × (ValueFault inner k rest kind ⊎ CommaFault n k rest kind)

-- to a list or a map a list is given, where a bracket opens it, else one value
abbrev pub GivenFault : ℕ → MessageFaults → Kind → List Lexeme → (opened : Option Span)
    → ParseErrorKind → Type 0
GivenFault n inner k ls (Some opened) kind = ListFault n inner k (behind ls) kind
GivenFault n inner k ls None kind = ValueFault inner k ls kind

-- the message holds a value of the field or the extension, or one of another member of its oneof
abbrev pub SecondFault : DynamicMessage → Target → ParseErrorKind → Type 0
SecondFault m t (kinds.FieldAlreadySet field span) =
    (is_set m t ≡ true) × IsTextName t (string_bytes field)
SecondFault m t (kinds.OneofAlreadySet oneof span) =
    (is_set m t ≡ false) × (o : OneofDescriptor) × Shares t o × HoldsMember m o
    × TellsOneof o (kinds.OneofAlreadySet oneof span)
SecondFault m t _ = ⊥

-- so it is, and a value of the kind stands there, which has these bytes
abbrev pub SecondValueFault : ℕ → Target → Kind → DynamicMessage → Fault
SecondValueFault n t k m ls kind =
    (rest : List Lexeme) × TakesValue n k ls rest
    × (bytes : Span) × ValueBytes n k ls bytes
    × SecondFault m t kind × (place_of kind ≡ Some bytes)

-- what is given to a field or an extension of the message
abbrev pub AssignmentFault : ℕ → MessageFaults → Target → DynamicMessage → Fault
AssignmentFault n inner t m ls kind =
    (k : Kind) × IsKind (target_pool t) k (target_type t).kind
    × (((holds_many t ≡ true) × GivenFault n inner k ls (sign_bytes 91 ls) kind)
    ⊎ ((holds_many t ≡ false)
    × (ValueFault inner k ls kind ⊎ SecondValueFault n t k m ls kind)))

-- ---- fields

-- one of the type stands there in braces, and what is to hold it is no google.protobuf.Any
abbrev pub AnyFault : ℕ → MessageDescriptor → (name : Span) → DynamicMessage → Fault
AnyFault n d name m ls kind =
    (body : tree.Brace × Fields) × (rest : List Lexeme) × (message_at n ls ≡ Some (body, rest))
    × (made : DynamicMessage) × Makes d (Fills body.1) made
    × (IsAny m.descriptor → ⊥) × (kind ≡ kinds.InvalidTypeForAny name)

-- the pool has no type of the name, or there stands no message of it, or one in no Any
abbrev pub ExpansionFault : ℕ → MessageFaults → Text → (name : Span) → DynamicMessage → Fault
ExpansionFault n inner type name m ls kind =
    (FindsMessage m.descriptor.pool.now type None
    × TellsMessage type kind × (place_of kind ≡ Some name))
    ⊎ ((d : MessageDescriptor) × (d.pool.now ≡ m.descriptor.pool.now)
    × FindsMessage m.descriptor.pool.now type (Some d)
    × (inner d ls kind ⊎ AnyFault n d name m ls kind))

-- the type has no extension of the name, or one that holds floating-point numbers, which is told by
-- its name in brackets
abbrev pub ExtensionFault : MessageDescriptor → Text → ParseErrorKind → Type 0
ExtensionFault d w kind =
    (LacksExtension d w × TellsExtension d w kind)
    ⊎ ((x : ExtensionDescriptor) × FindsExtension d w x
    × HoldsFloats (extension_pool x) (extension_type x)
    × TellsFloatField d (extension_at x.pool.now x.index).json_name kind)

-- the message's type has nothing of the name, or what is given is at fault
abbrev pub NamedFault : ℕ → MessageFaults → FieldName → (name : Span) → DynamicMessage → Fault
NamedFault n inner (plain w) name m ls kind =
    (RefusesField m.descriptor w kind × (place_of kind ≡ Some name))
    ⊎ ((t : Target) × NamesField m.descriptor w t × AssignmentFault n inner t m ls kind)
NamedFault n inner (extension e) name m ls kind =
    (ExtensionFault m.descriptor (written e) kind × (place_of kind ≡ Some name))
    ⊎ ((t : Target) × NamesExtension m.descriptor (written e) t
    × AssignmentFault n inner t m ls kind)
NamedFault n inner (expansion domain e) name m ls kind =
    ExpansionFault n inner (written e) name m ls kind

-- no name stands there, or no colon where one has to be, or what stands under the name is at fault
abbrev pub FieldFault : ℕ → MessageFaults → DynamicMessage → Fault
FieldFault n inner m ls kind =
    TellsStop (name_at ls) kind
    ⊎ ((name : FieldName × Span) × (named : List Lexeme) × (name_at ls ≡ Ok (name, named))
    × (TellsStop (separator_at named) kind
    ⊎ ((parted : List Lexeme) × (separator_at named ≡ Ok (tt, parted))
    × NamedFault n inner name.0 name.1 m parted kind)))

-- the message takes the fields up to one, which is at fault or begins with no name
abbrev pub BodyFault : ℕ → MessageFaults → Brace → DynamicMessage → Fault
BodyFault n inner brace m ls kind =
    (done : Fields) × (rest : List Lexeme) × (reached : DynamicMessage)
    × BeginWith (at_sign (closing brace)) (message_at n) ls done rest × Fills done m reached
    × (sign_bytes (closing brace) rest ≡ None)
    × (((begins_name rest ≡ false) × IsUnexpected (closing_words brace) rest kind)
    ⊎ ((begins_name rest ≡ true) × FieldFault n inner reached rest kind))

-- no brace opens there a message
abbrev pub BraceFault : Fault
BraceFault ls kind = (opening_brace ls ≡ None) × IsUnexpected (codes "'{' or '<'") ls kind

-- of a message in braces, of which so many may be open at once
unfoldable pub MessageFault : ℕ → MessageFaults
MessageFault zero d ls kind =
    BraceFault ls kind
    ⊎ ((opening : Span × Brace) × (opening_brace ls ≡ Some opening)
    × (kind ≡ kinds.NestingTooDeep opening.0))
MessageFault (suc n) d ls kind =
    BraceFault ls kind
    ⊎ ((opening : Span × Brace) × (opening_brace ls ≡ Some opening)
    × CannotMake d (λ m. BodyFault n (MessageFault n) opening.1 m (behind ls) kind))

-- of a whole text, of which at most 100 braces may be open at once: the message takes the fields up
-- to one, which is at fault
abbrev pub TextFault : DynamicMessage → Fault
TextFault m ls kind =
    (done : Fields) × (rest : List Lexeme) × (reached : DynamicMessage)
    × BeginWith at_end (message_at 100) ls done rest × Fills done m reached
    × (at_end rest ≡ None) × FieldFault 100 (MessageFault 100) reached rest kind
