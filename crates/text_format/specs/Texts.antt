-- What texts give messages (protobuf.dev, "Text Format Language Specification", Semantics).
use Rattle.std.specs.Prelude.{◌≡◌, List}
use Rattle.protox_lex.specs.Class.{Text}
use Rattle.text_lex.specs.Longest.{Lexes}
use Rattle.text_lex.specs.Token.{Lexeme}
use Rattle.text_error.specs.declared.error.ParseErrorKind.{ParseErrorKind}
use Rattle.text_model.specs.Texts.{IsText}
use Rattle.text_model.specs.Tree.{Fields}
use Rattle.reflect_pool.specs.declared.message.MessageDescriptor.{MessageDescriptor}
use Rattle.reflect_message.specs.Contents.{content_of, nothing}
use Rattle.reflect_message.specs.Names.{DynamicMessage}
use Rattle.reflect_format.specs.Filled as fields
use Rattle.reflect_format.specs.Reads as parser
use Rattle.reflect_format.specs.Told as parser_told
use Rattle.reflect_format.specs.Unfit as fields_unfit

-- the text spells fields, no more than 100 braces of which are open at once, and they fill the
-- message
abbrev pub Fills : Text → DynamicMessage → DynamicMessage → Type 0
Fills z old new = (fs : Fields) × IsText z fs × fields.Fills fs old new

-- or make one of the type, in which nothing was set
abbrev pub Makes : MessageDescriptor → Text → DynamicMessage → Type 0
Makes d z m = (fs : Fields) × IsText z fs × fields.Makes d (fields.Fills fs) m

-- of all fields that the text may spell there is one that the message does not take
abbrev pub IsUnfit : Text → DynamicMessage → Type 0
IsUnfit z m = (fs : Fields) → IsText z fs → fields_unfit.Unfit fs m

-- or that one of the type, in which nothing is set, does not
abbrev pub MakesNone : MessageDescriptor → Text → Type 0
MakesNone d z = (fs : Fields) → IsText z fs → fields_unfit.CannotMake d (fields_unfit.Unfit fs)

-- fields at the front of the text fill the message, and the one behind them is refused
abbrev pub Stops : Text → ParseErrorKind → DynamicMessage → DynamicMessage → Type 0
Stops z kind old new = (ls : List Lexeme) × Lexes 0 z ls × parser.Stops ls kind old new

-- the fault is the one at which the reading of the text into the message stops
abbrev pub IsFault : Text → DynamicMessage → ParseErrorKind → Type 0
IsFault z m kind = (ls : List Lexeme) × Lexes 0 z ls × parser_told.TextFault m ls kind

-- or into one of the type, in which nothing is set
abbrev pub IsFaultOf : MessageDescriptor → Text → ParseErrorKind → Type 0
IsFaultOf d z kind = (blank : DynamicMessage) × (blank.descriptor ≡ d)
    × (content_of blank ≡ nothing) × IsFault z blank kind
