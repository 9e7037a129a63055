-- Why what is left of a source is not read on.
use Rattle.protox_lex.specs.Shown.{token_of}
use Rattle.protox_lex.specs.TextFormat.{format_fault}
use Rattle.protox_lex.specs.Token.{Token, Lexeme, token_at, fault_at}
use Rattle.protox_lex.specs.declared.error.LexError.{LexError}
use Rattle.protox_lex.specs.declared.error.LexErrorKind.{LexErrorKind}
use Rattle.protox_lex.specs.declared.span.Span.{Span}
use Rattle.protox_tokens.specs.Stream.{piece, last, Stream, Mode, source, text}
use Rattle.protox_tree.specs.declared.error.ExpectedToken.{ExpectedToken}
use Rattle.std.specs.Prelude.{[], ◌∷◌, Option, Some, None}
use Rattle.protox_lex.specs.declared.error.LexErrorKind.TheVariants as kinds
use Rattle.protox_tree.specs.declared.error.ExpectedToken.TheVariants as expects
use Rattle.protox_tokens.specs.declared.fault.Fault as faults
use Rattle.protox_tokens.specs.declared.fault.Fault.TheVariants as fault

pub data Expected : Type 0 where
  this : Token → Expected
  an_ident : Expected
  an_int : Expected
  a_string : Expected
  a_type_name : Expected
  an_option_value : Expected
  a_file_item : Expected
  a_service_item : Expected
  a_number : Expected
  a_field_name : Expected
  a_field_value : Expected
  a_message_value : Expected

abbrev pub expected_view : ExpectedToken → Expected
expected_view (expects.Token t) = this (token_of t)
expected_view expects.Ident = an_ident
expected_view expects.Int = an_int
expected_view expects.String = a_string
expected_view expects.TypeName = a_type_name
expected_view expects.OptionValue = an_option_value
expected_view expects.FileItem = a_file_item
expected_view expects.ServiceItem = a_service_item
expected_view expects.Number = a_number
expected_view expects.FieldName = a_field_name
expected_view expects.FieldValue = a_field_value
expected_view expects.MessageValue = a_message_value

pub data Fault : Type 0 where
  unexpected : Expected → Token → Span → Fault
  eof : Expected → Fault
  lexical : LexError → Fault
  unknown_syntax : Span → Fault
  too_deep : Span → Fault

abbrev pub fault_view : faults.Fault → Fault
fault_view (fault.Unexpected expected found span) =
    unexpected (expected_view expected) (token_of found) span
fault_view (fault.Eof expected) = eof (expected_view expected)
fault_view (fault.Lexical e) = lexical e
fault_view (fault.UnknownSyntax span) = unknown_syntax span
fault_view (fault.TooDeep span) = too_deep span

abbrev pub lex_fault : LexErrorKind → Span → Fault
lex_fault k s = lexical (record { kind = k; span = s })

abbrev pub hash_fault : Span → Fault
hash_fault s = lex_fault kinds.HashCommentOutsideTextFormat s

abbrev pub misplaced : Expected → Option LexErrorKind → Token → Span → Fault
misplaced e None t s = unexpected e t s
misplaced e (Some k) t s = lex_fault k s

abbrev pub refusal_of : Mode → Expected → Option Span → Lexeme → Fault
refusal_of source e (Some c) l = hash_fault c
refusal_of source e None (token_at a b t) =
    misplaced e (format_fault t) t (record { start = a; end = b })
refusal_of source e None (fault_at k a b) = lex_fault k (record { start = a; end = b })
refusal_of text e h (token_at a b t) = unexpected e t (record { start = a; end = b })
refusal_of text e h (fault_at k a b) = lex_fault k (record { start = a; end = b })

abbrev pub refusal : Mode → Expected → Stream → Fault
refusal m e [] = eof e
refusal source e (last c ∷ ts) = hash_fault c
refusal text e (last c ∷ ts) = eof e
refusal m e (piece h l ∷ ts) = refusal_of m e h l
