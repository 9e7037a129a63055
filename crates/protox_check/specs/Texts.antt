-- The fault of a string that has to be text.
--
-- Source: "Scalar Value Types" of the language guides on protobuf.dev.
use Rattle.std.specs.Prelude.{not, List}
use Rattle.std.specs.Str.{is_utf8}
use Rattle.protox_check.specs.Words.{told_if}
use Rattle.protox_tree.specs.Tree.{Word, joined, words_span}
use Rattle.protox_tree.specs.declared.error.ParseErrorKind.{ParseErrorKind}
use Rattle.protox_tree.specs.declared.error.ParseErrorKind.TheVariants as kinds

-- what the literals of a text mean together is UTF-8
abbrev pub text_faults : List Word → List ParseErrorKind
text_faults ws = told_if (not (is_utf8 (joined ws))) (kinds.InvalidUtf8String (words_span ws))
