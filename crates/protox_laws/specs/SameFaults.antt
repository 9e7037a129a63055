-- When two faults of a source are one, and two refusals tell the same.
use Rattle.protox_parse.specs.declared.error.Refusal.{Refusal}
use Rattle.protox_tokens.specs.Refusal.{expected_view}
use Rattle.protox_tree.specs.FaultTexts.{help_of, label_of, said}
use Rattle.protox_tree.specs.Spans.{span_of}
use Rattle.protox_tree.specs.declared.error.ParseErrorKind.{ParseErrorKind}
use Rattle.protox_tree.specs.declared.error.ParseErrorKind.TheVariants as kinds
use Rattle.std.specs.List.{AllZip}
use Rattle.std.specs.Prelude.{◌≡◌, string_bytes}

-- These faults are the same. Of a token that is not expected, what is expected, the bytes of what
-- is found and its place are; of the end, what is expected is; all others are equal.
abbrev pub IsSameFault : ParseErrorKind → ParseErrorKind → Type 0
IsSameFault (kinds.UnexpectedToken x found at) (kinds.UnexpectedToken y other place) =
    (expected_view x ≡ expected_view y) × (string_bytes found ≡ string_bytes other) × (at ≡ place)
IsSameFault (kinds.UnexpectedEof x) (kinds.UnexpectedEof y) = expected_view x ≡ expected_view y
IsSameFault a b = a ≡ b

-- They read the same: what is said of them, their bytes, their labels and their help.
pub record ReadSame (a b : ParseErrorKind) : Type 0 where
  pub texts : said a ≡ said b
  pub spans : span_of a ≡ span_of b
  pub labels : label_of a ≡ label_of b
  pub helps : help_of a ≡ help_of b

-- These refusals tell the same: the file, the place of the first fault, and all faults in order.
pub record TellSame (r s : Refusal) : Type 0 where
  pub files : string_bytes r.file ≡ string_bytes s.file
  pub positions : r.position ≡ s.position
  pub faults : AllZip IsSameFault r.faults.items s.faults.items
