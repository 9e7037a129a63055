-- The language that a literal names.
use Rattle.protox_file.specs.FileGrammar.{language}
use Rattle.protox_tokens.specs.Refusal.{fault_view, unknown_syntax}
use Rattle.protox_tokens.specs.declared.fault.Stop.{Stop}
use Rattle.protox_tokens.specs.declared.fault.Stop.TheVariants.{Memory, Refused}
use Rattle.protox_tree.specs.Tree.{Word, joined, words_span}
use Rattle.protox_tree.specs.declared.types.Syntax.{Syntax}
use Rattle.std.specs.Prelude.{◌≡◌, List, Some, None, Result, Ok, Err}

-- The language, and where there is none of this name the fault that it is not known.
abbrev pub IsLanguage : List Word → Result Syntax Stop → Type 0
IsLanguage value (Ok syntax) = language (joined value) ≡ Some syntax
IsLanguage value (Err Memory) = Unit {0}
IsLanguage value (Err (Refused f)) = (language (joined value) ≡ None)
    × (fault_view f ≡ unknown_syntax (words_span value))
