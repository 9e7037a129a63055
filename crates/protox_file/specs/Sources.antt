-- The tree that a text spells, and why it spells none.
use Rattle.protox_file.specs.FileGrammar.{file}
use Rattle.protox_lex.specs.Class.{Text}
use Rattle.protox_lex.specs.Token.{Token}
use Rattle.protox_lex.specs.declared.span.Span.{Span}
use Rattle.protox_tokens.specs.Refusal.{Expected, Fault, fault_view}
use Rattle.protox_tokens.specs.Stream.{Piece, Stream, IsRead, look, source, text}
use Rattle.protox_tokens.specs.declared.fault.Stop.{Stop}
use Rattle.protox_tokens.specs.declared.fault.Stop.TheVariants.{Memory, Refused}
use Rattle.protox_tree.specs.FileTree.{File}
use Rattle.protox_tree.specs.FileView.{file_view}
use Rattle.protox_tree.specs.declared.file.File as code
use Rattle.std.specs.Prelude.{◌≡◌, ◌⊎◌, ◌++◌, ◌∷◌, [], Some, Result, Ok, Err}

-- The tokens of the text, by the longest match and with nothing left, are read as this tree.
abbrev pub Spells : Text → File → Type 0
Spells z tree = (ts : Stream) × IsRead z ts × (file ts ≡ Ok (tree, []))

-- The tokens of the text are refused with this fault.
abbrev pub RefusedBy : Text → Fault → Type 0
RefusedBy z fault = (ts : Stream) × IsRead z ts × (file ts ≡ Err fault)

-- The tree of the text, or its fault, unless memory ran out.
abbrev pub IsTree : Text → Result code.File Stop → Type 0
IsTree z (Ok tree) = Spells z (file_view tree)
IsTree z (Err Memory) = Unit {0}
IsTree z (Err (Refused fault)) = RefusedBy z (fault_view fault)

-- These tokens begin no file, whatever stands behind them.
abbrev pub BeginNoFile : Stream → Type 0
BeginNoFile front = (rest : Stream) (tree : File) → file (front ++ rest) ≡ Ok (tree, []) → ⊥

-- The token at this place is the last of these.
abbrev pub EndsWith : Stream → Token → Span → Type 0
EndsWith front t at =
    (before : Stream) × (p : Piece) × (front ≡ before ++ p ∷ [])
    × ((look source p ≡ Some (t, at)) ⊎ (look text p ≡ Some (t, at)))

-- What is wrong with tokens that are refused for one that is not expected: no file begins with them
-- up to that one.
abbrev pub IsDead : Stream → Expected → Token → Span → Type 0
IsDead ts expected found at =
    (front : Stream) × (rest : Stream) × (ts ≡ front ++ rest) × EndsWith front found at
    × BeginNoFile front
