-- Gaps between tokens by which comments are seen at work, and which comments each gives.
use Rattle.protox_lex.specs.Class.{Text}
use Rattle.protox_locate.specs.Gap.{Notes}
use Rattle.protox_locate.specs.declared.gap.Behind.{Behind}
use Rattle.protox_locate.specs.declared.gap.Behind.TheVariants.{Statement, Brace, End}
use Rattle.std.specs.Prelude.{Bool, true, false, List, [], ◌∷◌, Option, None, Some, codes}

-- what stands between two tokens, whether the first of them ends a statement or opens its braces,
-- what follows, and the comments
pub record Gap : Type 0 where
  pub text : Text
  pub may_trail : Bool
  pub behind : Behind
  pub notes : Notes

abbrev pub gap : Text → Bool → Behind → Option Text → List Text → Option Text → Gap
gap text may_trail behind trailing detached leading =
    record {
      text = text;
      may_trail = may_trail;
      behind = behind;
      notes = record { trailing = trailing; detached = detached; leading = leading };
    }

abbrev pub gaps : List Gap
gaps =
    -- one that begins on the statement's line is that statement's, with the lines that go on
    gap (codes " // a\n // b\n") true Statement (Some (codes " a\n b\n")) [] None
    -- so is one on the next line, where a blank line or the closing brace follows
    ∷ gap (codes "\n // a\n\n") true Statement (Some (codes " a\n")) [] None
    ∷ gap (codes "\n // a\n") true Brace (Some (codes " a\n")) [] None
    -- else it is that of what follows
    ∷ gap (codes "\n // a\n") true Statement None [] (Some (codes " a\n"))
    ∷ gap (codes "\n // a\n") true End None [] (Some (codes " a\n"))
    -- a blank line parts it from the statement in front, or from that behind
    ∷ gap (codes "\n\n // a\n") true Statement None [] (Some (codes " a\n"))
    ∷ gap (codes "\n\n // a\n\n") true Statement None (codes " a\n" ∷ []) None
    -- where no statement stands in front, all are those of what follows
    ∷ gap (codes " // a\n") false Statement None [] (Some (codes " a\n"))
    -- the first of several, those between, and the last
    ∷ gap (codes "/* a */\n// b\n\n/* c */") true Statement (Some (codes " a ")) (codes " b\n" ∷ [])
    (Some (codes " c "))
    -- each line of a block but its first begins behind white space and one star
    ∷ gap (codes "/*\n * a\n\t*b */") true Statement (Some (codes "\n a\nb ")) [] None
    ∷ []
