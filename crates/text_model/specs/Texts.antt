-- Texts and the messages that they give.
use Rattle.std.specs.Prelude.{◌≡◌, ◌≤◌, List, [], ◌∷◌, Some}
use Rattle.protox_lex.specs.Class.{Text}
use Rattle.text_lex.specs.Token.{Token, Lexeme, token_at, fault}
use Rattle.text_lex.specs.Longest.{Lexes}
use Rattle.protobuf_model.specs.Values.{Message, nothing}
use Rattle.protobuf_model.specs.Types.{Name}
use Rattle.text_model.specs.Tree.{Fields}
use Rattle.text_model.specs.Tokens.{fields_tokens, open_braces}
use Rattle.text_model.specs.Schemas.{Schema, shape_of}
use Rattle.text_model.specs.Value.{value}

-- these tokens, wherever they stand, and no fault
abbrev pub AreTokens : List Lexeme → List Token → Type 0
AreTokens [] ts = ts ≡ []
AreTokens (token_at start end t ∷ ls) [] = ⊥
AreTokens (token_at start end t ∷ ls) (u ∷ us) = (t ≡ u) × AreTokens ls us
AreTokens (fault e ∷ ls) ts = ⊥

-- the longest match cuts the text into the tokens of the tree
pub record Spells (z : Text) (tree : Fields) : Type 0 where
  pub lexemes : List Lexeme
  pub cut : Lexes 0 z lexemes
  pub tokens : AreTokens lexemes (fields_tokens tree)

-- of at most 100 braces open at once
pub record IsText (z : Text) (tree : Fields) : Type 0 where
  pub spelled : Spells z tree
  pub shallow : open_braces tree ≤ 100

-- the text is one whose fields, behind the start, give the message
abbrev pub IsMerged : Schema → Name → Message → Text → Message → Type 0
IsMerged w t start z m =
    (tree : Fields) × IsText z tree × (value w (shape_of w t) tree start ≡ Some m)

abbrev pub Gives : Schema → Name → Text → Message → Type 0
Gives w t z m = IsMerged w t nothing z m
