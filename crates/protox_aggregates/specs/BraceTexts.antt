-- The text that is kept of a value in braces.
use Rattle.std.specs.Prelude.{◌≡◌, ◌-◌, ◌++◌, List, [], ◌∷◌, length, take, Ok, Err}
use Rattle.std.specs.List.{flat_map, fold}
use Rattle.protox_lex.specs.Class.{Text}
use Rattle.protox_lex.specs.Printed.{token_text}
use Rattle.protox_lex.specs.Token.{Token, token_at, fault_at}
use Rattle.protox_tokens.specs.Parser.{Outcome, Parser}
use Rattle.protox_tokens.specs.Stream.{Piece, piece, last, Stream}

abbrev pub token_in : Piece → List Token
token_in (piece h (token_at a b t)) = t ∷ []
token_in (piece h (fault_at k a b)) = []
token_in (last s) = []

-- A token behind a text: where there is text, a space stands between the two.
abbrev pub with_token : Text → Token → Text
with_token [] t = token_text t
with_token (b ∷ bs) t = (b ∷ bs) ++ (32 ∷ token_text t)

-- A text with these tokens behind it, one after another.
abbrev pub with_tokens : Text → Stream → Text
with_tokens before ts = fold with_token before (flat_map token_in ts)

-- The text of tokens: each as it is printed, with one space between each two.
abbrev pub text_of : Stream → Text
text_of ts = with_tokens [] ts

abbrev pub text_up_to : Stream → Outcome (Unit {0}) → Outcome Text
text_up_to ts (Ok x) = Ok (text_of (take (length ts - length x.1) ts), x.1)
text_up_to ts (Err f) = Err f

-- The text of the tokens that a rule takes.
abbrev pub text_by : Parser (Unit {0}) → Parser Text
text_by p = λ ts. text_up_to ts (p ts)

-- From the one place of a source to the other its tokens were put behind the text.
pub record WritesTokens (old : Stream) (before : Text) (new : Stream) (after : Text) : Type 0 where
  pub tokens : Stream
  pub passed : old ≡ tokens ++ new
  pub written : after ≡ with_tokens before tokens
