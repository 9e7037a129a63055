-- What the code shows of tokens.
use Rattle.text_lex.specs.declared.token.Token as code
use Rattle.text_lex.specs.declared.token.Token.TheVariants as codes
use Rattle.text_lex.specs.Token.{Token, ident, int, float, str, sign}

abbrev pub token_of : code.Token → Token
token_of (codes.Ident s) = ident s.now
token_of (codes.IntLiteral i) = int i.radix i.digits.now
token_of (codes.FloatLiteral s) = float s.now
token_of (codes.StringLiteral s) = str s.now
token_of codes.Dot = sign 46
token_of codes.Minus = sign 45
token_of codes.LeftBrace = sign 123
token_of codes.RightBrace = sign 125
token_of codes.LeftBracket = sign 91
token_of codes.RightBracket = sign 93
token_of codes.LeftAngleBracket = sign 60
token_of codes.RightAngleBracket = sign 62
token_of codes.Comma = sign 44
token_of codes.Colon = sign 58
token_of codes.Semicolon = sign 59
token_of codes.ForwardSlash = sign 47
