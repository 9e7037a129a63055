-- The tokens that are put behind others may stand in a text.
use Rattle.std.proofs.Common.{◌≡◌, [], ◌∷◌, length, refl, subst}
use Rattle.std.specs.Prelude.{codes}
use Rattle.protox_lex.specs.Class.{Text}
use Rattle.protox_lex.specs.Lex.{past_exponent, past_fraction, octal, number, contents_from, quoted, front, lexemes_from, lexemes}
use Rattle.protox_lex.specs.Longest.{Lexes}
use Rattle.protox_lex.specs.Token.{Token, ident, int, str, sign, token_at}
use Rattle.protox_lex.specs.declared.token.Sign.{Sign}
use Rattle.protox_lex.specs.declared.token.Sign.TheVariants as signs
use Rattle.protox_lex.proofs.Lexing.{all_longest}
use Rattle.source_grammar.specs.Refusals.{IsWritten}

written : (z : Text) (t : Token) → lexemes z ≡ token_at 0 (length z) t ∷ [] → IsWritten t
written z t e = (z, subst (Lexes 0 z) e (all_longest z))

pub sign_written : (k : Sign) → IsWritten (sign k)
unfolding past_exponent past_fraction octal number contents_from quoted front lexemes_from
sign_written signs.Dot = written (codes ".") (sign signs.Dot) refl
sign_written signs.Minus = written (codes "-") (sign signs.Minus) refl
sign_written signs.LeftParen = written (codes "(") (sign signs.LeftParen) refl
sign_written signs.RightParen = written (codes ")") (sign signs.RightParen) refl
sign_written signs.LeftBrace = written (codes "{") (sign signs.LeftBrace) refl
sign_written signs.RightBrace = written (codes "}") (sign signs.RightBrace) refl
sign_written signs.LeftBracket = written (codes "[") (sign signs.LeftBracket) refl
sign_written signs.RightBracket = written (codes "]") (sign signs.RightBracket) refl
sign_written signs.LeftAngleBracket = written (codes "<") (sign signs.LeftAngleBracket) refl
sign_written signs.RightAngleBracket = written (codes ">") (sign signs.RightAngleBracket) refl
sign_written signs.Comma = written (codes ",") (sign signs.Comma) refl
sign_written signs.Equals = written (codes "=") (sign signs.Equals) refl
sign_written signs.Colon = written (codes ":") (sign signs.Colon) refl
sign_written signs.Semicolon = written (codes ";") (sign signs.Semicolon) refl
sign_written signs.ForwardSlash = written (codes "/") (sign signs.ForwardSlash) refl

pub int_written : IsWritten (int 1)
unfolding past_exponent past_fraction octal number contents_from quoted front lexemes_from
int_written = written (codes "1") (int 1) refl

pub string_written : IsWritten (str (codes "proto2"))
unfolding past_exponent past_fraction octal number contents_from quoted front lexemes_from
string_written = written (codes "'proto2'") (str (codes "proto2")) refl

pub a_written : IsWritten (ident (codes "a"))
unfolding front lexemes_from
a_written = written (codes "a") (ident (codes "a")) refl

pub enum_written : IsWritten (ident (codes "enum"))
unfolding front lexemes_from
enum_written = written (codes "enum") (ident (codes "enum")) refl

pub extend_written : IsWritten (ident (codes "extend"))
unfolding front lexemes_from
extend_written = written (codes "extend") (ident (codes "extend")) refl

pub extensions_written : IsWritten (ident (codes "extensions"))
unfolding front lexemes_from
extensions_written = written (codes "extensions") (ident (codes "extensions")) refl

pub import_written : IsWritten (ident (codes "import"))
unfolding front lexemes_from
import_written = written (codes "import") (ident (codes "import")) refl

pub map_written : IsWritten (ident (codes "map"))
unfolding front lexemes_from
map_written = written (codes "map") (ident (codes "map")) refl

pub message_written : IsWritten (ident (codes "message"))
unfolding front lexemes_from
message_written = written (codes "message") (ident (codes "message")) refl

pub oneof_written : IsWritten (ident (codes "oneof"))
unfolding front lexemes_from
oneof_written = written (codes "oneof") (ident (codes "oneof")) refl

pub option_written : IsWritten (ident (codes "option"))
unfolding front lexemes_from
option_written = written (codes "option") (ident (codes "option")) refl

pub package_written : IsWritten (ident (codes "package"))
unfolding front lexemes_from
package_written = written (codes "package") (ident (codes "package")) refl

pub reserved_written : IsWritten (ident (codes "reserved"))
unfolding front lexemes_from
reserved_written = written (codes "reserved") (ident (codes "reserved")) refl

pub returns_written : IsWritten (ident (codes "returns"))
unfolding front lexemes_from
returns_written = written (codes "returns") (ident (codes "returns")) refl

pub rpc_written : IsWritten (ident (codes "rpc"))
unfolding front lexemes_from
rpc_written = written (codes "rpc") (ident (codes "rpc")) refl

pub service_written : IsWritten (ident (codes "service"))
unfolding front lexemes_from
service_written = written (codes "service") (ident (codes "service")) refl
