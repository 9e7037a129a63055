-- The names of an enum's values, read at the front of lexemes.
use Rattle.std.proofs.Common.{◌≡◌, ℤ, List, [], ◌∷◌, false, Option, Some, None, Err, option_map, sym, ap, ◌∙◌}
use Rattle.std.proofs.lemmas.Slice.Eq.{bytes_eq-Decides}
use Rattle.std.specs.Str.{bytes_eq}
use Rattle.protox_lex.specs.Class.{Text}
use Rattle.protox_lex.specs.declared.span.Span.{Span}
use Rattle.protobuf_model.specs.Types as scalars
use Rattle.protobuf_model.specs.Values.{Single, enumerated}
use Rattle.reflect_tables.specs.Finding.{IsFirst}
use Rattle.reflect_tables.specs.Types.{ValueType, enum_at}
use Rattle.reflect_pool.specs.Parts.{no_value, type_of_value}
use Rattle.reflect_pool.specs.declared.enums.EnumDescriptor.{EnumDescriptor}
use Rattle.reflect_scalar.proofs.First.{Tells, find_none, find_some}
use Rattle.text_error.specs.declared.error.ParseErrorKind.{ParseErrorKind}
use Rattle.text_error.specs.declared.error.ParseErrorKind.TheVariants as kinds
use Rattle.text_lex.specs.Token.{ident, int, float, str, sign, Lexeme, token_at, fault}
use Rattle.text_model.specs.Tree.{signed, identifier}
use Rattle.text_scalars.specs.Front.{behind, from_to, next, word_in}
use Rattle.text_scalars.specs.Scalars.{Found, ReadsValue, meaning, scalar_at, value_at}
use Rattle.reflect_format.specs.Enums.{number_named}

named : (w : Text) → Tells (λ (v : ValueType). v.name ≡ w) (λ v. bytes_eq v.name w)
named w = record {
  says = λ v e. (bytes_eq-Decides v.name w).0 e;
  passes = λ v e. (bytes_eq-Decides v.name w).1 e;
}

pub number_found : (e : EnumDescriptor) (w : Text) (k : _) → IsFirst (λ v. v.name ≡ w) (enum_at e.pool.now e.index).values (Some k)
    → number_named e w ≡ Some (type_of_value e.pool.now e.index k).number
number_found e w k h =
    ap (option_map (λ v. v.number))
    (find_some (λ (v : ValueType). v.name ≡ w) (λ v. bytes_eq v.name w) (named w) (enum_at e.pool.now e.index).values no_value k h)

pub number_missing : (e : EnumDescriptor) (w : Text) → IsFirst (λ v. v.name ≡ w) (enum_at e.pool.now e.index).values None
    → number_named e w ≡ None
number_missing e w h =
    ap (option_map (λ v. v.number))
    (find_none (λ (v : ValueType). v.name ≡ w) (λ v. bytes_eq v.name w) (named w) (enum_at e.pool.now e.index).values h)

word_or : Text → Option (Text × Span) → Text
word_or w (Some p) = p.0
word_or w None = w

span_or : Span → Option (Text × Span) → Span
span_or s (Some p) = p.1
span_or s None = s

abbrev found : Text → Span → List Lexeme → Option Found
found w s rest = Some (record { value = signed false (identifier w); span = s; rest = rest })

identifier_at : (w : Text) (s : Span) (ls : List Lexeme) → next word_in ls ≡ Some (w, s)
    → scalar_at ls ≡ found w s (behind ls)
unfolding word_or span_or
identifier_at w s [] h = absurd (cc h)
identifier_at w s (fault e ∷ ls) h = absurd (cc h)
identifier_at w s (token_at a b (ident v) ∷ ls) h =
    ap (λ x. found x (from_to a b) ls) (ap (word_or w) h) ∙ ap (λ x. found w x ls) (ap (span_or s) h)
identifier_at w s (token_at a b (int r d) ∷ ls) h = absurd (cc h)
identifier_at w s (token_at a b (float v) ∷ ls) h = absurd (cc h)
identifier_at w s (token_at a b (str v) ∷ ls) h = absurd (cc h)
identifier_at w s (token_at a b (sign v) ∷ ls) h = absurd (cc h)

abbrev read_as : Span → List Lexeme → Option ℤ → Option (Single × Span × List Lexeme)
read_as s rest o = option_map (λ v. (v, s, rest)) (option_map enumerated o)

-- the name of a value is read
pub name_read : (e : EnumDescriptor) (w : Text) (s : Span) (k : _) (ls rest : List Lexeme)
    → next word_in ls ≡ Some (w, s) → rest ≡ behind ls
    → IsFirst (λ v. v.name ≡ w) (enum_at e.pool.now e.index).values (Some k)
    → value_at (number_named e) scalars.enumeration ls ≡ Some (enumerated (type_of_value e.pool.now e.index k).number, s, rest)
name_read e w s k ls rest word after first =
    ap (meaning (number_named e) scalars.enumeration) (identifier_at w s ls word)
    ∙ ap (read_as s (behind ls)) (number_found e w k first)
    ∙ ap (λ r. let it : Option (Single × Span × List Lexeme) = Some (enumerated (type_of_value e.pool.now e.index k).number, s, r) in it) (sym after)

-- no value has the name
pub name_unread : (e : EnumDescriptor) (w : Text) (s : Span) (ls rest : List Lexeme) (kind : ParseErrorKind)
    → next word_in ls ≡ Some (w, s)
    → IsFirst (λ v. v.name ≡ w) (enum_at e.pool.now e.index).values None
    → ReadsValue enumerated (value_at (number_named e) scalars.enumeration ls) (Err kind) rest
name_unread e w s ls rest kinds.Memory word first = tt
name_unread e w s ls rest _ word first =
    ap (meaning (number_named e) scalars.enumeration) (identifier_at w s ls word)
    ∙ ap (read_as s (behind ls)) (number_missing e w first)
