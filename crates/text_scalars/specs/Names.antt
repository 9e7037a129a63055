-- What names a field at the front of lexemes (protobuf.dev, "Text Format Language Specification",
-- Field Names).
use Rattle.std.specs.Prelude.{cond, ◌||◌, List, [], ◌∷◌, Option, None, Some, Ok, Err, codes, string_bytes}
use Rattle.protox_lex.specs.Class.{Text}
use Rattle.protox_lex.specs.declared.span.Span.{Span}
use Rattle.text_lex.specs.Token.{ident, Lexeme, token_at}
use Rattle.text_model.specs.Tree.{FullName, FieldName, plain, extension, expansion}
use Rattle.text_model.specs.Value.{written}
use Rattle.text_scalars.specs.Front.{behind, from_to, is_sign, next, sees, sign_bytes, word_in}
use Rattle.text_scalars.specs.Reading.{Reading, and_then, seen_as}
use Rattle.text_scalars.specs.declared.names.Name.{Name}
use Rattle.text_scalars.specs.declared.names.Name.TheVariants as names

abbrev pub identifiers : Text → List Text → FullName
identifiers w ws = record { first = w; others = ws }

abbrev mutual
  -- identifiers with dots between them
  pub full_name_at : List Lexeme → Reading FullName
  full_name_at (token_at start end (ident w) ∷ ls) = seen_as (identifiers w) (dotted_at ls)
  full_name_at ls = Err (codes "an identifier", ls)

  -- those behind the first, each behind a dot
  pub dotted_at : List Lexeme → Reading (List Text)
  dotted_at (token_at start end t ∷ ls) =
      cond (is_sign 46 t) (seen_as (λ n. n.first ∷ n.others) (full_name_at ls))
      (Ok ([], token_at start end t ∷ ls))
  dotted_at ls = Ok ([], ls)

-- what closes an expansion, behind its two names
abbrev pub expansion_at : Span → FullName → FullName → List Lexeme → Reading (FieldName × Span)
expansion_at opened domain n ls =
    elim (sign_bytes 93 ls) [
      | Some close ↦ Ok ((expansion domain n, from_to opened.start close.end), behind ls)
      | None ↦ Err (codes "'.' or ']'", ls)
    ]

-- behind the first name in brackets: what closes them, or a slash and a second name
abbrev pub bracketed_by : Span → FullName → List Lexeme → (close slash : Option Span)
    → Reading (FieldName × Span)
bracketed_by opened n ls (Some close) slash =
    Ok ((extension n, from_to opened.start close.end), behind ls)
bracketed_by opened n ls None (Some slash) =
    and_then (full_name_at (behind ls)) (expansion_at opened n)
bracketed_by opened n ls None None = Err (codes "'.', ']' or '/'", ls)

abbrev pub bracketed_at : Span → FullName → List Lexeme → Reading (FieldName × Span)
bracketed_at opened n ls = bracketed_by opened n ls (sign_bytes 93 ls) (sign_bytes 47 ls)

-- a name, and its bytes with its brackets
abbrev pub name_at : List Lexeme → Reading (FieldName × Span)
name_at ls =
    elim (next word_in ls) [
      | Some p ↦ Ok ((plain p.0, p.1), behind ls)
      | None ↦ elim (sign_bytes 91 ls) [
        | Some opened ↦ and_then (full_name_at (behind ls)) (bracketed_at opened)
        | None ↦ Err (codes "a field name", ls)
      ]
    ]

-- a colon, which a brace may stand without
abbrev pub separator_at : List Lexeme → Reading (Unit {0})
separator_at ls =
    cond (sees 123 ls || sees 60 ls) (Ok (tt, ls))
    (elim (sign_bytes 58 ls) [
      | Some s ↦ Ok (tt, behind ls)
      | None ↦ Err (codes "':' or a message value", ls)
    ])

-- ---- as texts

-- a field's name, an extension's full name, or an expansion's domain and type
pub data Written : Type 0 where
  of_field : Text → Written
  of_extension : Text → Written
  of_any : Text → Text → Written

abbrev pub text_of : FieldName → Written
text_of (plain w) = of_field w
text_of (extension n) = of_extension (written n)
text_of (expansion domain n) = of_any (written domain) (written n)

abbrev pub name_view : Name → Written
name_view (names.Field s) = of_field s.now
name_view (names.Extension s) = of_extension (string_bytes s)
name_view (names.Any a) = of_any (string_bytes a.domain) (string_bytes a.message)

-- with the bytes
abbrev pub text_and_bytes : FieldName × Span → Written × Span
text_and_bytes p = (text_of p.0, p.1)

abbrev pub view_and_bytes : Name × Span → Written × Span
view_and_bytes p = (name_view p.0, p.1)
