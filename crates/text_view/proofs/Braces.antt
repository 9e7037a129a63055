-- In fields that were read no more braces are open than might be.
use Rattle.std.proofs.Common.{◌≡◌, ◌≤◌, ◌<◌, ◌==◌, ℕ, Bool, true, false, cond, length, List, Option, Some, None, refl, ap, subst, arith}
use Rattle.std.proofs.Math.Nat.{max-le}
use Rattle.text_lex.specs.Token.{Lexeme}
use Rattle.text_model.specs.Tokens.{given_braces, open_braces}
use Rattle.text_model.specs.Tree.{Fields, no_fields, more_fields}
use Rattle.text_syntax.specs.Beginning.{BeginWith}
use Rattle.text_syntax.specs.Syntax.{OneField, field_at, fields_at, message_at}
use Rattle.text_syntax.proofs.Continuing.{FieldByField, all_read, begin_on, one}
use Rattle.text_syntax.proofs.Soundness.{AreFields, Has, fields_has, message_has}
use Rattle.text_syntax.proofs.Unfolding.{Shorter, field_shorter, fields_is, message_shorter}
use Rattle.text_view.proofs.Bodies.{max_left}
use Rattle.text_view.proofs.Puts.{is_number, number_is}

-- fields that end where no more lexemes are left than these
abbrev stop : List Lexeme → List Lexeme → Option (List Lexeme)
stop rest ls = cond (length ls == length rest) (Some ls) None

-- one field, read as all that there are up to what stands behind it
pub field_braces : (n : ℕ) (ls rest : List Lexeme) (f : OneField) → field_at (message_at n) ls ≡ Some (f, rest) → given_braces f.given ≤ n
field_braces n ls rest f there = told (subst (Has (AreFields (stop rest) n ls)) read (fields_has n (message_at n) (message_has n) (stop rest) ls)) where
  shorter : length rest < length ls
  shorter = subst (Shorter (length ls)) there (field_shorter (message_at n) (message_shorter n) ls)

  on : stop rest ls ≡ None
  on = by (length ls == length rest) refl where
    by : (b : Bool) → (length ls == length rest) ≡ b → cond b (Some ls) None ≡ None
    by false e = refl
    by true e = let same : length ls ≡ length rest = is_number (length ls) (length rest) e in absurd (omega (arith, same, shorter))

  over : stop rest rest ≡ Some rest
  over = ap (λ b. cond b (Some rest) None) (number_is (length rest) (length rest) refl)

  steps : FieldByField (stop rest) (message_at n)
  steps = fields_is (message_at n) (message_shorter n) (stop rest)

  read : fields_at (stop rest) (message_at n) ls ≡ Some (one f, rest)
  read = all_read (stop rest) (message_at n) steps (one f) ls rest rest (begin_on (stop rest) (message_at n) steps no_fields ls ls rest f refl on there) over

  told : AreFields (stop rest) n ls (one f) rest → given_braces f.given ≤ n
  told h = max_left (given_braces f.given) 0 n h.3

-- and those that stand in front
pub begun_braces : (n : ℕ) (ends : List Lexeme → Option (List Lexeme)) (done : Fields) (ls rest : List Lexeme) → BeginWith ends (message_at n) ls done rest → open_braces done ≤ n
begun_braces n ends no_fields ls rest h = omega arith
begun_braces n ends (more_fields name given s fs) ls rest (on, behind, there, more) =
    max-le (field_braces n ls behind (record { name = name; given = given; separator = s }) there) (begun_braces n ends fs behind rest more)
