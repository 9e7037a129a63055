-- Names that a text can spell.
use Rattle.std.specs.Prelude.{◌≡◌, ℕ, ℤ, ◌&&◌, cond, Bool, true, false, [], ◌∷◌, Option, Some}
use Rattle.std.specs.List.{list_all}
use Rattle.protox_lex.specs.Class.{Text, is_in}
use Rattle.protox_lex.specs.declared.class.Class.TheVariants as class
use Rattle.protobuf_model.specs.Types.{Name, Field}
use Rattle.text_model.specs.Tree.{FullName}
use Rattle.text_model.specs.Schemas.{Names, Schema}
use Rattle.text_model.specs.Printed.{parts}

-- a letter or `_`, and letters, digits and `_`
abbrev pub is_identifier : Text → Bool
is_identifier [] = false
is_identifier (b ∷ bs) = is_in class.Letter b && list_all (is_in class.Word) bs

abbrev pub is_full_name : FullName → Bool
is_full_name n = is_identifier n.first && list_all is_identifier n.others

-- the names of fields and of enums' values are identifiers, and those of extensions full names
pub record AreIdentifiers (type : ℕ → Option Field) (names : Names) : Type 0 where
  pub fields : (n : ℕ) (f : Field) → type n ≡ Some f
      → cond f.extension (is_full_name (parts (names.name n))) (is_identifier (names.name n)) ≡ true
  pub enums : (n : ℕ) (z : ℤ) (w : Text) → names.enum_name n z ≡ Some w → is_identifier w ≡ true

abbrev pub HaveIdentifiers : Schema → Type 0
HaveIdentifiers w = (t : Name) → AreIdentifiers (w.types t) (w.names t)
