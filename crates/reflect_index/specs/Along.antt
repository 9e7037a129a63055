-- Declarations along a walk, each with what is at hand where the walk meets it.
use Rattle.std.specs.Prelude.{ℕ, List, [], ◌∷◌, Bool, true, false, ◌&&◌, ◌==◌, Option, None, Some}
use Rattle.std.specs.List.{filter}
use Rattle.reflect_names.specs.declared.resolve_visitor.Reference.{Reference}
use Rattle.reflect_references.specs.Meanings.{rest_behind}
use Rattle.reflect_tables.specs.Views.{syntax_type}
use Rattle.reflect_tables.specs.declared.kind.Syntax.{Syntax}
use Rattle.reflect_tables.specs.declared.kind.Syntax.TheVariants.{Proto2}
use Rattle.reflect_declarations.specs.Declarations.{Declaration, Body, of_file, of_message, of_field, of_oneof, of_enum, of_enum_value, of_service, of_method, of_extension}

-- the syntax of the file, and what the references mean that the walk has not come to
pub record AtHand : Type 0 where
  pub syntax : Syntax
  pub rest : List Reference

pub record Met : Type 0 where
  pub hand : AtHand
  pub declaration : Declaration

-- the references of the files mean this; each file says its syntax
abbrev pub before_files : List Reference → AtHand
before_files rs = record { syntax = Proto2; rest = rs }

abbrev pub syntax_behind : Declaration → Syntax → Syntax
syntax_behind d s = elim d.body [ of_file f ↦ syntax_type f.syntax | _ ↦ s ]

abbrev pub hand_behind : AtHand → Declaration → AtHand
hand_behind h d = record { syntax = syntax_behind d h.syntax; rest = rest_behind d h.rest }

abbrev pub met : AtHand → Declaration → Met
met h d = record { hand = h; declaration = d }

abbrev pub along : AtHand → List Declaration → List Met
along h [] = []
along h (d ∷ ds) = met h d ∷ along (hand_behind h d) ds

abbrev pub is_message : Body → Bool
is_message (of_message m) = true
is_message _ = false

abbrev pub is_field : Body → Bool
is_field (of_field f) = true
is_field _ = false

abbrev pub is_oneof : Body → Bool
is_oneof (of_oneof o) = true
is_oneof _ = false

abbrev pub is_enum : Body → Bool
is_enum (of_enum e) = true
is_enum _ = false

abbrev pub is_value : Body → Bool
is_value (of_enum_value v) = true
is_value _ = false

abbrev pub is_service : Body → Bool
is_service (of_service s) = true
is_service _ = false

abbrev pub is_method : Body → Bool
is_method (of_method m) = true
is_method _ = false

abbrev pub is_extension : Body → Bool
is_extension (of_extension x) = true
is_extension _ = false

-- what has the index declares it
abbrev pub is_parent : ℕ → Option ℕ → Bool
is_parent i None = false
is_parent i (Some j) = j == i

abbrev pub is_part : (Body → Bool) → ℕ → Met → Bool
is_part sort i m = sort m.declaration.body && is_parent i m.declaration.parent

-- the declarations of a sort in what has the index
abbrev pub parts : (Body → Bool) → ℕ → List Met → List Met
parts sort i ms = filter (is_part sort i) ms

-- all declarations of a sort
abbrev pub all_of : (Body → Bool) → List Met → List Met
all_of sort ms = filter (λ m. sort m.declaration.body) ms
