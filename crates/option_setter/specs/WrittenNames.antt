-- The name of an option as it is written, which refusals tell.
use Rattle.std.specs.Prelude.{◌≡◌, ◌++◌, [], ◌∷◌, cond, fold, codes, Option, None, Some, IfSome, string_bytes}
use Rattle.descriptor_records.specs.Content.{NameContent, OptionContent}
use Rattle.option_parts.specs.declared.option_error.OptionErrorKind.{OptionErrorKind}
use Rattle.option_parts.specs.declared.option_error.OptionErrorKind.TheVariants as kinds
use Rattle.protox_lex.specs.Class.{Text}

-- a part of it; extensions stand in parentheses
abbrev pub written_part : NameContent → Text
written_part p = cond p.is_extension (codes "(" ++ (p.name_part ++ codes ")")) p.name_part

-- a part behind those in front of it: behind a dot, if anything stands there
abbrev pub behind_dot : Text → NameContent → Text
behind_dot [] p = written_part p
behind_dot (c ∷ cs) p = (c ∷ cs) ++ (codes "." ++ written_part p)

abbrev pub written_name : OptionContent → Text
written_name o = fold behind_dot [] o.name

-- the name of an option that a fault tells
abbrev pub name_told : OptionErrorKind → Option Text
name_told (kinds.OptionNotFound name) = Some (string_bytes name)
name_told (kinds.InvalidOptionType name) = Some (string_bytes name)
name_told (kinds.InvalidOptionExtendee name) = Some (string_bytes name)
name_told (kinds.InvalidMessageOption name e) = Some (string_bytes name)
name_told (kinds.DuplicateOption name) = Some (string_bytes name)
name_told (kinds.FloatOption name) = Some (string_bytes name)
name_told (kinds.ForbiddenOption name) = Some (string_bytes name)
name_told _ = None

-- if it tells one, then that of this option
abbrev pub TellsOption : OptionContent → OptionErrorKind → Type 0
TellsOption o e = IfSome (name_told e) (λ name. name ≡ written_name o)
