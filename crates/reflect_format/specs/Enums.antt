-- The numbers that the names of an enum's values stand for.
use Rattle.std.specs.Prelude.{ℤ, Option, option_map}
use Rattle.std.specs.List.{find}
use Rattle.std.specs.Str.{bytes_eq}
use Rattle.protox_lex.specs.Class.{Text}
use Rattle.reflect_tables.specs.Types.{enum_at}
use Rattle.reflect_pool.specs.declared.enums.EnumDescriptor.{EnumDescriptor}

-- the number of the first value of the name
abbrev pub number_named : EnumDescriptor → Text → Option ℤ
number_named e w =
    option_map (λ v. v.number)
    (find (λ v. bytes_eq v.name w) (enum_at e.pool.now e.index).values)
