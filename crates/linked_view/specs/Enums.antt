-- What an enum's numbers have to be.
use Rattle.std.specs.Prelude.{◌≤◌, ◌⊎◌, ℤ, sum_by, cond}
use Rattle.descriptor_records.specs.Content.{EnumContent}
use Rattle.schema_view.specs.Rules.{is_number, AllowsAliases}

-- no two values have one number, but where the enum allows it
abbrev pub IsNumbered : EnumContent → Type 0
IsNumbered e = AllowsAliases e.options
    ⊎ ((n : ℤ) → sum_by (λ v. cond (is_number n v.number) 1 0) e.value ≤ 1)
